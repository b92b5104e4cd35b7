-- Laws of lists of records, over any format. Assumes nothing.
--     Local                                          a record is what its own octets say
--     records_end, records_step, records_none        the records of octets, one record on
--     records_first                                  the same, told from the records
--     records_append, records_grow                   lists end to end, and one record longer
use mathlib.Core.Path.{◌≡◌, refl, sym, ◌∙◌, ap, ap₂, subst}
use mathlib.Core.Bool.{Bool, true, false, cond}
use mathlib.Core.Option.{Option, none, some}
use mathlib.Core.List.{List, [], ◌∷◌, ◌++◌}
use Prim.Native.Nat.{ℕ, zero, suc, ◌+◌, ◌≤◌, ◌<◌}
use native.Mathlib.Omega.{arith}
use lib.Dec.{leb}
use lib.ListN.{length, take, drop, length-append, length-drop}
use lib.Seq.{drop-drop, drop-append-le, take-append-le, take-take, take-add, take-length, length-take-le}
use borrow.Author.Tests.{le-leb, lt-leb, leb-true, leb-false}
use Rattle.headers.specs.Rows.{empty}
use Rattle.topics.specs.Lists.{Format, before, records_within, records, is_some, listed}

-- A record is what its own octets say: rows that agree in n octets, as long as the record or longer, have the same record there.
pub record Local {A : Type 0} (f : Format A) : Type 0 where
  pub positive : (xs : List ℕ) → 0 < f.size xs
  pub same_size : (n : ℕ) (xs ys : List ℕ) → f.size xs ≤ n → n ≤ length xs → take n xs ≡ take n ys → f.size ys ≡ f.size xs
  pub same_front : (n : ℕ) (xs ys : List ℕ) → f.size xs ≤ n → n ≤ length xs → take n xs ≡ take n ys → f.front ys ≡ f.front xs

-- records before others
abbrev pub prepend : {A : Type 0} → List A → Option (List A) → Option (List A)
prepend [] o = o
prepend (a ∷ rs) o = before a (prepend rs o)

pub prepend_some : {A : Type 0} (rs bs : List A) → prepend rs (some bs) ≡ some (rs ++ bs)
prepend_some [] bs = refl
prepend_some (a ∷ rs) bs = ap (before a) (prepend_some rs bs)

pub prepend_none : {A : Type 0} (rs : List A) → prepend rs none ≡ none
prepend_none [] = refl
prepend_none (a ∷ rs) = ap (before a) (prepend_none rs)

pub prepend_snoc : {A : Type 0} (rs : List A) (a : A) (o : Option (List A)) → prepend rs (before a o) ≡ prepend (rs ++ (a ∷ [])) o
prepend_snoc [] a o = refl
prepend_snoc (b ∷ rs) a o = ap (before b) (prepend_snoc rs a o)

module _ {A : Type 0} (f : Format A) (l : Local f) where
  within_enough : (k j : ℕ) (xs : List ℕ) → length xs ≤ k → length xs ≤ j → records_within f k xs ≡ records_within f j xs
  unfolding records_within
  within_enough zero zero xs hk hj = refl
  within_enough zero (suc j) [] hk hj = refl
  within_enough zero (suc j) (x ∷ xs) hk hj = absurd (omega arith)
  within_enough (suc k) zero [] hk hj = refl
  within_enough (suc k) zero (x ∷ xs) hk hj = absurd (omega arith)
  within_enough (suc k) (suc j) xs hk hj =
      let short = length-drop (f.size xs) xs in
      let some_size = l.positive xs in
      ap (λ z. cond (empty xs) (some []) (cond (leb (f.size xs) (length xs)) (before (f.front xs) z) none))
      (within_enough k j (drop (f.size xs) xs) (omega arith) (omega arith))

  -- nothing more, a whole record, or no record
  pub records_end : (xs : List ℕ) → length xs ≡ 0 → records f xs ≡ some []
  unfolding records records_within
  records_end [] h = refl
  records_end (x ∷ xs) h = absurd (omega arith)

  pub records_step : (xs : List ℕ) → f.size xs ≤ length xs → records f xs ≡ before (f.front xs) (records f (drop (f.size xs) xs))
  unfolding records records_within
  records_step [] h = absurd (omega (arith, l.positive []))
  records_step (x ∷ xs) h =
      let ys = x ∷ xs in
      let short = length-drop (f.size ys) ys in
      let some_size = l.positive ys in
      rw (le-leb (f.size ys) (length ys) h)
      (ap (before (f.front ys)) (within_enough (length xs) (length (drop (f.size ys) ys)) (drop (f.size ys) ys) (omega arith) (omega arith)))

  pub records_none : (xs : List ℕ) → 0 < length xs → length xs < f.size xs → records f xs ≡ none
  unfolding records records_within
  records_none [] h k = absurd (omega arith)
  records_none (x ∷ xs) h k = rw (lt-leb (f.size (x ∷ xs)) (length (x ∷ xs)) k)

  -- what the records say of the octets
  abbrev pub First : List ℕ → Option (List A) → Type 0
  First xs none = Unit {0}
  First xs (some []) = length xs ≡ 0
  First xs (some (a ∷ rs)) = (f.size xs ≤ length xs) × (f.front xs ≡ a) × (records f (drop (f.size xs) xs) ≡ some rs)

  first_before : (xs : List ℕ) → f.size xs ≤ length xs → (o : Option (List A)) → records f (drop (f.size xs) xs) ≡ o → First xs (before (f.front xs) o)
  first_before xs h none e = tt
  first_before xs h (some rs) e = (h, refl, e)

  first : (xs : List ℕ) (t : Bool) → leb (f.size xs) (length xs) ≡ t → First xs (records f xs)
  first xs true h =
      rw (records_step xs (leb-true (f.size xs) (length xs) h))
      (first_before xs (leb-true (f.size xs) (length xs) h) (records f (drop (f.size xs) xs)) refl)
  first [] false h = rw (records_end [] refl) refl
  first (x ∷ xs) false h = rw (records_none (x ∷ xs) (omega arith) (leb-false (f.size (x ∷ xs)) (length (x ∷ xs)) h)) tt

  pub records_first : (xs : List ℕ) (o : Option (List A)) → records f xs ≡ o → First xs o
  records_first xs o e = subst (First xs) e (first xs (leb (f.size xs) (length xs)) refl)

  -- lists laid end to end
  pub records_append : (xs ys : List ℕ) (rs : List A) → records f xs ≡ some rs → records f (xs ++ ys) ≡ prepend rs (records f ys)
  records_append [] ys [] h = refl
  records_append (x ∷ xs) ys [] h = absurd (omega (arith, records_first (x ∷ xs) (some []) h))
  records_append xs ys (a ∷ rs) h =
      let (fits, is, rest) = records_first xs (some (a ∷ rs)) h in
      let long = length-append xs ys in
      let agree : take (length xs) xs ≡ take (length xs) (xs ++ ys) = take-length xs ∙ sym (take-append-le (length xs) xs ys (omega arith) ∙ take-length xs) in
      let size = l.same_size (length xs) xs (xs ++ ys) fits (omega arith) agree in
      let front = l.same_front (length xs) xs (xs ++ ys) fits (omega arith) agree in
      records_step (xs ++ ys) (omega arith)
      ∙ ap₂ before (front ∙ is)
      (ap (λ n. records f (drop n (xs ++ ys))) size ∙ ap (records f) (drop-append-le (f.size xs) xs ys fits) ∙ records_append (drop (f.size xs) xs) ys rs rest)

  -- from place at of a list on
  module _ (xs : List ℕ) (at : ℕ) where
    pub place_step : at + f.size (drop at xs) ≤ length xs
        → records f (drop at xs) ≡ before (f.front (drop at xs)) (records f (drop (at + f.size (drop at xs)) xs))
    place_step h =
        let long = length-drop at xs in
        records_step (drop at xs) (omega (arith, l.positive (drop at xs)))
        ∙ ap (λ ys. before (f.front (drop at xs)) (records f ys)) (drop-drop (f.size (drop at xs)) at xs)

    pub place_none : at < length xs → length xs < at + f.size (drop at xs) → records f (drop at xs) ≡ none
    place_none h k = let long = length-drop at xs in records_none (drop at xs) (omega arith) (omega arith)

    pub place_end : length xs ≤ at → records f (drop at xs) ≡ some []
    place_end h = records_end (drop at xs) (omega (arith, length-drop at xs))

    -- the list up to a place, one record longer
    pub records_grow : (rs : List A) → records f (take at xs) ≡ some rs → at + f.size (drop at xs) ≤ length xs
        → records f (take (at + f.size (drop at xs)) xs) ≡ some (rs ++ (f.front (drop at xs) ∷ []))
    records_grow rs h k =
        let d = drop at xs in
        let n = f.size d in
        let long = length-drop at xs in
        let within : n ≤ length d = omega (arith, l.positive d) in
        let one = take n d in
        let one_long : length one ≡ n = length-take-le n d within in
        let agree : take n d ≡ take n one = sym (take-take n n d (omega arith)) in
        let size : f.size one ≡ n = l.same_size n d one (omega arith) within agree in
        let front : f.front one ≡ f.front d = l.same_front n d one (omega arith) within agree in
        let alone : records f one ≡ some (f.front d ∷ []) =
        records_step one (omega arith) ∙ ap₂ before front (records_end (drop (f.size one) one) (omega (arith, length-drop (f.size one) one))) in
        ap (records f) (take-add at n xs) ∙ records_append (take at xs) one rs h ∙ ap (prepend rs) alone ∙ prepend_some rs (f.front d ∷ [])

  -- whole records are there where anything is
  pub whole_fits : (xs : List ℕ) → is_some (records f xs) ≡ true → 0 < length xs → f.size xs ≤ length xs
  whole_fits xs w h = by (leb (f.size xs) (length xs)) refl
    where
      by : (t : Bool) → leb (f.size xs) (length xs) ≡ t → f.size xs ≤ length xs
      by true e = leb-true (f.size xs) (length xs) e
      by false e =
          let gone = ap is_some (records_none xs h (leb-false (f.size xs) (length xs) e)) in
          cc

-- records before others, and whether there are any
module _ {A : Type 0} (a : A) where
  pub some_before : (o : Option (List A)) → is_some (before a o) ≡ is_some o
  some_before none = refl
  some_before (some rs) = refl

  pub listed_before : (o : Option (List A)) → is_some o ≡ true → listed (before a o) ≡ a ∷ listed o
  listed_before none h = cc
  listed_before (some rs) h = refl
