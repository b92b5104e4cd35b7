-- Laws of rows in parts. Assumes nothing.
--     until_le, until_more, until_stop, until_end     the octets before the first c, from a place on
--     parts_all, parts_none, parts_step, empty_parts  the parts from a place on
--     split_first, some_part                          there is a first part
--     part_last, part_next                            the part at a place, where it is the last or not
--     join_split, split_without, split_join           the parts are those without c that, joined, give the row
use mathlib.Core.Path.{◌≡◌, refl, sym, ◌∙◌, ap, ap₂}
use mathlib.Core.Bool.{Bool, true, false, cond}
use mathlib.Core.List.{List, [], ◌∷◌, ◌++◌}
use Prim.Native.Nat.{ℕ, suc, ◌+◌, ◌-◌, ◌≤◌, ◌<◌}
use native.Mathlib.Numerals.{add-one}
use native.Mathlib.Omega.{arith}
use lib.Dec.{eqb, ltb, leb-suc-suc}
use lib.ListN.{length, take, drop, get_or, length-drop, drop_of_length-le}
use lib.Seq.{drop-cons, drop-drop}
use borrow.Author.Tests.{eq-eqb, ne_eqb, lt-ltb, le-ltb, ltb-true, ltb-false, eqb-true}
use Rattle.headers.specs.Rows.{empty, All}
use Rattle.headers.proofs.Rows.{cond_case}
use Rattle.headers.specs.Parts.{onto, split, until, parts_from, join}

module _ (c : ℕ) where
  pub until_le : (xs : List ℕ) → until c xs ≤ length xs
  unfolding until
  until_le [] = omega arith
  until_le (x ∷ xs) = cond_case (λ n. n ≤ suc (length xs)) (eqb x c) (λ h. omega arith) (λ h. omega (arith, until_le xs))

  pub until_more : (xs : List ℕ) (i : ℕ) → i < length xs → (get_or xs i 0 ≡ c → ⊥) → until c (drop i xs) ≡ suc (until c (drop (i + 1) xs))
  unfolding until
  until_more xs i h n = rw (add-one, drop-cons xs i 0, ne_eqb (get_or xs i 0) c n)

  pub until_stop : (xs : List ℕ) (i : ℕ) → i < length xs → get_or xs i 0 ≡ c → until c (drop i xs) ≡ 0
  unfolding until
  until_stop xs i h e = rw (drop-cons xs i 0, eq-eqb (get_or xs i 0) c e)

  pub until_end : (xs : List ℕ) (i : ℕ) → length xs ≤ i → until c (drop i xs) ≡ 0
  unfolding until
  until_end xs i h = rw (drop_of_length-le xs h)

  pub parts_none : (xs : List ℕ) (i : ℕ) → length xs < i → parts_from c xs i ≡ []
  unfolding parts_from
  parts_none xs i h = rw (lt-ltb (length xs) i h)

  parts_some : (xs : List ℕ) (i : ℕ) → i ≤ length xs → parts_from c xs i ≡ split c (drop i xs)
  unfolding parts_from
  parts_some xs i h = rw (le-ltb (length xs) i h)

  pub parts_all : (xs : List ℕ) → parts_from c xs 0 ≡ split c xs
  parts_all xs = parts_some xs 0 (omega arith)

  parts_cons : (x : ℕ) (xs : List ℕ) (k : ℕ) → parts_from c (x ∷ xs) (suc k) ≡ parts_from c xs k
  unfolding parts_from
  parts_cons x xs k = rw leb-suc-suc

  -- the first part, and those after it
  pub split_first : (xs : List ℕ) → split c xs ≡ take (until c xs) xs ∷ parts_from c xs (until c xs + 1)
  unfolding split until
  split_first [] = ap ([] ∷◌) (sym (parts_none [] 1 (omega arith)))
  split_first (x ∷ xs) = by (eqb x c) (split_first xs)
    where
      by : (t : Bool) → split c xs ≡ take (until c xs) xs ∷ parts_from c xs (until c xs + 1)
          → cond t ([] ∷ split c xs) (onto x (split c xs)) ≡ take (cond t 0 (suc (until c xs))) (x ∷ xs) ∷ parts_from c (x ∷ xs) (cond t 0 (suc (until c xs)) + 1)
      by true go = ap ([] ∷◌) (sym (parts_cons x xs 0 ∙ parts_all xs))
      by false go =
          let on : suc (until c xs) + 1 ≡ suc (until c xs + 1) = omega arith in
          ap (onto x) go ∙ ap ((x ∷ take (until c xs) xs) ∷◌) (sym (ap (parts_from c (x ∷ xs)) on ∙ parts_cons x xs (until c xs + 1)))

  parts_drop : (xs : List ℕ) (i k : ℕ) → i ≤ length xs → parts_from c (drop i xs) k ≡ parts_from c xs (i + k)
  unfolding parts_from
  parts_drop xs i k h = by (ltb (length (drop i xs)) k) refl
    where
      by : (t : Bool) → ltb (length (drop i xs)) k ≡ t → cond t [] (split c (drop k (drop i xs))) ≡ cond (ltb (length xs) (i + k)) [] (split c (drop (i + k) xs))
      by true e = rw (lt-ltb (length xs) (i + k) (omega (arith, length-drop i xs, ltb-true (length (drop i xs)) k e)))
      by false e = rw (le-ltb (length xs) (i + k) (omega (arith, length-drop i xs, ltb-false (length (drop i xs)) k e))) (ap (split c) (drop-drop k i xs))

  -- the part from place i to e, up to the next c or the end, and those after it
  pub parts_step : (xs : List ℕ) (i e : ℕ) → i ≤ length xs → e ≡ i + until c (drop i xs) → parts_from c xs i ≡ take (e - i) (drop i xs) ∷ parts_from c xs (e + 1)
  parts_step xs i e h is =
      let to : until c (drop i xs) ≡ e - i = omega arith in
      let on : i + (until c (drop i xs) + 1) ≡ e + 1 = omega arith in
      parts_some xs i h ∙ split_first (drop i xs)
      ∙ ap₂ (λ n ps. take n (drop i xs) ∷ ps) to (parts_drop xs i (until c (drop i xs) + 1) h ∙ ap (parts_from c xs) on)

  -- no part is left exactly after the end
  pub empty_parts : (xs : List ℕ) (i : ℕ) → empty (parts_from c xs i) ≡ ltb (length xs) i
  unfolding parts_from
  empty_parts xs i = by (ltb (length xs) i)
    where
      by : (t : Bool) → empty (cond t [] (split c (drop i xs))) ≡ t
      by true = refl
      by false = ap empty (split_first (drop i xs))

  -- the part from place i to e, where it is the last or not
  module _ (xs : List ℕ) (i e : ℕ) (is : e ≡ i + until c (drop i xs)) where
    pub part_last : length xs ≤ e → split c (drop i xs) ≡ take (e - i) (drop i xs) ∷ []
    part_last h =
        let to : until c (drop i xs) ≡ e - i = omega arith in
        split_first (drop i xs)
        ∙ ap₂ (λ n ps. take n (drop i xs) ∷ ps) to (parts_none (drop i xs) (until c (drop i xs) + 1) (omega (arith, length-drop i xs)))

    pub part_next : e < length xs → split c (drop i xs) ≡ take (e - i) (drop i xs) ∷ split c (drop (e + 1) xs)
    part_next h = sym (parts_some xs i (omega arith)) ∙ parts_step xs i e (omega arith) is ∙ ap (take (e - i) (drop i xs) ∷◌) (parts_some xs (e + 1) (omega arith))

  pub some_part : (xs : List ℕ) → 1 ≤ length (split c xs)
  some_part xs = omega (arith, ap length (split_first xs))

  -- ## A row is its parts, joined

  join_onto : (x : ℕ) (ps : List (List ℕ)) → join c (onto x ps) ≡ x ∷ join c ps
  join_onto x [] = refl
  join_onto x (p ∷ []) = refl
  join_onto x (p ∷ (q ∷ ps)) = refl

  join_next : (ps : List (List ℕ)) → 1 ≤ length ps → join c ([] ∷ ps) ≡ c ∷ join c ps
  join_next [] h = absurd (omega arith)
  join_next (p ∷ ps) h = refl

  pub join_split : (xs : List ℕ) → join c (split c xs) ≡ xs
  unfolding split
  join_split [] = refl
  join_split (x ∷ xs) = by (eqb x c) refl (join_split xs)
    where
      by : (t : Bool) → eqb x c ≡ t → join c (split c xs) ≡ xs → join c (cond t ([] ∷ split c xs) (onto x (split c xs))) ≡ x ∷ xs
      by true e go = join_next (split c xs) (some_part xs) ∙ ap₂ (◌∷◌) (sym (eqb-true x c e)) go
      by false e go = join_onto x (split c xs) ∙ ap (x ∷◌) go

  -- a part has no c
  abbrev Without : List ℕ → Type 0
  Without p = All (λ x. eqb x c ≡ false) p

  pub split_without : (xs : List ℕ) → All Without (split c xs)
  unfolding split
  split_without [] = (tt, tt)
  split_without (x ∷ xs) = by (eqb x c) refl (split c xs) (split_without xs)
    where
      by : (t : Bool) → eqb x c ≡ t → (ps : List (List ℕ)) → All Without ps → All Without (cond t ([] ∷ ps) (onto x ps))
      by true e ps h = (tt, h)
      by false e [] h = ((e, tt), tt)
      by false e (p ∷ ps) (w, h) = ((e, w), h)

  -- and no other parts without c give the row
  split_front : (p rest : List ℕ) → Without p → split c (p ++ (c ∷ rest)) ≡ p ∷ split c rest
  unfolding split
  split_front [] rest h = rw (eq-eqb c c refl)
  split_front (x ∷ p) rest (e, h) = rw e (ap (onto x) (split_front p rest h))

  split_alone : (p : List ℕ) → Without p → split c p ≡ p ∷ []
  unfolding split
  split_alone [] h = refl
  split_alone (x ∷ p) (e, h) = rw e (ap (onto x) (split_alone p h))

  pub split_join : (ps : List (List ℕ)) → 1 ≤ length ps → All Without ps → split c (join c ps) ≡ ps
  split_join [] h w = absurd (omega arith)
  split_join (p ∷ []) h (w, ws) = split_alone p w
  split_join (p ∷ (q ∷ ps)) h (w, ws) = split_front p (join c (q ∷ ps)) w ∙ ap (p ∷◌) (split_join (q ∷ ps) (omega arith) ws)
