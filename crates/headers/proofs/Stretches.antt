-- The front of a row that passes a test, found octet by octet or a block at a time; stretches without a backslash. Assumes nothing.
--     span_..        how far a test holds from the front
--     block_..       the same in a block of a row
--     FirstStop      the first octet of a block that fails
--     stretch_..     the stretch at the front of a row: there is exactly one
use mathlib.Core.Path.{◌≡◌, refl, sym, ◌∙◌, ap}
use mathlib.Core.Bool.{Bool, true, false, cond, ◌&&◌, and_assoc, and-true}
use mathlib.Core.List.{List, [], ◌∷◌, ◌++◌, append-nil}
use mathlib.Core.Logic.{◌⊎◌, inl, inr, ⊎_elim}
use Prim.Native.Nat.{ℕ, ◌+◌, ◌-◌, ◌≤◌, ◌<◌, min}
use native.Mathlib.Numerals.{add-one, one-add}
use native.Mathlib.Omega.{arith}
use lib.Dec.{eqb, ltb}
use lib.ListN.{length, take, drop, get_or, drop_of_length-le, take-append-drop, length-take, length-drop}
use lib.Seq.{drop-cons, drop-drop, take_all, take-take, length-take-le}
use borrow.Author.Tests.{not-false, eqb-true, ltb-true, ltb-false}
use Rattle.headers.specs.Rows.{every}
use Rattle.headers.specs.Stretches.{span, not_back, Stretch}
use Rattle.headers.proofs.Rows.{cond_case, and_left, and_right, refuted, never, every_step, every_end, every_drop, every_left}

-- a part's length
pub part_long : (l : List ℕ) (i e : ℕ) → i ≤ e → e ≤ length l → length (take (e - i) (drop i l)) ≡ e - i
part_long l i e ie el = simp (length-take, length-drop) (omega arith)

-- a row's rest, as it is handed on
pub part_rest : (l : List ℕ) (i : ℕ) → i ≤ length l → take (length l - i) (drop i l) ≡ drop i l
part_rest l i h = take_all (length l - i) (drop i l) (simp length-drop (omega arith))

module _ (p : ℕ → Bool) where
  span_every : (xs ys : List ℕ) → every p xs ≡ true → span p (xs ++ ys) ≡ length xs + span p ys
  unfolding span
  span_every [] ys h = omega arith
  span_every (x ∷ xs) ys h = rw (and_left (p x) (every p xs) h) (omega (arith, span_every xs ys (and_right (p x) (every p xs) h)))

  -- a front that ends within a row, and one that is all of it
  span_within : (xs ys : List ℕ) → span p xs < length xs → span p (xs ++ ys) ≡ span p xs
  unfolding span
  span_within [] ys h = absurd (omega arith)
  span_within (x ∷ xs) ys h = by (p x) refl (span_within xs ys)
    where
      by : (t : Bool) → p x ≡ t → (span p xs < length xs → span p (xs ++ ys) ≡ span p xs) → span p (x ∷ (xs ++ ys)) ≡ span p (x ∷ xs)
      by true e r = rw e (ap (λ n. 1 + n) (r (omega (arith, rw e at h))))
      by false e r = rw e

  span_full : (xs : List ℕ) → span p xs ≡ length xs → every p xs ≡ true
  unfolding span
  span_full [] h = refl
  span_full (x ∷ xs) h = by (p x) refl (span_full xs)
    where
      by : (t : Bool) → p x ≡ t → (span p xs ≡ length xs → every p xs ≡ true) → every p (x ∷ xs) ≡ true
      by true e r = rw e (r (omega (arith, rw e at h)))
      by false e r = absurd (omega (arith, rw e at h))

  pub span_le : (xs : List ℕ) → span p xs ≤ length xs
  unfolding span
  span_le [] = omega arith
  span_le (x ∷ xs) = cond_case (λ n. n ≤ length (x ∷ xs)) (p x) (λ h. omega (arith, span_le xs)) (λ h. omega arith)

pub span_part : (p : ℕ → Bool) (l : List ℕ) (i e k : ℕ) → i ≤ e → e ≤ length l → k ≡ span p (take (e - i) (drop i l)) → i + k ≤ e
span_part p l i e k ie el is = omega (arith, part_long l i e ie el, span_le p (take (e - i) (drop i l)))

-- where all octets from e on pass the test, so do those from i on, which is not before e
pub span_tail : (p : ℕ → Bool) (s : List ℕ) (i e : ℕ) → e ≤ i → i ≤ length s → every p (take (length s - e) (drop e s)) ≡ true → i + span p (drop i s) ≡ length s
unfolding span
span_tail p s i e ei is h =
    let far : e + (i - e) ≡ i = omega arith in
    let all : take (length s - e) (drop e s) ≡ drop e s = take_all (length s - e) (drop e s) (simp length-drop (omega arith)) in
    let on : every p (drop i s) ≡ true =
    ap (λ k. every p (drop k s)) (sym far) ∙ ap (every p) (sym (drop-drop (i - e) e s)) ∙ every_drop p (i - e) (drop e s) (ap (every p) (sym all) ∙ h) in
    let passed = span_every p (drop i s) [] on in
    omega (arith, passed, ap (span p) (append-nil (drop i s)), length-drop i s)

-- a test of two rows
pub every_both : (p : ℕ → Bool) (xs ys : List ℕ) → every p (xs ++ ys) ≡ every p xs && every p ys
every_both p [] ys = refl
every_both p (x ∷ xs) ys = ap (λ t. p x && t) (every_both p xs ys) ∙ sym (and_assoc (p x) (every p xs) (every p ys))

-- read off a row at a place
module _ (p : ℕ → Bool) (s : List ℕ) (i : ℕ) where
  pub every_more : (ok : Bool) → i < length s → (ok && p (get_or s i 0)) && every p (drop (i + 1) s) ≡ ok && every p (drop i s)
  every_more ok h = and_assoc ok _ _ ∙ ap (λ t. ok && t) (sym (every_step p s i h))

  pub every_done : (ok : Bool) → length s ≤ i → ok && every p (drop i s) ≡ ok
  every_done ok h = ap (λ t. ok && t) (every_end p s i h) ∙ and-true ok

  -- a block more
  pub every_block : (ok : Bool) (e : ℕ) → i ≤ e → (ok && every p (take (e - i) (drop i s))) && every p (drop e s) ≡ ok && every p (drop i s)
  every_block ok e h =
      let on : i + (e - i) ≡ e = omega arith in
      let rest : drop (e - i) (drop i s) ≡ drop e s = drop-drop (e - i) i s ∙ ap (λ k. drop k s) on in
      and_assoc ok _ _
      ∙ ap (λ t. ok && t) (ap (λ z. every p (take (e - i) (drop i s)) && every p z) (sym rest)
      ∙ sym (every_both p (take (e - i) (drop i s)) (drop (e - i) (drop i s))) ∙ ap (every p) (take-append-drop (e - i) (drop i s)))

  -- the last block, of which some octets were tested already
  pub every_last_block : (ok : Bool) (b : ℕ) → b ≤ i → ok && every p (drop i s) ≡ every p s → ok && every p (drop b s) ≡ every p s
  every_last_block ok b h w = by (every p s) refl
    where
      on : every p (drop b s) ≡ true → every p (drop i s) ≡ true
      on t =
          let far : b + (i - b) ≡ i = omega arith in
          ap (λ k. every p (drop k s)) (sym far) ∙ ap (every p) (sym (drop-drop (i - b) b s)) ∙ every_drop p (i - b) (drop b s) t

      by : (t : Bool) → every p s ≡ t → ok && every p (drop b s) ≡ t
      by true q = rw (and_left ok _ (w ∙ q), every_drop p b s q)
      by false q =
          refuted _ (λ t. never (sym (w ∙ q) ∙ ap (λ o. o && every p (drop i s)) (and_left ok _ t) ∙ on (and_right ok _ t)))

  pub span_block : (e : ℕ) → i ≤ e → e ≤ length s → every p (take (e - i) (drop i s)) ≡ true → e + span p (drop e s) ≡ i + span p (drop i s)
  span_block e ie h t =
      let long = part_long s i e ie h in
      let q = ap (span p) (sym (take-append-drop (e - i) (drop i s))) ∙ span_every p (take (e - i) (drop i s)) (drop (e - i) (drop i s)) t in
      let sum : i + (e - i) ≡ e = omega arith in
      let r = ap (span p) (drop-drop (e - i) i s ∙ ap (λ n. drop n s) sum) in
      omega arith

  -- a block's front, of k octets: the row's, or all of the block
  module _ (e : ℕ) {k : ℕ} (ie : i ≤ e) (h : e ≤ length s) (is : k ≡ span p (take (e - i) (drop i s))) where
    pub block_stop : k < e - i → i + k ≡ i + span p (drop i s)
    block_stop l =
        let long = part_long s i e ie h in
        let q = ap (span p) (sym (take-append-drop (e - i) (drop i s))) ∙ span_within p (take (e - i) (drop i s)) (drop (e - i) (drop i s)) (omega arith) in
        omega arith

    pub block_more : k ≡ e - i → i + k + span p (drop (i + k) s) ≡ i + span p (drop i s)
    block_more l =
        let at : e ≡ i + k = omega arith in
        rw (← at) (span_block e ie h (span_full p (take (e - i) (drop i s)) (omega (arith, part_long s i e ie h))))

  -- r octets on in the rest of the row
  pub span_on : {r : ℕ} → i ≤ length s → let rest = take (length s - i) (drop i s) in (r ≤ length rest) × (r + span p (drop r rest) ≡ span p rest)
      → (i + r ≤ length s) × (i + r + span p (drop (i + r) s) ≡ i + span p (drop i s))
  span_on {r} h q =
      let all : take (length s - i) (drop i s) ≡ drop i s = take_all (length s - i) (drop i s) (simp length-drop (omega arith)) in
      let (short, e) = rw all at q in
      (omega (arith, length-drop i s), omega (arith, ap (span p) (drop-drop r i s)))

  -- the front of all the rest
  pub span_rest : {r : ℕ} → i ≤ length s → r ≡ span p (take (length s - i) (drop i s)) → (i + r ≡ i + span p (drop i s)) × (i + r ≤ length s)
  span_rest {r} h e =
      let is : r ≡ span p (drop i s) = e ∙ ap (span p) (take_all (length s - i) (drop i s) (simp length-drop (omega arith))) in
      (ap (i +◌) is, omega (arith, span_le p (drop i s), length-drop i s))

  pub span_more : i < length s → p (get_or s i 0) ≡ true → i + 1 + span p (drop (i + 1) s) ≡ i + span p (drop i s)
  unfolding span
  span_more h e = rw (add-one, drop-cons s i 0 h, e) (omega arith)

  pub span_stop : i < length s → p (get_or s i 0) ≡ false → i ≡ i + span p (drop i s)
  unfolding span
  span_stop h e = rw (drop-cons s i 0 h, e) (omega arith)

  pub span_end : length s ≤ i → i ≡ i + span p (drop i s)
  unfolding span
  span_end h = rw (drop_of_length-le s h) (omega arith)

-- the first octet of a row that fails the test is at k, before i; or none before i does, and k is the row's length
abbrev pub FirstStop : (ℕ → Bool) → List ℕ → ℕ → ℕ → Type 0
FirstStop p s k i = (i ≤ length s) × (((k < i) × (k ≡ span p s)) ⊎ ((k ≡ length s) × (i + span p (drop i s) ≡ span p s)))

module _ (p : ℕ → Bool) (s : List ℕ) (i : ℕ) {k : ℕ} where
  -- one place more: the octet there passes, or fails
  module _ (h : i < length s) {c k' : ℕ} (m : k' ≡ min c k) where
    pub first_on : p (get_or s i 0) ≡ true → c ≡ length s → FirstStop p s k i → FirstStop p s k' (i + 1)
    first_on t e (l, inl (a, b)) = (omega arith, inl (omega arith))
    first_on t e (l, inr (a, b)) = (omega arith, inr (omega arith, span_more p s i h t ∙ b))

    pub first_here : p (get_or s i 0) ≡ false → c ≡ i → FirstStop p s k i → FirstStop p s k' (i + 1)
    first_here t e (l, inl (a, b)) = (omega arith, inl (omega arith))
    first_here t e (l, inr (a, b)) = (omega arith, inl (omega (arith, span_stop p s i h t)))

  pub first_end : length s ≤ i → FirstStop p s k i → k ≡ span p s
  first_end h (l, inl (a, b)) = b
  first_end h (l, inr (a, b)) = omega (arith, span_end p s i h)

-- ---- One test that is stricter than another

module _ (p q : ℕ → Bool) (also : (x : ℕ) → p x ≡ true → q x ≡ true) where
  -- the front that passes q goes on from the one that passes p
  pub span_inside : (xs : List ℕ) → span p xs + span q (drop (span p xs) xs) ≡ span q xs
  unfolding span
  span_inside [] = refl
  span_inside (x ∷ xs) = by (p x) refl (span_inside xs)
    where
      by : (t : Bool) → p x ≡ t → span p xs + span q (drop (span p xs) xs) ≡ span q xs → span p (x ∷ xs) + span q (drop (span p (x ∷ xs)) (x ∷ xs)) ≡ span q (x ∷ xs)
      by true e r =
          let there : drop (1 + span p xs) (x ∷ xs) ≡ drop (span p xs) xs = ap (λ n. drop n (x ∷ xs)) (one-add (span p xs)) in
          let more : cond (q x) (1 + span q xs) 0 ≡ 1 + span q xs = rw (also x e) refl in
          rw e (omega (arith, r, ap (span q) there, more))
      by false e r = rw e (omega arith)

  pub span_clear : (xs : List ℕ) → every q (take (span p xs) xs) ≡ true
  unfolding span
  span_clear [] = refl
  span_clear (x ∷ xs) = by (p x) refl (span_clear xs)
    where
      by : (t : Bool) → p x ≡ t → every q (take (span p xs) xs) ≡ true → every q (take (span p (x ∷ xs)) (x ∷ xs)) ≡ true
      by true e r = rw e (ap (λ n. every q (take n (x ∷ xs))) (one-add (span p xs)) ∙ rw (also x e) r)
      by false e r = rw e refl

-- a place up to which the stricter test holds: the front that passes the other goes on from there
pub span_calm : (p q : ℕ → Bool) → ((x : ℕ) → p x ≡ true → q x ≡ true) → (s : List ℕ) (i r : ℕ) → i ≤ length s → i ≤ r → r ≤ i + span p (drop i s)
    → (r ≤ length s) × (r + span q (drop r s) ≡ i + span q (drop i s))
span_calm p q also s i r h ir rs =
    let m : ℕ = span p (drop i s) in
    let far : r - i ≤ m = omega arith in
    let within : r ≤ length s = omega (arith, span_le p (drop i s), length-drop i s) in
    let front = every_left q (take (r - i) (take m (drop i s))) (drop (r - i) (take m (drop i s))) (ap (every q) (take-append-drop (r - i) (take m (drop i s))) ∙ span_clear p q also (drop i s)) in
    (within, span_block q s i r ir within (ap (every q) (sym (take-take (r - i) m (drop i s) far)) ∙ front))

-- where it ends: at the end, or at an octet that fails
pub span_ends : (p : ℕ → Bool) (xs : List ℕ) → (span p xs ≡ length xs) ⊎ (p (get_or xs (span p xs) 0) ≡ false)
unfolding span
span_ends p [] = inl refl
span_ends p (x ∷ xs) = by (p x) refl (span_ends p xs)
  where
    by : (t : Bool) → p x ≡ t → (span p xs ≡ length xs) ⊎ (p (get_or xs (span p xs) 0) ≡ false)
        → (span p (x ∷ xs) ≡ length (x ∷ xs)) ⊎ (p (get_or (x ∷ xs) (span p (x ∷ xs)) 0) ≡ false)
    by true e (inl h) = inl (rw e (omega (arith, h)))
    by true e (inr h) = inr (rw e (ap (λ n. p (get_or (x ∷ xs) n 0)) (one-add (span p xs)) ∙ h))
    by false e h = inr (rw e e)

-- ---- Stretches without a backslash

back_at : (x : ℕ) → not_back x ≡ false → x ≡ 92
back_at x h = eqb-true x 92 (not-false (eqb x 92) h)

pub stretch_span : (xs : List ℕ) → Stretch xs (span not_back xs)
stretch_span xs =
    record {
      within = span_le not_back xs;
      clear = span_clear not_back not_back (λ x h. h) xs;
      ends = ⊎_elim inl (λ h. inr (back_at _ h)) (span_ends not_back xs);
    }

pub stretch_at : (xs : List ℕ) (n : ℕ) → n ≡ span not_back xs → Stretch xs n
stretch_at xs n e = rw e (stretch_span xs)

stretch_is : (xs : List ℕ) (n : ℕ) → Stretch xs n → n ≡ span not_back xs
stretch_is xs n s =
    let whole : span not_back xs ≡ n + span not_back (drop n xs) =
    ap (span not_back) (sym (take-append-drop n xs)) ∙ span_every not_back (take n xs) (drop n xs) s.clear
    ∙ ap (λ k. k + span not_back (drop n xs)) (length-take-le n xs s.within) in
    let here : n ≡ n + span not_back (drop n xs) =
    ⊎_elim
    (λ e. span_end not_back xs n (omega (arith, e)))
    (λ e. by (ltb n (length xs)) refl e)
    s.ends in
    omega (arith, whole, here)
  where
    by : (t : Bool) → ltb n (length xs) ≡ t → get_or xs n 0 ≡ 92 → n ≡ n + span not_back (drop n xs)
    by true l e = span_stop not_back xs n (ltb-true n (length xs) l) (rw e refl)
    by false l e = span_end not_back xs n (ltb-false n (length xs) l)

-- no other number of octets is a stretch
pub stretch_once : (xs : List ℕ) (n m : ℕ) → Stretch xs n → Stretch xs m → n ≡ m
stretch_once xs n m s t = stretch_is xs n s ∙ sym (stretch_is xs m t)
