-- Searches for the first element that passes a test, over any element. Assumes nothing.
--     first_hit, first_miss, first_end    a search, one element on
--     told_any                            whether it finds
--     first_map, first_map_on             a search among what elements are mapped to
--     found_at, first_at, found_here      what it finds passes the test, and is what `replaced` replaces
use mathlib.Core.Path.{◌≡◌, refl, sym, ap, ◌∙◌}
use mathlib.Core.Bool.{Bool, true, false, cond, ◌||◌}
use mathlib.Core.Option.{Option, none, some}
use mathlib.Core.List.{List, [], ◌∷◌, map}
use Prim.Native.Nat.{ℕ, suc, ◌+◌, ◌<◌}
use native.Mathlib.Numerals.{add-one}
use native.Mathlib.Omega.{arith}
use lib.ListN.{length, get_or, set}
use Rattle.headers.specs.Rows.{any, All}
use Rattle.headers.proofs.Rows.{cond_case}
use Rattle.stores.specs.Searches.{first_from, replaced, search_says}
use Rattle.std.specs.Prelude.{Option as CodeOption, Some, None, is_some as has_place}

abbrev pub is_some : Option ℕ → Bool
is_some none = false
is_some (some k) = true

says_some : (r : CodeOption ℕ) → is_some (search_says r) ≡ has_place r
says_some (Some k) = refl
says_some None = refl

module _ {A : Type 0} (p : A → Bool) where
  pub first_hit : (k : ℕ) (x : A) (xs : List A) → p x ≡ true → first_from p k (x ∷ xs) ≡ some k
  unfolding first_from
  first_hit k x xs h = rw h

  pub first_miss : (k : ℕ) (x : A) (xs : List A) → p x ≡ false → first_from p k (x ∷ xs) ≡ first_from p (k + 1) xs
  unfolding first_from
  first_miss k x xs h = rw (h, add-one)

  pub first_end : (k : ℕ) → first_from p k [] ≡ none
  unfolding first_from
  first_end k = refl

  -- some element passes the test exactly if a search finds one
  pub any_first : (j : ℕ) (xs : List A) → any p xs ≡ is_some (first_from p j xs)
  unfolding first_from
  any_first j [] = refl
  any_first j (x ∷ xs) = by (p x) (any_first (suc j) xs)
    where
      by : (t : Bool) → any p xs ≡ is_some (first_from p (suc j) xs) → t || any p xs ≡ is_some (cond t (some j) (first_from p (suc j) xs))
      by true go = refl
      by false go = go

  pub told_any : (j : ℕ) (xs : List A) (r : CodeOption ℕ) → search_says r ≡ first_from p j xs → any p xs ≡ has_place r
  told_any j xs r e = any_first j xs ∙ ap is_some (sym e) ∙ says_some r

-- a search among what elements are mapped to
pub first_map : {A B : Type 0} (p : A → Bool) (q : B → Bool) (f : A → B) → ((x : A) → p x ≡ q (f x)) → (k : ℕ) (xs : List A)
    → first_from p k xs ≡ first_from q k (map f xs)
unfolding first_from
first_map p q f same k [] = refl
first_map p q f same k (x ∷ xs) =
    ap (λ t. cond t (some k) (first_from p (suc k) xs)) (same x) ∙ ap (cond (q (f x)) (some k)) (first_map p q f same (suc k) xs)

-- where this holds of the elements that there are
pub first_map_on : {A B : Type 0} (p : A → Bool) (q : B → Bool) (f : A → B) (P : A → Type 0) → ((x : A) → P x → p x ≡ q (f x))
    → (k : ℕ) (xs : List A) → All P xs → first_from p k xs ≡ first_from q k (map f xs)
unfolding first_from
first_map_on p q f P same k [] all = refl
first_map_on p q f P same k (x ∷ xs) all =
    ap (λ t. cond t (some k) (first_from p (suc k) xs)) (same x all.0) ∙ ap (cond (q (f x)) (some k)) (first_map_on p q f P same (suc k) xs all.1)

-- the element found is the one that is replaced
module _ {A : Type 0} (p : A → Bool) (y : A) where
  abbrev Found : ℕ → ℕ → List A → List A → Type 0
  Found j k xs after = (i : ℕ) × (k ≡ j + i) × (i < length xs) × (after ≡ set xs i y)

  found_from : (j k : ℕ) (xs : List A) → some k ≡ first_from p j xs → Found j k xs (replaced p y xs)
  unfolding first_from replaced
  found_from j k [] e = absurd (let z : ◌≡◌ {A = ℕ} 0 1 = cc in omega arith)
  found_from j k (x ∷ xs) e = by (p x) e (found_from (suc j) k xs)
    where
      by : (t : Bool) → some k ≡ cond t (some j) (first_from p (suc j) xs) → (some k ≡ first_from p (suc j) xs → Found (suc j) k xs (replaced p y xs))
          → Found j k (x ∷ xs) (cond t (y ∷ xs) (x ∷ replaced p y xs))
      by true h go = let q : k ≡ j = cc in (0, omega arith, omega arith, refl)
      by false h go = let (i, q, l, r) = go h in (suc i, omega arith, omega arith, ap (x ∷◌) r)

  pub found_at : (k : ℕ) (xs : List A) → some k ≡ first_from p 0 xs → (k < length xs) × (replaced p y xs ≡ set xs k y)
  found_at k xs e =
      let (i, q, l, r) = found_from 0 k xs e in
      let same_place : i ≡ k = omega arith in
      (omega arith, r ∙ ap (λ n. set xs n y) same_place)

  pub replaced_length : (xs : List A) → length (replaced p y xs) ≡ length xs
  unfolding replaced
  replaced_length [] = refl
  replaced_length (x ∷ xs) = cond_case (λ (z : List A). length z ≡ suc (length xs)) (p x) (λ e. refl) (λ e. ap suc (replaced_length xs))

-- the first that passes is there
pub first_at : {A : Type 0} (p : A → Bool) (d : A) (j k : ℕ) (xs : List A) → first_from p j xs ≡ some k
    → (i : ℕ) × (k ≡ j + i) × (i < length xs) × (p (get_or xs i d) ≡ true)
unfolding first_from
first_at p d j k [] e = absurd (let z : ◌≡◌ {A = ℕ} 0 1 = cc in omega arith)
first_at {A} p d j k (x ∷ xs) e = by (p x) refl e (first_at p d (suc j) k xs)
  where
    by : (t : Bool) → p x ≡ t → cond t (some j) (first_from p (suc j) xs) ≡ some k
        → (first_from p (suc j) xs ≡ some k → (i : ℕ) × (k ≡ suc j + i) × (i < length xs) × (p (get_or xs i d) ≡ true))
        → (i : ℕ) × (k ≡ j + i) × (i < suc (length xs)) × (p (get_or (x ∷ xs) i d) ≡ true)
    by true q f go = let s : j ≡ k = cc in (0, omega arith, omega arith, q)
    by false q f go = let (i, a, b, c) = go f in (suc i, omega (arith, a), omega (arith, b), c)

-- the place found holds one that passes, and is what is replaced
pub found_here : {A : Type 0} (p : A → Bool) (y d : A) (k : ℕ) (xs : List A) → some k ≡ first_from p 0 xs
    → (k < length xs) × (replaced p y xs ≡ set xs k y) × (p (get_or xs k d) ≡ true)
found_here p y d k xs e =
    let (inside, is) = found_at p y k xs e in
    let (i, at, l, passes) = first_at p d 0 k xs (sym e) in
    let one : i ≡ k = omega (arith, at) in
    (inside, is, ap (λ n. p (get_or xs n d)) (sym one) ∙ passes)
