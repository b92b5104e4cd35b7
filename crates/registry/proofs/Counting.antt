-- How many things of a kind slots hold, over any thing; and so of a list. Assumes nothing.
--     count_new, count_again, count_freed     after a replacement
--     count_kept, count_named                 after a change of every slot, and after a replacement by a thing of the same name
--     tally_those, tally_all                  of a list
--     full_count                              no slot is free exactly where as many things are held as there are slots
use mathlib.Core.Path.{◌≡◌, refl, sym, ◌∙◌, ap, ap₂}
use mathlib.Core.Bool.{Bool, true, false, cond, ◌&&◌, ◌||◌, not, true≢false}
use mathlib.Core.Option.{Option, none, some}
use mathlib.Core.List.{List, [], ◌∷◌, map}
use Prim.Native.Nat.{ℕ, suc, ◌≤◌}
use native.Mathlib.Omega.{arith}
use lib.ListN.{length}
use lib.Dec.{eqb, eqb-suc-suc}
use borrow.Author.Tests.{ne_eqb}
use Rattle.headers.proofs.Rows.{cond_case, or_false_left, or_false_right, same_eq}
use Rattle.headers.specs.Rows.{same}
use Rattle.stores.specs.Searches.{replaced}
use Rattle.registry.specs.Slots.{is_free, holds, has_free, has, distinct}
use Rattle.registry.specs.Histories.{those}
use Rattle.registry.proofs.Slots.{first_alone, rest_distinct}

-- one more where a test passes
abbrev pub more : Bool → ℕ → ℕ
more true n = suc n
more false n = n

-- the things in slots, and in a list, that pass a test
abbrev pub count : {A : Type 0} → (A → Bool) → List (Option A) → ℕ
count q [] = 0
count q (none ∷ slots) = count q slots
count q (some a ∷ slots) = more (q a) (count q slots)

abbrev pub tally : {A : Type 0} → (A → Bool) → List A → ℕ
tally q [] = 0
tally q (a ∷ rest) = more (q a) (tally q rest)

more_swap : (t u : Bool) (n : ℕ) → more t (more u n) ≡ more u (more t n)
more_swap true true n = refl
more_swap true false n = refl
more_swap false true n = refl
more_swap false false n = refl

and-true : (t : Bool) → t && true ≡ t
and-true true = refl
and-true false = refl

and_false : (t : Bool) → t && false ≡ false
and_false true = refl
and_false false = refl

-- ---- of a list

module _ {A : Type 0} where
  pub tally_those : (q r : A → Bool) (rest : List A) → tally q (those r rest) ≡ tally (λ a. q a && r a) rest
  tally_those q r [] = refl
  tally_those q r (a ∷ rest) = by (r a) (tally_those q r rest)
    where
      by : (t : Bool) → tally q (those r rest) ≡ tally (λ a. q a && r a) rest
          → tally q (cond t (a ∷ those r rest) (those r rest)) ≡ more (q a && t) (tally (λ a. q a && r a) rest)
      by true go = ap₂ more (sym (and-true (q a))) go
      by false go = ap₂ more (sym (and_false (q a))) go

  pub tally_all : (rest : List A) → tally (λ a. true) rest ≡ length rest
  tally_all [] = refl
  tally_all (a ∷ rest) = ap suc (tally_all rest)

  -- ---- of slots

  count_most : (slots : List (Option A)) → count (λ a. true) slots ≤ length slots
  count_most [] = omega arith
  count_most (none ∷ slots) = omega (arith, count_most slots)
  count_most (some a ∷ slots) = omega (arith, count_most slots)

  pub full_count : (slots : List (Option A)) → not (has_free slots) ≡ eqb (count (λ a. true) slots) (length slots)
  full_count [] = refl
  full_count (none ∷ slots) = sym (ne_eqb (count (λ a. true) slots) (suc (length slots)) (λ e. omega (arith, e, count_most slots)))
  full_count (some a ∷ slots) = full_count slots ∙ sym (eqb-suc-suc (count (λ a. true) slots) (length slots))

  pub count_new : (q : A → Bool) (b : A) (slots : List (Option A)) → has_free slots ≡ true
      → count q (replaced is_free (some b) slots) ≡ more (q b) (count q slots)
  unfolding replaced
  count_new q b [] f = absurd (true≢false (sym f))
  count_new q b (none ∷ slots) f = refl
  count_new q b (some a ∷ slots) f = ap (more (q a)) (count_new q b slots f) ∙ more_swap (q a) (q b) (count q slots)

module _ {A : Type 0} (name : A → List ℕ) where
  -- all but that of a name
  abbrev pub others : (A → Bool) → List ℕ → A → Bool
  others q x a = q a && not (same (name a) x)

  pub count_others : (q : A → Bool) (x : List ℕ) (slots : List (Option A)) → has name x slots ≡ false → count (others q x) slots ≡ count q slots
  count_others q x [] h = refl
  count_others q x (none ∷ slots) h = count_others q x slots h
  count_others q x (some a ∷ slots) h =
      ap₂ (λ t n. more (q a && not t) n) (or_false_left (same (name a) x) (has name x slots) h)
      (count_others q x slots (or_false_right (same (name a) x) (has name x slots) h))
      ∙ ap (λ t. more t (count q slots)) (and-true (q a))

  -- a thing in the place of that of its name
  pub count_again : (q : A → Bool) (b : A) (slots : List (Option A)) → distinct name slots ≡ true → has name (name b) slots ≡ true
      → count q (replaced (holds name (name b)) (some b) slots) ≡ more (q b) (count (others q (name b)) slots)
  unfolding replaced
  count_again q b [] d h = absurd (true≢false (sym h))
  count_again q b (none ∷ slots) d h = count_again q b slots d h
  count_again q b (some a ∷ slots) d h = by (same (name a) (name b)) refl h (count_again q b slots (rest_distinct name (some a) slots d))
    where
      by : (t : Bool) → same (name a) (name b) ≡ t → t || has name (name b) slots ≡ true
          → (has name (name b) slots ≡ true → count q (replaced (holds name (name b)) (some b) slots) ≡ more (q b) (count (others q (name b)) slots))
          → count q (cond t (some b ∷ slots) (some a ∷ replaced (holds name (name b)) (some b) slots))
          ≡ more (q b) (more (q a && not t) (count (others q (name b)) slots))
      by true e k go =
          ap (more (q b))
          (sym (ap₂ more (and_false (q a)) (count_others q (name b) slots (first_alone name a (name b) slots d e))))
      by false e k go =
          ap (more (q a)) (go k) ∙ more_swap (q a) (q b) (count (others q (name b)) slots)
          ∙ ap (λ t. more (q b) (more t (count (others q (name b)) slots))) (sym (and-true (q a)))

  -- a place freed
  pub count_freed : (q : A → Bool) (x : List ℕ) (slots : List (Option A)) → distinct name slots ≡ true
      → count q (replaced (holds name x) none slots) ≡ count (others q x) slots
  unfolding replaced
  count_freed q x [] d = refl
  count_freed q x (none ∷ slots) d = count_freed q x slots d
  count_freed q x (some a ∷ slots) d = by (same (name a) x) refl (count_freed q x slots (rest_distinct name (some a) slots d))
    where
      by : (t : Bool) → same (name a) x ≡ t → count q (replaced (holds name x) none slots) ≡ count (others q x) slots
          → count q (cond t (none ∷ slots) (some a ∷ replaced (holds name x) none slots)) ≡ more (q a && not t) (count (others q x) slots)
      by true e go = sym (ap₂ more (and_false (q a)) (count_others q x slots (first_alone name a x slots d e)))
      by false e go = ap₂ more (sym (and-true (q a))) go

  -- counted by their names: another thing of the same name counts as much
  pub count_named : (q : List ℕ → Bool) (b : A) (slots : List (Option A))
      → count (λ a. q (name a)) (replaced (holds name (name b)) (some b) slots) ≡ count (λ a. q (name a)) slots
  unfolding replaced
  count_named q b [] = refl
  count_named q b (none ∷ slots) = count_named q b slots
  count_named q b (some a ∷ slots) =
      cond_case (λ z. count (λ a. q (name a)) z ≡ more (q (name a)) (count (λ a. q (name a)) slots)) (same (name a) (name b))
      (λ e. ap (λ x. more (q x) (count (λ a. q (name a)) slots)) (sym (same_eq (name a) (name b) e)))
      (λ e. ap (more (q (name a))) (count_named q b slots))

-- a change of every slot that frees some of them
pub count_kept : {A : Type 0} (f : Option A → Option A) (r : A → Bool) → f none ≡ none → ((a : A) → f (some a) ≡ cond (r a) none (some a))
    → (q : A → Bool) (slots : List (Option A)) → count q (map f slots) ≡ count (λ a. q a && not (r a)) slots
count_kept f r nothing frees q [] = refl
count_kept f r nothing frees q (none ∷ slots) = ap (λ z. count q (z ∷ map f slots)) nothing ∙ count_kept f r nothing frees q slots
count_kept {A} f r nothing frees q (some a ∷ slots) =
    ap (λ z. count q (z ∷ map f slots)) (frees a) ∙ by (r a) (count_kept f r nothing frees q slots)
  where
    by : (t : Bool) → count q (map f slots) ≡ count (λ a. q a && not (r a)) slots
        → count q (cond t none (some a) ∷ map f slots) ≡ more (q a && not t) (count (λ a. q a && not (r a)) slots)
    by true go = go ∙ sym (ap (λ t. more t (count (λ a. q a && not (r a)) slots)) (and_false (q a)))
    by false go = ap₂ more (sym (and-true (q a))) go
