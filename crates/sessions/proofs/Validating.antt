-- The test of a record of deliveries, part by part, as the code has the parts. Assumes nothing.
use Rattle.std.proofs.Common.{◌≡◌, ℕ, ◌-◌, ◌*◌, ◌≤◌, Bool, true, false, not, ◌&&◌, ◌||◌, eqb, List, length, get_or, take, drop, sym, ap, ◌∙◌, ap₂}
use native.Mathlib.Nat.{sub-zero}
use lib.ListN.{get_or-eq_default}
use Rattle.stores.specs.Places.{is_zero}
use Rattle.sessions.specs.Stores.{valid_store}
use Rattle.sessions.specs.Deliveries.{auto_mode, some_lengths, acknowledging, valid_labels, valid_deliveries}
use Rattle.sessions.specs.Sessions.{open_phase, valid_numbers, valid_ids, is_valid}
use Rattle.sessions.specs.declared.session.Session.{Session}
use Rattle.stores.proofs.Walking.{part_from, part_drop}

-- ---- tests in turn

pub no_first : (a b : Bool) → a ≡ false → false ≡ a && b
no_first a b e = sym (ap (◌&& b) e)

pub yes_first : (a b : Bool) → a ≡ true → b ≡ a && b
yes_first a b e = sym (ap (◌&& b) e)

-- a whole record: its numbers, its ids, its deliveries
pub whole_valid : (s : Session) (n i d : Bool) → n ≡ valid_numbers s → i ≡ valid_ids s
    → d ≡ valid_deliveries s.subscriptions s.deliveries
    → n && (i && (d && (eqb s.phase open_phase || eqb s.deliveries.count 0))) ≡ is_valid s
unfolding is_valid
whole_valid s n i d a b c = ap₂ (λ x y. x && (y && (d && (eqb s.phase open_phase || eqb s.deliveries.count 0)))) a b
    ∙ ap (λ z. valid_numbers s && (valid_ids s && (z && (eqb s.phase open_phase || eqb s.deliveries.count 0)))) c

-- ---- a place that is none

pub no_lens : (ls ms : List ℕ) (p : ℕ) → length ls ≤ p → false ≡ acknowledging ls ms p
no_lens ls ms p h = sym (ap (λ z. not (eqb z 0) && not (eqb (get_or ms p auto_mode) auto_mode)) (get_or-eq_default ls 0 h))

-- ---- parts of the arrays

pub front_same : (n : ℕ) (xs : List ℕ) → take (n - 0) (drop 0 xs) ≡ take n xs
front_same n xs = ap (λ z. take z xs) (sub-zero n)

module _ (n : ℕ) (labels lens : List ℕ) where
  abbrev pub store_part : Bool
  store_part = valid_store 32 (take (n * 32 - 0) (drop 0 labels)) (take (n - 0) (drop 0 lens))

  abbrev pub some_part : Bool
  some_part = some_lengths (take (n - 0) (drop 0 lens))

  pub labels_parts : valid_labels n labels lens ≡ store_part && (some_part && (is_zero (part_from (n * 32) labels) && is_zero (part_from n lens)))
  labels_parts =
      ap₂ (λ a b. valid_store 32 a b && (some_lengths b && (is_zero (drop (n * 32) labels) && is_zero (drop n lens)))) (sym (front_same (n * 32) labels))
      (sym (front_same n lens))
      ∙ ap₂ (λ a b. store_part && (some_part && (is_zero a && is_zero b))) (sym (part_drop (n * 32) labels)) (sym (part_drop n lens))

  pub labels_one : store_part ≡ false → false ≡ valid_labels n labels lens
  labels_one a = no_first _ _ a ∙ sym labels_parts

  pub labels_two : store_part ≡ true → some_part ≡ false → false ≡ valid_labels n labels lens
  labels_two a b = no_first _ _ b ∙ yes_first _ _ a ∙ sym labels_parts

  pub labels_three : store_part ≡ true → some_part ≡ true → is_zero (part_from (n * 32) labels) ≡ false → false ≡ valid_labels n labels lens
  labels_three a b c = no_first _ _ c ∙ yes_first _ _ b ∙ yes_first _ _ a ∙ sym labels_parts

  pub labels_four : store_part ≡ true → some_part ≡ true → is_zero (part_from (n * 32) labels) ≡ true → is_zero (part_from n lens) ≡ valid_labels n labels lens
  labels_four a b c = yes_first _ _ c ∙ yes_first _ _ b ∙ yes_first _ _ a ∙ sym labels_parts
