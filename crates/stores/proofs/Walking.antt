-- A walk over n places of w octets, from the first on: it is before place k, at octet `at`. Assumes nothing.
--     drop_one, drop_take, part_from, part_drop     what is left of a row, as the code takes it
--     after_row, row_room                           row k of a store, and the store's room for it
--     Before, first_place, next_place, room         where the walk is, and the place inside the store
use mathlib.Core.Path.{◌≡◌, sym, ap, ◌∙◌}
use mathlib.Core.List.{List, [], ◌∷◌}
use Prim.Native.Nat.{ℕ, zero, suc, ◌+◌, ◌-◌, ◌*◌, ◌≤◌, ◌<◌}
use native.Mathlib.Nat.{mul-le-mul_right, suc-mul, sub-zero}
use native.Mathlib.Numerals.{add-one}
use native.Mathlib.Omega.{arith}
use lib.ListN.{length, take, drop, get_or, length-drop}
use lib.Seq.{drop-cons, take-nil, take_all, length-take-le}

-- ---- rows

-- what is left of a row, one element on
pub drop_one : {A : Type 0} (xs : List A) (k : ℕ) (d : A) → k < length xs → drop k xs ≡ get_or xs k d ∷ drop (k + 1) xs
drop_one xs k d h = drop-cons xs k d h ∙ ap (λ i. get_or xs k d ∷ drop i xs) (sym (add-one k))

-- the end of a front
pub drop_take : {A : Type 0} (l w : ℕ) (xs : List A) → drop l (take w xs) ≡ take (w - l) (drop l xs)
drop_take zero w xs = ap (λ n. take n xs) (sym (sub-zero w))
drop_take (suc l) zero xs = ap (λ n. take n (drop (suc l) xs)) {x = 0} {y = 0 - suc l} (omega arith)
drop_take (suc l) (suc w) [] = sym (take-nil (suc w - suc l))
drop_take (suc l) (suc w) (x ∷ xs) = drop_take l w xs ∙ ap (λ n. take n (drop l xs)) {x = w - l} {y = suc w - suc l} (omega arith)

-- the part from a on, as the code takes it
abbrev pub part_from : {A : Type 0} → ℕ → List A → List A
part_from a xs = take (length xs - a) (drop a xs)

pub part_drop : {A : Type 0} (a : ℕ) (xs : List A) → part_from a xs ≡ drop a xs
part_drop a xs = take_all (length xs - a) (drop a xs) (simp length-drop (omega arith))

-- a part of w elements has that length
pub part_long : {A : Type 0} (w at : ℕ) (s : List A) → at + w ≤ length s → length (take (at + w - at) (drop at s)) ≡ w
part_long w at s h = length-take-le (at + w - at) (drop at s) (simp length-drop (omega arith)) ∙ omega arith

-- ---- where the walk is

-- after a place is another, or the end
pub place_after : (w j k : ℕ) → j < k → j * w + w ≤ k * w
place_after w j k h = rw (← suc-mul j w) (mul-le-mul_right w h)

-- row k of w octets, and the next; it is inside a store of n rows
pub after_row : (w k : ℕ) → k * w + w ≡ (k + 1) * w
after_row w k = sym (ap (◌* w) (add-one k) ∙ suc-mul k w)

pub row_room : {A : Type 0} (w n k : ℕ) (s : List A) → length s ≡ n * w → k < n → k * w + w ≤ length s
row_room w n k s long more = omega (arith, place_after w k n more, long)

-- before place k of n, at octet `at`
pub record Before (w n k at : ℕ) : Type 0 where
  pub passed : k ≤ n
  pub starts : at ≡ k * w

pub first_place : (w n : ℕ) → Before w n 0 0
first_place w n = record { passed = omega arith; starts = omega arith }

module _ {w n k at : ℕ} (b : Before w n k at) (more : k < n) where
  pub next_place : Before w n (k + 1) (at + w)
  next_place = record { passed = omega (arith, more); starts = ap (◌+ w) b.starts ∙ after_row w k }

  -- the place is inside a store of n places
  pub room : {A : Type 0} (s : List A) → length s ≡ n * w → at + w ≤ length s
  room s long = omega (arith, place_after w k n more, long, b.starts)
