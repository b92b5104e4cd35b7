-- A text in a place: its octets, and 0 after it. Assumes nothing.
--     padded_long, padded_at, padded_take, filled_all   the octets of a place
--     zeros, zeros_zero                                 a row of zeros
--     put_placed                                        what a store holds when one of its places is filled
use mathlib.Core.Path.{◌≡◌, refl, sym, ap, ap₂, ◌∙◌}
use mathlib.Core.Bool.{true}
use mathlib.Core.List.{List, [], ◌∷◌, ◌++◌}
use Prim.Native.Nat.{ℕ, zero, suc, ◌+◌, ◌-◌, ◌≤◌}
use native.Mathlib.Omega.{arith}
use lib.Dec.{eqb}
use lib.ListN.{length, take, drop, get_or, replicate, length-append, length-replicate, length-drop, take-append-drop}
use lib.Seq.{drop-drop, take_all, take-take, length-take-le}
use borrow.Author.Tests.{eqb-true}
use borrow.Rule.Slice.PartMut.{put_mid, mid_of, mid_len}
use Rattle.headers.proofs.Rows.{and_left, and_right, every_replicate}
use Rattle.stores.specs.Places.{is_zero, padded, filled}

pub padded_long : (w : ℕ) (x : List ℕ) → length x ≤ w → length (padded w x) ≡ w
padded_long w x h = simp (length-append, length-replicate) (omega arith)

-- a text that the place holds is all in it
pub filled_all : (w : ℕ) (x : List ℕ) → length x ≤ w → filled w x ≡ padded w x
filled_all w x h = take_all w (padded w x) (omega (arith, padded_long w x h))

-- past the end of a row counts as 0
zeros_at : (n i : ℕ) → ◌≡◌ {A = ℕ} (get_or (replicate n 0) i 0) 0
zeros_at zero i = refl
zeros_at (suc n) zero = refl
zeros_at (suc n) (suc i) = zeros_at n i

pub padded_at : (x : List ℕ) (n i : ℕ) → get_or (x ++ replicate n 0) i 0 ≡ get_or x i 0
padded_at [] n i = zeros_at n i
padded_at (a ∷ x) n zero = refl
padded_at (a ∷ x) n (suc i) = padded_at x n i

-- a row of zeros
pub zeros : (s : List ℕ) → is_zero s ≡ true → s ≡ replicate (length s) 0
zeros [] h = refl
zeros (x ∷ s) h = ap₂ (◌∷◌) (eqb-true x 0 (and_left (eqb x 0) (is_zero s) h)) (zeros s (and_right (eqb x 0) (is_zero s) h))

pub zeros_zero : (n : ℕ) → is_zero (replicate n 0) ≡ true
zeros_zero n = every_replicate (λ y. eqb y 0) n 0 refl

-- a front of l octets with only 0 after it up to w
pub padded_take : (w l : ℕ) (s : List ℕ) → l ≤ w → w ≤ length s → is_zero (drop l (take w s)) ≡ true → padded w (take l s) ≡ take w s
padded_take w l s h k z =
    let long : length (take l s) ≡ l = length-take-le l s (omega arith) in
    let rest : length (drop l (take w s)) ≡ w - l = length-drop l (take w s) ∙ ap (◌- l) (length-take-le w s k) in
    ap (λ m. take l s ++ replicate m 0) (ap (w -◌) long ∙ sym rest)
    ∙ ap₂ (◌++◌) (sym (take-take l w s h)) (sym (zeros (drop l (take w s)) z))
    ∙ take-append-drop l (take w s)

pub put_placed : (w at : ℕ) (s ys x : List ℕ) → at + w ≤ length s → length x ≤ w → ys ≡ filled (length (mid_of at (at + w - at) s)) x
    → put_mid at (at + w - at) s ys ≡ take at s ++ (padded w x ++ drop (at + w) s)
put_placed w at s ys x h short is =
    let e : at + w - at ≡ w = omega arith in
    let long : length (mid_of at (at + w - at) s) ≡ w = mid_len at (at + w) s h ∙ e in
    ap (λ z. take at s ++ (ys ++ drop z (drop at s))) e
    ∙ ap (λ z. take at s ++ (ys ++ z)) (drop-drop w at s)
    ∙ ap (λ z. take at s ++ (z ++ drop (at + w) s)) (is ∙ ap (λ z. filled z x) long ∙ filled_all w x short)
