-- Steps of a walk over rows of one size. Assumes nothing.
--     parts_first, parts_at, parts_end      what is left of the rows
--     apart_free, apart_next, listed_next   a test for distinct rows, one row on
--     each_next                             a test of every row
use mathlib.Core.Path.{◌≡◌, sym, ap, ap₂, ◌∙◌}
use mathlib.Core.Bool.{Bool, ◌&&◌, ◌||◌, not}
use mathlib.Core.List.{List, [], ◌∷◌}
use Prim.Native.Nat.{ℕ, suc, ◌+◌, ◌-◌, ◌*◌, ◌≤◌, ◌<◌}
use native.Mathlib.Nat.{sub-zero, zero-mul}
use native.Mathlib.Omega.{arith}
use lib.ListN.{length, take, drop, get_or, length-drop, length-take}
use lib.Seq.{drop-drop, take-take, get_or-drop, get_or-take}
use borrow.Author.Tests.{eq-eqb, ne_eqb}
use Rattle.headers.specs.Rows.{any, every, same}
use Rattle.stores.proofs.Walking.{after_row, row_room as room_in}
use Rattle.registry.specs.Records.{parts}
use Rattle.registry.specs.Tests.{Rows, begins_with, are_apart}

-- the row from a to e, as the code takes it
abbrev pub row_at : ℕ → ℕ → List ℕ → List ℕ
row_at a e xs = take (e - a) (drop a xs)

-- all rows are left at first
pub parts_first : (w n : ℕ) (xs : List ℕ) → parts w n xs ≡ parts w (n - 0) (drop (0 * w) xs)
parts_first w n xs = ap₂ (λ m i. parts w m (drop i xs)) (sym (sub-zero n)) (sym (zero-mul w))

module _ {w n k : ℕ} {xs : List ℕ} (r : Rows w n xs) where
  pub parts_end : n ≤ k → parts w (n - k) (drop (k * w) xs) ≡ []
  parts_end h = let none : n - k ≡ 0 = omega arith in ap (λ m. parts w m (drop (k * w) xs)) none

  module _ (more : k < n) where
    pub row_room : k * w + w ≤ length xs
    row_room = room_in w n k xs r.long more

    pub row_long : length (row_at (k * w) (k * w + w) xs) ≡ w
    row_long = simp (length-take, length-drop) (omega (arith, row_room))

    pub row_some : 0 < length (row_at (k * w) (k * w + w) xs)
    row_some = omega (arith, row_long, r.some_octet)

    abbrev pub later : List (List ℕ)
    later = parts w (n - (k + 1)) (drop ((k + 1) * w) xs)

    pub parts_at : parts w (n - k) (drop (k * w) xs) ≡ row_at (k * w) (k * w + w) xs ∷ later
    parts_at =
        let one : n - k ≡ suc (n - (k + 1)) = omega arith in
        let wide : w ≡ k * w + w - k * w = omega arith in
        ap (λ m. parts w m (drop (k * w) xs)) one
        ∙ ap₂ (λ m z. take m (drop (k * w) xs) ∷ parts w (n - (k + 1)) z) wide (drop-drop w (k * w) xs ∙ ap (λ i. drop i xs) (after_row w k))

    row_first : get_or (row_at (k * w) (k * w + w) xs) 0 0 ≡ get_or xs (k * w) 0
    row_first =
        let wide : 0 < k * w + w - k * w = omega (arith, r.some_octet) in
        let at_first : k * w + 0 ≡ k * w = omega arith in
        get_or-take (k * w + w - k * w) (drop (k * w) xs) 0 0 wide ∙ get_or-drop (k * w) xs 0 0 ∙ ap (λ i. get_or xs i 0) at_first

    -- the field that the row begins with, as the code takes it
    row_front : 33 ≤ w → row_at (k * w) (k * w + 33) xs ≡ take 33 (row_at (k * w) (k * w + w) xs)
    row_front h =
        let wide : k * w + w - k * w ≡ w = omega arith in
        let short : k * w + 33 - k * w ≡ 33 = omega arith in
        ap (λ m. take m (drop (k * w) xs)) short ∙ sym (ap (λ m. take 33 (take m (drop (k * w) xs))) wide ∙ take-take 33 w (drop (k * w) xs) h)

    -- a free row
    pub apart_free : get_or xs (k * w) 0 ≡ 0 → are_apart (parts w (n - k) (drop (k * w) xs)) ≡ are_apart later
    unfolding are_apart
    apart_free e = ap are_apart parts_at ∙ rw (eq-eqb (get_or (row_at (k * w) (k * w + w) xs) 0 0) 0 (row_first ∙ e))

    -- a row whose field was looked for after it
    pub apart_next : 33 ≤ w → (get_or xs (k * w) 0 ≡ 0 → ⊥) → (found : Bool) → found ≡ any (begins_with (row_at (k * w) (k * w + 33) xs)) later
        → are_apart (parts w (n - k) (drop (k * w) xs)) ≡ not found && are_apart later
    unfolding are_apart
    apart_next h e found is =
        ap are_apart parts_at
        ∙ ap (λ t. (t || not (any (begins_with (take 33 (row_at (k * w) (k * w + w) xs))) later)) && are_apart later)
        (ne_eqb (get_or (row_at (k * w) (k * w + w) xs) 0 0) 0 (λ z. e (sym row_first ∙ z)))
        ∙ ap (λ t. not t && are_apart later) (sym (is ∙ ap (λ f. any (begins_with f) later) (row_front h)))

    -- a row that was looked at for a field
    pub listed_next : 33 ≤ w → (field : List ℕ) (t : Bool) → t ≡ same (row_at (k * w) (k * w + 33) xs) field
        → any (begins_with field) (parts w (n - k) (drop (k * w) xs)) ≡ t || any (begins_with field) later
    listed_next h field t is =
        ap (any (begins_with field)) parts_at
        ∙ ap (◌|| any (begins_with field) later) (sym (is ∙ ap (λ z. same z field) (row_front h)))

    -- a row that was tested
    pub each_next : (q : List ℕ → Bool) (t : Bool) → t ≡ q (row_at (k * w) (k * w + w) xs)
        → every q (parts w (n - k) (drop (k * w) xs)) ≡ t && every q later
    each_next q t is = ap (every q) parts_at ∙ ap (◌&& every q later) (sym is)
