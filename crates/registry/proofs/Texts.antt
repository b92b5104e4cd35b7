-- Laws of a text in a field, by the tests of the code. Assumes nothing.
use mathlib.Core.Path.{◌≡◌, refl, sym, ap, ap₂, ◌∙◌}
use mathlib.Core.Bool.{Bool, false, ◌&&◌, not}
use mathlib.Core.List.{List, [], ◌∷◌, ◌++◌, append-nil}
use Prim.Native.Nat.{ℕ, zero, suc, ◌+◌, ◌-◌, ◌/◌, ◌%◌, ◌^◌, ◌≤◌, ◌<◌}
use native.Mathlib.Omega.{arith}
use lib.ListN.{length, drop, get_or, set, drop_of_length-le}
use lib.Seq.{drop-drop}
use lib.Dec.{ltb}
use borrow.Rule.Slice.PartMut.{put_mid}
use borrow.Author.Tests.{eq-eqb, ne_eqb, lt-ltb, le-ltb}
use Rattle.std.specs.Int.{byte_at, bytes_high_first}
use Rattle.std.proofs.Math.Nat.{div-div-eq-div-mul, pow-succ'}
use Rattle.headers.specs.Numbers.{numeral}
use Rattle.stores.specs.Places.{is_zero, padded, filled}
use Rattle.stores.proofs.Filling.{padded_long, filled_all}
use Rattle.stores.proofs.Walking.{part_from, part_drop}
use Rattle.registry.specs.Records.{text_field}
use Rattle.registry.specs.Tests.{is_field}

-- ---- is a text laid out

pub field_none : (f : List ℕ) → get_or f 0 0 ≡ 0 → false ≡ is_field f
unfolding is_field
field_none f e = sym (ap (λ t. not t && (ltb (get_or f 0 0) (length f) && is_zero (drop (get_or f 0 0 + 1) f))) (eq-eqb (get_or f 0 0) 0 e))

-- n is the length that was read
module _ (f : List ℕ) (n : ℕ) (read : n ≡ get_or f 0 0) where
  pub field_free : n ≡ 0 → false ≡ is_field f
  field_free e = field_none f (sym read ∙ e)

  pub field_over : (n ≡ 0 → ⊥) → length f ≤ n → false ≡ is_field f
  unfolding is_field
  field_over used h = sym (rw (ne_eqb (get_or f 0 0) 0 (λ e. used (read ∙ e)), le-ltb (get_or f 0 0) (length f) (omega arith)))

  pub field_rest : (n ≡ 0 → ⊥) → n < length f → (t : Bool) → t ≡ is_zero (drop (get_or f 0 0) (part_from 1 f)) → t ≡ is_field f
  unfolding is_field
  field_rest used h t is =
      let one : 1 + get_or f 0 0 ≡ get_or f 0 0 + 1 = omega arith in
      is ∙ ap (λ z. is_zero (drop (get_or f 0 0) z)) (part_drop 1 f) ∙ ap is_zero (drop-drop (get_or f 0 0) 1 f) ∙ ap (λ m. is_zero (drop m f)) one
      ∙ sym (rw (ne_eqb (get_or f 0 0) 0 (λ e. used (read ∙ e)), lt-ltb (get_or f 0 0) (length f) (omega arith)))

-- ---- a text put into a field

pub put_field : (f text ys : List ℕ) (v : ℕ) → length text < length f → v ≡ length text
    → ys ≡ filled (length (part_from 1 (set f 0 v))) text → put_mid 1 (length (set f 0 v) - 1) (set f 0 v) ys ≡ text_field (length f - 1) text
put_field [] text ys v h e is = absurd (omega arith)
put_field (x ∷ f) text ys v h e is =
    let part : length (part_from 1 (v ∷ f)) ≡ length f = ap length (part_drop 1 (v ∷ f)) in
    let none : drop (length (v ∷ f) - 1) f ≡ [] = drop_of_length-le f {i = length (v ∷ f) - 1} (omega arith) in
    let room : length f ≡ length (x ∷ f) - 1 = omega arith in
    ap₂ (λ a z. a ∷ (ys ++ z)) e none
    ∙ ap (length text ∷◌) (append-nil ys ∙ is ∙ ap (λ n. filled n text) part ∙ filled_all (length f) text (omega arith) ∙ ap (λ n. padded n text) room)

pub put_field_long : (f text ys : List ℕ) (v : ℕ) → length text < length f → v ≡ length text
    → ys ≡ filled (length (part_from 1 (set f 0 v))) text → length (put_mid 1 (length (set f 0 v) - 1) (set f 0 v) ys) ≡ length f
put_field_long f text ys v h e is =
    ap length (put_field f text ys v h e is) ∙ ap suc (padded_long (length f - 1) text (omega arith)) ∙ omega arith

-- ---- a number in the octets of a field, as the library has it

bytes_turn : (k n : ℕ) → bytes_high_first (suc k) n ≡ bytes_high_first k (n / 256) ++ (n % 256 ∷ [])
bytes_turn zero n = refl
bytes_turn (suc k) n = ap₂ (◌∷◌) (byte_turn k n) (bytes_turn k n)
  where
    byte_turn : (k n : ℕ) → byte_at (suc k) n ≡ byte_at k (n / 256)
    byte_turn zero n = refl
    byte_turn (suc k) n = ap (◌% 256) (ap (n /◌) (pow-succ' 256 (suc k)) ∙ sym (div-div-eq-div-mul n 256 (256 ^ suc k)))

pub number_bytes : (w n : ℕ) → bytes_high_first w n ≡ numeral 256 w n
unfolding numeral
number_bytes zero n = refl
number_bytes (suc w) n = bytes_turn w n ∙ ap (◌++ (n % 256 ∷ [])) (number_bytes w (n / 256))
