-- Laws of a port in its slot, by the code's parts. Assumes nothing.
--     port_free, port_bad, port_rest      the test of a slot
--     port_put                            a port laid out part by part
--     without_long                        a slot freed
use mathlib.Core.Path.{◌≡◌, refl, sym, ap, ap₂, ◌∙◌}
use mathlib.Core.Bool.{Bool, true, false, cond, ◌&&◌}
use mathlib.Core.List.{List, [], ◌++◌, append-nil, append_assoc}
use mathlib.Core.Option.{some}
use Prim.Native.Nat.{ℕ, ◌+◌, ◌-◌, ◌≤◌}
use native.Mathlib.Omega.{arith}
use lib.ListN.{length, take, drop, get_or, length-append, length-drop, length-take, drop_of_length-le}
use lib.Seq.{take_at, drop_at, drop-drop}
use borrow.Rule.Slice.PartMut.{put_mid, mid_of}
use borrow.Author.Tests.{eq-eqb, ne_eqb}
use Rattle.headers.proofs.Rows.{cond_case}
use Rattle.headers.specs.Numbers.{numeral}
use Rattle.headers.proofs.Numerals.{length_numeral}
use Rattle.stores.specs.Places.{is_zero}
use Rattle.stores.proofs.Filling.{padded_long}
use Rattle.registry.specs.Records.{text_field, port_size, port_record}
use Rattle.registry.specs.Tests.{is_field, is_port, row_of, row_without}

-- ---- the test of a slot

module _ (xs : List ℕ) where
  pub port_free : get_or xs 0 0 ≡ 0 → (t : Bool) → t ≡ is_zero xs → t ≡ is_port xs
  unfolding is_port
  port_free e t is = is ∙ sym (ap (λ z. cond z (is_zero xs) (is_field (take 33 xs) && is_field (take 65 (drop 33 xs)))) (eq-eqb (get_or xs 0 0) 0 e))

  module _ (used : get_or xs 0 0 ≡ 0 → ⊥) where
    parts_of : is_port xs ≡ (is_field (take 33 xs) && is_field (take 65 (drop 33 xs)))
    unfolding is_port
    parts_of = ap (λ z. cond z (is_zero xs) (is_field (take 33 xs) && is_field (take 65 (drop 33 xs)))) (ne_eqb (get_or xs 0 0) 0 used)

    pub port_bad : is_field (take 33 xs) ≡ false → false ≡ is_port xs
    port_bad e = sym (parts_of ∙ ap (◌&& is_field (take 65 (drop 33 xs))) e)

    pub port_rest : is_field (take 33 xs) ≡ true → (t : Bool) → t ≡ is_field (take 65 (drop 33 xs)) → t ≡ is_port xs
    port_rest e t is = is ∙ sym (parts_of ∙ ap (◌&& is_field (take 65 (drop 33 xs))) e)

-- ---- a row whose parts are written one by one

-- the row with a part written over
abbrev put : ℕ → ℕ → List ℕ → List ℕ → List ℕ
put a e xs ys = put_mid a (e - a) xs ys

-- three parts of 33, 65 and 8 octets, in this order
module _ (xs a b n : List ℕ) (long : length xs ≡ 106) (la : length a ≡ 33) (lb : length b ≡ 65) (ln : length n ≡ 8) where
  first : put 0 33 xs a ≡ a ++ drop 33 xs
  first = refl

  second : put 33 98 (a ++ drop 33 xs) b ≡ a ++ (b ++ drop 98 xs)
  second =
      ap₂ (λ p q. p ++ (b ++ drop 65 q)) (take_at a (drop 33 xs) 33 la) (drop_at a (drop 33 xs) 33 la)
      ∙ ap (λ q. a ++ (b ++ q)) (drop-drop 65 33 xs)

  pub parts_put : put 98 106 (put 33 98 (put 0 33 xs a) b) n ≡ a ++ (b ++ n)
  parts_put =
      let ab : length (a ++ b) ≡ 98 = length-append a b ∙ omega arith in
      let two : put 33 98 (put 0 33 xs a) b ≡ (a ++ b) ++ drop 98 xs = second ∙ sym (append_assoc a b (drop 98 xs)) in
      let none : drop 8 (drop 98 xs) ≡ [] = drop_of_length-le (drop 98 xs) {i = 8} (simp length-drop (omega arith)) in
      ap (λ z. put 98 106 z n) two
      ∙ ap₂ (λ p q. p ++ (n ++ drop 8 q)) (take_at (a ++ b) (drop 98 xs) 98 ab) (drop_at (a ++ b) (drop 98 xs) 98 ab)
      ∙ ap (λ q. (a ++ b) ++ (n ++ q)) none
      ∙ ap ((a ++ b) ++◌) (append-nil n) ∙ append_assoc a b n

text_long : (w : ℕ) (x : List ℕ) → length x ≤ w → length (text_field w x) ≡ w + 1
text_long w x h = omega (arith, padded_long w x h)

-- what the callees wrote, each into its part
pub port_put : (xs d t a b n : List ℕ) (s : ℕ) → length xs ≡ port_size → length d ≤ 32 → length t ≤ 64
    → a ≡ text_field (length (mid_of 0 33 xs) - 1) d
    → b ≡ text_field (length (mid_of 33 65 (put 0 33 xs a)) - 1) t
    → n ≡ numeral 256 8 s
    → put 98 106 (put 33 98 (put 0 33 xs a) b) n ≡ port_record (some (record { destination = d; text = t; session = s }))
unfolding port_record
port_put xs d t a b n s long hd ht ea eb en =
    let wa : length (mid_of 0 33 xs) - 1 ≡ 32 = simp length-take (omega arith) in
    let fa : a ≡ text_field 32 d = ea ∙ ap (λ w. text_field w d) wa in
    let la : length a ≡ 33 = ap length fa ∙ text_long 32 d hd in
    let l1 : length (put 0 33 xs a) ≡ 106 = simp (length-append, length-drop) (omega arith) in
    let wb : length (mid_of 33 65 (put 0 33 xs a)) - 1 ≡ 64 = simp (length-take, length-drop, length-append) (omega arith) in
    let fb : b ≡ text_field 64 t = eb ∙ ap (λ w. text_field w t) wb in
    let lb : length b ≡ 65 = ap length fb ∙ text_long 64 t ht in
    let two : put 33 98 (put 0 33 xs a) b ≡ a ++ (b ++ drop 98 xs) = second xs a b (numeral 256 8 s) long la lb (length_numeral 256 8 s) in
    parts_put xs a b n long la lb (ap length en ∙ length_numeral 256 8 s)
    ∙ ap₂ (λ p q. p ++ q) fa (ap₂ (λ p q. p ++ q) fb en)

-- ---- a slot freed

pub without_long : (s : ℕ) (xs : List ℕ) → length xs ≡ port_size → length (row_without s xs) ≡ port_size
without_long s xs long = cond_case (λ z. length z ≡ port_size) (row_of s xs) (λ e. refl) (λ e. long)
