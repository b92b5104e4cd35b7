-- Octets copied by blocks. Assumes nothing.
--     paste_block     a block more, over octets that are copied already
--     Upto, upto_..   a copy by blocks, from the first to the last
--     copied_..       what a copy leaves where it has room
--     partly_copy, partly_copied   a copy as the next of some parts, and as the first
--     partly_over     a copy as the last of them, over octets that are written already
use Prim.Native.Nat.{ℕ, ◌+◌, ◌-◌, ◌*◌, ◌/◌, ◌≤◌, ◌<◌}
use mathlib.Core.List.{List, ◌++◌, append_assoc}
use mathlib.Core.Path.{◌≡◌, refl, ap, sym, subst, ◌∙◌}
use mathlib.Core.Bool.{true, cond}
use lib.Dec.{leb}
use lib.ListN.{length, take, drop, length-append}
use lib.Seq.{take_all, take_at, paste, take-paste, drop-paste, take-add, take-take, drop-drop, take-append-le, take-append-add, length-take-le, length_paste_head, length-paste}
use native.Mathlib.Nat.{add-mul, one-mul, le-div_iff_mul-le, lt-div-mul-add}
use native.Mathlib.Omega.{arith}
use borrow.Author.Tests.{le-leb}
use Rattle.headers.specs.Rows.{copied}
use Rattle.headers.specs.Answers.{Puts}
use Rattle.headers.proofs.Put.{Partly, partly_none}

-- the octets before place i of s are copied; then w of them from place j on, which is not after i
pub paste_block : (d : List ℕ) (at : ℕ) (s : List ℕ) (i j w : ℕ) → j ≤ i → i ≤ j + w → j + w ≤ length s → at + length s ≤ length d
    → paste (paste d at s i) (at + j) (drop j s) w ≡ paste d at s (j + w)
paste_block d at s i j w ji iw ws fits =
    let X = paste d at s i in
    let m = j + w - i in
    let long : length (take at d) ≡ at = length-take-le at d (omega arith) in
    let front : take (at + j) X ≡ take at d ++ take j s =
    take-append-le (at + j) (take at d ++ take i s) (drop (at + i) d) (omega (arith, length_paste_head d at s i (omega arith) (omega arith)))
    ∙ ap (λ k. take (k + j) (take at d ++ take i s)) (sym long) ∙ take-append-add (take at d) (take i s) j
    ∙ ap (λ z. take at d ++ z) (take-take j i s ji) in
    let all : at + i + m ≡ at + (j + w) = omega arith in
    let far : at + j + w ≡ at + i + m = omega arith in
    let back : drop (at + j + w) X ≡ drop (at + (j + w)) d =
    ap (λ k. drop k X) far ∙ sym (drop-drop m (at + i) X)
    ∙ ap (drop m) (drop-paste d at s i (omega arith) (omega arith)) ∙ drop-drop m (at + i) d ∙ ap (λ k. drop k d) all in
    ap (λ z. z ++ take w (drop j s) ++ drop (at + j + w) X) front
    ∙ ap (λ z. z ++ drop (at + j + w) X) (append_assoc (take at d) (take j s) (take w (drop j s)) ∙ ap (λ z. take at d ++ z) (sym (take-add j w s)))
    ∙ ap (λ z. take at d ++ take (j + w) s ++ z) back

-- the same octets once more, and those after them
pub paste_again : (d : List ℕ) (at : ℕ) (s : List ℕ) (k n : ℕ) → k ≤ n → n ≤ length s → at + length s ≤ length d
    → paste (paste d at s k) at s n ≡ paste d at s n
paste_again d at s k n kn ns fits =
    let here : at ≡ at + 0 = omega arith in
    let none : 0 + n ≡ n = omega arith in
    ap (λ a. paste (paste d at s k) a s n) here ∙ paste_block d at s k 0 n (omega arith) (omega arith) (omega arith) fits ∙ ap (paste d at s) none

-- A copy of s to d₀ by blocks of w: octets up to place i, and perhaps some more, are copied.
pub record Upto (w : ℕ) (d₀ : List ℕ) (at : ℕ) (s d : List ℕ) (i : ℕ) : Type 0 where
  pub done : ℕ
  pub onward : i ≤ done
  pub near : done ≤ i + w
  pub most : done ≤ length s
  pub is : d ≡ paste d₀ at s done

module _ (w : ℕ) (d₀ : List ℕ) (at : ℕ) (s : List ℕ) (fits : at + length s ≤ length d₀) where
  pub upto_long : (d : List ℕ) (i : ℕ) → Upto w d₀ at s d i → length d ≡ length d₀
  upto_long d i u = ap length u.is ∙ length-paste d₀ at s u.done (omega (arith, u.most)) u.most

  -- a block more, written from place i on; the next begins in it, or where it ends
  pub upto_block : (d after : List ℕ) (i next : ℕ) → Upto w d₀ at s d i → i + w ≤ length s → after ≡ paste d (at + i) (drop i s) w
      → i ≤ next → next ≤ i + w → Upto w d₀ at s after next
  upto_block d after i next u more is on near = record {
    done = i + w;
    onward = near;
    near = omega arith;
    most = more;
    is = is ∙ ap (λ z. paste z (at + i) (drop i s) w) u.is ∙ paste_block d₀ at s u.done i w u.onward u.near more fits;
  }

  -- the last block ends with s
  pub upto_end : (d after : List ℕ) (i : ℕ) → Upto w d₀ at s d i → w ≤ length s → length s - i < w
      → after ≡ paste d (at + (length s - w)) (drop (length s - w) s) w → after ≡ paste d₀ at s (length s)
  upto_end d after i u long short is =
      let j = length s - w in
      let all : j + w ≡ length s = omega arith in
      is ∙ ap (λ z. paste z (at + j) (drop j s) w) u.is
      ∙ paste_block d₀ at s u.done j w (omega (arith, u.onward)) (omega (arith, u.most)) (omega arith) fits
      ∙ ap (paste d₀ at s) all

-- blocks of w octets: where the next begins, that a further one fits, and that none does after the last
pub block_next : (from k w : ℕ) → from + (k + 1) * w ≡ from + k * w + w
block_next from k w = omega (arith, add-mul k 1 w, one-mul w)

pub block_fits : (from k w n : ℕ) → 0 < w → k < (n - from) / w → from + k * w + w ≤ n
block_fits from k w n some h =
    let within : (k + 1) * w ≤ n - from = (le-div_iff_mul-le some).0 (omega arith) in
    omega (arith, block_next from k w)

pub blocks_end : (from k w n : ℕ) → 0 < w → k ≤ (n - from) / w → (n - from) / w ≤ k → n - (from + k * w) < w
blocks_end from k w n some h g =
    let last : (n - from) / w ≡ k = omega arith in
    let short : n - from < k * w + w = subst (λ j. n - from < j * w + w) last (lt-div-mul-add some) in
    omega arith

-- a copy where there is room
pub copied_all : (d : List ℕ) (at : ℕ) (s : List ℕ) → leb (at + length s) (length d) ≡ true → copied d at s ≡ paste d at s (length s)
copied_all d at s h = ap (λ t. cond t (paste d at s (length s)) d) h

-- a copy of the first n octets of s
pub copied_front : (d : List ℕ) (at : ℕ) (s : List ℕ) (n : ℕ) → n ≤ length s → at + n ≤ length d → copied d at (take n s) ≡ paste d at s n
copied_front d at s n short fits =
    let long : length (take n s) ≡ n = length-take-le n s short in
    copied_all d at (take n s) (le-leb (at + length (take n s)) (length d) (omega (arith, long)))
    ∙ ap (paste d at (take n s)) long ∙ ap (λ z. take at d ++ z ++ drop (at + n) d) (take-take n n s (omega arith))

-- R copied next, where some of whole is left to write
pub partly_copy : {whole todo d₀ d : List ℕ} {at : ℕ} → Partly whole todo d₀ d at → (R rest after : List ℕ) (n : ℕ) → todo ≡ R ++ rest → n ≡ length R
    → after ≡ copied d at R → Partly whole rest d₀ after (at + n)
partly_copy {whole} {todo} {d₀} {d} {at} so R rest after n next e w =
    let long : length todo ≡ length R + length rest = ap length next ∙ length-append R rest in
    let fits : at + length R ≤ length d = omega (arith, so.room, so.as_long, so.long, long) in
    let put : after ≡ paste d at R n =
    w ∙ copied_all d at R (le-leb (at + length R) (length d) fits) ∙ ap (paste d at R) (sym e) in
    let inside : at + n ≤ length d = omega (arith, fits, e) in
    let short : n ≤ length R = omega (arith, e) in
    let all : take n R ≡ R = take_all n R (omega (arith, e)) in
    let front : take (at + n) after ≡ take at d ++ R = ap (take (at + n)) put ∙ take-paste d at R n (omega (arith, inside)) short ∙ ap (take at d ++◌) all in
    record {
      room = so.room;
      as_long = ap length put ∙ length-paste d at R n inside short ∙ so.as_long;
      long = omega (arith, so.long, long, e);
      parts = ap (◌++ rest) front ∙ append_assoc (take at d) R rest ∙ ap (take at d ++◌) (sym next) ∙ so.parts;
      kept =
          ap (drop (at + n)) put ∙ drop-paste d at R n (omega (arith, inside)) short ∙ sym (drop-drop n at d) ∙ ap (drop n) so.kept ∙ drop-drop n at d₀;
    }

-- R copied to the front
pub partly_copied : (whole R rest d after : List ℕ) → length whole ≤ length d → R ++ rest ≡ whole → after ≡ copied d 0 R → Partly whole rest d after (length R)
partly_copied whole R rest d after room parts w =
    let none : 0 + length R ≡ length R = omega arith in
    subst (Partly whole rest d after) none (partly_copy (partly_none whole d room) R rest after (length R) (sym parts) refl w)

-- R copied as the end of whole, from a place that is not after what is written
pub partly_over : {whole todo d₀ d : List ℕ} {at : ℕ} → Partly whole todo d₀ d at → (P R after : List ℕ) (m : ℕ) → whole ≡ P ++ R → m ≡ length P → m ≤ at
    → after ≡ paste d m R (length R) → Puts whole (m + length R) d₀ after
partly_over {whole} {todo} {d₀} {d} {at} so P R after m split e early w =
    let long : length whole ≡ m + length R = ap length split ∙ length-append P R ∙ ap (◌+ length R) (sym e) in
    let far : m + length R ≡ at + length todo = omega (arith, long, so.long) in
    let inside : m ≤ length (take at d) = omega (arith, length-take-le at d (omega (arith, so.room, so.as_long, so.long))) in
    let front : take m d ≡ P =
    sym (take-take m at d early) ∙ sym (take-append-le m (take at d) todo inside) ∙ ap (take m) (so.parts ∙ split) ∙ take_at P R m (sym e) in
    let back : drop (m + length R) d ≡ drop (m + length R) d₀ =
    ap (λ k. drop k d) far ∙ sym (drop-drop (length todo) at d) ∙ ap (drop (length todo)) so.kept
    ∙ drop-drop (length todo) at d₀ ∙ ap (λ k. drop k d₀) (sym far) in
    let put : after ≡ P ++ R ++ drop (m + length R) d₀ =
    w ∙ ap (λ z. z ++ take (length R) R ++ drop (m + length R) d) front
    ∙ ap (λ z. P ++ z ++ drop (m + length R) d) (take_all (length R) R (omega arith)) ∙ ap (λ z. P ++ R ++ z) back in
    (sym long, put ∙ ap (λ z. z ++ drop (m + length R) d₀) (sym split) ∙ ap (λ k. whole ++ drop k d₀) (sym long))
