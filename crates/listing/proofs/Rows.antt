-- Numbers in a row, and a decimal with an octet behind it: laws. Assumes nothing.
use mathlib.Core.Path.{◌≡◌, refl, sym, ◌∙◌, ap}
use mathlib.Core.Bool.{Bool, true, false, cond}
use mathlib.Core.List.{List, [], ◌∷◌, ◌++◌, append_assoc, append-nil}
use Prim.Native.Nat.{ℕ, suc, ◌+◌, ◌-◌, ◌≤◌, ◌<◌}
use native.Mathlib.Omega.{arith}
use native.Mathlib.Numerals.{add-one}
use lib.ListN.{length, drop, get_or, set, drop_of_length-le, length-drop, length-take, length-append}
use lib.Seq.{drop-cons}
use lib.Dec.{ltb}
use borrow.Author.Tests.{lt-ltb, le-ltb, ltb-true, ltb-false}
use Rattle.headers.specs.Numbers.{shortest}
use Rattle.headers.specs.Answers.{left_in, decimal_answer}
use borrow.Rule.Slice.PartMut.{mid_of, put_mid}
use Rattle.headers.proofs.Put.{store_grow, put_grow}
use Rattle.headers.proofs.Rows.{cond_case}
use Rattle.headers.proofs.Settling.{decimal_put}
use Rattle.listing.specs.Lines.{numbers, behind_at, line_used, line_left}

-- a row of numbers, one number on
numbers_cons : (n : ℕ) (ms : List ℕ) → numbers (n ∷ ms) ≡ (shortest n ++ (cond (ltb 0 (length ms)) 32 10 ∷ [])) ++ numbers ms
numbers_cons n [] = sym (append-nil (shortest n ++ (10 ∷ [])))
numbers_cons n (m ∷ ms) = rw (lt-ltb 0 (suc (length ms)) (omega arith)) (sym (append_assoc (shortest n) (32 ∷ []) (numbers (m ∷ ms))))

pub numbers_step : (ns : List ℕ) (i : ℕ) → i < length ns → numbers (drop i ns) ≡ (shortest (get_or ns i 0) ++ (behind_at i (length ns) ∷ [])) ++ numbers (drop (i + 1) ns)
numbers_step ns i h =
    ap numbers (drop-cons ns i 0 h) ∙ numbers_cons (get_or ns i 0) (drop (suc i) ns)
    ∙ ap (λ b. (shortest (get_or ns i 0) ++ (cond b 32 10 ∷ [])) ++ numbers (drop (suc i) ns)) (last (ltb (i + 1) (length ns)) refl)
    ∙ ap (λ k. (shortest (get_or ns i 0) ++ (behind_at i (length ns) ∷ [])) ++ numbers (drop k ns)) (sym (add-one i))
  where
    last : (t : Bool) → ltb (i + 1) (length ns) ≡ t → ltb 0 (length (drop (suc i) ns)) ≡ ltb (i + 1) (length ns)
    last true e = lt-ltb 0 (length (drop (suc i) ns)) (omega (arith, length-drop (suc i) ns, ltb-true (i + 1) (length ns) e)) ∙ sym e
    last false e = le-ltb 0 (length (drop (suc i) ns)) (omega (arith, length-drop (suc i) ns, ltb-false (i + 1) (length ns) e)) ∙ sym e

pub numbers_end : (ns : List ℕ) (i : ℕ) → length ns ≤ i → numbers (drop i ns) ≡ []
numbers_end ns i h = rw (drop_of_length-le ns h)

-- what write_decimal leaves where a decimal has room, and a store behind it
pub decimal_behind : (d d' : List ℕ) (n : ℕ) → length (shortest n) < length d → d' ≡ left_in (decimal_answer (length d) n) (shortest n) d
    → (k x : ℕ) → k ≡ length (shortest n) → set d' k x ≡ (shortest n ++ (x ∷ [])) ++ drop (k + 1) d
decimal_behind d d' n fits w k x e =
    store_grow d d' (shortest n) k x (decimal_put d d' n (omega arith) w ∙ ap (λ z. shortest n ++ drop z d) (sym e)) (sym e) (omega arith)

-- a line that is written has room
pub line_fits : (d d' l : List ℕ) → d' ≡ line_left d l → length d' ≡ length d → line_used (length d) l ≤ length d
line_fits d d' l e same =
    cond_case (λ k. k ≤ length d) (ltb (length d) 160) (λ h. omega arith)
    λ h. let z : line_left d l ≡ l ++ drop (length l) d = rw h refl in omega (arith, ap length (e ∙ z), length-append l (drop (length l) d))

-- S written at the front of d, and R by a callee behind it
pub put_both : (d l ys S R : List ℕ) (k r : ℕ) → k ≡ length S → r ≡ length R → l ≡ S ++ drop k d → length ys ≡ length (mid_of k (length l - k) l) → k ≤ length d
    → ys ≡ R ++ drop r (mid_of k (length l - k) l) → (k + r ≡ length (S ++ R)) × (put_mid k (length l - k) l ys ≡ (S ++ R) ++ drop (length (S ++ R)) d) × (k + r ≤ length d)
put_both d l ys S R k r ek er el kept fits is =
    let whole : k + r ≡ length (S ++ R) = simp length-append (omega arith) in
    let same : length l ≡ length d = ap length el ∙ simp (length-append, length-drop) (omega arith) in
    let mid : length (mid_of k (length l - k) l) ≡ length d - k = simp (length-take, length-drop) (omega arith) in
    let room : k + r ≤ length d = omega (arith, simp length-append at (ap length is)) in
    (whole, put_grow d l S R ys k r el (sym ek) (sym er) room is ∙ ap (λ z. (S ++ R) ++ drop z d) whole, room)
