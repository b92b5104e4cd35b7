-- `write_decimal` meets its contract: the answer goes by whether the shortest decimal's length fits, and the digits put are that
-- decimal. Assumes nothing.
use Prim.Native.Nat.{ℕ, ◌≤◌, ◌<◌}
use native.Mathlib.Omega.{arith}
use lib.ListN.{length, drop}
use mathlib.Core.List.{List, [], ◌∷◌, ◌++◌}
use mathlib.Core.Path.{◌≡◌, refl, ap, ◌∙◌}
use borrow.Author.Tests.{lt-ltb, le-ltb}
use Rattle.headers.specs.Numbers.{digits, shortest}
use Rattle.headers.specs.Answers.{accepted, refused, left_in, decimal_answer}
use Rattle.headers.proofs.Decimals.{digits_shortest}
use Rattle.headers.proofs.decimal.write_decimal.Goals as goal

no_room : (n : ℕ) (d : List ℕ) → length d < length (shortest n)
    → (refused 56 ≡ decimal_answer (length d) n) × (d ≡ left_in (decimal_answer (length d) n) (shortest n) d)
unfolding decimal_answer
no_room n d h = rw (lt-ltb (length d) (length (shortest n)) h) (refl, refl)

room : (n k : ℕ) (d d' : List ℕ) → k ≡ length (shortest n) → k ≤ length d → d' ≡ digits k n ++ drop k d
    → (accepted (k ∷ []) ≡ decimal_answer (length d) n) × (d' ≡ left_in (decimal_answer (length d) n) (shortest n) d)
unfolding decimal_answer
room n k d d' e h w =
    rw (le-ltb (length d) (length (shortest n)) (omega arith))
    (ap (λ z. accepted (z ∷ [])) e, w ∙ ap (λ z. z ++ drop k d) (digits_shortest k n e) ∙ ap (λ z. shortest n ++ drop z d) e)

pub returns-then-d-k : goal.returns-then-d-k
returns-then-d-k c = no_room _ _ (omega (arith, c.decimal_length-k.ensures))

pub returns : goal.returns
returns c =
    room _ _ _ _ c.decimal_length-k.ensures c.if-d-k.false c.put_digits.ensures
