-- `decimal_length` meets its contract: the greatest power of ten that a number has says how many digits it has. Assumes nothing.
use borrow.Author.Rules.{rules}
use mathlib.Core.Path.{◌≡◌, sym, ◌∙◌}
use Prim.Native.Nat.{ℕ, ◌+◌, ◌*◌, ◌^◌, ◌≤◌, ◌<◌}
use native.Mathlib.Nat.{pow-succ'}
use native.Mathlib.Omega.{arith}
use Rattle.std.specs.Prelude.{Option as Maybe, Some, None, IfSome, IfNone, MatchOption}
use Rattle.headers.specs.Numbers.{size}
use Rattle.headers.proofs.Numerals.{size_one, size_least, size_from}
use Rattle.headers.proofs.Decimals.{length_shortest}
use Rattle.headers.proofs.decimal.decimal_length.Goals as goal

sized : (o : Maybe ℕ) (n r : ℕ) (P : ℕ → Type 0) → IfNone o (n ≡ 0) → IfSome o (λ k. 10 ^ k ≤ n) → IfSome o (λ k. n < 10 * 10 ^ k)
    → MatchOption o (r ≡ 1) P → ((k : ℕ) → P k → r ≡ k + 1) → r ≡ size n
sized None n r P z p q e f = e ∙ sym (size_one n (omega arith))
sized (Some k) n r P z p q e f = omega (arith, f k e, size_from k n p, size_least k n (omega (arith, pow-succ' 10 k)))

pub returns : goal.returns
returns c =
    let e = c.checked_ilog10.ensures in
    sized c.checked_ilog10.result c.args.n c.map_or.result _ e.none e.power_le e.next_power_gt c.map_or.ensures (λ k h. search rules) ∙ sym (length_shortest c.args.n)
