use Prim.Native.Nat.{◌≤◌}
use mathlib.Core.Path.{◌≡◌}
use lib.ListN.{length}
use Rattle.headers.specs.Numbers.{amount}
use Rattle.headers.proofs.Decimals.{amount_at}
use Rattle.headers.proofs.decimal.read_decimal.Given as goal

abbrev pub invariant-loop-x : goal.invariant-loop-x
invariant-loop-x l = (l.x-index ≤ length l.s) × (l.sum ≤ l.limit) × (amount l.limit l.s ≡ amount_at l.limit l.sum l.s l.x-index)
