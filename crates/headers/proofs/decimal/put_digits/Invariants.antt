use Prim.Native.Nat.{◌≤◌}
use mathlib.Core.List.{◌++◌}
use mathlib.Core.Path.{◌≡◌}
use lib.ListN.{length, drop}
use Rattle.headers.specs.Numbers.{digits}
use Rattle.headers.proofs.decimal.put_digits.Given as goal

abbrev pub invariant-loop-i : goal.invariant-loop-i
invariant-loop-i l = (l.i ≤ length l.d) × (length l.d ≡ length l.initial.d) × (digits l.i l.m ++ drop l.i l.d ≡ digits l.k l.n ++ drop l.k l.initial.d)
