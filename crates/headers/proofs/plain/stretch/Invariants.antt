use Rattle.headers.specs.Stretches.{span, not_back}
use Prim.Native.Nat.{◌+◌}
use lib.ListN.{drop}
use mathlib.Core.Path.{◌≡◌}
use Rattle.headers.proofs.plain.stretch.Given as goal

abbrev pub invariant-loop-i : goal.invariant-loop-i
invariant-loop-i l = l.i + span not_back (drop l.i l.s) ≡ span not_back l.s
