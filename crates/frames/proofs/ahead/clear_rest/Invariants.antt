use Rattle.headers.specs.Stretches.{span}
use Rattle.frames.specs.Scanning.{not_zero}
use Prim.Native.Nat.{◌+◌}
use lib.ListN.{drop}
use mathlib.Core.Path.{◌≡◌}
use Rattle.frames.proofs.ahead.clear_rest.Given as goal

abbrev pub invariant-loop-k : goal.invariant-loop-k
invariant-loop-k l = l.far + l.k + span not_zero (drop (l.far + l.k) l.s) ≡ l.from + span not_zero (drop l.from l.s)
