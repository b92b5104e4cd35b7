use Rattle.headers.specs.Stretches.{span}
use Rattle.frames.specs.Scanning.{not_zero}
use Prim.Native.Nat.{◌+◌, ◌*◌}
use lib.ListN.{drop}
use mathlib.Core.Path.{◌≡◌}
use Rattle.frames.proofs.ahead.clear_blocks.Given as goal

abbrev pub invariant-loop-k : goal.invariant-loop-k
invariant-loop-k g l =
    l.from + l.k * g.row.SIZE + span not_zero (drop (l.from + l.k * g.row.SIZE) l.s) ≡ l.from + span not_zero (drop l.from l.s)
