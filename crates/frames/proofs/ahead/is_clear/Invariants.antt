use mathlib.Core.Bool.{◌&&◌}
use Rattle.headers.specs.Rows.{every}
use Rattle.frames.specs.Scanning.{not_zero}
use lib.ListN.{drop}
use mathlib.Core.Path.{◌≡◌}
use Rattle.frames.proofs.ahead.is_clear.Given as goal

abbrev pub invariant-loop-x : goal.invariant-loop-x
invariant-loop-x l = l.ok && every not_zero (drop l.x-index l.s) ≡ every not_zero l.s
