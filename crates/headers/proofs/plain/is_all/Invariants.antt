use mathlib.Core.Bool.{◌&&◌}
use Rattle.headers.specs.Rows.{every}
use lib.ListN.{drop}
use mathlib.Core.Path.{◌≡◌}
use Rattle.headers.proofs.plain.is_all.Given as goal

abbrev pub invariant-loop-x : goal.invariant-loop-x
invariant-loop-x g l = let p = g.T.OctetTest.test l.test in l.ok && every p (drop l.x-index l.s) ≡ every p l.s
