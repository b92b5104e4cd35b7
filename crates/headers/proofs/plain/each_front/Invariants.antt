use lib.ListN.{drop}
use Rattle.headers.specs.Stretches.{span}
use Prim.Native.Nat.{◌+◌}
use mathlib.Core.Path.{◌≡◌}
use Rattle.headers.proofs.plain.each_front.Given as goal

abbrev pub invariant-loop-i : goal.invariant-loop-i
invariant-loop-i g l = let p = g.T.OctetTest.test l.test in l.i + span p (drop l.i l.s) ≡ span p l.s
