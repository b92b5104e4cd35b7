use lib.ListN.{length, drop}
use Rattle.headers.specs.Stretches.{span}
use Prim.Native.Nat.{◌≤◌, ◌-◌, ◌+◌}
use mathlib.Core.Path.{◌≡◌}
use Rattle.headers.proofs.plain.exact_front.Given as goal

abbrev pub invariant-loop-i : goal.invariant-loop-i
invariant-loop-i g l = let p = g.T.OctetTest.test l.test in (l.i ≤ length l.s) × (l.i + span p (drop l.i l.s) ≡ span p l.s)

abbrev pub decreases-loop-i : goal.decreases-loop-i
decreases-loop-i g l = length l.s - l.i
