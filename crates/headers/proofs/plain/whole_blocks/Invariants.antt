use Rattle.headers.specs.Stretches.{span}
use Prim.Native.Nat.{◌+◌, ◌*◌}
use lib.ListN.{drop}
use mathlib.Core.Path.{◌≡◌}
use Rattle.headers.proofs.plain.whole_blocks.Given as goal

abbrev pub invariant-loop-k : goal.invariant-loop-k
invariant-loop-k g l = let p = g.T.OctetTest.test l.test in l.k * 64 + span p (drop (l.k * 64) l.s) ≡ span p l.s
