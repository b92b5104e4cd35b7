-- `plain::whole_blocks` meets its contract: the blocks passed are within the span.
use Rattle.headers.proofs.Stretches.{span_block}
use Prim.Native.Nat.{◌+◌, ◌*◌}
use native.Mathlib.Omega.{arith}
use mathlib.Core.Path.{◌≡◌, sym, ◌∙◌}
use Rattle.headers.proofs.plain.whole_blocks.Goals as goal

pub loop-k-preserved : goal.loop-k-preserved
loop-k-preserved g c =
    let k = c.loop-k.k in
    let a = c.args in
    let next : (k + 1) * 64 ≡ k * 64 + 64 = omega arith in
    rw next (span_block (g.T.OctetTest.test a.test) a.s.now (k * 64) (k * 64 + 64) (omega arith) (omega (arith, c.loop-k-test.true)) (sym c.is_all.ensures ∙ c.if-not-is_all.false) ∙ c.loop-k.invariant)
