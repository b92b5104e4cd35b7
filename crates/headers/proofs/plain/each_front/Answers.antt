-- `plain::each_front` meets its contract: what is passed, and the span of what is left, are the span.
use mathlib.Core.Path.{sym, ◌∙◌}
use native.Mathlib.Omega.{arith}
use Rattle.headers.proofs.Stretches.{span_more, span_stop, span_end}
use Rattle.headers.proofs.plain.each_front.Goals as goal

pub returns-then-not-passes : goal.returns-then-not-passes
returns-then-not-passes g c =
    span_stop _ _ _ c.loop-i-test.true (sym c.passes.ensures ∙ c.if-not-passes.true) ∙ c.loop-i.invariant

pub loop-i-preserved : goal.loop-i-preserved
loop-i-preserved g c =
    span_more _ _ _ c.loop-i-test.true (sym c.passes.ensures ∙ c.if-not-passes.false) ∙ c.loop-i.invariant

pub returns : goal.returns
returns g c = omega (arith, span_end (g.T.OctetTest.test c.args.test) c.args.s.now c.loop-i.i c.loop-i-test.false, c.loop-i.invariant)
