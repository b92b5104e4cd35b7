-- `plain::front` meets its contract: what is passed, and the span of what is left, are the span.
use mathlib.Core.Path.{◌≡◌, sym, ◌∙◌}
use Prim.Native.Nat.{◌≤◌, ◌+◌}
use native.Mathlib.Omega.{arith}
use lib.ListN.{length, drop}
use Rattle.headers.specs.Stretches.{span}
use Rattle.headers.proofs.Stretches.{span_more, span_stop, span_end, span_calm}
use Rattle.headers.proofs.plain.front.Given as given
use Rattle.headers.proofs.plain.front.Goals as goal
use Rattle.headers.proofs.plain.front.Goals.{After-passed_from-i}

-- what passes the quicker test is passed
passed : (g : given.Over) (c : After-passed_from-i g) → let a = c.args in
    let p = g.T.OctetTest.test a.test in
    let r = c.passed_from-i.result in
    (r ≤ length a.s.now) × (r + span p (drop r a.s.now) ≡ span p a.s.now)
passed g c =
    let a = c.args in
    let l = c.loop-i in
    let w = c.passed_from-i in
    let on = span_calm (g.Q.OctetTest.test a.quick) (g.T.OctetTest.test a.test) c.requires a.s.now l.i _ l.invariant.0 w.ensures.0 w.ensures.1 in
    (on.0, on.1 ∙ l.invariant.1)

pub returns-then-s-i : goal.returns-then-s-i
returns-then-s-i g c = span_end _ _ _ c.if-s-i.true ∙ (passed g (goal.at.returns-then-s-i g c).After-passed_from-i).1

pub returns-then-not-passes : goal.returns-then-not-passes
returns-then-not-passes g c =
    span_stop _ _ _ c.if-s-i.false (sym c.passes.ensures ∙ c.if-not-passes.true) ∙ (passed g (goal.at.returns-then-not-passes g c).After-passed_from-i).1

pub loop-i-preserved : goal.loop-i-preserved
loop-i-preserved g c =
    (omega (arith, c.if-s-i.false), span_more _ _ _ c.if-s-i.false (sym c.passes.ensures ∙ c.if-not-passes.false) ∙ (passed g (goal.at.loop-i-preserved g c).After-passed_from-i).1)

pub returns : goal.returns
returns g c = span_end _ _ _ c.loop-i-test.false ∙ c.loop-i.invariant.1
