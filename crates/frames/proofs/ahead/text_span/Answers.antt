-- `ahead::text_span` meets its contract: what is passed, and the span of what is left, are the span.
use mathlib.Core.Path.{sym, ◌∙◌}
use lib.ListN.{drop}
use Rattle.headers.specs.Stretches.{span, plain_in, calm}
use Rattle.headers.proofs.Stretches.{span_more, span_stop, span_end, span_calm}
use Prim.Native.Nat.{◌≤◌, ◌+◌}
use native.Mathlib.Omega.{arith}
use lib.ListN.{length}
use mathlib.Core.Path.{◌≡◌}
use Rattle.frames.proofs.ahead.text_span.Goals as goal
use Rattle.frames.proofs.ahead.text_span.Goals.{After-calm_from-i}

-- the calm octets are passed
passed : (c : After-calm_from-i) → let a = c.args in let r = c.calm_from-i.result in
    (r ≤ length a.s.now) × (r + span (plain_in a.stops) (drop r a.s.now) ≡ span (plain_in a.stops) a.s.now)
passed c =
    let a = c.args in
    let l = c.loop-i in
    let on = span_calm (calm 127) (plain_in a.stops) c.requires.1 a.s.now l.i _ l.invariant.0 c.calm_from-i.ensures.0 c.calm_from-i.ensures.1 in
    (on.0, on.1 ∙ l.invariant.1)

pub returns-then-s-i : goal.returns-then-s-i
returns-then-s-i c = span_end _ _ _ c.if-s-i.true ∙ (passed (goal.at.returns-then-s-i c).After-calm_from-i).1

pub returns-then-not-is_plain : goal.returns-then-not-is_plain
returns-then-not-is_plain c =
    span_stop _ _ _ c.if-s-i.false (sym c.is_plain.ensures ∙ c.if-not-is_plain.true) ∙ (passed (goal.at.returns-then-not-is_plain c).After-calm_from-i).1

pub loop-i-preserved : goal.loop-i-preserved
loop-i-preserved c =
    (omega (arith, c.if-s-i.false), span_more _ _ _ c.if-s-i.false (sym c.is_plain.ensures ∙ c.if-not-is_plain.false) ∙ (passed (goal.at.loop-i-preserved c).After-calm_from-i).1)

pub returns : goal.returns
returns c = span_end _ _ _ c.loop-i-test.false ∙ c.loop-i.invariant.1
