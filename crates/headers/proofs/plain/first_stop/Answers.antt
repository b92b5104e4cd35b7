-- `plain::first_stop` meets its contract: the lowest place so far at which an octet stops is kept.
use Rattle.headers.proofs.Stretches.{first_on, first_here, first_end}
use native.Mathlib.Omega.{arith}
use mathlib.Core.Path.{sym, ◌∙◌}
use Rattle.headers.proofs.plain.first_stop.Goals as goal
use Rattle.headers.proofs.plain.first_stop.Goals.{then-passes, else-passes}

pub loop-i-preserved : goal.loop-i-preserved
loop-i-preserved g c =
    let l = c.loop-i in
    let t = c.loop-i-test.true in
    let m = c.min-k.ensures in
    let e = c.passes.ensures in
    elim c.if-passes.branch [ then-passes w ↦ first_on _ _ l.i t m (sym e ∙ w.if-passes.true) (omega arith) l.invariant | else-passes w ↦ first_here _ _ l.i t m (sym e ∙ w.if-passes.false) w.c-is l.invariant ]

pub returns : goal.returns
returns g c = first_end _ _ _ c.loop-i-test.false c.loop-i.invariant
