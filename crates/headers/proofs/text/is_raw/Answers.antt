-- `text::is_raw` meets its contract: what is left, from how far its character is read on.
use mathlib.Core.Path.{sym, ◌∙◌}
use native.Mathlib.Omega.{arith}
use Rattle.headers.proofs.Characters.{raw_off, raw_on, raw_end}
use Rattle.headers.proofs.text.is_raw.Goals as goal

pub loop-x-preserved : goal.loop-x-preserved
loop-x-preserved c =
    let l = c.loop-x in
    let a = c.args in
    (omega arith, l.invariant.1 ∙ raw_on a.style a.field a.raw.now l.x-index l.part c.loop-x-test.true c.raw_next.ensures c.in-Some.is)

pub returns-in-None : goal.returns-in-None
returns-in-None c =
    let l = c.loop-x in
    let a = c.args in
    sym (l.invariant.1 ∙ raw_off a.style a.field a.raw.now l.x-index l.part c.loop-x-test.true c.raw_next.ensures c.in-None.is)

pub returns : goal.returns
returns c = sym (c.loop-x.invariant.1 ∙ raw_end c.args.style c.args.field c.args.raw.now c.loop-x.x-index c.loop-x.part c.loop-x-test.false)
