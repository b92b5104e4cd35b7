-- `head::on_name` meets its contract: the octet begins a character, or is a stop: the colon after a name, or one that refuses.
use Rattle.headers.specs.declared.text.Field.TheVariants.{Name as in_name}
use Rattle.frames.specs.Scanning.{on_name}
use Rattle.frames.proofs.Steps.{read_stop}
use borrow.Author.Tests.{eq-eqb, ne_eqb}
use Rattle.frames.proofs.head.on_name.Goals as goal

pub returns-then-x-ne58 : goal.returns-then-x-ne58
unfolding on_name
returns-then-x-ne58 c =
    rw (read_stop in_name c.args.x c.style.ensures c.is_stop.ensures c.if-not-is_stop.false) (simp (c.refused.ensures, ne_eqb _ _ c.if-x-ne58.true))

pub returns-then-st-eq0 : goal.returns-then-st-eq0
unfolding on_name
returns-then-st-eq0 c =
    rw (read_stop in_name c.args.x c.style.ensures c.is_stop.ensures c.if-not-is_stop.false) (simp (c.refused-then-st-eq0.ensures, eq-eqb _ _ c.if-x-ne58.false, eq-eqb _ _ c.if-st-eq0.true))

pub returns : goal.returns
unfolding on_name
returns c =
    rw (read_stop in_name c.args.x c.style.ensures c.is_stop.ensures c.if-not-is_stop.false) (simp (c.value_begins.ensures, eq-eqb _ _ c.if-x-ne58.false, ne_eqb _ _ c.if-st-eq0.false))
