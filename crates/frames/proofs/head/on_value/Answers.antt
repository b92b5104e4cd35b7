-- `head::on_value` meets its contract: the octet begins a character, or is a stop.
use Rattle.headers.specs.declared.text.Field.TheVariants.{Value as in_value}
use Rattle.frames.specs.Scanning.{on_value}
use Rattle.frames.proofs.Steps.{read_stop}
use borrow.Author.Tests.{eq-eqb, ne_eqb}
use Rattle.frames.proofs.head.on_value.Goals as goal

pub returns-then-x-eq58 : goal.returns-then-x-eq58
unfolding on_value
returns-then-x-eq58 c =
    rw (read_stop in_value c.args.x c.style.ensures c.is_stop.ensures c.if-not-is_stop.false) (simp (c.refused.ensures, eq-eqb _ _ c.if-x-eq58.true))

pub returns : goal.returns
unfolding on_value
returns c =
    rw (read_stop in_value c.args.x c.style.ensures c.is_stop.ensures c.if-not-is_stop.false) (simp (c.line_read.ensures, ne_eqb _ _ c.if-x-eq58.false))
