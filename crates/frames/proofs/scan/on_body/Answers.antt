-- `scan::on_body` meets its contract: the end, one octet more, or one too many.
use borrow.Author.Tests.{eq-eqb, ne_eqb, lt-ltb, le-ltb}
use Rattle.frames.specs.Scanning.{on_body}
use Rattle.frames.proofs.scan.on_body.Goals as goal

pub returns-then-x-eq0 : goal.returns-then-x-eq0
unfolding on_body
returns-then-x-eq0 c = simp (c.frame_read.ensures, eq-eqb _ _ c.if-x-eq0.true)

pub returns-then-st-most_of : goal.returns-then-st-most_of
unfolding on_body
returns-then-st-most_of c = simp (c.in_line.ensures, ne_eqb _ _ c.if-x-eq0.false, ← c.most_of.ensures, lt-ltb _ _ c.if-st-most_of.true)

pub returns : goal.returns
unfolding on_body
returns c = simp (c.refused.ensures, ne_eqb _ _ c.if-x-eq0.false, ← c.most_of.ensures, le-ltb _ _ c.if-st-most_of.false)
