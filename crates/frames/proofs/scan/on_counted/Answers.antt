-- `scan::on_counted` meets its contract: one octet more, the end, or one too many.
use borrow.Author.Tests.{eq-eqb, ne_eqb, lt-ltb, le-ltb}
use Rattle.frames.specs.Scanning.{on_counted}
use Rattle.frames.proofs.scan.on_counted.Goals as goal

pub returns-then-st : goal.returns-then-st
unfolding on_counted
returns-then-st c = simp (c.in_line.ensures, lt-ltb _ _ c.if-st.true)

pub returns-then-x-eq0 : goal.returns-then-x-eq0
unfolding on_counted
returns-then-x-eq0 c = simp (c.frame_read.ensures, le-ltb _ _ c.if-st.false, eq-eqb _ _ c.if-x-eq0.true)

pub returns : goal.returns
unfolding on_counted
returns c = simp (c.refused.ensures, le-ltb _ _ c.if-st.false, ne_eqb _ _ c.if-x-eq0.false)
