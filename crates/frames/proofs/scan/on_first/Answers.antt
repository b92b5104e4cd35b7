-- `scan::on_first` meets its contract: a line end, or an octet of a word.
use Rattle.frames.proofs.Steps.{word_goes_on}
use mathlib.Core.Bool.{◌&&◌}
use mathlib.Core.Path.{sym, ap, ◌∙◌}
use lib.Dec.{eqb}
use borrow.Author.Tests.{eqb-false}
use Rattle.frames.specs.Scanning.{scan_step, line_ends}
use Rattle.frames.proofs.scan.on_first.Goals as goal

pub returns-then-x-st : goal.returns-then-x-st
unfolding scan_step
returns-then-x-st c = simp (c.on_start.ensures, c.requires)

pub returns : goal.returns
returns c =
    let st = c.args.st.scan in
    c.on_word.ensures ∙ sym (word_goes_on st c.args.x (ap (λ p. eqb p 0 && line_ends st c.args.x) c.requires ∙ c.if-x-st.false) (λ h. absurd (eqb-false st.phase 0 h c.requires)))
