-- `scan::on_line` meets its contract: an octet with which no name begins, or one of a name.
use Rattle.frames.proofs.Steps.{name_goes_on}
use mathlib.Core.Bool.{◌&&◌}
use mathlib.Core.Path.{sym, ap, ◌∙◌}
use lib.Dec.{eqb}
use Rattle.frames.specs.Scanning.{scan_step}
use borrow.Author.Tests.{eqb-false}
use Rattle.frames.proofs.scan.on_line.Goals as goal

pub returns-then-is_nameless : goal.returns-then-is_nameless
unfolding scan_step
returns-then-is_nameless c = simp (c.on_begin.ensures, c.requires)

pub returns : goal.returns
returns c =
    let st = c.args.st.scan in
    c.on_name.ensures ∙ sym (name_goes_on st c.args.x c.is_nameless.ensures (ap (λ p. eqb p 4 && c.is_nameless.result) c.requires ∙ c.if-is_nameless.false) (λ h. absurd (eqb-false st.phase 4 h c.requires)))
