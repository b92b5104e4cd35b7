-- `head::on_part` meets its contract: after a backslash, or in a character of more than one octet.
use mathlib.Core.Path.{sym, ◌∙◌}
use Rattle.frames.proofs.Steps.{text_goes}
use Rattle.frames.proofs.head.on_part.Goals as goal

pub returns : goal.returns
returns c =
    let a = c.args in
    c.on_utf8.ensures ∙ sym (text_goes a.st.scan a.x a.field c.requires c.if-st-eq92.false)
