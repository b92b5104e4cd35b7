-- `head::on_back` meets its contract: the letter of an escape, another octet that begins a character, or none.
use mathlib.Core.Path.{sym, ◌∙◌}
use Rattle.frames.proofs.Steps.{grown, is_lettered, text_after}
use Rattle.frames.proofs.head.on_back.Goals as goal

pub returns-then-is_letter : goal.returns-then-is_letter
returns-then-is_letter c =
    let a = c.args in
    rw (text_after a.st.scan a.x a.field, is_lettered a.x c.style.ensures c.is_letter.ensures ∙ c.if-is_letter.true)
    (c.grow.ensures ∙ grown a.st.scan 0 c.most.ensures.0 c.between.ensures c.matched_after-matched.ensures)

pub returns-then-begins_character : goal.returns-then-begins_character
returns-then-begins_character c =
    let a = c.args in
    rw (text_after a.st.scan a.x a.field, is_lettered a.x c.style.ensures c.is_letter.ensures ∙ c.if-is_letter.false, sym c.begins_character.ensures ∙ c.if-begins_character.true) c.refused.ensures

pub returns : goal.returns
returns c =
    let a = c.args in
    rw (text_after a.st.scan a.x a.field, is_lettered a.x c.style.ensures c.is_letter.ensures ∙ c.if-is_letter.false, sym c.begins_character.ensures ∙ c.if-begins_character.false) c.refused-2.ensures
