-- `head::on_length` meets its contract: the octet is a stop, a backslash or of UTF-8, and the line is short enough or not.
use mathlib.Core.Path.{refl, sym, ◌∙◌, ap}
use Rattle.headers.specs.declared.text.Field.TheVariants.{Value as in_value}
use mathlib.Core.Bool.{cond}
use Prim.Native.Nat.{◌-◌}
use lib.Dec.{ltb}
use Rattle.frames.specs.Scanning.{on_length, on_digit, invalid}
use Rattle.frames.specs.Refusals.{numbered, long_line}
use Rattle.frames.proofs.Steps.{read_stop, read_open, read_start, room, length_start, length_bad}
use borrow.Author.Tests.{eq-eqb, ne_eqb}
use Rattle.frames.proofs.head.on_length.Goals as goal

pub returns-then-x-eq58 : goal.returns-then-x-eq58
unfolding on_length
returns-then-x-eq58 c =
    rw (read_stop in_value c.args.x c.style-style.ensures c.is_stop.ensures c.if-is_stop.true) (simp (c.refused.ensures, eq-eqb _ _ c.if-x-eq58.true))

pub returns-then-st-eq-LENGTH_BEGUN : goal.returns-then-st-eq-LENGTH_BEGUN
unfolding on_length
returns-then-st-eq-LENGTH_BEGUN c =
    rw (read_stop in_value c.args.x c.style-style.ensures c.is_stop.ensures c.if-is_stop.true) (simp (c.refused-then-st-eq-LENGTH_BEGUN.ensures, ne_eqb _ _ c.if-x-eq58.false, eq-eqb _ _ c.if-st-eq-LENGTH_BEGUN.true))

pub returns-then-is_stop : goal.returns-then-is_stop
unfolding on_length
returns-then-is_stop c =
    rw (read_stop in_value c.args.x c.style-style.ensures c.is_stop.ensures c.if-is_stop.true, ne_eqb _ _ c.if-x-eq58.false, ne_eqb _ _ c.if-st-eq-LENGTH_BEGUN.false) c.line_read.ensures

pub returns-then-is_open : goal.returns-then-is_open
unfolding on_length
returns-then-is_open c =
    rw (read_open in_value c.args.x c.style-style.ensures c.is_stop.ensures c.if-is_stop.false c.is_open.ensures c.if-is_open.true, room 1 511 _ refl) c.on_digit.ensures

pub returns-then-not-begins_character : goal.returns-then-not-begins_character
unfolding on_length
returns-then-not-begins_character c =
    rw (read_start in_value c.args.x c.style-style.ensures c.is_stop.ensures c.if-is_stop.false c.is_open.ensures c.if-is_open.false) (c.refused-then-not-begins_character.ensures ∙ sym (length_bad c.args.st.scan c.args.x (sym c.begins_character.ensures ∙ c.if-not-begins_character.true)))

pub returns : goal.returns
unfolding on_length
returns c =
    rw (read_start in_value c.args.x c.style-style.ensures c.is_stop.ensures c.if-is_stop.false c.is_open.ensures c.if-is_open.false) (c.on_digit-2.ensures ∙ ap (λ m. cond (ltb c.args.st.scan.len (512 - m)) (on_digit c.args.st.scan c.args.x) (invalid c.args.st.scan (numbered long_line))) (c.from.ensures ∙ c.missing_after.ensures) ∙ sym (length_start c.args.st.scan c.args.x (sym c.begins_character.ensures ∙ c.if-not-begins_character.false)))
