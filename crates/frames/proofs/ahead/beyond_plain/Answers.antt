-- `ahead::beyond_plain` meets its contract: an escape, or characters of more than one octet.
use mathlib.Core.Path.{sym, ◌∙◌}
use native.Mathlib.Omega.{arith}
use Rattle.headers.specs.Text.{none}
use Rattle.headers.proofs.Characters.{wides_text}
use Rattle.frames.proofs.Gliding.{escape_text}
use Rattle.frames.proofs.ahead.beyond_plain.Goals as goal

pub returns-then-s-lt2 : goal.returns-then-s-lt2
returns-then-s-lt2 c =
    (omega arith, none)

pub returns-then-s-gt127 : goal.returns-then-s-gt127
returns-then-s-gt127 c =
    (c.wide_span.ensures.within, wides_text c.wide_span.ensures.row)

pub returns-then-not-is_open : goal.returns-then-not-is_open
returns-then-not-is_open c =
    (omega arith, none)

pub returns-then-is_letter : goal.returns-then-is_letter
returns-then-is_letter c =
    (omega arith, escape_text c.args.style c.args.s.now c.if-s-lt2.false (sym c.is_open.ensures ∙ c.if-not-is_open.false) (sym c.is_letter.ensures ∙ c.if-is_letter.true))

pub returns-else-is_letter : goal.returns-else-is_letter
returns-else-is_letter c =
    (omega arith, none)
