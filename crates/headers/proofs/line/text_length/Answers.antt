-- `line::text_length` meets its contract: each octet can be written, and the text is UTF-8.
use mathlib.Core.Path.{refl, sym, ◌∙◌}
use Rattle.headers.specs.Answers.{refused, length_says}
use Rattle.headers.proofs.Results.{err_says, some_gives, none_gives}
use Rattle.headers.proofs.Settling.{stand_octets, stand_utf8, stand_yes}
use Rattle.headers.proofs.line.text_length.Goals as goal

pub returns-in_err-m : goal.returns-in_err-m
returns-in_err-m c =
    err_says length_says (refused 53) (λ e. refl) _ c.from_residual.ensures.0
    ∙ stand_octets c.args.style c.args.field c.args.text.now _ (none_gives _ _ _ _ _ (sym c.ok_or.ensures.value ∙ c.in_err-m.was) c.measure.ensures)

pub returns-then-not-is_known_utf8 : goal.returns-then-not-is_known_utf8
returns-then-not-is_known_utf8 c =
    stand_utf8 c.args.style c.args.field c.args.text.now _ (sym c.is_known_utf8.ensures ∙ c.if-not-is_known_utf8.true)

pub returns : goal.returns
returns c =
    let m = some_gives _ _ _ _ _ (sym c.ok_or.ensures.value ∙ c.in_ok-m.was) c.measure.ensures in
    stand_yes c.args.style c.args.field c.args.text.now _ _ (sym m.0) (sym c.is_known_utf8.ensures ∙ c.if-not-is_known_utf8.false) m.1.0
