-- `line::entry_length` meets its contract: each refusal says why the entry cannot be written.
use mathlib.Core.Path.{refl, sym, ◌∙◌}
use Rattle.headers.specs.Answers.{refused, length_says}
use Rattle.headers.proofs.Results.{err_says, some_gives, none_gives}
use native.Mathlib.Omega.{arith}
use Rattle.headers.proofs.Settling.{no_name, no_room, no_room_plain, length_no, length_yes, divided, divided_empty, divided_plain, divided_long, divided_octet, divided_name, divided_utf8, divided_can}
use Rattle.headers.proofs.line.entry_length.Goals as goal

pub returns-then-name-text : goal.returns-then-name-text
returns-then-name-text c =
    sym (length_no c.args.style (divided c.args.name c.args.text.now) (no_name c.args.style (divided c.args.name c.args.text.now) (divided_empty c.args.name c.args.text.now ∙ c.if-name-text.true)))

pub returns-then-text-gt-TEXT_MAX : goal.returns-then-text-gt-TEXT_MAX
returns-then-text-gt-TEXT_MAX c =
    sym (length_no c.args.style (divided c.args.name c.args.text.now) (no_room_plain c.args.style (divided c.args.name c.args.text.now) (omega (arith, divided_plain c.args.name c.args.text.now))))

pub returns-in_err-m : goal.returns-in_err-m
returns-in_err-m c =
    let none = none_gives _ _ _ _ _ (sym c.ok_or.ensures.value ∙ c.in_err-m.was) c.measure.ensures in
    err_says length_says (refused 53) (λ e. refl) _ c.from_residual.ensures.0
    ∙ sym (length_no c.args.style (divided c.args.name c.args.text.now) (divided_octet c.args.style c.args.name c.args.text.now none))

pub returns-then-not-is_name : goal.returns-then-not-is_name
returns-then-not-is_name c =
    sym (length_no c.args.style (divided c.args.name c.args.text.now) (divided_name c.args.style c.args.name c.args.text.now (sym c.is_name.ensures ∙ c.if-not-is_name.true)))

pub returns-then-not-are_utf8 : goal.returns-then-not-are_utf8
returns-then-not-are_utf8 c =
    sym (length_no c.args.style (divided c.args.name c.args.text.now) (divided_utf8 c.args.style c.args.name c.args.text.now (sym c.are_utf8.ensures ∙ c.if-not-are_utf8.true)))

pub returns-then-m-gt-TEXT_MAX : goal.returns-then-m-gt-TEXT_MAX
returns-then-m-gt-TEXT_MAX c =
    let m = some_gives _ _ _ _ _ (sym c.ok_or.ensures.value ∙ c.in_ok-m.was) c.measure.ensures in
    sym (length_no c.args.style (divided c.args.name c.args.text.now) (no_room c.args.style (divided c.args.name c.args.text.now) (omega (arith, divided_long c.args.style c.args.name c.args.text.now, m.1.0, c.if-m-gt-TEXT_MAX.true))))

pub returns : goal.returns
returns c =
    let m = some_gives _ _ _ _ _ (sym c.ok_or.ensures.value ∙ c.in_ok-m.was) c.measure.ensures in
    let n = m.1.0 in
    let all = sym m.0 in
    let named = sym c.is_name.ensures ∙ c.if-not-is_name.false in
    let both = sym c.are_utf8.ensures ∙ c.if-not-are_utf8.false in
    let some = divided_empty c.args.name c.args.text.now ∙ c.if-name-text.false in
    let ok = divided_can c.args.style c.args.name c.args.text.now some all named both (omega (arith, n, c.if-m-gt-TEXT_MAX.false)) in
    rw (n, ← divided_long c.args.style c.args.name c.args.text.now) (sym (length_yes c.args.style (divided c.args.name c.args.text.now) ok))
