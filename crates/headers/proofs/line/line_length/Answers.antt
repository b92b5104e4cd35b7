-- `line::line_length` meets its contract: each refusal says why the entry cannot be written.
use mathlib.Core.Path.{◌≡◌, refl, sym, ap, ◌∙◌}
use mathlib.Core.Bool.{true}
use native.Mathlib.Omega.{arith}
use lib.ListN.{length}
use borrow.Author.Tests.{leb-true, leb-false}
use Rattle.headers.specs.Escapes.{encode}
use Rattle.headers.specs.Lines.{entry_of, can_stand}
use Rattle.headers.specs.Answers.{refused, length_says}
use Rattle.headers.specs.declared.text.Field.TheVariants.{Name, Value}
use Rattle.headers.proofs.Results.{err_says}
use Rattle.headers.proofs.Rows.{empty_zero, empty_not}
use Rattle.headers.proofs.Settling.{told_refused, told_accepted, raw_long, no_name, no_name_text, no_value_text, no_room, no_room_plain, can, length_no, length_yes}
use Rattle.headers.proofs.line.line_length.Goals as goal
use Rattle.headers.proofs.line.line_length.Goals.{In_ok-v}

pub returns-then-name-eq0 : goal.returns-then-name-eq0
returns-then-name-eq0 c = let a = c.args in
    let e = entry_of a.name.now a.value.now in
    sym (length_no a.style e (no_name a.style e (empty_zero a.name.now c.if-name-eq0.true)))

pub returns-then-not-both_fit : goal.returns-then-not-both_fit
returns-then-not-both_fit c = let a = c.args in
    let e = entry_of a.name.now a.value.now in
    sym (length_no a.style e (no_room_plain a.style e (omega (arith, leb-false, sym c.both_fit.ensures ∙ c.if-not-both_fit.true))))

pub returns-in_err-n : goal.returns-in_err-n
returns-in_err-n c = let a = c.args in
    let e = entry_of a.name.now a.value.now in
    err_says length_says (refused 53) (λ u. refl) _ c.from_residual.ensures.0
    ∙ sym (length_no a.style e (no_name_text a.style e (told_refused _ _ 53 (sym (ap length_says c.in_err-n.was) ∙ c.text_length.ensures))))

pub returns-in_err-v : goal.returns-in_err-v
returns-in_err-v c = let a = c.args in
    let e = entry_of a.name.now a.value.now in
    err_says length_says (refused 53) (λ u. refl) _ c.from_residual-in_err-v.ensures.0
    ∙ sym (length_no a.style e (no_value_text a.style e (told_refused _ _ 53 (sym (ap length_says c.in_err-v.was) ∙ c.text_length-2.ensures))))

-- what the two lengths are, and that both texts can be written
abbrev Told : (c : In_ok-v) → Type 0
Told c =
    let a = c.args in
    ((can_stand a.style Name a.name.now ≡ true) × (c.in_ok-n.n ≡ length (encode a.style a.name.now)))
    × ((can_stand a.style Value a.value.now ≡ true) × (c.in_ok-v.v ≡ length (encode a.style a.value.now)))

told : (c : In_ok-v) → Told c
told c = (
  told_accepted _ _ _ (sym (ap length_says c.in_ok-n.was) ∙ c.text_length.ensures),
  told_accepted _ _ _ (sym (ap length_says c.in_ok-v.was) ∙ c.text_length-2.ensures),
)

pub returns-then-not-both_fit-2 : goal.returns-then-not-both_fit-2
returns-then-not-both_fit-2 c = let a = c.args in
    let e = entry_of a.name.now a.value.now in
    sym
    (length_no a.style e
    (no_room a.style e (omega (arith, raw_long a.style e, told (goal.at.returns-then-not-both_fit-2 c).In_ok-v, leb-false, sym c.both_fit-2.ensures ∙ c.if-not-both_fit-2.true))))

pub returns : goal.returns
returns c = let a = c.args in
    let e = entry_of a.name.now a.value.now in
    let ((name, n), (value, v)) = told (goal.at.returns c).In_ok-v in
    let long = raw_long a.style e in
    let ok =
    can a.style e (empty_not a.name.now (λ q. c.if-name-eq0.false (ap length q)))
    name value (omega (arith, long, n, v, leb-true, sym c.both_fit-2.ensures ∙ c.if-not-both_fit-2.false)) in
    rw (n, v, ← long) (sym (length_yes a.style e ok))
