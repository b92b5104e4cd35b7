-- `utf8::wide_first` meets its contract: the octets after the first are looked at one by one.
use native.Mathlib.Omega.{arith}
use borrow.Author.Tests.{eqb-true}
use lib.ListN.{length, get_or}
use mathlib.Core.Path.{◌≡◌, ap, sym, ◌∙◌}
use Rattle.headers.specs.Text.{missing}
use Rattle.headers.specs.Characters.{whole}
use Rattle.headers.proofs.Reading.{missing_few}
use Rattle.headers.proofs.Characters.{no_lead, cut_wide, no_second, two_octets, no_third, three_octets, no_fourth, four_octets}
use Rattle.headers.proofs.utf8.wide_first.Goals as goal

pub returns-then-is_empty : goal.returns-then-is_empty
returns-then-is_empty c = ap whole (cut_wide c.args.s.now 0 (omega (arith, eqb-true (length c.args.s.now) 0 (sym c.is_empty.ensures ∙ c.if-is_empty.true))))

pub returns-then-n-eq0 : goal.returns-then-n-eq0
returns-then-n-eq0 c =
    ap whole (no_lead c.args.s.now 0 (sym (c.from-n.ensures ∙ c.missing_after.ensures) ∙ c.if-n-eq0.true))

pub returns-then-s-n : goal.returns-then-s-n
returns-then-s-n c =
    ap whole (cut_wide c.args.s.now 0 (omega (arith, c.from-n.ensures, c.missing_after.ensures, c.if-s-n.true)))

pub returns-then-not-is_second : goal.returns-then-not-is_second
returns-then-not-is_second c =
    ap whole (no_second c.args.s.now 0 (sym c.is_second.ensures ∙ c.if-not-is_second.true))

pub returns-then-n-eq1 : goal.returns-then-n-eq1
returns-then-n-eq1 c =
    ap whole (two_octets c.args.s.now 0 (sym (c.from-n.ensures ∙ c.missing_after.ensures) ∙ c.if-n-eq1.true) (omega (arith, c.if-s-n.false, c.if-n-eq1.true)) (sym c.is_second.ensures ∙ c.if-not-is_second.false))

pub returns-then-not-is_tail : goal.returns-then-not-is_tail
returns-then-not-is_tail c =
    ap whole (no_third c.args.s.now 0 (omega (arith, c.from-n.ensures, c.missing_after.ensures, c.if-n-eq0.false, c.if-n-eq1.false)) (omega (arith, c.if-s-n.false, c.from-n.ensures, c.missing_after.ensures, c.if-n-eq0.false, c.if-n-eq1.false)) (sym c.is_tail.ensures ∙ c.if-not-is_tail.true))

pub returns-then-n-eq2 : goal.returns-then-n-eq2
returns-then-n-eq2 c =
    ap whole (three_octets c.args.s.now 0 (sym (c.from-n.ensures ∙ c.missing_after.ensures) ∙ c.if-n-eq2.true) (omega (arith, c.if-s-n.false, c.from-n.ensures, c.missing_after.ensures, c.if-n-eq0.false, c.if-n-eq1.false)) (sym c.is_second.ensures ∙ c.if-not-is_second.false) (sym c.is_tail.ensures ∙ c.if-not-is_tail.false))

pub returns-then-is_tail : goal.returns-then-is_tail
returns-then-is_tail c =
    let three : missing (get_or c.args.s.now 0 0) ≡ 3 = omega (arith, c.from-n.ensures, c.missing_after.ensures, c.if-n-eq0.false, c.if-n-eq1.false, c.if-n-eq2.false, missing_few (get_or c.args.s.now 0 0)) in
    ap whole (four_octets c.args.s.now 0 three (omega (arith, c.if-s-n.false, c.from-n.ensures, c.missing_after.ensures, three)) (sym c.is_second.ensures ∙ c.if-not-is_second.false) (sym c.is_tail.ensures ∙ c.if-not-is_tail.false) (sym c.is_tail-2.ensures ∙ c.if-is_tail.true))

pub returns-else-is_tail : goal.returns-else-is_tail
returns-else-is_tail c =
    let three : missing (get_or c.args.s.now 0 0) ≡ 3 = omega (arith, c.from-n.ensures, c.missing_after.ensures, c.if-n-eq0.false, c.if-n-eq1.false, c.if-n-eq2.false, missing_few (get_or c.args.s.now 0 0)) in
    ap whole (no_fourth c.args.s.now 0 three (omega (arith, c.if-s-n.false, c.from-n.ensures, c.missing_after.ensures, three)) (sym c.is_tail-2.ensures ∙ c.if-is_tail.false))
