-- `value::is_digits` meets its contract.
use Rattle.std.proofs.Common.{ℕ, List, Bool, not, eqb, length, ◌&&◌, sym, ap, ◌∙◌}
use borrow.Author.Rules.{rules}
use borrow.Author.Tests.{tests}
use mathlib.Core.Path.{◌≡◌}
use mathlib.Core.Bool.{true, false}
use Rattle.std.proofs.lemmas.Iterator.{YieldsList-from_slice, cases_from_all}
use Rattle.headers.specs.Numbers.{is_digit}
use Rattle.headers.specs.Rows.{every, empty}
use Rattle.headers.proofs.Rows.{every_by, empty_eqb}
use Rattle.sessions.specs.Values.{some_digits}
use Rattle.sessions.proofs.value.is_digits.Goals as goal

by : (p : List ℕ) (r : Bool) → r ≡ every is_digit p → not (eqb (length p) 0) && r ≡ some_digits p
by p r e = ap (λ t. not t && r) (sym (empty_eqb p)) ∙ ap (not (empty p) &&◌) e

pub returns : goal.returns
returns c =
    let a = c.args in
    let digits = every_by is_digit a.part.now
    (cases_from_all _ _ _ (λ x. is_digit x ≡ true) (λ x. is_digit x ≡ false) c.all.ensures.ran (YieldsList-from_slice a.part.now cc) (λ x q k. search (rules, tests)) (λ x q k. search (rules, tests))) in
    by a.part.now c.all.result digits
