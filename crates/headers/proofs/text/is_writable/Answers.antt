-- `text::is_writable` meets its contract.
use borrow.Author.Rules.{rules}
use borrow.Author.Tests.{tests}
use mathlib.Core.Path.{◌≡◌}
use mathlib.Core.Bool.{true, false}
use Rattle.std.proofs.lemmas.Iterator.{YieldsList-from_slice, cases_from_all}
use Rattle.headers.specs.Escapes.{writable}
use Rattle.headers.proofs.Rows.{every_by}
use Rattle.headers.proofs.text.is_writable.Goals as goal

pub returns : goal.returns
returns c =
    let a = c.args in
    every_by (writable a.style a.field) a.text.now
    (cases_from_all _ _ _ (λ x. writable a.style a.field x ≡ true) (λ x. writable a.style a.field x ≡ false) c.all.ensures.ran (YieldsList-from_slice a.text.now cc) (λ x q k. search (rules, tests)) (λ x q k. search (rules, tests)))
