-- `store::is_short` meets its contract.
use borrow.Author.Rules.{rules}
use borrow.Author.Tests.{tests}
use mathlib.Core.Path.{◌≡◌}
use mathlib.Core.Bool.{true, false}
use Rattle.std.proofs.lemmas.Iterator.{YieldsList-from_slice, cases_from_all}
use Rattle.std.specs.Prelude.{nat_le}
use Rattle.sessions.specs.Sessions.{id_max}
use Rattle.headers.proofs.Rows.{every_by}
use Rattle.sessions.proofs.store.is_short.Goals as goal

pub returns : goal.returns
returns c =
    let a = c.args in
    every_by (λ l. nat_le l id_max) a.lens.now
    (cases_from_all _ _ _ (λ l. nat_le l id_max ≡ true) (λ l. nat_le l id_max ≡ false) c.all.ensures.ran (YieldsList-from_slice a.lens.now cc) (λ x q k. search (rules, tests)) (λ x q k. search (rules, tests)))
