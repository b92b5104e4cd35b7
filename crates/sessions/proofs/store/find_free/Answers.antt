-- `store::find_free` meets its contract.
use borrow.Author.Rules.{rules}
use borrow.Author.Tests.{tests}
use mathlib.Core.Path.{◌≡◌}
use mathlib.Core.Bool.{true, false}
use Rattle.std.proofs.lemmas.Iterator.{YieldsList-from_slice, IsFirst-from_position}
use Rattle.std.proofs.Common.{eqb}
use Rattle.sessions.proofs.Walking.{first_by}
use Rattle.sessions.proofs.store.find_free.Goals as goal

pub returns : goal.returns
returns c =
    let a = c.args in
    first_by (λ l. eqb l 0) a.lens.now _
    (IsFirst-from_position _ _ _ (λ l. eqb l 0 ≡ true) (λ l. eqb l 0 ≡ false) c.position.ensures.ran (YieldsList-from_slice a.lens.now cc) (λ x q k. search (rules, tests)) (λ x q k. search (rules, tests)))
