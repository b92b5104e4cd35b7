-- `delivery::all_acknowledge` meets its contract.
use borrow.Author.Rules.{rules}
use borrow.Author.Tests.{tests}
use mathlib.Core.Path.{◌≡◌}
use mathlib.Core.Bool.{true, false}
use Rattle.std.proofs.lemmas.Iterator.{YieldsList-from_slice, cases_from_all}
use Rattle.sessions.specs.Deliveries.{acknowledging}
use Rattle.headers.proofs.Rows.{every_by}
use Rattle.sessions.proofs.delivery.all_acknowledge.Goals as goal

pub returns : goal.returns
returns c =
    let a = c.args in
    every_by (acknowledging a.lens.now a.modes.now) a.places.now
    (cases_from_all _ _ _ (λ x. acknowledging a.lens.now a.modes.now x ≡ true) (λ x. acknowledging a.lens.now a.modes.now x ≡ false) c.all.ensures.ran (YieldsList-from_slice a.places.now cc) (λ x q k. search (rules, tests)) (λ x q k. search (rules, tests)))
