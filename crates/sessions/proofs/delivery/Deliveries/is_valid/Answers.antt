-- `delivery::Deliveries::is_valid` meets its contract, test by test. Assumes nothing.
use Rattle.std.proofs.Common.{sym, ap, ◌∙◌, arith, rules, le-leb}
use borrow.Author.Tests.{lt-leb}
use Rattle.sessions.specs.Deliveries.{valid_labels, valid_places, valid_pending}
use Rattle.sessions.proofs.Validating.{no_first, yes_first}
use Rattle.sessions.proofs.delivery.Deliveries.is_valid.Goals as goal

pub returns-then-n-gt-MAX : goal.returns-then-n-gt-MAX
unfolding valid_pending
returns-then-n-gt-MAX c =
    let a = c.args in
    let from = c.from-n in
    no_first _ _ (lt-leb a.self.now.count 64 (omega (arith, c.if-n-gt-MAX.true, from.ensures)))

pub are_valid_labels-requires : goal.are_valid_labels-requires
are_valid_labels-requires c = (search rules, search rules, omega (arith, c.if-n-gt-MAX.false))

pub returns-then-not-are_valid_labels : goal.returns-then-not-are_valid_labels
unfolding valid_pending
returns-then-not-are_valid_labels c =
    let a = c.args in
    let from = c.from-n in
    no_first _ _ (sym (c.are_valid_labels.ensures ∙ ap (λ m. valid_labels m a.self.now.labels a.self.now.lens) from.ensures)
    ∙ c.if-not-are_valid_labels.true)
    ∙ yes_first _ _ (le-leb a.self.now.count 64 (omega (arith, c.if-n-gt-MAX.false, from.ensures)))

pub returns : goal.returns
unfolding valid_pending
returns c =
    let a = c.args in
    let from = c.from-n in
    c.are_valid_places.ensures
    ∙ ap (λ m. valid_places m a.self.now.places a.subscriptions.now.lens a.subscriptions.now.modes) from.ensures
    ∙ yes_first _ _ (sym (c.are_valid_labels.ensures ∙ ap (λ m. valid_labels m a.self.now.labels a.self.now.lens) from.ensures)
    ∙ c.if-not-are_valid_labels.false)
    ∙ yes_first _ _ (le-leb a.self.now.count 64 (omega (arith, c.if-n-gt-MAX.false, from.ensures)))
