-- `delivery::are_valid_labels` meets its contract.
use Rattle.std.proofs.Common.{sym, ◌∙◌}
use Rattle.sessions.proofs.Validating.{labels_one, labels_two, labels_three, labels_four}
use Rattle.sessions.proofs.delivery.are_valid_labels.Goals as goal

pub returns-then-not-is_valid : goal.returns-then-not-is_valid
returns-then-not-is_valid c =
    let a = c.args in
    labels_one a.n a.labels.now a.lens.now (sym c.is_valid.ensures ∙ c.if-not-is_valid.true)

pub returns-then-not-are_some : goal.returns-then-not-are_some
returns-then-not-are_some c =
    let a = c.args in
    labels_two a.n a.labels.now a.lens.now (sym c.is_valid.ensures ∙ c.if-not-is_valid.false)
    (sym c.are_some.ensures ∙ c.if-not-are_some.true)

pub returns-then-not-is_zero : goal.returns-then-not-is_zero
returns-then-not-is_zero c =
    let a = c.args in
    labels_three a.n a.labels.now a.lens.now (sym c.is_valid.ensures ∙ c.if-not-is_valid.false)
    (sym c.are_some.ensures ∙ c.if-not-are_some.false)
    (sym c.is_zero.ensures ∙ c.if-not-is_zero.true)

pub returns : goal.returns
returns c =
    let a = c.args in
    c.is_zero-2.ensures ∙ labels_four a.n a.labels.now a.lens.now
    (sym c.is_valid.ensures ∙ c.if-not-is_valid.false)
    (sym c.are_some.ensures ∙ c.if-not-are_some.false)
    (sym c.is_zero.ensures ∙ c.if-not-is_zero.false)
