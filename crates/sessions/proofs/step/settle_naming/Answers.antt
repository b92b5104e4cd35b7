-- `step::settle_naming` meets its contract, by whether an id is named and by its kind.
use Rattle.std.proofs.Common.{sym, ◌∙◌}
use Rattle.headers.specs.Block.{entries, listed}
use Rattle.sessions.specs.Notes.{value_at}
use Rattle.sessions.proofs.Uses.{unnamed, missing, named_settles}
use Rattle.sessions.proofs.Deciding.{lent_subscriptions, lent_transactions}
use Rattle.sessions.proofs.step.settle_naming.Goals as goal

pub returns-then-not-names_id : goal.returns-then-not-names_id
returns-then-not-names_id c =
    λ s lent.
    unnamed s c.args.naming (listed (entries c.args.block.now)) (sym c.names_id.ensures ∙ c.if-not-names_id.true)

pub returns-in_default : goal.returns-in_default
returns-in_default c =
    λ s lent.
    missing s c.args.naming (listed (entries c.args.block.now))
    (sym c.in_default.ensures.first)

pub returns-in-Subscriptions : goal.returns-in-Subscriptions
returns-in-Subscriptions c =
    λ s lent.
    let a = c.args in
    named_settles s a.naming (listed (entries a.block.now)) _ _
    (sym c.names_id.ensures ∙ c.if-not-names_id.false)
    (sym c.in-Some.ensures.first)
    (lent_subscriptions lent a.naming.usage (value_at a.block.now c.in-Some.l) c.settle.result _ c.in-Subscriptions.is c.settle.ensures)

pub returns-in-Transactions : goal.returns-in-Transactions
returns-in-Transactions c =
    λ s lent.
    let a = c.args in
    named_settles s a.naming (listed (entries a.block.now)) _ _
    (sym c.names_id.ensures ∙ c.if-not-names_id.false)
    (sym c.in-Some.ensures.first)
    (lent_transactions lent a.naming.usage (value_at a.block.now c.in-Some.l) c.settle-in-Transactions.result _ c.in-Transactions.is c.settle-in-Transactions.ensures)
