-- `step::put_of` meets its contract, by what the store made of the id and by its kind.
use Rattle.std.proofs.Common.{◌+◌, ◌-◌, ap, arith, subst}
use Rattle.headers.specs.Block.{entries, listed}
use Rattle.std.specs.Prelude.{Ok}
use Rattle.sessions.specs.Steps.{SettlesUse, use_named}
use Rattle.sessions.proofs.Uses.{settled_kept, put_there}
use Rattle.sessions.proofs.Using.{stored_small}
use Rattle.sessions.proofs.Deciding.{put_subscription_of, put_transaction_of}
use Rattle.sessions.proofs.step.put_of.Goals as goal

pub overflow_add-placing : goal.overflow_add-placing
overflow_add-placing c =
    let l = c.in-Some-locate in
    omega (arith, l.ensures.inside, c.stored_length.ensures, stored_small c.args.naming.usage (l.l.end - l.l.start))

pub returns-in_default : goal.returns-in_default
returns-in_default c =
    λ s sized valid e. (
      settled_kept s sized valid (use_named c.args.naming (listed (entries c.args.block.now)))
          (subst (λ o. SettlesUse s (use_named c.args.naming (listed (entries c.args.block.now))) (Ok o)) c.in_default.is e),
      tt,
    )

pub returns-in_default-locate : goal.returns-in_default-locate
returns-in_default-locate c =
    λ s sized valid e.
    absurd (put_there s c.args.naming c.args.block.now _
    (subst (λ o. SettlesUse s (use_named c.args.naming (listed (entries c.args.block.now))) (Ok o)) c.in-Some.is e) c.in_default-locate.ensures)

pub returns-in-Subscriptions : goal.returns-in-Subscriptions
returns-in-Subscriptions c =
    λ s sized valid e.
    let a = c.args in
    let l = c.in-Some-locate in
    let n = c.stored_length.ensures in
    let small = stored_small a.naming.usage (l.l.end - l.l.start) in
    put_subscription_of s sized valid a.naming a.block.now _ l.ensures _
    (subst (λ o. SettlesUse s (use_named a.naming (listed (entries a.block.now))) (Ok o)) c.in-Some.is e) _
    (ap (l.l.start +◌) n) (omega (arith, n), omega (arith, l.ensures.inside, n, small)) c.in-Subscriptions.is

pub returns-in-Transactions : goal.returns-in-Transactions
returns-in-Transactions c =
    λ s sized valid e.
    let a = c.args in
    let l = c.in-Some-locate in
    let n = c.stored_length.ensures in
    let small = stored_small a.naming.usage (l.l.end - l.l.start) in
    put_transaction_of s sized valid a.naming a.block.now _ l.ensures _
    (subst (λ o. SettlesUse s (use_named a.naming (listed (entries a.block.now))) (Ok o)) c.in-Some.is e) _
    (ap (l.l.start +◌) n) (omega (arith, n), omega (arith, l.ensures.inside, n, small)) c.in-Transactions.is
