-- `plan::check_plan` meets its contract.
use mathlib.Core.Path.{sym, ◌∙◌, ap, ap₂}
use mathlib.Core.List.{[]}
use Rattle.topics.specs.Lists.{messages_in, subscriptions_in, pairs_in, listed}
use Rattle.topics.specs.Plans.{checked}
use Rattle.topics.specs.Places.{entries}
use Rattle.topics.proofs.Checking.{plan_many, plan_pairs, plan_messages, plan_subscriptions, plan_checked, says_malformed}
use Rattle.topics.proofs.plan.check_plan.Goals as goal

pub returns-then-plan-gt-PAIRS_MAX : goal.returns-then-plan-gt-PAIRS_MAX
returns-then-plan-gt-PAIRS_MAX c = let a = c.args in sym (plan_many a.messages.now a.subscriptions.now a.plan.now c.if-plan-gt-PAIRS_MAX.true)

pub returns-in_err-plan : goal.returns-in_err-plan
returns-in_err-plan c =
    let a = c.args in
    let bad = c.in_err-plan.ensures in
    says_malformed _ c.from_residual.ensures.1 ∙ sym (plan_pairs a.messages.now a.subscriptions.now a.plan.now c.if-plan-gt-PAIRS_MAX.false (sym bad.whole))

pub returns-in_err-validated : goal.returns-in_err-validated
returns-in_err-validated c =
    let a = c.args in
    let bad = c.in_err-validated.ensures in
    says_malformed _ c.from_residual-in_err-validated.ensures.1 ∙ sym (plan_messages a.messages.now a.subscriptions.now a.plan.now c.if-plan-gt-PAIRS_MAX.false (sym bad.valid))

pub returns-in_err-validated-2 : goal.returns-in_err-validated-2
returns-in_err-validated-2 c =
    let a = c.args in
    let bad = c.in_err-validated-2.ensures in
    says_malformed _ c.from_residual-in_err-validated-2.ensures.1 ∙ sym (plan_subscriptions a.messages.now a.subscriptions.now a.plan.now c.if-plan-gt-PAIRS_MAX.false (sym bad.valid))

pub returns : goal.returns
returns c =
    let a = c.args in
    let p = c.in_ok-plan.ensures in
    let m = c.in_ok-validated.ensures in
    let s = c.in_ok-validated-2.ensures in
    c.check_pairs.ensures
    ∙ ap₂ (λ ms ss. checked ms ss [] (listed (pairs_in c.in_ok-plan.plan.octets.now))) (ap₂ entries m.same.1 m.same.0) (ap₂ entries s.same.1 s.same.0)
    ∙ ap (λ ps. checked (listed (messages_in a.messages.now)) (listed (subscriptions_in a.subscriptions.now)) [] (listed (pairs_in ps))) p.same
    ∙ sym (plan_checked a.messages.now a.subscriptions.now a.plan.now c.if-plan-gt-PAIRS_MAX.false (sym m.valid) (sym s.valid) (sym p.whole))
