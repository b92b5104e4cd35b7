-- `plan::Waiting::check_pairs` meets its contract: no pair passed is bad.
use mathlib.Core.Path.{◌≡◌, sym, ◌∙◌, ap, subst}
use Prim.Native.Nat.{◌+◌, ◌*◌}
use native.Mathlib.Omega.{arith}
use Rattle.topics.specs.Plans.{left_out_answer}
use Rattle.topics.specs.Waiting.{entries_of}
use Rattle.topics.proofs.Checking.{CheckedTo, pairs_whole, checked_start, checked_bad, checked_good, checked_end}
use Rattle.topics.proofs.plan.Waiting.check_pairs.Goals as goal

pub loop-k-init : goal.loop-k-init
loop-k-init c = checked_start (entries_of c.args.self.now.messages) (entries_of c.args.self.now.subscriptions) c.args.plan.now.octets.now (pairs_whole c.args.plan.now.octets.now c.args.plan.now.whole)

pub returns-in-Err : goal.returns-in-Err
returns-in-Err c =
    let w = c.args.self.now in
    let l = c.loop-k in
    checked_bad (entries_of w.messages) (entries_of w.subscriptions) c.args.plan.now.octets.now (l.k * 8) l.k l.invariant (omega arith)
    c.number-message.result c.number-subscription.result c.number-message.ensures c.number-subscription.ensures _ c.before-in-loop-k.ensures c.in-Err.reason c.in-Err.ensures

pub loop-k-preserved : goal.loop-k-preserved
loop-k-preserved c =
    let w = c.args.self.now in
    let l = c.loop-k in
    let plan = c.args.plan.now.octets.now in
    let on : l.k * 8 + 8 ≡ (l.k + 1) * 8 = omega arith in
    subst (λ at. CheckedTo (entries_of w.messages) (entries_of w.subscriptions) plan at (l.k + 1)) on
    (checked_good (entries_of w.messages) (entries_of w.subscriptions) plan (l.k * 8) l.k l.invariant (omega arith)
    c.number-message.result c.number-subscription.result c.number-message.ensures c.number-subscription.ensures _ c.before-in-loop-k.ensures c.in_default.field-0 c.in_default.ensures)

pub returns-in-Some : goal.returns-in-Some
returns-in-Some c =
    let w = c.args.self.now in
    let l = c.loop-k in
    sym (checked_end (entries_of w.messages) (entries_of w.subscriptions) c.args.plan.now.octets.now (l.k * 8) l.k l.invariant (omega (arith, c.args.plan.now.whole)) ∙ ap left_out_answer c.in-Some.ensures.1)

pub returns-in-None : goal.returns-in-None
returns-in-None c =
    let w = c.args.self.now in
    let l = c.loop-k in
    sym (checked_end (entries_of w.messages) (entries_of w.subscriptions) c.args.plan.now.octets.now (l.k * 8) l.k l.invariant (omega (arith, c.args.plan.now.whole)) ∙ ap left_out_answer c.in-None.ensures)
