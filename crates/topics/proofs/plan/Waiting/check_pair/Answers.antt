-- `plan::Waiting::check_pair` meets its contract.
use mathlib.Core.Path.{◌≡◌, sym, ◌∙◌, ap, subst}
use mathlib.Core.Bool.{false}
use mathlib.Core.Option.{some}
use lib.Dec.{eqb}
use native.Mathlib.Omega.{arith}
use Rattle.headers.specs.Rows.{any, first_of}
use Rattle.topics.specs.Lists.{entry_format, records, pairs_in, listed}
use Rattle.topics.specs.Plans.{numbered, with_message}
use Rattle.topics.specs.Places.{placed}
use Rattle.topics.specs.Waiting.{entries_of, FirstOf, pair_says}
use Rattle.topics.specs.declared.list.ValidList.{ValidList}
use Rattle.topics.proofs.Words.{found_some, found_none}
use Rattle.topics.proofs.Checking.{count_none, count_some, valid_text, unknown, repeated, not_live, unmatched, over, good}
use Rattle.topics.proofs.plan.Waiting.check_pair.Goals as goal
use Rattle.topics.proofs.plan.Waiting.check_pair.Goals.{Else-count-ne0, In_ok-m, In_ok-s}

-- the message that is found
module _ (e : In_ok-m) where
  abbrev messages : ValidList
  messages = e.args.self.now.messages

  message_there : first_of (numbered e.args.message) (entries_of messages) ≡ some (placed messages.list.octets.now e.in_ok-m.m)
  message_there = (subst (FirstOf (λ n. eqb n e.args.message) messages) (found_some _ _ _ _ e.ok_or.ensures.value e.in_ok-m.was) e.find.ensures).1

-- the subscription that is found
module _ (e : In_ok-s) where
  abbrev subscriptions : ValidList
  subscriptions = e.args.self.now.subscriptions

  subscription_there : first_of (numbered e.args.subscription) (entries_of subscriptions) ≡ some (placed subscriptions.list.octets.now e.in_ok-s.s)
  subscription_there = (subst (FirstOf (λ n. eqb n e.args.subscription) subscriptions) (found_some _ _ _ _ e.ok_or-2.ensures.value e.in_ok-s.was) e.find-2.ensures).1

pub returns-in_err-m : goal.returns-in_err-m
returns-in_err-m c =
    let a = c.args in
    let w = a.self.now in
    let (none, err) = found_none _ _ _ _ _ c.ok_or.ensures.value c.in_err-m.was c.from_residual.ensures.1 in
    ap pair_says err
    ∙ sym (unknown (entries_of w.messages) (entries_of w.subscriptions) (listed (pairs_in a.earlier.now.octets.now)) (record { message = a.message; subscription = a.subscription })
    (subst (FirstOf (λ n. eqb n a.message) w.messages) none c.find.ensures))

pub returns-then-count-ne0 : goal.returns-then-count-ne0
returns-then-count-ne0 c =
    let a = c.args in
    let w = a.self.now in
    sym (repeated (entries_of w.messages) (entries_of w.subscriptions) (listed (pairs_in a.earlier.now.octets.now)) (record { message = a.message; subscription = a.subscription }) (placed w.messages.list.octets.now c.in_ok-m.m) (message_there (goal.at.returns-then-count-ne0 c).In_ok-m) (count_some (with_message a.message) (listed (pairs_in a.earlier.now.octets.now)) (λ e. c.if-count-ne0.true (c.count.ensures ∙ e))))

-- no earlier pair has the message
new : (c : Else-count-ne0) → any (with_message c.args.message) (listed (pairs_in c.args.earlier.now.octets.now)) ≡ false
new c =
    let a = c.args in
    count_none (with_message a.message) (listed (pairs_in a.earlier.now.octets.now)) (sym c.count.ensures ∙ c.if-count-ne0.false)

pub returns-in_err-s : goal.returns-in_err-s
returns-in_err-s c =
    let a = c.args in
    let w = a.self.now in
    let (none, err) = found_none _ _ _ _ _ c.ok_or-2.ensures.value c.in_err-s.was c.from_residual-in_err-s.ensures.1 in
    let at = goal.at.returns-in_err-s c in
    ap pair_says err
    ∙ sym (not_live (entries_of w.messages) (entries_of w.subscriptions) (listed (pairs_in a.earlier.now.octets.now)) (record { message = a.message; subscription = a.subscription }) (placed w.messages.list.octets.now c.in_ok-m.m) (message_there at.In_ok-m) (new at.Else-count-ne0)
    (subst (FirstOf (λ n. eqb n a.subscription) w.subscriptions) none c.find-2.ensures))

pub is_match-requires : goal.is_match-requires
is_match-requires c =
    let w = c.args.self.now in (
      valid_text (records (entry_format w.messages.list.width) w.messages.list.octets.now) (numbered c.args.message) (placed w.messages.list.octets.now c.in_ok-m.m) w.messages.valid (message_there (goal.at.is_match-requires c).In_ok-m),
      valid_text (records (entry_format w.subscriptions.list.width) w.subscriptions.list.octets.now) (numbered c.args.subscription) (placed w.subscriptions.list.octets.now c.in_ok-s.s) w.subscriptions.valid (subscription_there (goal.at.is_match-requires c).In_ok-s),
    )

pub returns-then-not-is_match : goal.returns-then-not-is_match
returns-then-not-is_match c =
    let a = c.args in
    let w = a.self.now in
    sym (unmatched (entries_of w.messages) (entries_of w.subscriptions) (listed (pairs_in a.earlier.now.octets.now)) (record { message = a.message; subscription = a.subscription }) (placed w.messages.list.octets.now c.in_ok-m.m) (message_there (goal.at.returns-then-not-is_match c).In_ok-m) (new (goal.at.returns-then-not-is_match c).Else-count-ne0) (placed w.subscriptions.list.octets.now c.in_ok-s.s) (subscription_there (goal.at.returns-then-not-is_match c).In_ok-s) (sym c.is_match.ensures ∙ c.if-not-is_match.true))

pub returns-then-s-count : goal.returns-then-s-count
returns-then-s-count c =
    let a = c.args in
    let w = a.self.now in
    sym (over (entries_of w.messages) (entries_of w.subscriptions) (listed (pairs_in a.earlier.now.octets.now)) (record { message = a.message; subscription = a.subscription }) (placed w.messages.list.octets.now c.in_ok-m.m) (message_there (goal.at.returns-then-s-count c).In_ok-m) (new (goal.at.returns-then-s-count c).Else-count-ne0) (placed w.subscriptions.list.octets.now c.in_ok-s.s) (subscription_there (goal.at.returns-then-s-count c).In_ok-s) (sym c.is_match.ensures ∙ c.if-not-is_match.false) (omega (arith, c.if-s-count.true, c.count-2.ensures)))

pub returns : goal.returns
returns c =
    let a = c.args in
    let w = a.self.now in
    sym (good (entries_of w.messages) (entries_of w.subscriptions) (listed (pairs_in a.earlier.now.octets.now)) (record { message = a.message; subscription = a.subscription }) (placed w.messages.list.octets.now c.in_ok-m.m) (message_there (goal.at.returns c).In_ok-m) (new (goal.at.returns c).Else-count-ne0) (placed w.subscriptions.list.octets.now c.in_ok-s.s) (subscription_there (goal.at.returns c).In_ok-s) (sym c.is_match.ensures ∙ c.if-not-is_match.false) (omega (arith, c.if-s-count.false, c.count-2.ensures)))
