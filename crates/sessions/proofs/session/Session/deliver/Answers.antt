-- `session::Session::deliver` meets its contract: 38, 63, 64, or as the place of the subscription gives. Assumes nothing.
use Rattle.sessions.proofs.Delivering.{deliver_invalid, deliver_unopened, deliver_no_id, deliver_unknown, deliver_placed, place_inside, says_at}
use Rattle.headers.specs.Rows.{same}
use Rattle.std.proofs.Common.{◌≡◌, true, sym, ◌∙◌, rules}
use Rattle.sessions.specs.Sessions.{is_valid}
use Rattle.sessions.proofs.Kept.{Kept, kept_of}
use Rattle.sessions.proofs.session.Session.deliver.Goals as goal

pub returns-then-not-is_valid : goal.returns-then-not-is_valid
returns-then-not-is_valid c =
    deliver_invalid c.args.self c.args.subscription.now
    c.args.label.now c.unrecorded.result (sym c.is_valid.ensures
    ∙ c.if-not-is_valid.true) c.unrecorded.ensures

pub returns-then-self-ne-OPEN : goal.returns-then-self-ne-OPEN
returns-then-self-ne-OPEN c =
    deliver_unopened c.args.self
    c.args.subscription.now
    c.args.label.now c.unrecorded-then-self-ne-OPEN.result
    (sym c.is_valid.ensures ∙ c.if-not-is_valid.false) c.if-self-ne-OPEN.true
    c.unrecorded-then-self-ne-OPEN.ensures

pub returns-then-subscription-eq0 : goal.returns-then-subscription-eq0
returns-then-subscription-eq0 c =
    deliver_no_id c.args.self
    c.args.subscription.now
    c.args.label.now c.unrecorded-then-subscription-eq0.result
    (sym c.is_valid.ensures ∙ c.if-not-is_valid.false)
    c.if-self-ne-OPEN.false c.if-subscription-eq0.true c.unrecorded-then-subscription-eq0.ensures

pub find_subscription-requires : goal.find_subscription-requires
find_subscription-requires c = sym c.is_valid.ensures ∙ c.if-not-is_valid.false

-- a valid session, with the sizes of its arrays
kept : (c : goal.In-Some) → is_valid c.args.self ≡ true → Kept c.args.self
kept c v =
    kept_of c.args.self
    (record {
      subscriptions = record { ids_long = search rules; lens_long = search rules; modes_long = search rules };
      transactions = record
          { ids_long = search rules; lens_long = search rules };
    })
    (record { labels_long = search rules; lens_long = search rules; places_long = search rules }) v

pub record_at-requires : goal.record_at-requires
record_at-requires c = (
  sym c.is_valid.ensures
      ∙ c.if-not-is_valid.false,
  place_inside
      c.args.self
      (kept c
      (sym c.is_valid.ensures
      ∙ c.if-not-is_valid.false))
      (λ x. same x c.args.subscription.now) _
      (says_at _ _ _ c.find_subscription.ensures c.in-Some.is),
)

pub returns-in-Some : goal.returns-in-Some
returns-in-Some c =
    deliver_placed c.args.self
    c.args.subscription.now
    c.args.label.now c.record_at.result
    (sym c.is_valid.ensures
    ∙ c.if-not-is_valid.false) c.if-self-ne-OPEN.false
    c.if-subscription-eq0.false c.find_subscription.result
    c.find_subscription.ensures c.in-Some.k c.in-Some.is c.record_at.ensures

pub returns-in-None : goal.returns-in-None
returns-in-None c =
    deliver_unknown c.args.self
    c.args.subscription.now
    c.args.label.now c.unrecorded-in-None.result
    (sym c.is_valid.ensures
    ∙ c.if-not-is_valid.false) c.if-self-ne-OPEN.false
    c.if-subscription-eq0.false c.find_subscription.result
    c.find_subscription.ensures c.in-None.is c.unrecorded-in-None.ensures
