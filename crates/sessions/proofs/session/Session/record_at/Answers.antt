-- `session::Session::record_at` meets its contract: 62, 61, or recorded. Assumes nothing.
use Rattle.sessions.specs.Steps.{unrecorded_by}
use Rattle.sessions.proofs.Delivering.{at_bad, at_pending, at_full, at_done, may_record, laid_of}
use Rattle.stores.proofs.Searching.{told_any}
use Rattle.sessions.specs.Deliveries.{labelled, pending}
use Rattle.std.proofs.Common.{◌≡◌, true, sym, ◌∙◌, rules}
use Rattle.sessions.specs.Sessions.{is_valid}
use Rattle.sessions.proofs.Kept.{Kept, kept_of}
use Rattle.sessions.specs.declared.refusals.Refusal.{Refusal}
use Rattle.sessions.proofs.session.Session.record_at.Goals as goal

pub returns-then-label : goal.returns-then-label
returns-then-label c =
    at_bad c.args.self c.args.place
    c.args.label.now c.unrecorded.result c.if-label.true c.unrecorded.ensures

-- a valid session, with the sizes of its arrays
kept : (c : goal.Else-label) → is_valid c.args.self ≡ true → Kept c.args.self
kept c v =
    kept_of c.args.self
    (record {
      subscriptions = record { ids_long = search rules; lens_long = search rules; modes_long = search rules };
      transactions = record
          { ids_long = search rules; lens_long = search rules };
    })
    (record { labels_long = search rules; lens_long = search rules; places_long = search rules }) v

pub find-requires : goal.find-requires
find-requires c = laid_of c.args.self (kept c c.requires.0)

pub returns-then-is_some : goal.returns-then-is_some
returns-then-is_some c =
    at_pending c.args.self c.args.place
    c.args.label.now c.unrecorded-then-is_some.result c.if-label.false
    (told_any (labelled c.args.label.now) 0
    (pending c.args.self.deliveries) c.find.result
    c.find.ensures ∙ sym c.is_some.ensures ∙ c.if-is_some.true) c.unrecorded-then-is_some.ensures

pub returns-then-modes-place : goal.returns-then-modes-place
returns-then-modes-place c =
    at_full c.args.self
    c.args.place
    c.args.label.now c.unrecorded-then-modes-place.result
    c.if-label.false
    (told_any (labelled c.args.label.now) 0
    (pending c.args.self.deliveries)
    c.find.result c.find.ensures
    ∙ sym c.is_some.ensures ∙ c.if-is_some.false) c.if-modes-place.true
    c.unrecorded-then-modes-place.ensures

pub recorded-requires : goal.recorded-requires
recorded-requires c =
    may_record c.args.self
    c.args.place
    c.args.label.now
    (unrecorded_by c.args.self Refusal.BadLabel)
    c.requires.0
    c.requires.1 c.if-label.false
    c.if-modes-place.false

pub returns : goal.returns
returns c =
    at_done c.args.self
    c.args.place
    c.args.label.now c.recorded.result
    c.if-label.false
    (told_any (labelled c.args.label.now) 0
    (pending c.args.self.deliveries)
    c.find.result c.find.ensures
    ∙ sym c.is_some.ensures ∙ c.if-is_some.false) c.if-modes-place.false
    c.recorded.ensures
