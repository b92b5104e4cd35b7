-- `session::Session::drop_deliveries` meets its contract, by the place of the id. Assumes nothing.
use Rattle.std.proofs.Common.{◌≡◌, true, ◌&&◌, eqb, sym, ap, ◌∙◌, rules, eqb-true}
use mathlib.Core.Option.{some}
use Rattle.headers.specs.Rows.{same}
use Rattle.headers.proofs.Rows.{and_left, and_right}
use Rattle.stores.specs.Places.{is_zero}
use Rattle.sessions.specs.Sessions.{is_valid}
use Rattle.sessions.specs.Deliveries.{auto_mode, with_mode, dropped}
use Rattle.sessions.specs.Calls.{place_named}
use Rattle.sessions.proofs.Kept.{Kept, kept_of}
use Rattle.sessions.proofs.Delivering.{laid_of, place_inside, says_at, says_nowhere, dropped_idle, modes_idle}
use Rattle.sessions.proofs.Deciding.{does_nothing, does_drop}
use Rattle.sessions.proofs.session.Session.drop_deliveries.Goals as goal
use Rattle.sessions.proofs.session.Session.drop_deliveries.Goals.{Start}

-- a valid session, with the sizes of its arrays
kept : (c : Start) → is_valid c.args.self ≡ true → Kept c.args.self
kept c v =
    kept_of c.args.self
    (record {
      subscriptions = record { ids_long = search rules; lens_long = search rules; modes_long = search rules };
      transactions = record { ids_long = search rules; lens_long = search rules };
    })
    (record { labels_long = search rules; lens_long = search rules; places_long = search rules }) v

pub returns-then-count-is_zero : goal.returns-then-count-is_zero
returns-then-count-is_zero c =
    let a = c.args in
    let held = kept (goal.at.returns-then-count-is_zero c).Start c.requires in
    let d = a.self.deliveries in
    let ms = a.self.subscriptions.modes in
    let o = place_named a.self (some a.id.now) in
    let idle : eqb d.count 0 && is_zero ms ≡ true = ap (eqb d.count 0 &&◌) (sym c.is_zero.ensures) ∙ c.if-count-is_zero.true in
    does_nothing a.self _ _ (sym (modes_idle ms o (and_right (eqb d.count 0) (is_zero ms) idle)))
    (sym (dropped_idle d held.holds.sized (laid_of a.self held) o (eqb-true d.count 0 (and_left (eqb d.count 0) (is_zero ms) idle))))

pub returns-in-Some : goal.returns-in-Some
returns-in-Some c =
    let a = c.args in
    let found = says_at _ _ _ c.find_subscription.ensures c.in-Some.is in
    does_drop a.self (place_named a.self (some a.id.now)) _ found
    (place_inside a.self (kept (goal.at.returns-in-Some c).Start c.requires) (λ x. same x a.id.now) _ found)

pub returns-in-None : goal.returns-in-None
returns-in-None c =
    let a = c.args in
    let missed = says_nowhere _ _ c.find_subscription.ensures c.in-None.is in
    does_nothing a.self _ _ (ap (λ o. with_mode o auto_mode a.self.subscriptions.modes) missed) (ap (λ o. dropped o a.self.deliveries) missed)
