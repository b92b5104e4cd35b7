-- `session::Session::keep_mode` meets its contract, by the first free place. Assumes nothing.
use Rattle.std.proofs.Common.{◌≡◌, true, sym, refl, ap, ◌∙◌, rules}
use Rattle.sessions.specs.Sessions.{is_valid}
use Rattle.sessions.proofs.Kept.{Kept, kept_of}
use Rattle.headers.specs.Rows.{empty}
use Rattle.sessions.specs.Deliveries.{with_mode}
use Rattle.sessions.specs.Calls.{free_place}
use Rattle.sessions.proofs.Delivering.{free_is, place_inside, says_at, says_nowhere, entered_auto}
use Rattle.sessions.proofs.Deciding.{does_nothing, does_mode}
use Rattle.sessions.proofs.session.Session.keep_mode.Goals as goal
use Rattle.sessions.proofs.session.Session.keep_mode.Goals.{Start}

-- a valid session, with the sizes of its arrays
kept : (c : Start) → is_valid c.args.self ≡ true → Kept c.args.self
kept c v =
    kept_of c.args.self
    (record {
      subscriptions = record { ids_long = search rules; lens_long = search rules; modes_long = search rules };
      transactions = record { ids_long = search rules; lens_long = search rules };
    })
    (record { labels_long = search rules; lens_long = search rules; places_long = search rules }) v

pub returns-then-mode-eq-AUTO : goal.returns-then-mode-eq-AUTO
returns-then-mode-eq-AUTO c =
    let a = c.args in
    let auto = entered_auto a.self (kept (goal.at.returns-then-mode-eq-AUTO c).Start c.requires) in
    does_nothing a.self _ _ (ap (λ m. with_mode (free_place a.self) m a.self.subscriptions.modes) c.if-mode-eq-AUTO.true ∙ sym auto) refl

pub returns-in-Some : goal.returns-in-Some
returns-in-Some c =
    let a = c.args in
    let held = kept (goal.at.returns-in-Some c).Start c.requires in
    let found = free_is a.self held ∙ says_at _ _ _ c.find_free.ensures c.in-Some.is in
    does_mode a.self (free_place a.self) _ a.mode found (place_inside a.self held empty _ found)

pub returns-in-None : goal.returns-in-None
returns-in-None c =
    let a = c.args in
    let none_free = free_is a.self (kept (goal.at.returns-in-None c).Start c.requires) ∙ says_nowhere _ _ c.find_free.ensures c.in-None.is in
    does_nothing a.self _ _ (ap (λ o. with_mode o a.mode a.self.subscriptions.modes) none_free) refl
