-- `delivery::Deliveries::settled` meets its contract, by the ack mode. Assumes nothing.
use Rattle.std.proofs.Common.{get_or, sym, refl, ap, ◌∙◌, rules}
use Rattle.sessions.specs.Sessions.{SizedDeliveries}
use Rattle.sessions.proofs.Delivering.{settled_client, settled_individual}
use Rattle.sessions.proofs.delivery.Deliveries.settled.Goals as goal
use Rattle.sessions.proofs.delivery.Deliveries.settled.Goals.{Start}

-- the sizes of its arrays
sized : (c : Start) → SizedDeliveries c.args.self
sized c = record { labels_long = search rules; lens_long = search rules; places_long = search rules }

pub returns-then-mode-eq-CLIENT : goal.returns-then-mode-eq-CLIENT
returns-then-mode-eq-CLIENT c =
    let ms = c.args.modes.now in
    let from = c.from in
    λ l e. c.without.ensures
    ∙ settled_client c.args.self (sized (goal.at.returns-then-mode-eq-CLIENT c).Start) c.requires.0 ms l c.args.index e _ refl
    (ap (λ k. get_or ms k 0) (sym from.ensures) ∙ sym c.octet_at-mode.ensures ∙ c.if-mode-eq-CLIENT.true)

pub returns : goal.returns
returns c =
    let ms = c.args.modes.now in
    let from = c.from in
    λ l e. c.without-2.ensures
    ∙ settled_individual c.args.self (sized (goal.at.returns c).Start) c.requires.0 ms l c.args.index e _ refl
    (λ h. c.if-mode-eq-CLIENT.false (c.octet_at-mode.ensures ∙ ap (λ k. get_or ms k 0) from.ensures ∙ h))
