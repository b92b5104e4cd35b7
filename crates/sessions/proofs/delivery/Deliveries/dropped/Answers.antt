-- `delivery::Deliveries::dropped` meets its contract. Assumes nothing.
use Rattle.std.proofs.Common.{sym, ◌∙◌, refl, rules}
use Rattle.sessions.specs.Sessions.{SizedDeliveries}
use Rattle.sessions.proofs.Delivering.{dropped_none, dropped_some}
use Rattle.sessions.proofs.delivery.Deliveries.dropped.Goals as goal
use Rattle.sessions.proofs.delivery.Deliveries.dropped.Goals.{Start}

-- the sizes of its arrays
sized : (c : Start) → SizedDeliveries c.args.self
sized c = record { labels_long = search rules; lens_long = search rules; places_long = search rules }

pub returns-then-n-eq0 : goal.returns-then-n-eq0
returns-then-n-eq0 c =
    dropped_none c.args.self (sized (goal.at.returns-then-n-eq0 c).Start) c.requires.0 c.args.place (sym c.from-n.ensures ∙ c.if-n-eq0.true)

pub returns : goal.returns
returns c =
    c.without.ensures
    ∙ dropped_some c.args.self (sized (goal.at.returns c).Start) c.requires.0 c.args.place _ _ c.from-n.ensures refl
