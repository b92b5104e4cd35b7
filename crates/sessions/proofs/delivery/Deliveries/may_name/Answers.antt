-- `delivery::Deliveries::may_name` meets its contract: in 1.1 the places are compared. Assumes nothing.
use Rattle.sessions.specs.Sessions.{SizedDeliveries}
use Rattle.sessions.proofs.Delivering.{may_at}
use Rattle.std.proofs.Common.{rules}
use Rattle.sessions.proofs.delivery.Deliveries.may_name.Goals as goal

-- the sizes of its arrays
sized : (c : goal.After-from) → SizedDeliveries c.args.self
sized c = record { labels_long = search rules; lens_long = search rules; places_long = search rules }

pub returns-in-Some : goal.returns-in-Some
returns-in-Some c =
    may_at c.args.self (sized c) c.requires.0 c.args.index c.requires.1 _ _ _ _ c.in-V11.is c.in-Some.is
    c.from.ensures
