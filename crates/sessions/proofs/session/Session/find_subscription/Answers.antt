-- `session::Session::find_subscription` meets its contract. Assumes nothing.
use Rattle.std.proofs.Common.{rules}
use Rattle.sessions.specs.Sessions.{Sized, SizedDeliveries}
use Rattle.sessions.proofs.Walking.{fits_long}
use Rattle.sessions.proofs.Kept.{kept_of}
use Rattle.sessions.proofs.Keeping.{subscriptions_fit}
use Rattle.sessions.proofs.session.Session.find_subscription.Goals as goal

pub invariant_of-ids : goal.invariant_of-ids
invariant_of-ids c =
    let sized : Sized c.args.self = record {
      subscriptions = record { ids_long = search rules; lens_long = search rules; modes_long = search rules };
      transactions = record { ids_long = search rules; lens_long = search rules };
    } in
    let deliveries : SizedDeliveries c.args.self.deliveries = record { labels_long = search rules; lens_long = search rules; places_long = search rules } in
    let f = subscriptions_fit c.args.self (kept_of c.args.self sized deliveries c.requires).ids in
    record { octets_long = fits_long f; lens_short = f.lens_short }

pub returns : goal.returns
returns c = c.find.ensures
