-- `delivery::Deliveries::find` meets its contract: the store of labels is searched. Assumes nothing.
use Rattle.std.proofs.Common.{◌∙◌, arith, rules}
use Rattle.sessions.specs.Sessions.{SizedDeliveries}
use Rattle.sessions.proofs.Walking.{fits_long}
use Rattle.sessions.proofs.Delivering.{find_fits, find_pending}
use Rattle.sessions.proofs.delivery.Deliveries.find.Goals as goal
use Rattle.sessions.proofs.delivery.Deliveries.find.Goals.{After-from-n}

-- the sizes of its arrays
sized : (c : After-from-n) → SizedDeliveries c.args.self
sized c = record { labels_long = search rules; lens_long = search rules; places_long = search rules }

pub slice_bounds-ids-end : goal.slice_bounds-ids-end
slice_bounds-ids-end c = omega (arith, c.requires.few, c.from-n.ensures, (sized (goal.at.slice_bounds-ids-end c).After-from-n).labels_long)

pub slice_bounds-ids-end-2 : goal.slice_bounds-ids-end-2
slice_bounds-ids-end-2 c = omega (arith, c.requires.few, c.from-n.ensures, (sized (goal.at.slice_bounds-ids-end-2 c).After-from-n).lens_long)

pub invariant_of-ids : goal.invariant_of-ids
invariant_of-ids c =
    let f = find_fits c.args.self (sized (goal.at.invariant_of-ids c).After-from-n) c.requires c.from-n.result c.from-n.ensures in
    record { octets_long = fits_long f; lens_short = f.lens_short }

pub returns : goal.returns
returns c =
    c.find.ensures
    ∙ find_pending c.args.self (sized (goal.at.returns c).After-from-n) c.requires c.from-n.result c.from-n.ensures c.args.label.now
