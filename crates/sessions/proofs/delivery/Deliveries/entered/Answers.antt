-- `delivery::Deliveries::entered` meets its contract: the label after the others.
use Rattle.std.proofs.Common.{◌≡◌, length, refl, arith, rules}
use Rattle.sessions.specs.Sessions.{SizedDeliveries}
use Rattle.sessions.proofs.Taking.{entered_at}
use Rattle.sessions.proofs.delivery.Deliveries.entered.Goals as goal

pub put-requires : goal.put-requires
put-requires c =
    let n : length c.args.self.labels ≡ 2048 = search rules in
    let m : length c.args.self.lens ≡ 64 = search rules in
    (omega (arith, c.from-n.ensures, c.requires.1), omega (arith, c.from-n.ensures, c.requires.1), c.requires.2)

-- the sizes of its arrays
sized : (c : goal.After-put) → SizedDeliveries c.args.self
sized c = record { labels_long = search rules; lens_long = search rules; places_long = search rules }

pub returns : goal.returns
returns c =
    rw c.put.ensures.1 (entered_at c.args.self (sized c) c.requires.0 c.from-n.result c.from-n.ensures
    c.args.place c.args.label.now _ _ c.requires.1 c.requires.2
    c.put.ensures.0 refl)
