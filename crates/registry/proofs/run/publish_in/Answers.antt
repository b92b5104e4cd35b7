-- `run/publish_in` meets its contract. By the slot that the port takes.
use native.Mathlib.Omega.{arith}
use Rattle.registry.proofs.Publishing.{slots_octets, published_accepted, given_slot, slot_less}
use Rattle.registry.proofs.run.publish_in.Goals as goal

pub slice_bounds-put_port-end : goal.slice_bounds-put_port-end
slice_bounds-put_port-end c =
    omega (
      arith,
      slot_less c.args.destination.now c.args.session c.args.rows.now c.slot_for.result
          c.in_ok-k.k c.in_ok-k.was c.slot_for.ensures,
      slots_octets c.args.rows.now c.requires.0,
    )

pub returns : goal.returns
returns c =
    published_accepted c.args.rows.now c.requires.0 c.args.destination.now c.args.text.now c.args.session
    c.in_ok-k.k
    (given_slot c.args.destination.now c.args.session c.args.rows.now
    c.slot_for.result _ c.in_ok-k.was
    c.slot_for.ensures) c.put_port.new.row
    c.put_port.ensures
