-- `run/slot_for` meets its contract. By where the searches ended.
use native.Mathlib.Omega.{arith}
use mathlib.Core.Path.{sym, ap, ◌∙◌}
use Rattle.stores.specs.Searches.{search_says}
use Rattle.registry.proofs.Publishing.{slots_octets, slot_inside, slot_held, slot_free}
use Rattle.registry.proofs.run.slot_for.Goals as goal

pub slot_of-requires : goal.slot_of-requires
slot_of-requires c = slots_octets c.args.rows.now c.requires.0

pub held_slot-requires : goal.held_slot-requires
held_slot-requires c = (
  slots_octets c.args.rows.now c.requires.0,
  slot_inside c.args.rows.now c.requires.0 c.args.destination.now c.requires.1.some_octet
      c.args.session c.in-Some.k (sym (ap search_says c.in-Some.is) ∙ c.slot_of.ensures),
)

pub slot_of-requires-in-None : goal.slot_of-requires-in-None
slot_of-requires-in-None c = slots_octets c.args.rows.now c.requires.0

pub returns-in-Some : goal.returns-in-Some
returns-in-Some c =
    slot_held c.args.rows.now c.requires.0 c.args.destination.now c.requires.1.some_octet c.args.session c.in-Some.k
    (sym (ap search_says c.in-Some.is) ∙ c.slot_of.ensures) (omega arith) c.held_slot.result
    c.held_slot.ensures

pub returns-in-None : goal.returns-in-None
returns-in-None c =
    slot_free c.args.rows.now c.requires.0 c.args.destination.now c.requires.1.some_octet c.args.session
    (sym (ap search_says c.in-None.is) ∙ c.slot_of.ensures)
    c.slot_of-in-None.result c.slot_of-in-None.ensures c.ok_or.result c.ok_or.ensures.value
