-- `run/port_in` meets its contract. By where the search ended.
use Prim.Native.Nat.{◌<◌}
use native.Mathlib.Omega.{arith}
use mathlib.Core.Path.{◌≡◌, sym, ap, subst, ◌∙◌}
use mathlib.Core.Option.{some}
use Rattle.stores.specs.Searches.{first_from, search_says}
use Rattle.registry.specs.Records.{parts}
use Rattle.registry.specs.Steps.{GivesPort}
use Rattle.registry.specs.Tests.{is_named}
use Rattle.registry.proofs.Publishing.{slots_octets, slot_inside, port_at, no_port}
use Rattle.registry.proofs.run.port_in.Goals as goal
use Rattle.registry.proofs.run.port_in.Goals.{In_ok-k}

pub slot_of-requires : goal.slot_of-requires
slot_of-requires c = slots_octets c.args.rows.now c.requires.0

-- the slot that is found
module _ (e : In_ok-k) where
  there : some e.in_ok-k.k ≡ first_from (is_named e.args.destination.now) 0 (parts 106 8 e.args.rows.now)
  there = sym (ap search_says e.in_ok-k.was) ∙ e.slot_of.ensures

  inside : e.in_ok-k.k < 8
  inside = slot_inside e.args.rows.now e.requires.0 e.args.destination.now e.requires.1.some_octet 0 e.in_ok-k.k there

pub overflow_mul-at : goal.overflow_mul-at
overflow_mul-at c = omega (arith, inside (goal.at.overflow_mul-at c).In_ok-k)

pub overflow_add-at : goal.overflow_add-at
overflow_add-at c = omega (arith, inside (goal.at.overflow_add-at c).In_ok-k)

pub overflow_add-result : goal.overflow_add-result
overflow_add-result c = omega (arith, inside (goal.at.overflow_add-result c).In_ok-k)

pub bounds-rows-at : goal.bounds-rows-at
bounds-rows-at c =
    omega (arith, inside (goal.at.bounds-rows-at c).In_ok-k, slots_octets c.args.rows.now c.requires.0)

pub returns-in_err-k : goal.returns-in_err-k
returns-in_err-k c =
    subst (GivesPort c.args.destination.now c.args.rows.now) (sym c.from_residual.ensures)
    (no_port c.args.rows.now c.requires.0 c.args.destination.now c.requires.1.some_octet 0
    (sym (ap search_says c.in_err-k.was) ∙ c.slot_of.ensures))

pub returns : goal.returns
returns c =
    port_at c.args.rows.now c.requires.0 c.args.destination.now c.requires.1.some_octet 0 c.in_ok-k.k
    (there (goal.at.returns c).In_ok-k) c.from.result c.from.ensures
