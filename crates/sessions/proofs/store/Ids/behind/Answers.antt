-- `store::Ids::behind` meets its contract: what is left of a store is a store.
use Rattle.std.proofs.Common.{◌+◌, ◌-◌, ◌*◌, ◌<◌, ℕ, length, drop, sym, ap, ◌∙◌, arith}
use Rattle.stores.proofs.Walking.{part_drop}
use Rattle.sessions.specs.Sessions.{id_max}
use Rattle.sessions.specs.Places.{Fits}
use Rattle.sessions.specs.declared.store.Ids.{Ids}
use Rattle.sessions.proofs.Walking.{ids_fit, at_place, part_fits}
use Rattle.sessions.proofs.store.Ids.behind.Goals as goal

left : (s : Ids) (k : ℕ) → k < length s.lens.now → Fits id_max (length s.lens.now - (k + 1)) (drop ((k + 1) * id_max) s.octets.now) (drop (k + 1) s.lens.now)
left s k h =
    part_fits (ids_fit id_max s.octets.now s.lens.now s.octets_long s.lens_short) (at_place id_max (length s.lens.now) (k + 1) (omega (arith, h)))

pub invariant_of-result : goal.invariant_of-result
invariant_of-result c =
    let s = c.args.self in
    let k = c.args.k in
    let f = left s k c.requires in
    record {
      octets_long = rw (part_drop ((k + 1) * 32) s.octets.now, part_drop (k + 1) s.lens.now) (f.store_long ∙ ap (◌* 32) (sym f.lens_long));
      lens_short = rw (part_drop (k + 1) s.lens.now) f.lens_short;
    }

pub returns : goal.returns
returns c = (part_drop ((c.args.k + 1) * 32) c.args.self.octets.now, part_drop (c.args.k + 1) c.args.self.lens.now)
