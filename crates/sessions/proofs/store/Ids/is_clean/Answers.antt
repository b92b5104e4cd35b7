-- `store::Ids::is_clean` meets its contract: what is left of the test from place k on.
use Rattle.std.proofs.Common.{ℕ, ◌+◌, ◌<◌, true, false, length, drop, get_or, sym, refl, ap, ◌∙◌, arith}
use Rattle.stores.specs.Places.{is_zero}
use Rattle.sessions.specs.Sessions.{id_max}
use Rattle.sessions.specs.Places.{Fits}
use Rattle.sessions.specs.declared.store.Ids.{Ids}
use Rattle.sessions.specs.Stores.{clean}
use Rattle.sessions.proofs.Walking.{ids_fit, at_place, Turn, next_place, clean_at, clean_end}
use Rattle.sessions.proofs.store.Ids.is_clean.Goals as goal

fits : (s : Ids) → Fits id_max (length s.lens.now) s.octets.now s.lens.now
fits s = ids_fit id_max s.octets.now s.lens.now s.octets_long s.lens_short

here : (s : Ids) (k : ℕ) (more : k < length s.lens.now) → Turn (fits s) (at_place id_max (length s.lens.now) k (omega (arith, more))) (get_or s.lens.now k 0)
here s k more = record { more = more; read = refl }

pub returns-then-not-is_zero_from : goal.returns-then-not-is_zero_from
returns-then-not-is_zero_from c =
    let t = here c.args.self c.loop-k.k c.loop-k-test.true in
    sym (c.loop-k.invariant ∙ clean_at t false (ap (λ z. is_zero (drop (get_or c.args.self.lens.now c.loop-k.k 0) z)) (sym c.place.ensures) ∙ sym c.is_zero_from.ensures ∙ c.if-not-is_zero_from.true))

pub loop-k-preserved : goal.loop-k-preserved
loop-k-preserved c =
    let t = here c.args.self c.loop-k.k c.loop-k-test.true in
    c.loop-k.invariant ∙ clean_at t true (ap (λ z. is_zero (drop (get_or c.args.self.lens.now c.loop-k.k 0) z)) (sym c.place.ensures) ∙ sym c.is_zero_from.ensures ∙ c.if-not-is_zero_from.false)
    ∙ ap (λ z. clean id_max (drop z c.args.self.octets.now) (drop (c.loop-k.k + 1) c.args.self.lens.now)) (next_place t).starts

pub returns : goal.returns
returns c =
    let l = c.loop-k in
    sym (l.invariant ∙ clean_end (fits c.args.self) (at_place id_max (length c.args.self.lens.now) l.k (omega arith)) c.loop-k-test.false)
