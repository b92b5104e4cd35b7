-- `store::Ids::find` meets its contract: what is left of the search from place k on.
use Rattle.std.proofs.Common.{ℕ, ◌+◌, ◌<◌, length, drop, get_or, sym, refl, ap, ◌∙◌, arith}
use Rattle.headers.specs.Rows.{same}
use Rattle.stores.specs.Searches.{first_from}
use Rattle.stores.proofs.Searching.{first_hit, first_miss, first_end}
use Rattle.sessions.specs.Sessions.{id_max}
use Rattle.sessions.specs.Places.{Fits}
use Rattle.sessions.specs.declared.store.Ids.{Ids}
use Rattle.sessions.specs.Stores.{ids}
use Rattle.sessions.proofs.Walking.{ids_fit, at_place, Turn, next_place, ids_at, ids_end}
use Rattle.sessions.proofs.store.Ids.find.Goals as goal

fits : (s : Ids) → Fits id_max (length s.lens.now) s.octets.now s.lens.now
fits s = ids_fit id_max s.octets.now s.lens.now s.octets_long s.lens_short

here : (s : Ids) (k : ℕ) (more : k < length s.lens.now) → Turn (fits s) (at_place id_max (length s.lens.now) k (omega (arith, more))) (get_or s.lens.now k 0)
here s k more = record { more = more; read = refl }

pub returns-then-is_same : goal.returns-then-is_same
returns-then-is_same c =
    let t = here c.args.self c.loop-k.k c.loop-k-test.true in
    sym (c.loop-k.invariant ∙ ap (first_from (λ x. same x c.args.id.now) c.loop-k.k) (ids_at t) ∙ first_hit _ _ _ _
    (ap (λ x. same x c.args.id.now) (sym c.id.ensures) ∙ sym c.is_same.ensures ∙ c.if-is_same.true))

pub loop-k-preserved : goal.loop-k-preserved
loop-k-preserved c =
    let t = here c.args.self c.loop-k.k c.loop-k-test.true in
    c.loop-k.invariant ∙ ap (first_from (λ x. same x c.args.id.now) c.loop-k.k) (ids_at t) ∙ first_miss _ _ _ _
    (ap (λ x. same x c.args.id.now) (sym c.id.ensures) ∙ sym c.is_same.ensures ∙ c.if-is_same.false)
    ∙ ap (λ z. first_from (λ x. same x c.args.id.now) (c.loop-k.k + 1) (ids id_max (drop z c.args.self.octets.now) (drop (c.loop-k.k + 1) c.args.self.lens.now))) (next_place t).starts

pub returns : goal.returns
returns c =
    let l = c.loop-k in
    sym (l.invariant ∙ ap (first_from (λ x. same x c.args.id.now) l.k) (ids_end (fits c.args.self) (at_place id_max (length c.args.self.lens.now) l.k (omega arith)) c.loop-k-test.false) ∙ first_end _ l.k)
