-- `store::Ids::compare` meets its contract: what is left of the test from place k on.
use Rattle.std.proofs.Common.{◌≡◌, Bool, ◌+◌, ◌*◌, true, false, length, drop, get_or, sym, refl, ap, ◌∙◌, ap₂, arith}
use Rattle.sessions.specs.Sessions.{id_max}
use Rattle.sessions.specs.Places.{again}
use Rattle.sessions.specs.Stores.{ids, clean, distinct}
use Rattle.sessions.proofs.Walking.{at_place, Turn, next_place, id_at, ids_behind, ids_end}
use Rattle.sessions.proofs.Telling.{all_keys, rest_clean, rest_keyed, distinct_next}
use Rattle.sessions.proofs.store.Ids.compare.Goals as goal
use Rattle.sessions.proofs.store.Ids.compare.Goals.{After-id}

pub loop-k-init : goal.loop-k-init
loop-k-init c = (c.requires.clean_yes, refl)

-- what a turn knows
here : (c : After-id) → Turn c.requires.fits (at_place id_max (length c.args.self.lens.now) c.loop-k.k (omega (arith, c.loop-k-test.true))) (get_or c.args.self.lens.now c.loop-k.k 0)
here c = record { more = c.loop-k-test.true; read = refl }

behind_is : (c : After-id) → c.behind.result.octets.now ≡ drop (c.loop-k.k * 32 + 32) c.args.self.octets.now
behind_is c = c.behind.ensures.0 ∙ ap (λ z. drop z c.args.self.octets.now) (sym (next_place (here c)).starts)

pub is_repeated-requires : goal.is_repeated-requires
is_repeated-requires c =
    let p = c.put_keys in
    let at = (goal.at.is_repeated-requires c).After-id in
    rest_keyed (here at) c.loop-k.invariant.0 c.requires.wide c.requires.few p.new.d _ (p.ensures ∙ all_keys c.requires) _ refl _ _ _
    (behind_is at) c.behind.ensures.1 c.id.ensures

told : (c : After-id) (r : Bool) → r ≡ again c.id.result.now (ids id_max c.behind.result.octets.now c.behind.result.lens.now)
    → r ≡ again (id_at (here c)) (ids_behind (here c))
told c r e = e ∙ ap₂ again c.id.ensures (ap₂ (ids id_max) (behind_is c) c.behind.ensures.1)

pub returns-then-is_repeated : goal.returns-then-is_repeated
returns-then-is_repeated c =
    let at = (goal.at.returns-then-is_repeated c).After-id in
    let l = c.loop-k in
    sym (l.invariant.1 ∙ distinct_next (here at) l.invariant.0 true (told at true (sym c.if-is_repeated.true ∙ c.is_repeated.ensures)))

pub loop-k-preserved : goal.loop-k-preserved
loop-k-preserved c =
    let at = (goal.at.loop-k-preserved c).After-id in
    let s = c.args.self in
    let l = c.loop-k in
    let next = (next_place (here at)).starts in
    let behind = drop (l.k + 1) s.lens.now in (
      sym (ap (λ z. clean id_max (drop z s.octets.now) behind) next) ∙ rest_clean (here at) l.invariant.0,
      l.invariant.1 ∙ distinct_next (here at) l.invariant.0 false (told at false (sym c.if-is_repeated.false ∙ c.is_repeated.ensures))
          ∙ ap (λ z. distinct (ids id_max (drop z s.octets.now) behind)) next,
    )

pub returns : goal.returns
unfolding distinct
returns c =
    let l = c.loop-k in
    sym (l.invariant.1 ∙ ap distinct (ids_end c.requires.fits (at_place id_max (length c.args.self.lens.now) l.k (omega arith)) c.loop-k-test.false))
