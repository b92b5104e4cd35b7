-- The opening frame: what each of its checks comes to, by what was read of the headers; and the timed-out question. Assumes nothing.
use Rattle.std.proofs.Common.{◌≡◌, ℕ, ◌*◌, Bool, true, false, ltb, List, [], sym, refl, ap, ◌∙◌, eq-eqb, ne_eqb}
use mathlib.Core.Option.{none, some}
use Rattle.headers.specs.Block.{Entry}
use Rattle.sessions.specs.Opening.{shared_flags, none_shared, interval, passed}
use Rattle.sessions.specs.Sessions.{opened}
use Rattle.sessions.specs.Calls.{client_versions, client_heart_beats, shared_by, opening, is_timed_out}
use Rattle.sessions.specs.Steps.{closed_by, accepted_by, GivesOpening}
use Rattle.sessions.specs.declared.value.Beats.{Beats}
use Rattle.sessions.specs.declared.refusals.Refusal.{Refusal}
use Rattle.sessions.specs.declared.session.Session.{Session}
use Rattle.sessions.specs.declared.session.Acceptance.{Acceptance}
use Rattle.sessions.specs.Afters.{Outcome}
use Rattle.sessions.proofs.Steps.{gives_closed, gives_on, gives_accepted}

module _ (s : Session) (es : List Entry) (acceptance : Acceptance) (time : ℕ) (r : Outcome) where
  pub opening_malformed : none ≡ client_versions es → r ≡ closed_by s Refusal.BadVersions → GivesOpening s es acceptance time r
  opening_malformed v q = gives_closed _ Refusal.BadVersions _ (rw (sym v)) refl q

  module _ (flags : List Bool) (versions : some flags ≡ client_versions es) (shared : List Bool) (both : shared ≡ shared_flags flags s.offers.versions) where
    known : client_versions es ≡ some flags
    known = sym versions

    shared_is : shared_by s (client_versions es) ≡ shared
    shared_is = rw known (sym both)

    pub opening_unshared : none_shared shared ≡ true → r ≡ closed_by s Refusal.NoVersion → GivesOpening s es acceptance time r
    opening_unshared n q = gives_on _ _ (rw known) (gives_closed _ Refusal.NoVersion _ (rw shared_is n) refl q)

    module _ (n : none_shared shared ≡ false) where
      pub opening_no_heart_beat : none ≡ client_heart_beats es → r ≡ closed_by s Refusal.BadHeartBeat → GivesOpening s es acceptance time r
      opening_no_heart_beat b q = gives_on _ _ (rw known) (gives_on _ _ (rw shared_is n) (gives_closed _ Refusal.BadHeartBeat _ (rw (sym b)) refl q))

      pub opening_done : (b : Beats) → some (record { sends = b.sends; wants = b.wants }) ≡ client_heart_beats es
          → r ≡ accepted_by (opened s shared (interval b.sends s.offers.wants) (interval s.offers.sends b.wants)) acceptance time
          → GivesOpening s es acceptance time r
      opening_done b m q =
          let told : client_heart_beats es ≡ some (record { sends = b.sends; wants = b.wants }) = sym m in
          let became : opening s es ≡ opened s shared (interval b.sends s.offers.wants) (interval s.offers.sends b.wants) =
          rw (shared_is, told) in
          gives_on _ _ (rw known) (gives_on _ _ (rw shared_is n) (gives_on _ _ (rw told)
          (gives_accepted [] acceptance s (opening s es) time r refl (q ∙ ap (λ z. accepted_by z acceptance time) (sym became)))))

-- the timed-out question of an open session with an interval
pub timed_out_by : (s : Session) (time : ℕ) → s.phase ≡ 1 → (s.agreed.inbound ≡ 0 → ⊥) → is_timed_out s time ≡ ltb (s.agreed.inbound * 2)
    (passed time s.last_heard)
timed_out_by s time p n = rw (eq-eqb s.phase 1 p, ne_eqb s.agreed.inbound 0 n)
