-- The protocol version of a session, call after call: it is the one that the history tells. Assumes nothing.
--     spoken_next    the version after a call
--     events_next    the events of a history, call by call
use Rattle.std.proofs.Common.{◌≡◌, ℕ, Bool, true, false, cond, not, ◌&&◌, ◌||◌, eqb, List, ◌∷◌, sym, refl, ap, ◌∙◌, ap₂, true≢false}
use mathlib.Core.Option.{Option, none, some}
use Rattle.headers.specs.Block.{Entry, entries, listed}
use Rattle.headers.specs.Answers.{Answer, accepted, refused}
use Rattle.headers.proofs.Rows.{cond_case}
use Rattle.frames.specs.Grammar.{DISCONNECT}
use Rattle.sessions.specs.Values.{HeartBeats}
use Rattle.sessions.specs.Opening.{chosen}
use Rattle.sessions.specs.Headers.{is, is_some, opens, IdUse, changed_id}
use Rattle.sessions.specs.Sessions.{spoken, closed, heard, ids_of, with_ids}
use Rattle.sessions.specs.Stores.{used}
use Rattle.sessions.specs.Calls.{left_by, opened_by, opening, shared_by, client_versions, client_heart_beats, uses_of, id_effect, effect, named_effect}
use Rattle.sessions.specs.Calls.{frame_answer, frame_session, heart_beat_answer, heart_beat_session, deliver_answer, deliver_session, recorded_by}
use Rattle.sessions.specs.Calls.{recording}
use Rattle.sessions.specs.Histories.{Call, frame, heart_beat, deliver, answer_to, next, trace, chosen_of, version_by, event_of, told, events}
use Rattle.sessions.specs.declared.command.Kind.{Kind}
use Rattle.sessions.specs.declared.command.Kind.TheVariants.{Subscriptions, Transactions}
use Rattle.sessions.specs.declared.parts.Agreed.{Agreed}
use Rattle.sessions.specs.declared.parts.Offers.{Offers}
use Rattle.sessions.specs.declared.session.Session.{Session}
use Rattle.sessions.proofs.Checks.{Passed, frame_passed}

-- what a call leaves of a session's offers and of what was agreed on
record Same (r s : Session) : Type 0 where
  offers_same : r.offers ≡ s.offers
  agreed_same : r.agreed ≡ s.agreed

same_self : (s : Session) → Same s s
same_self s = record { offers_same = refl; agreed_same = refl }

same_closed : (s : Session) → Same (closed s) s
same_closed s = record { offers_same = refl; agreed_same = refl }

-- an id entered or freed
same_used : (s : Session) (o : Option IdUse) → Same (id_effect s o) s
same_used s none = same_self s
same_used s (some u) = by u.kind (used u.usage u.id (ids_of u.kind s))
  where
    by : (k : Kind) (is : List (List ℕ)) → Same (with_ids k s is) s
    by Subscriptions is = record { offers_same = refl; agreed_same = refl }
    by Transactions is = record { offers_same = refl; agreed_same = refl }

same_named : (s : Session) (n : ℕ) (es : List Entry) → Same (named_effect s n es) s
same_named s n es =
    let a = same_used s (changed_id (uses_of s n es)) in
    record { offers_same = a.offers_same; agreed_same = a.agreed_same }

-- a session that is opened
opened_shares : (s : Session) (shared : List Bool) (o : Option HeartBeats) → is_some o ≡ true
    → ((opened_by s shared o).offers ≡ s.offers) × ((opened_by s shared o).agreed.versions ≡ shared)
opened_shares s shared none h = absurd (true≢false (sym h))
opened_shares s shared (some b) h = (refl, refl)

module _ (s : Session) where
  chosen_is : (o : Option (List Bool)) → chosen (shared_by s o) ≡ chosen_of s.offers.versions o
  chosen_is none = refl
  chosen_is (some client) = refl

  -- an accepted frame
  after_effect : (n : ℕ) (es : List Entry) → Passed s n es
      → ((effect s n es).offers ≡ s.offers) × (spoken (effect s n es) ≡ cond (opens n) (chosen_of s.offers.versions (client_versions es)) (spoken s))
  after_effect n es p = by (opens n) (is DISCONNECT n) refl
    where
      by : (a b : Bool) → opens n ≡ a
          → let r = cond a (opening s es) (cond b (closed s) (named_effect s n es)) in
          (r.offers ≡ s.offers) × (spoken r ≡ cond a (chosen_of s.offers.versions (client_versions es)) (spoken s))
      by true b e =
          let heard_so : is_some (client_heart_beats es) ≡ true =
          by_not (is_some (client_heart_beats es)) (sym (ap (◌&& not (is_some (client_heart_beats es))) e) ∙ p.opening.1.1.0) in
          let (o, v) = opened_shares s (shared_by s (client_versions es)) (client_heart_beats es) heard_so in
          (o, ap chosen v ∙ chosen_is (client_versions es))
        where
          by_not : (t : Bool) → not t ≡ false → t ≡ true
          by_not true h = refl
          by_not false h = sym h
      by false true e = (refl, refl)
      by false false e = let a = same_named s n es in (a.offers_same, ap (λ (g : Agreed). chosen g.versions) a.agreed_same)

  abbrev Follows : Call → Session → Answer → Type 0
  Follows c r A = (r.offers ≡ s.offers) × (spoken r ≡ version_by s.offers.versions (spoken s) A c)

  left_follows : (k : ℕ) (c : Call) → spoken s ≡ version_by s.offers.versions (spoken s) (refused k) c → (r : Session) → Follows c (left_by (refused k) s r) (refused k)
  left_follows k c e r = cond_case (λ z. Follows c z (refused k)) (eqb k 38 || eqb k 39) (λ t. (refl, e)) (λ t. (refl, e))

  frame_follows : (n : ℕ) (block : List ℕ) (time : ℕ) → Follows (frame n block time) (frame_session s n block time) (frame_answer s n block)
  unfolding frame_session
  frame_follows n block time = by (frame_answer s n block) refl
    where
      es : List Entry
      es = listed (entries block)

      by : (A : Answer) → frame_answer s n block ≡ A → Follows (frame n block time) (left_by A s (heard (effect s n es) time)) A
      by (accepted v) e = after_effect n es (frame_passed s n block v e)
      by (refused k) e = left_follows k (frame n block time) refl (heard (effect s n es) time)

  heart_beat_follows : (time : ℕ) → Follows (heart_beat time) (heart_beat_session s time) (heart_beat_answer s)
  unfolding heart_beat_session
  heart_beat_follows time = by (heart_beat_answer s)
    where
      by : (A : Answer) → Follows (heart_beat time) (left_by A s (heard s time)) A
      by (accepted v) = (refl, refl)
      by (refused k) = left_follows k (heart_beat time) refl (heard s time)

  deliver_follows : (id label : List ℕ) → Follows (deliver id label) (deliver_session s id label) (deliver_answer s id label)
  unfolding deliver_session
  deliver_follows id label = by (deliver_answer s id label)
    where
      by : (A : Answer) → Follows (deliver id label) (recorded_by A s (recording s id label)) A
      by (accepted v) = (refl, refl)
      by (refused k) = (refl, refl)

  follows : (c : Call) → Follows c (next s c) (answer_to s c)
  follows (frame n block time) = frame_follows n block time
  follows (heart_beat time) = heart_beat_follows time
  follows (deliver id label) = deliver_follows id label

  -- the version after a call is the one that the call, its answer and the offers tell
  pub spoken_next : (c : Call) → spoken (next s c) ≡ version_by s.offers.versions (spoken s) (answer_to s c) c
  spoken_next c = (follows c).1

  pub events_next : (c : Call) (cs : List Call) → events s (c ∷ cs) ≡ event_of (spoken s) c (answer_to s c) ∷ events (next s c) cs
  events_next c cs =
      let offers : s.offers.versions ≡ (next s c).offers.versions = ap (λ (o : Offers). o.versions) (sym (follows c).0) in
      ap₂ (λ o v. event_of (spoken s) c (answer_to s c) ∷ told o v (trace (next s c) cs)) offers (sym (spoken_next c))
