-- What closes a session, and what a closed one does. Assumes nothing.
--     closing, closes                           only a number other than 38 and 39, or DISCONNECT, closes; and each of these does
--     closed_frame, closed_heart_beat           what a closed session answers
--     closed_kept, closed_next, closed_after    no refusal, no call and no history changes it
--     closed_answers                            and no history changes what it answers
use Rattle.std.proofs.Common.{◌≡◌, ℕ, Bool, true, cond, not, ◌||◌, eqb, ◌≢◌, List, [], ◌∷◌, sym, refl, ap, ◌∙◌, subst, ap₂, true≢false, arith, eq-eqb, ne_eqb, eqb-true}
use mathlib.Core.Option.{Option, none, some}
use borrow.Author.Tests.{eqb-false}
use Rattle.headers.specs.Block.{Entry, entries, listed}
use Rattle.headers.specs.Answers.{Answer, accepted, refused, is_block}
use Rattle.headers.proofs.Rows.{cond_case, or_false_left, or_false_right}
use Rattle.frames.specs.Grammar.{number, DISCONNECT}
use Rattle.sessions.specs.Values.{HeartBeats}
use Rattle.sessions.specs.Headers.{IdUse, changed_id, is, unknown, opens}
use Rattle.sessions.specs.Sessions.{closed_phase, with_ids, with_phase, with_deliveries, closed, heard, is_valid}
use Rattle.sessions.proofs.Pending.{none_same}
use Rattle.sessions.proofs.Kept.{Kept}
use Rattle.sessions.specs.Calls.{left_by, shared_by, client_versions, client_heart_beats, opened_by, uses_of, frame_answer, id_effect, effect}
use Rattle.sessions.specs.Calls.{frame_session, heart_beat_answer, heart_beat_session, recorded_by, recording, deliver_answer, deliver_session}
use Rattle.sessions.specs.Histories.{Call, frame, heart_beat, deliver, may_close, answer_to, next, after, Closes, by_number, by_disconnect}
use Rattle.sessions.specs.declared.command.Kind.{Kind}
use Rattle.sessions.specs.declared.command.Kind.TheVariants.{Subscriptions, Transactions}
use Rattle.sessions.specs.declared.session.Session.{Session}

-- ---- nothing else closes

-- ids that are used leave the phase
with_ids_phase : (k : Kind) (s : Session) (is : List (List ℕ)) → (with_ids k s is).phase ≡ s.phase
with_ids_phase Subscriptions s is = refl
with_ids_phase Transactions s is = refl

changed_phase : (s : Session) (o : Option IdUse) → (id_effect s o).phase ≡ s.phase
changed_phase s none = refl
changed_phase s (some u) = with_ids_phase u.kind s _

module _ (s : Session) (open_yet : s.phase ≢ closed_phase) where
  opening_open : (shared : List Bool) (o : Option HeartBeats) → (opened_by s shared o).phase ≢ closed_phase
  opening_open shared none h = open_yet h
  opening_open shared (some b) h = omega arith

  -- a refusal that closes
  refused_closing : (c : Call) (left : Session) (k : ℕ) → may_close c ≡ true → answer_to s c ≡ refused k → (left_by (refused k) s left).phase ≡ closed_phase
      → Closes s c
  refused_closing c left k m e =
      cond_case (λ (r : Session). r.phase ≡ closed_phase → Closes s c) (eqb k 38 || eqb k 39)
      (λ t h. absurd (open_yet h))
      (λ f h. by_number k m e (eqb-false k 38 (or_false_left (eqb k 38) (eqb k 39) f)) (eqb-false k 39 (or_false_right (eqb k 38) (eqb k 39) f)))

  pub closing : (c : Call) → (next s c).phase ≡ closed_phase → Closes s c
  unfolding frame_session heart_beat_session deliver_session
  closing (frame n block time) = by (frame_answer s n block) refl
    where
      es : List Entry
      es = listed (entries block)

      disconnect : (v : List ℕ) → frame_answer s n block ≡ accepted v → n ≡ number DISCONNECT → Closes s (frame n block time)
      disconnect v e d = subst (λ m. frame_answer s m block ≡ accepted v → Closes s (frame m block time)) (sym d) (by_disconnect block time v) e

      by : (A : Answer) → frame_answer s n block ≡ A → (left_by A s (heard (effect s n es) time)).phase ≡ closed_phase → Closes s (frame n block time)
      by (refused k) e = refused_closing (frame n block time) (heard (effect s n es) time) k refl e
      by (accepted v) e =
          cond_case (λ (r : Session). r.phase ≡ closed_phase → Closes s (frame n block time)) (opens n)
          (λ o h. absurd (opening_open (shared_by s (client_versions es)) (client_heart_beats es) h))
          (λ o. cond_case (λ (r : Session). r.phase ≡ closed_phase → Closes s (frame n block time)) (is DISCONNECT n)
          (λ d h. disconnect v e (eqb-true n (number DISCONNECT) d))
          (λ d h. absurd (open_yet (sym (changed_phase s (changed_id (uses_of s n es))) ∙ h))))
  closing (heart_beat time) = by (heart_beat_answer s) refl
    where
      by : (A : Answer) → heart_beat_answer s ≡ A → (left_by A s (heard s time)).phase ≡ closed_phase → Closes s (heart_beat time)
      by (refused k) e = refused_closing (heart_beat time) (heard s time) k refl e
      by (accepted v) e = λ h. absurd (open_yet h)
  closing (deliver id label) = by (deliver_answer s id label)
    where
      by : (A : Answer) → (recorded_by A s (recording s id label)).phase ≡ closed_phase → Closes s (deliver id label)
      by (refused k) h = absurd (open_yet h)
      by (accepted v) h = absurd (open_yet h)

-- each of these closes
other_number : (s left : Session) (k : ℕ) → k ≢ 38 → k ≢ 39 → left_by (refused k) s left ≡ closed s
other_number s left k a b = rw (ne_eqb k 38 a, ne_eqb k 39 b)

pub closes : (s : Session) {c : Call} → Closes s c → (next s c).phase ≡ closed_phase
unfolding frame_session heart_beat_session
closes s (by_number {c = frame n block time} k m e a b) =
    let left : Session = heard (effect s n (listed (entries block))) time in
    ap (λ A. (left_by A s left).phase) e ∙ ap (λ (r : Session). r.phase) (other_number s left k a b)
closes s (by_number {c = heart_beat time} k m e a b) =
    ap (λ A. (left_by A s (heard s time)).phase) e ∙ ap (λ (r : Session). r.phase) (other_number s (heard s time) k a b)
closes s (by_number {c = deliver id label} k m e a b) = absurd (true≢false (sym m))
closes s (by_disconnect block time v e) = ap (λ A. (left_by A s (heard (effect s (number DISCONNECT) (listed (entries block))) time)).phase) e

-- ---- a closed session

module _ (s : Session) (h : s.phase ≡ closed_phase) where
  -- 38 where the record is invalid, 39 where the command is unknown or the header block malformed, else 40
  pub closed_frame : (n : ℕ) (block : List ℕ)
      → frame_answer s n block ≡ cond (not (is_valid s)) (refused 38) (cond (unknown n || not (is_block block)) (refused 39) (refused 40))
  unfolding frame_answer
  closed_frame n block = rw (eq-eqb s.phase closed_phase h)

  pub closed_heart_beat : heart_beat_answer s ≡ cond (not (is_valid s)) (refused 38) (refused 40)
  unfolding heart_beat_answer
  closed_heart_beat = rw (eq-eqb s.phase closed_phase h)

  -- 38, else 63
  pub closed_deliver : (id label : List ℕ) → deliver_answer s id label ≡ cond (not (is_valid s)) (refused 38) (refused 63)
  unfolding deliver_answer
  closed_deliver id label = rw (ne_eqb s.phase 1 (λ e. omega (arith, e, h)))

  module _ (kept : Kept s) where
    none_left : s.deliveries.count ≡ 0
    none_left =
        eqb-true s.deliveries.count 0
        (sym (ap (λ t. t || eqb s.deliveries.count 0) (ne_eqb s.phase 1 (λ e. omega (arith, e, h)))) ∙ kept.only_open)

    -- closed once more, it is the same: it holds no delivery
    closed_again : closed s ≡ s
    closed_again =
        ap₂ (λ p d. with_deliveries (with_phase s p) d) (sym h)
        (none_same s.subscriptions.lens s.subscriptions.modes s.deliveries kept.holds.sized kept.holds.valid none_left)

    -- a refusal leaves it as it is
    pub closed_kept : (left : Session) (k : ℕ) → left_by (refused k) s left ≡ s
    closed_kept left k = cond_case (◌≡ s) (eqb k 38 || eqb k 39) (λ e. refl) (λ e. closed_again)

    pub closed_next : (c : Call) → next s c ≡ s
    unfolding frame_session heart_beat_session deliver_session
    closed_next (frame n block time) =
        let left : Session = heard (effect s n (listed (entries block))) time in
        ap (λ A. left_by A s left) (closed_frame n block)
        ∙ cond_case (λ A. left_by A s left ≡ s) (not (is_valid s)) (λ e. closed_kept left 38)
        (λ e. cond_case (λ A. left_by A s left ≡ s) (unknown n || not (is_block block)) (λ f. closed_kept left 39) (λ f. closed_kept left 40))
    closed_next (heart_beat time) =
        ap (λ A. left_by A s (heard s time)) closed_heart_beat
        ∙ cond_case (λ A. left_by A s (heard s time) ≡ s) (not (is_valid s)) (λ e. closed_kept (heard s time) 38) (λ e. closed_kept (heard s time) 40)
    closed_next (deliver id label) =
        let left : Session = recording s id label in
        ap (λ A. recorded_by A s left) (closed_deliver id label) ∙ cond_case (λ A. recorded_by A s left ≡ s) (not (is_valid s)) (λ e. refl) (λ e. refl)

    -- nor does any history change it, or what it answers
    pub closed_after : (cs : List Call) → after s cs ≡ s
    closed_after [] = refl
    closed_after (c ∷ cs) = ap (λ r. after r cs) (closed_next c) ∙ closed_after cs

    pub closed_answers : (cs : List Call) (c : Call) → answer_to (after s cs) c ≡ answer_to s c
    closed_answers cs c = ap (λ r. answer_to r c) (closed_after cs)
