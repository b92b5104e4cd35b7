-- The ids that are live after a history of calls are those that were entered and not freed since. Assumes nothing.
--     live_next                  one call
--     live_history               a history
--     made_none, made_history    a session that was made, at first and after a history
use Rattle.std.proofs.Common.{◌≡◌, ℕ, Bool, true, false, cond, ◌&&◌, ◌||◌, eqb, ◌≢◌, List, [], ◌∷◌, sym, refl, ap, ◌∙◌, eqb-true}
use mathlib.Core.Option.{Option, none, some}
use Rattle.headers.specs.Rows.{same, All}
use Rattle.headers.specs.Block.{Entry, entries, listed}
use Rattle.headers.specs.Answers.{Answer, accepted, refused, settle}
use Rattle.headers.proofs.Rows.{cond_case}
use Rattle.frames.specs.Grammar.{number, CONNECT, DISCONNECT, STOMP}
use Rattle.sessions.specs.Stores.{ids, live, used, use_checks}
use Rattle.sessions.specs.Values.{HeartBeats}
use Rattle.sessions.specs.Headers.{IdUse, changed_id, is, opens}
use Rattle.sessions.specs.Sessions.{spoken, subscriptions_max, transactions_max, id_max, ids_of, with_ids, with_modes, with_deliveries, closed, heard}
use Rattle.sessions.specs.Calls.{left_by, making_answer, made_by, made, shared_by, client_versions, client_heart_beats, opened_by, uses_of}
use Rattle.sessions.specs.Calls.{id_checks, frame_answer, id_effect, effect, frame_session, heart_beat_answer, heart_beat_session, modes_effect}
use Rattle.sessions.specs.Calls.{delivery_effect, recorded_by, recording, deliver_answer, deliver_session}
use Rattle.sessions.specs.Histories.{Call, frame, heart_beat, deliver, answer_to, next, after, same_kind, by_use, told_uses, live_changed}
use Rattle.sessions.specs.Histories.{live_by, live_after}
use Rattle.sessions.specs.declared.store.Use.{Use}
use Rattle.sessions.specs.declared.command.Kind.{Kind}
use Rattle.sessions.specs.declared.command.Kind.TheVariants.{Subscriptions, Transactions}
use Rattle.sessions.specs.declared.delivery.Deliveries.{Deliveries}
use Rattle.sessions.specs.declared.parts.SubscriptionStore.{SubscriptionStore}
use Rattle.sessions.specs.declared.parts.TransactionStore.{TransactionStore}
use Rattle.sessions.specs.declared.session.Session.{Session}
use Rattle.sessions.proofs.Rows.{or_either}
use Rattle.sessions.proofs.Tables.{changed_alike}
use Rattle.headers.proofs.Settling.{Passes}
use Rattle.sessions.proofs.Checks.{Passed, frame_passed, changed_settles, left_case}
use Rattle.sessions.proofs.Stores.{are_short, ids_laid, used_short, use_short, used_live, zeros_ids, none_live}
use Rattle.sessions.proofs.Keeping.{SameStores, Held, held_short, held_distinct}
use Rattle.sessions.proofs.Kept.{Kept, kept_next, kept_made}

-- sessions with the same stores have the same ids
ids_same : (k : Kind) (r s : Session) → SameStores r s → ids_of k r ≡ ids_of k s
ids_same Subscriptions r s (a, b) = ap (λ (x : SubscriptionStore). ids id_max x.ids x.lens) a
ids_same Transactions r s (a, b) = ap (λ (x : TransactionStore). ids id_max x.ids x.lens) b

-- other modes and deliveries leave them
ids_named : (k : Kind) (r : Session) (ms : List ℕ) (d : Deliveries) → ids_of k (with_deliveries (with_modes r ms) d) ≡ ids_of k r
ids_named Subscriptions r ms d = refl
ids_named Transactions r ms d = refl

-- the ids of a kind, laid out, are the session's
ids_with : (k : Kind) (s : Session) (is : List (List ℕ)) → are_short id_max is ≡ true → ids_of k (with_ids k s is) ≡ is
ids_with Subscriptions s is h = ids_laid id_max is h
ids_with Transactions s is h = ids_laid id_max is h

-- neither the opening frame nor DISCONNECT names an id
opening_names : (n : ℕ) (es : List Entry) → opens n ≡ true → told_uses n es ≡ []
opening_names n es h =
    or_either (is CONNECT n) (is STOMP n) h
    (λ e. ap (λ m. told_uses m es) (eqb-true n (number CONNECT) e))
    (λ e. ap (λ m. told_uses m es) (eqb-true n (number STOMP) e))

closing_names : (n : ℕ) (es : List Entry) → is DISCONNECT n ≡ true → told_uses n es ≡ []
closing_names n es h = ap (λ m. told_uses m es) (eqb-true n (number DISCONNECT) h)

-- ---- one call

-- whether an id is live after an accepted frame that names these
abbrev named_live : Session → Kind → List ℕ → List IdUse → Bool
named_live s k id us = live_changed k id (live id (ids_of k s)) (changed_id us)

module _ (s : Session) (h : Held s) (k : Kind) (id : List ℕ) (some_id : id ≢ []) where
  -- an id x of a kind used
  live_used : (j : Kind) (u : Use) (x : List ℕ) → settle (use_checks id_max u x (ids_of j s)) [] ≡ accepted []
      → live id (ids_of k (with_ids j s (used u x (ids_of j s)))) ≡ cond (same_kind k j && same x id) (by_use u (live id (ids_of k s))) (live id (ids_of k s))
  live_used j u x e = by k j e
    where
      here : (i : Kind) → settle (use_checks id_max u x (ids_of i s)) [] ≡ accepted []
          → live id (ids_of i (with_ids i s (used u x (ids_of i s)))) ≡ cond (same x id) (by_use u (live id (ids_of i s))) (live id (ids_of i s))
      here i e =
          ap (live id) (ids_with i s (used u x (ids_of i s))
          (used_short id_max u x (ids_of i s) (use_short id_max u x (ids_of i s) [] [] e) (held_short s h i)))
          ∙ used_live id_max u x (ids_of i s) [] [] e (held_distinct s h i) id some_id

      by : (i j : Kind) → settle (use_checks id_max u x (ids_of j s)) [] ≡ accepted []
          → live id (ids_of i (with_ids j s (used u x (ids_of j s)))) ≡ cond (same_kind i j && same x id) (by_use u (live id (ids_of i s)))
          (live id (ids_of i s))
      by Subscriptions Subscriptions e = here Subscriptions e
      by Subscriptions Transactions e = refl
      by Transactions Subscriptions e = refl
      by Transactions Transactions e = here Transactions e

  live_uses : (us : List IdUse) → All Passes (id_checks s us) → (o : Option IdUse) → changed_id us ≡ o
      → live id (ids_of k (id_effect s o)) ≡ live_changed k id (live id (ids_of k s)) o
  live_uses us p none e = refl
  live_uses us p (some u) e = live_used u.kind u.usage u.id (changed_settles s us u p e)

  live_effect : (n : ℕ) (es : List Entry) → Passed s n es → live id (ids_of k (effect s n es)) ≡ named_live s k id (told_uses n es)
  live_effect n es p =
      cond_case (λ r. live id (ids_of k r) ≡ named_live s k id (told_uses n es)) (opens n)
      (λ o. ap (live id) (ids_opened (shared_by s (client_versions es)) (client_heart_beats es)) ∙ sym (ap (named_live s k id) (opening_names n es o)))
      (λ o. cond_case (λ r. live id (ids_of k r) ≡ named_live s k id (told_uses n es)) (is DISCONNECT n)
      (λ d. ap (live id) (ids_same k (closed s) s (refl, refl)) ∙ sym (ap (named_live s k id) (closing_names n es d)))
      (λ d. ap (live id) (ids_named k (id_effect s (changed_id (uses_of s n es))) (modes_effect s n es) (delivery_effect s n es))
      ∙ live_uses (uses_of s n es) p.named (changed_id (uses_of s n es)) refl
      ∙ ap (live_changed k id (live id (ids_of k s))) (changed_alike (spoken s) n es)))
    where
      ids_opened : (shared : List Bool) (o : Option HeartBeats) → ids_of k (opened_by s shared o) ≡ ids_of k s
      ids_opened shared none = refl
      ids_opened shared (some b) = ids_same k (opened_by s shared (some b)) s (refl, refl)

  live_frame : (n : ℕ) (block : List ℕ) (time : ℕ)
      → live id (ids_of k (frame_session s n block time)) ≡ live_by k id (live id (ids_of k s)) (frame_answer s n block) (frame n block time)
  unfolding frame_session
  live_frame n block time = by (frame_answer s n block) refl
    where
      es : List Entry
      es = listed (entries block)

      by : (A : Answer) → frame_answer s n block ≡ A
          → live id (ids_of k (left_by A s (heard (effect s n es) time))) ≡ live_by k id (live id (ids_of k s)) A (frame n block time)
      by (accepted v) e =
          ap (live id) (ids_same k (heard (effect s n es) time) (effect s n es) (refl, refl)) ∙ live_effect n es (frame_passed s n block v e)
      by (refused j) e =
          cond_case (λ r. live id (ids_of k r) ≡ live id (ids_of k s)) (eqb j 38 || eqb j 39)
          (λ f. refl) (λ f. ap (live id) (ids_same k (closed s) s (refl, refl)))

  live_heart_beat : (time : ℕ) → live id (ids_of k (heart_beat_session s time)) ≡ live id (ids_of k s)
  unfolding heart_beat_session
  live_heart_beat time =
      left_case (λ r. live id (ids_of k r) ≡ live id (ids_of k s)) (heart_beat_answer s) s (heard s time) refl
      (ap (live id) (ids_same k (closed s) s (refl, refl)))
      (λ v e. ap (live id) (ids_same k (heard s time) s (refl, refl)))

  live_deliver : (x label : List ℕ) → live id (ids_of k (deliver_session s x label)) ≡ live id (ids_of k s)
  unfolding deliver_session
  live_deliver x label = by (deliver_answer s x label)
    where
      after : Session
      after = recording s x label

      by : (A : Answer) → live id (ids_of k (recorded_by A s after)) ≡ live id (ids_of k s)
      by (accepted v) = ap (live id) (ids_same k after s (refl, refl))
      by (refused j) = refl

  pub live_next : (c : Call) → live id (ids_of k (next s c)) ≡ live_by k id (live id (ids_of k s)) (answer_to s c) c
  live_next (frame n block time) = live_frame n block time
  live_next (heart_beat time) = live_heart_beat time
  live_next (deliver x label) = live_deliver x label

-- ---- a history

pub live_history : (k : Kind) (id : List ℕ) → id ≢ [] → (s : Session) → Kept s → (cs : List Call)
    → live id (ids_of k (after s cs)) ≡ live_after k id (live id (ids_of k s)) s cs
live_history k id n s h [] = refl
live_history k id n s h (c ∷ cs) =
    live_history k id n (next s c) (kept_next s c h) cs ∙ ap (λ b. live_after k id b (next s c) cs) (live_next s h.ids k id n c)

-- no id is live in a session that was made
pub made_none : (k : Kind) (id : List ℕ) → id ≢ [] → (sends wants : ℕ) (offered : List Bool) → live id (ids_of k (made sends wants offered)) ≡ false
unfolding made
made_none k id n sends wants offered = by (making_answer sends wants offered) k
  where
    by : (A : Answer) (j : Kind) → live id (ids_of j (made_by A sends wants offered)) ≡ false
    by (accepted v) Subscriptions = ap (live id) (zeros_ids id_max subscriptions_max) ∙ none_live subscriptions_max id n
    by (accepted v) Transactions = ap (live id) (zeros_ids id_max transactions_max) ∙ none_live transactions_max id n
    by (refused j) Subscriptions = ap (live id) (zeros_ids id_max subscriptions_max) ∙ none_live subscriptions_max id n
    by (refused j) Transactions = ap (live id) (zeros_ids id_max transactions_max) ∙ none_live transactions_max id n

pub made_history : (k : Kind) (id : List ℕ) → id ≢ [] → (sends wants : ℕ) (offered : List Bool) (cs : List Call)
    → live id (ids_of k (after (made sends wants offered) cs)) ≡ live_after k id false (made sends wants offered) cs
made_history k id n sends wants offered cs =
    live_history k id n (made sends wants offered) (kept_made sends wants offered) cs
    ∙ ap (λ b. live_after k id b (made sends wants offered) cs) (made_none k id n sends wants offered)
