-- A session stays a valid record: made, and after each call and each history of calls. Assumes nothing.
--     Kept, kept_..                                                 a valid session with the sizes of its arrays; each change, call and history keeps that
--     frame_valid, heart_beat_valid, deliver_valid, valid_after     the same of one call and of a history, said of is_valid
--     made_valid, made_after                                        and of a session that was made, at first and after a history
use Rattle.std.proofs.Common.{◌≡◌, ℕ, ◌<◌, Bool, true, false, cond, not, ◌&&◌, ◌||◌, eqb, ltb, leb, ◌≢◌, List, [], ◌∷◌, ◌++◌, length, get_or, set, replicate, sym, refl, ap, ◌∙◌, subst, ap₂, true≢false, arith, ltb-false, ne_eqb, eqb-true, le-leb, leb-false}
use mathlib.Core.Option.{Option, none, some}
use lib.ListN.{get_or-map}
use borrow.Author.Tests.{not-false}
use Rattle.headers.specs.Rows.{octets_of, any, empty, same, first_of}
use Rattle.headers.specs.Block.{Entry, entries, listed}
use Rattle.headers.specs.Answers.{Answer, accepted, refused, settle}
use Rattle.headers.proofs.Rows.{cond_case, and_left, and_right, or_false_left, or_false_right, same_eq, or_yes, and_false, empty_zero, empty_eqb}
use Rattle.frames.specs.Grammar.{DISCONNECT, SUBSCRIBE, UNSUBSCRIBE}
use Rattle.stores.specs.Searches.{replaced, first_from}
use Rattle.sessions.specs.Stores.{lengths, live, used, use_checks, bad_length}
use Rattle.sessions.specs.Values.{HeartBeats}
use Rattle.sessions.proofs.Tables.{transaction_named}
use Rattle.sessions.specs.Headers.{IdUse, changed_id, value_of, has, is, opens, mode_named, mode_asked, settles, label_named, is_some}
use Rattle.sessions.specs.Deliveries.{individual_mode, auto_mode, label_max, Pending, pending, labelled, is_pending, mode_of, goes_with}
use Rattle.sessions.specs.Deliveries.{deliveries_of, settled_as, with_mode, dropped, record_label, valid_modes, valid_deliveries, no_deliveries}
use Rattle.sessions.specs.Sessions.{spoken, id_max, fresh_phase, open_phase, in_phase, ids_of, with_ids, with_deliveries}
use Rattle.sessions.specs.Sessions.{no_subscriptions, closed, heard, valid_numbers, valid_ids, right_deliveries, is_valid, Sized, SizedDeliveries}
use Rattle.sessions.specs.Calls.{out_of_phase, lacks_needed, opening, shared_by, client_versions, client_heart_beats, opened_by, uses_of}
use Rattle.sessions.specs.Calls.{frame_answer, id_effect, effect, frame_session, heart_beat_answer, heart_beat_session, place_named, free_place}
use Rattle.sessions.specs.Calls.{mode_or_auto, settle_named, modes_effect, delivery_effect, named_effect, deliver_checks}
use Rattle.sessions.specs.Calls.{deliver_answer, recorded_by, recording, deliver_session, is_auto, making_answer, made_by, made}
use Rattle.sessions.specs.Histories.{Call, frame, heart_beat, deliver, next, after}
use Rattle.sessions.specs.declared.command.Header.TheVariants.{Id, Ack, Destination, HeartBeat}
use Rattle.sessions.specs.declared.command.Kind.{Kind}
use Rattle.sessions.specs.declared.command.Kind.TheVariants.{Subscriptions, Transactions}
use Rattle.sessions.specs.declared.store.Use.TheVariants.{Enter, Free}
use Rattle.sessions.specs.declared.delivery.Deliveries.{Deliveries}
use Rattle.sessions.specs.declared.parts.SubscriptionStore.{SubscriptionStore}
use Rattle.sessions.specs.declared.session.Session.{Session}
use Rattle.sessions.proofs.Checks.{Passed, frame_passed, Delivered, deliver_passed, subscribe_changes, subscribe_settles, unsubscribe_changes}
use Rattle.sessions.proofs.Checks.{unsubscribe_settles, left_case}
use Rattle.stores.proofs.Searching.{is_some as finds, found_at, any_first, first_at}
use Rattle.sessions.proofs.Stores.{lengths_ids, lengths_set, use_some, use_live, use_room, zeros_ids}
use Rattle.sessions.proofs.Pending.{Holds, Proper, holds_none, holds_settled, holds_snoc, holds_dropped, holds_subscribed}
use Rattle.sessions.proofs.Keeping.{Shares, passed_shares, Held, valid_record, record_modes, record_valid, subscriptions_fit, held_closed, held_heard, held_opened}
use Rattle.sessions.proofs.Keeping.{held_named, held_made, held_deliveries, OfSome, Small, of_small}

-- two sessions with the same subscriptions
abbrev pub SameSubscriptions : Session → Session → Type 0
SameSubscriptions r s = r.subscriptions ≡ s.subscriptions

-- ids that are used leave the phase
changed_phase : (s : Session) (o : Option IdUse) → (id_effect s o).phase ≡ s.phase
changed_phase s none = refl
changed_phase s (some u) = by u.kind
  where
    by : (k : Kind) → (with_ids k s (used u.usage u.id (ids_of k s))).phase ≡ s.phase
    by Subscriptions = refl
    by Transactions = refl

-- ---- the place of an id

pub first_passes : {A : Type 0} (p : A → Bool) (d : A) (k : ℕ) (xs : List A) → first_from p 0 xs ≡ some k → (k < length xs) × (p (get_or xs k d) ≡ true)
first_passes p d k xs e =
    let (i, a, b, c) = first_at p d 0 k xs e in
    let s : i ≡ k = omega (arith, a) in
    (omega (arith, b, s), ap (λ z. p (get_or xs z d)) (sym s) ∙ c)

some_first : {A : Type 0} (p : A → Bool) (xs : List A) → any p xs ≡ true → (k : ℕ) × (first_from p 0 xs ≡ some k)
some_first p xs h = by (first_from p 0 xs) refl
  where
    by : (o : Option ℕ) → first_from p 0 xs ≡ o → (k : ℕ) × (o ≡ some k)
    by none e = absurd (true≢false (sym h ∙ any_first p 0 xs ∙ ap finds e))
    by (some k) e = (k, refl)

-- ---- a session with the sizes of its arrays, and valid

pub record Kept (s : Session) : Type 0 where
  pub ids : Held s
  pub holds : Holds s.subscriptions.lens s.subscriptions.modes s.deliveries
  pub only_open : in_phase open_phase s || eqb s.deliveries.count 0 ≡ true

pub kept_valid : (s : Session) → Kept s → is_valid s ≡ true
kept_valid s k = record_valid s k.ids.valid k.holds.modes (ap₂ (◌&&◌) k.holds.valid k.only_open)

pub kept_of : (s : Session) → Sized s → SizedDeliveries s.deliveries → is_valid s ≡ true → Kept s
unfolding is_valid
kept_of s z y v =
    let o = and_right (valid_ids s) (right_deliveries s) (and_right (valid_numbers s) (valid_ids s && right_deliveries s) v) in
    let a = valid_deliveries s.subscriptions s.deliveries in
    let b = in_phase open_phase s || eqb s.deliveries.count 0 in
    record {
      ids = record { sized = z; valid = valid_record s v };
      holds = record { sized = y; modes = record_modes s v; valid = and_left a b o };
      only_open = and_right a b o;
    }

module _ (s : Session) (kept : Kept s) where
  pub kept_closed : Kept (closed s)
  kept_closed =
      record {
        ids = held_closed s kept.ids;
        holds = (holds_none s.subscriptions.lens s.subscriptions.modes kept.holds.modes).0;
        only_open = or_yes (in_phase open_phase (closed s));
      }

  pub kept_heard : (time : ℕ) → Kept (heard s time)
  kept_heard time = record { ids = held_heard s kept.ids time; holds = kept.holds; only_open = kept.only_open }

  -- the lengths are those of the ids
  pub lens_are : lengths (ids_of Subscriptions s) ≡ s.subscriptions.lens
  lens_are = lengths_ids id_max 16 s.subscriptions.ids s.subscriptions.lens (subscriptions_fit s kept.ids)

  -- an id entered in place k, or freed there
  pub lens_put : (p : List ℕ → Bool) (y : List ℕ) (k : ℕ) → first_from p 0 (ids_of Subscriptions s) ≡ some k
      → lengths (replaced p y (ids_of Subscriptions s)) ≡ set s.subscriptions.lens k (length y)
  lens_put p y k e =
      ap lengths (found_at p y k (ids_of Subscriptions s) (sym e)).1 ∙ lengths_set (ids_of Subscriptions s) k y ∙ ap (λ z. set z k (length y)) lens_are

  -- a free place
  pub lens_free : (k : ℕ) → first_from empty 0 (ids_of Subscriptions s) ≡ some k → get_or s.subscriptions.lens k 0 ≡ 0
  lens_free k e =
      ap (λ z. get_or z k 0) (sym lens_are) ∙ get_or-map length (ids_of Subscriptions s) k []
      ∙ none (get_or (ids_of Subscriptions s) k []) (first_passes empty [] k (ids_of Subscriptions s) e).1
    where
      none : (x : List ℕ) → empty x ≡ true → length x ≡ 0
      none [] h = refl
      none (y ∷ x) h = absurd (true≢false (sym h))

  -- ---- the opening

  pub kept_opened : in_phase fresh_phase s ≡ true → (shared : List Bool) (o : Option HeartBeats) → Shares s kept.ids shared → OfSome Small o → Kept (opened_by s shared o)
  kept_opened f shared none shares small = kept
  kept_opened f shared (some b) shares small = record { ids = held_opened s kept.ids f shared (some b) shares small; holds = kept.holds; only_open = refl }

  -- ---- a frame that may name an id

  -- what each effect leaves: the ids' lengths, the modes and the deliveries go together
  abbrev Together : ℕ → List Entry → Type 0
  Together n es = Holds (id_effect s (changed_id (uses_of s n es))).subscriptions.lens (modes_effect s n es) (delivery_effect s n es)

  mode_known : (o : Option (List ℕ)) (m : Option ℕ) → mode_named o ≡ m → leb (mode_or_auto m) individual_mode ≡ true
  mode_known none m e = ap (λ z. leb (mode_or_auto z) individual_mode) (sym e)
  mode_known (some w) m e =
      ap (λ z. leb (mode_or_auto z) individual_mode) (sym e)
      ∙ cond_case (λ z. leb (mode_or_auto z) individual_mode ≡ true) (same w (octets_of "auto")) (λ h. refl)
      (λ h. cond_case (λ z. leb (mode_or_auto z) individual_mode ≡ true) (same w (octets_of "client")) (λ h. refl)
      (λ h. cond_case (λ z. leb (mode_or_auto z) individual_mode ≡ true) (same w (octets_of "client-individual")) (λ h. refl) (λ h. refl)))

  some_long : (id : List ℕ) → id ≢ [] → length id ≡ 0 → ⊥
  some_long [] n h = n refl
  some_long (x ∷ id) n h = omega arith

  -- SUBSCRIBE's place, and UNSUBSCRIBE's
  pub enter_place : (id : List ℕ) → settle (use_checks id_max Enter id (ids_of Subscriptions s)) [] ≡ accepted [] → (k : ℕ) × (free_place s ≡ some k)
  enter_place id e =
      some_first empty (ids_of Subscriptions s) (not-false (any empty (ids_of Subscriptions s)) (use_room id_max Enter id (ids_of Subscriptions s) [] [] e))

  pub free_there : (id : List ℕ) → settle (use_checks id_max Free id (ids_of Subscriptions s)) [] ≡ accepted [] → (k : ℕ) × (place_named s (some id) ≡ some k)
  free_there id e =
      some_first (λ x. same x id) (ids_of Subscriptions s)
      (not-false (live id (ids_of Subscriptions s)) (use_live id_max Free id (ids_of Subscriptions s) [] [] e))

  -- the modes, and what is left of the deliveries
  abbrev ms : List ℕ
  ms = s.subscriptions.modes

  abbrev left : Option ℕ → Deliveries
  left o = dropped o s.deliveries

  together_subscribe : (id : List ℕ) (m : ℕ) → leb m individual_mode ≡ true → settle (use_checks id_max Enter id (ids_of Subscriptions s)) [] ≡ accepted []
      → Holds (lengths (used Enter id (ids_of Subscriptions s))) (with_mode (free_place s) m ms) s.deliveries
  together_subscribe id m known e =
      let (k, f) = enter_place id e in
      subst (λ z. Holds z (with_mode (free_place s) m ms) s.deliveries) (sym (lens_put empty id k f))
      (subst (λ o. Holds (set s.subscriptions.lens k (length id)) (with_mode o m ms) s.deliveries) (sym f)
      (holds_subscribed s.subscriptions.lens ms s.deliveries kept.holds k (length id) m (lens_free k f)
      (some_long id (use_some id_max Enter id (ids_of Subscriptions s) [] [] e)) known))

  together_unsubscribe : (id : List ℕ) → settle (use_checks id_max Free id (ids_of Subscriptions s)) [] ≡ accepted []
      → Holds (lengths (used Free id (ids_of Subscriptions s))) (with_mode (place_named s (some id)) auto_mode ms) (left (place_named s (some id)))
  together_unsubscribe id e =
      let (k, f) = free_there id e in
      subst (λ z. Holds z (with_mode (place_named s (some id)) auto_mode ms) (left (place_named s (some id)))) (sym (lens_put (λ x. same x id) [] k f))
      (subst (λ o. Holds (set s.subscriptions.lens k 0) (with_mode o auto_mode ms) (left o)) (sym f)
      (holds_dropped s.subscriptions.lens ms s.deliveries kept.holds k).0)

  together_settled : (o : Option (List ℕ)) → Holds s.subscriptions.lens ms (settle_named ms o s.deliveries)
  together_settled none = kept.holds
  together_settled (some l) = by (first_of (labelled l) (pending s.deliveries))
    where
      by : (o : Option Pending) → Holds s.subscriptions.lens ms (settled_as ms l s.deliveries o)
      by none = kept.holds
      by (some p) = (holds_settled s.subscriptions.lens ms s.deliveries kept.holds (labelled l) (goes_with ms p)).0

  -- ids of transactions leave the subscriptions as they are
  pub other_lens : (n : ℕ) (es : List Entry) → is SUBSCRIBE n ≡ false → is UNSUBSCRIBE n ≡ false
      → SameSubscriptions (id_effect s (changed_id (uses_of s n es))) s
  other_lens n es a b = by (changed_id (uses_of s n es)) (λ u e. transaction_named (spoken s) n es u a b e)
    where
      of : (k : Kind) (u : IdUse) → k ≡ Transactions → SameSubscriptions (with_ids k s (used u.usage u.id (ids_of k s))) s
      of Subscriptions u e = absurd (let z : ◌≡◌ {A = ℕ} 0 1 = cc in omega arith)
      of Transactions u e = refl

      by : (o : Option IdUse) → ((u : IdUse) → o ≡ some u → u.kind ≡ Transactions) → SameSubscriptions (id_effect s o) s
      by none h = refl
      by (some u) h = of u.kind u (h u refl)

  -- the id that SUBSCRIBE and UNSUBSCRIBE need
  needs_id : (o : Option (List ℕ)) → not (is_some o) ≡ false → (id : List ℕ) × (o ≡ some id)
  needs_id none h = absurd (true≢false h)
  needs_id (some id) h = (id, refl)

  pub subscribe_id : (es : List Entry) → lacks_needed s 14 es ≡ false → (id : List ℕ) × (value_of Id es ≡ some id)
  subscribe_id es h = needs_id (value_of Id es)
      (or_false_left (not (has Id es)) false (or_false_right (not (has Destination es)) (not (has Id es) || false) h))

  pub unsubscribe_id : (es : List Entry) → lacks_needed s 15 es ≡ false → (id : List ℕ) × (value_of Id es ≡ some id)
  unsubscribe_id es h = needs_id (value_of Id es) (or_false_left (not (is_some (value_of Id es))) false h)

  together : (n : ℕ) (es : List Entry) → Passed s n es → Together n es
  together n es p = by (is SUBSCRIBE n) (is UNSUBSCRIBE n) refl refl
    where
      others : is SUBSCRIBE n ≡ false → is UNSUBSCRIBE n ≡ false
          → Holds s.subscriptions.lens ms (cond (settles n) (settle_named ms (label_named (spoken s) es) s.deliveries) s.deliveries) → Together n es
      others a b h =
          let modes_stay : modes_effect s n es ≡ ms = rw (a, b) in
          let left_is : delivery_effect s n es ≡ cond (settles n) (settle_named ms (label_named (spoken s) es) s.deliveries) s.deliveries = rw b in
          subst (λ z. Holds z (modes_effect s n es) (delivery_effect s n es)) (sym (ap (λ (x : SubscriptionStore). x.lens) (other_lens n es a b)))
          (subst (λ z. Holds s.subscriptions.lens z (delivery_effect s n es)) (sym modes_stay) (subst (Holds s.subscriptions.lens ms) (sym left_is) h))

      entering : n ≡ 14 → Passed s 14 es → Together 14 es
      entering e q =
          let (id, v) = subscribe_id es q.needs in
          subst (λ o. Holds (id_effect s o).subscriptions.lens (modes_effect s 14 es) s.deliveries) (sym (subscribe_changes s es id v))
          (together_subscribe id (mode_or_auto (mode_asked es)) (mode_known (value_of Ack es) (mode_asked es) refl) (subscribe_settles s es id v q))

      freeing : n ≡ 15 → Passed s 15 es → Together 15 es
      freeing e q =
          let (id, v) = unsubscribe_id es q.needs in
          subst (λ o. Holds (id_effect s o).subscriptions.lens (modes_effect s 15 es) (delivery_effect s 15 es)) (sym (unsubscribe_changes s es id v))
          (subst (λ o. Holds (lengths (used Free id (ids_of Subscriptions s))) (with_mode (place_named s o) auto_mode ms) (left (place_named s o))) (sym v)
          (together_unsubscribe id (unsubscribe_settles s es id v q)))

      by : (a b : Bool) → is SUBSCRIBE n ≡ a → is UNSUBSCRIBE n ≡ b → Together n es
      by true b e f = let k : n ≡ 14 = eqb-true n 14 e in subst (λ z. Passed s z es → Together z es) (sym k) (entering k) p
      by false true e f = let k : n ≡ 15 = eqb-true n 15 f in subst (λ z. Passed s z es → Together z es) (sym k) (freeing k) p
      by false false e f = others e f (cond_case (Holds s.subscriptions.lens ms) (settles n) (λ t. together_settled (label_named (spoken s) es)) (λ t. kept.holds))

  -- a frame that is not the opening one comes in an open session
  open_yet : (n : ℕ) → opens n ≡ false → out_of_phase s n ≡ false → in_phase open_phase s ≡ true
  open_yet n o t = not-false (in_phase open_phase s) (sym (ap (λ z. cond z (not (in_phase fresh_phase s)) (not (in_phase open_phase s))) o) ∙ t)

  pub kept_effect : (n : ℕ) (es : List Entry) → Passed s n es → Kept (effect s n es)
  kept_effect n es p = by (opens n) (is DISCONNECT n) refl refl
    where
      by : (a b : Bool) → opens n ≡ a → is DISCONNECT n ≡ b → Kept (cond a (opening s es) (cond b (closed s) (named_effect s n es)))
      by true b o d =
          kept_opened (not-false (in_phase fresh_phase s) (sym (ap (λ t. cond t (not (in_phase fresh_phase s)) (not (in_phase open_phase s))) o) ∙ p.in_turn))
          (shared_by s (client_versions es)) (client_heart_beats es) (passed_shares s n es p o) (of_small (value_of HeartBeat es))
      by false true o d = kept_closed
      by false false o d =
          record {
            ids = held_named s kept.ids n es p;
            holds = together n es p;
            only_open = ap (◌|| eqb (delivery_effect s n es).count 0)
                (ap (λ z. eqb z open_phase) (changed_phase s (changed_id (uses_of s n es))) ∙ open_yet n o p.in_turn);
          }

  -- ---- a delivery

  module _ (id label v : List ℕ) (e : settle (deliver_checks s id label) [] ≡ accepted v) where
    passed : Delivered s id label
    passed = deliver_passed s id label v e

    pub deliver_open : in_phase open_phase s ≡ true
    deliver_open = not-false (in_phase open_phase s) passed.is_open

    pub deliver_id : empty id ≡ false
    deliver_id = or_false_left (empty id) (not (live id (ids_of Subscriptions s))) passed.subscribed

    pub deliver_place : (k : ℕ) × (place_named s (some id) ≡ some k)
    deliver_place =
        some_first (λ x. same x id) (ids_of Subscriptions s)
        (not-false (live id (ids_of Subscriptions s)) (or_false_right (empty id) (not (live id (ids_of Subscriptions s))) passed.subscribed))

    good_label : bad_length label_max label ≡ false
    good_label = or_false_left (bad_length label_max label) (is_pending label s.deliveries) passed.new_label

    module _ (k : ℕ) (f : place_named s (some id) ≡ some k) where
      pub deliver_at : get_or (ids_of Subscriptions s) k [] ≡ id
      deliver_at = same_eq (get_or (ids_of Subscriptions s) k []) id (first_passes (λ x. same x id) [] k (ids_of Subscriptions s) f).1

      there : get_or s.subscriptions.lens k 0 ≢ 0
      there z =
          let long : length id ≡ 0 = ap length (sym deliver_at) ∙ sym (get_or-map length (ids_of Subscriptions s) k []) ∙ ap (λ z. get_or z k 0) lens_are
          ∙ z in
          true≢false (sym (empty_zero id long) ∙ deliver_id)

      module _ (a : eqb (mode_of ms k) auto_mode ≡ false) where
        room : s.deliveries.count < 64
        room =
            leb-false 64 s.deliveries.count
            (and_false (not (is_auto s (place_named s (some id)))) (leb 64 s.deliveries.count) passed.room (ap (λ o. not (is_auto s o)) f ∙ ap not a))

        sound : Proper s.subscriptions.lens ms (record { place = k; label = label })
        sound =
            record {
              short =
                  le-leb (length label) label_max (ltb-false label_max (length label) (or_false_right (empty label) (ltb label_max (length label)) good_label));
              there = ap not (sym (empty_eqb label) ∙ or_false_left (empty label) (ltb label_max (length label)) good_label);
              acks = ap₂ (λ x y. not x && not y) (ne_eqb (get_or s.subscriptions.lens k 0) 0 there) a;
            }

        abbrev more : List Pending
        more = pending s.deliveries ++ (record { place = k; label = label } ∷ [])

        pub deliver_entered : Holds s.subscriptions.lens ms (deliveries_of more) × (pending (deliveries_of more) ≡ more)
        deliver_entered =
            holds_snoc s.subscriptions.lens ms s.deliveries kept.holds (record { place = k; label = label }) room sound
            (or_false_right (bad_length label_max label) (is_pending label s.deliveries) passed.new_label)

  kept_with : in_phase open_phase s ≡ true → (d : Deliveries) → Holds s.subscriptions.lens ms d → Kept (with_deliveries s d)
  kept_with o d h = record { ids = held_deliveries s kept.ids d; holds = h; only_open = ap (◌|| eqb d.count 0) o }

  kept_recorded : (id label v : List ℕ) → settle (deliver_checks s id label) [] ≡ accepted v → Kept (recording s id label)
  kept_recorded id label v e = placed (place_named s (some id)) refl
    where
      placed : (o : Option ℕ) → place_named s (some id) ≡ o → Kept (with_deliveries s (record_label ms o label s.deliveries))
      placed none f = kept_with (deliver_open id label v e) s.deliveries kept.holds
      placed (some k) f =
          cond_case (λ d. Kept (with_deliveries s d)) (eqb (mode_of ms k) auto_mode) (λ a. kept_with (deliver_open id label v e) s.deliveries kept.holds)
          (λ a. kept_with (deliver_open id label v e) (deliveries_of (pending s.deliveries ++ (record { place = k; label = label } ∷ [])))
          (deliver_entered id label v e k f a).0)

  pub kept_deliver : (id label : List ℕ) → Kept (deliver_session s id label)
  unfolding deliver_session deliver_answer
  kept_deliver id label = by (deliver_answer s id label) refl
    where
      by : (A : Answer) → settle (deliver_checks s id label) [] ≡ A → Kept (recorded_by A s (recording s id label))
      by (refused k) e = kept
      by (accepted v) e = kept_recorded id label v e

-- ---- the calls

pub kept_frame : (s : Session) (n : ℕ) (block : List ℕ) (time : ℕ) → Kept s → Kept (frame_session s n block time)
unfolding frame_session
kept_frame s n block time k =
    left_case Kept (frame_answer s n block) s (heard (effect s n (listed (entries block))) time) k (kept_closed s k)
    (λ v e. kept_heard (effect s n (listed (entries block))) (kept_effect s k n (listed (entries block)) (frame_passed s n block v e)) time)

pub kept_heart_beat : (s : Session) (time : ℕ) → Kept s → Kept (heart_beat_session s time)
unfolding heart_beat_session
kept_heart_beat s time k = left_case Kept (heart_beat_answer s) s (heard s time) k (kept_closed s k) (λ v e. kept_heard s k time)

pub kept_next : (s : Session) (c : Call) → Kept s → Kept (next s c)
kept_next s (frame n block time) k = kept_frame s n block time k
kept_next s (heart_beat time) k = kept_heart_beat s time k
kept_next s (deliver id label) k = kept_deliver s k id label

pub kept_after : (s : Session) (cs : List Call) → Kept s → Kept (after s cs)
kept_after s [] k = k
kept_after s (c ∷ cs) k = kept_after (next s c) cs (kept_next s c k)

-- ---- a session that is made

pub made_none : (sends wants : ℕ) (offered : List Bool)
    → ((made sends wants offered).deliveries ≡ no_deliveries) × ((made sends wants offered).subscriptions ≡ no_subscriptions)
unfolding made
made_none sends wants offered = by (making_answer sends wants offered)
  where
    by : (A : Answer) → ((made_by A sends wants offered).deliveries ≡ no_deliveries) × ((made_by A sends wants offered).subscriptions ≡ no_subscriptions)
    by (accepted v) = (refl, refl)
    by (refused k) = (refl, refl)

pub made_ids : (sends wants : ℕ) (offered : List Bool) → ids_of Subscriptions (made sends wants offered) ≡ replicate 16 []
unfolding made
made_ids sends wants offered = by (making_answer sends wants offered)
  where
    by : (A : Answer) → ids_of Subscriptions (made_by A sends wants offered) ≡ replicate 16 []
    by (accepted v) = zeros_ids id_max 16
    by (refused k) = zeros_ids id_max 16

pub kept_made : (sends wants : ℕ) (offered : List Bool) → Kept (made sends wants offered)
unfolding valid_modes
kept_made sends wants offered =
    let (d, t) = made_none sends wants offered in
    record {
      ids = held_made sends wants offered;
      holds = subst (λ (z : SubscriptionStore). Holds z.lens z.modes (made sends wants offered).deliveries) (sym t)
          (subst (Holds no_subscriptions.lens no_subscriptions.modes) (sym d) (holds_none no_subscriptions.lens no_subscriptions.modes refl).0);
      only_open =
          ap (λ (z : Deliveries). in_phase open_phase (made sends wants offered) || eqb z.count 0) d
          ∙ or_yes (in_phase open_phase (made sends wants offered));
    }

-- a valid session stays valid
module _ (s : Session) (sized : Sized s) (few : SizedDeliveries s.deliveries) (valid : is_valid s ≡ true) where
  pub frame_valid : (n : ℕ) (block : List ℕ) (time : ℕ) → is_valid (frame_session s n block time) ≡ true
  frame_valid n block time = kept_valid (frame_session s n block time) (kept_frame s n block time (kept_of s sized few valid))

  pub heart_beat_valid : (time : ℕ) → is_valid (heart_beat_session s time) ≡ true
  heart_beat_valid time = kept_valid (heart_beat_session s time) (kept_heart_beat s time (kept_of s sized few valid))

  pub deliver_valid : (id label : List ℕ) → is_valid (deliver_session s id label) ≡ true
  deliver_valid id label = kept_valid (deliver_session s id label) (kept_deliver s (kept_of s sized few valid) id label)

  pub valid_after : (cs : List Call) → is_valid (after s cs) ≡ true
  valid_after cs = kept_valid (after s cs) (kept_after s cs (kept_of s sized few valid))

pub made_valid : (sends wants : ℕ) (offered : List Bool) → is_valid (made sends wants offered) ≡ true
made_valid sends wants offered = kept_valid (made sends wants offered) (kept_made sends wants offered)

-- every history leaves a valid record: 38's rule "refuses nothing that calls from a fresh session leave"
pub made_after : (sends wants : ℕ) (offered : List Bool) (cs : List Call) → is_valid (after (made sends wants offered) cs) ≡ true
made_after sends wants offered cs = kept_valid (after (made sends wants offered) cs) (kept_after (made sends wants offered) cs (kept_made sends wants offered))
