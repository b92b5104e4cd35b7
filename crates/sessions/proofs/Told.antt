-- The deliveries that are pending after a history of calls are exactly those that the session holds, oldest first; and every delivery
-- made is acknowledged, refused by NACK, dropped or pending. Assumes nothing.
--     left_next                       one call
--     made_pending                    a history
--     made_counted, made_accounted    the counts
use Rattle.std.proofs.Common.{◌≡◌, ℕ, zero, suc, ◌+◌, ◌<◌, Bool, true, false, cond, not, ◌&&◌, ◌||◌, eqb, ◌≢◌, List, [], ◌∷◌, ◌++◌, map, length, get_or, set, replicate, sym, refl, ap, ◌∙◌, subst, ap₂, true≢false, arith, get_or-set_other, get_or-set_same, eqb-true}
use mathlib.Core.Option.{Option, none, some}
use lib.ListN.{get_or-map}
use borrow.Author.Tests.{eqb-false, not-true}
use Rattle.headers.specs.Rows.{any, empty, same, All, first_of}
use Rattle.headers.proofs.Rows.{and_left, and_right, or_false_left, or_false_right, same_eq, same_self, empty_not, not_empty, empty_eqb}
use Rattle.headers.specs.Block.{Entry, entries, listed}
use Rattle.frames.specs.declared.version.Version.{Version}
use Rattle.frames.specs.Grammar.{ACK, CONNECT, DISCONNECT, NACK, STOMP, SUBSCRIBE, UNSUBSCRIBE}
use Rattle.sessions.specs.Values.{HeartBeats}
use Rattle.sessions.specs.Headers.{changed_id, is, opens, mode_asked}
use Rattle.sessions.specs.Stores.{ids, live, distinct, used, use_checks}
use Rattle.sessions.specs.Deliveries.{auto_mode, client_mode, Pending, pending, labelled, mode_of, goes_with, deliveries_of}
use Rattle.sessions.specs.Deliveries.{without, settled, settled_as, settle_label, with_mode, dropped, record_label}
use Rattle.sessions.proofs.Rows.{nil_apart, or_either}
use Rattle.sessions.specs.Accounts.{Delivery, Event, subscribed, unsubscribed, mode_in, made_at, accounts, with_fate, is_acknowledged}
use Rattle.sessions.specs.Accounts.{is_refused, is_dropped, recorded, delivered, acked, nacked, closed, nothing, settled_with, pending_in}
use Rattle.sessions.specs.declared.delivery.Deliveries.{Deliveries}
use Rattle.headers.specs.Answers.{Answer, accepted, refused, settle}
use Rattle.sessions.specs.Sessions.{spoken, id_max, ids_of, with_ids, with_modes, with_deliveries, heard, closed as closed_session}
use Rattle.sessions.specs.Histories.{Call, frame, heart_beat, deliver, answer_to, next, after, said, frame_event, refusal_event, event_of, events}
use Rattle.sessions.specs.Held.{delivery_of, held_deliveries}
use Rattle.sessions.specs.declared.command.Kind.TheVariants.{Subscriptions}
use Rattle.sessions.specs.declared.parts.SubscriptionStore.{SubscriptionStore}
use Rattle.sessions.specs.declared.session.Session.{Session}
use Rattle.sessions.proofs.Kept.{Kept, SameSubscriptions, first_passes, lens_are, lens_free, enter_place, free_there, other_lens, subscribe_id}
use Rattle.sessions.proofs.Kept.{unsubscribe_id, deliver_place, deliver_id, deliver_at, deliver_entered, kept_next, kept_made, made_none}
use Rattle.sessions.proofs.Kept.{made_ids}
use Rattle.sessions.proofs.Keeping.{held_long, held_short, held_distinct}
use Rattle.sessions.proofs.Checks.{Passed, frame_passed, subscribe_changes, subscribe_settles, unsubscribe_changes, unsubscribe_settles}
use Rattle.sessions.proofs.Tables.{settling_label}
use Rattle.sessions.proofs.Versions.{events_next}
use Rattle.stores.proofs.Searching.{found_at}
use Rattle.sessions.proofs.Stores.{ids_laid, used_short, use_short, use_some, use_new}
use Rattle.sessions.specs.declared.store.Use.{Use}
use Rattle.sessions.specs.declared.store.Use.TheVariants.{Enter, Free}
use Rattle.sessions.specs.Calls.{left_by as session_left, made, opened_by, opening, shared_by, client_versions, client_heart_beats, uses_of}
use Rattle.sessions.specs.Calls.{id_effect, effect, free_place, place_named, settle_named, mode_or_auto, modes_effect, delivery_effect, named_effect}
use Rattle.sessions.specs.Calls.{frame_answer, frame_session, heart_beat_answer, heart_beat_session, deliver_checks, deliver_answer, recorded_by}
use Rattle.sessions.specs.Calls.{recording, deliver_session}
use Rattle.sessions.proofs.Accounts.{named, settled_for, settled_by, entered, left_by, Distinct, Agrees, same_turn, survivors, step_pending}
use Rattle.sessions.proofs.Accounts.{none_later, all_accounted}
use Rattle.sessions.proofs.Pending.{Apart, Elsewhere, Proper, Holds, good, holds_none, holds_dropped, free_elsewhere, all_with, any_map}
use Rattle.sessions.proofs.Pending.{without_fail, holds_settled}

-- ---- places of ids that are told apart

-- an id that is not there is in no place
not_live : (is : List (List ℕ)) (x : List ℕ) (k : ℕ) → live x is ≡ false → x ≢ [] → same (get_or is k []) x ≡ false
not_live [] x k h n = nil_apart x n
not_live (i ∷ is) x zero h n = or_false_left (same i x) (live x is) h
not_live (i ∷ is) x (suc k) h n = not_live is x k (or_false_right (same i x) (live x is) h) n

-- two places with the same id are one
one_place : (is : List (List ℕ)) → distinct is ≡ true → (j k : ℕ) → empty (get_or is j []) ≡ false → same (get_or is k []) (get_or is j []) ≡ true → k ≡ j
unfolding distinct
one_place [] d j k n e = absurd (true≢false n)
one_place (i ∷ is) d zero zero n e = refl
one_place (i ∷ is) d zero (suc k) n e =
    let gone : live i is ≡ false = not-true (live i is) (sym (ap (◌|| not (live i is)) n) ∙ and_left (empty i || not (live i is)) (distinct is) d) in
    absurd (true≢false (sym e ∙ not_live is i k gone (not_empty i n)))
one_place (i ∷ is) d (suc j) zero n e =
    let is_it : i ≡ get_or is j [] = same_eq i (get_or is j []) e in
    let some_i : empty i ≡ false = ap empty is_it ∙ n in
    let gone : live i is ≡ false = not-true (live i is) (sym (ap (◌|| not (live i is)) some_i) ∙ and_left (empty i || not (live i is)) (distinct is) d) in
    absurd (true≢false (sym (same_self i) ∙ ap (λ z. same z i) is_it ∙ not_live is i j gone (not_empty i some_i)))
one_place (i ∷ is) d (suc j) (suc k) n e = ap suc (one_place is (and_right (empty i || not (live i is)) (distinct is) d) j k n e)

-- so comparing places is comparing ids
place_id : (is : List (List ℕ)) → distinct is ≡ true → (j k : ℕ) → empty (get_or is j []) ≡ false → eqb k j ≡ same (get_or is k []) (get_or is j [])
place_id is d j k n = by (eqb k j) (same (get_or is k []) (get_or is j [])) refl refl
  where
    by : (a b : Bool) → eqb k j ≡ a → same (get_or is k []) (get_or is j []) ≡ b → a ≡ b
    by true b e f = sym (sym f ∙ ap (λ z. same (get_or is z []) (get_or is j [])) (eqb-true k j e) ∙ same_self (get_or is j []))
    by false true e f = absurd (eqb-false k j e (one_place is d j k n f))
    by false false e f = refl

-- ---- lists seen through a function

module _ (f : Pending → Delivery) where
  map-append : (ps qs : List Pending) → map f (ps ++ qs) ≡ map f ps ++ map f qs
  map-append [] qs = refl
  map-append (p ∷ ps) qs = ap (f p ∷◌) (map-append ps qs)

  map_without : (a : Pending → Bool) (b : Delivery → Bool) (ps : List Pending) → All (λ p. a p ≡ b (f p)) ps → map f (without a ps) ≡ without b (map f ps)
  map_without a b [] h = refl
  map_without a b (p ∷ ps) (h, more) = by (a p) (b (f p)) h (map_without a b ps more)
    where
      by : (s t : Bool) → s ≡ t → map f (without a ps) ≡ without b (map f ps)
          → map f (cond s (without a ps) (p ∷ without a ps)) ≡ cond t (without b (map f ps)) (f p ∷ without b (map f ps))
      by true t e go = go ∙ ap (λ z. cond z (without b (map f ps)) (f p ∷ without b (map f ps))) e
      by false t e go = ap (f p ∷◌) go ∙ ap (λ z. cond z (without b (map f ps)) (f p ∷ without b (map f ps))) e

  map_settled : (a g : Pending → Bool) (b h : Delivery → Bool) (ps : List Pending) → All (λ p. (a p ≡ b (f p)) × (g p ≡ h (f p))) ps
      → map f (settled a g ps) ≡ settled b h (map f ps)
  map_settled a g b h [] e = refl
  map_settled a g b h (p ∷ ps) ((e, d), more) =
      ap (map f) (ap₂ (λ s t. cond s ps (cond t (settled a g ps) (p ∷ settled a g ps))) e d) ∙ by (b (f p)) (h (f p)) (map_settled a g b h ps more)
    where
      by : (s t : Bool) → map f (settled a g ps) ≡ settled b h (map f ps)
          → map f (cond s ps (cond t (settled a g ps) (p ∷ settled a g ps))) ≡ cond s (map f ps)
          (cond t (settled b h (map f ps)) (f p ∷ settled b h (map f ps)))
      by true t go = refl
      by false true go = go
      by false false go = ap (f p ∷◌) go

map_alike : (f g : Pending → Delivery) (ps : List Pending) → All (λ p. f p ≡ g p) ps → map f ps ≡ map g ps
map_alike f g [] h = refl
map_alike f g (p ∷ ps) (h, more) = ap₂ (◌∷◌) h (map_alike f g ps more)

-- ---- the deliveries that are held, by the ids of the subscriptions in their places

abbrev seen : List (List ℕ) → List ℕ → Pending → Delivery
seen is ms p = record { subscription = get_or is p.place []; mode = mode_of ms p.place; label = p.label }

abbrev held_in : List (List ℕ) → List ℕ → Deliveries → List Delivery
held_in is ms d = map (seen is ms) (pending d)

-- each place that is taken has the mode of its last SUBSCRIBE
abbrev KnowsIn : List Event → List (List ℕ) → List ℕ → Type 0
KnowsIn past is ms = (k : ℕ) → empty (get_or is k []) ≡ false → mode_of ms k ≡ mode_in (get_or is k []) past

-- each delivery is of a place that is taken
abbrev Taken : List (List ℕ) → List Pending → Type 0
Taken is ps = All (λ (p : Pending). empty (get_or is p.place []) ≡ false) ps

all_map : (P : Delivery → Type 0) (f : Pending → Delivery) (ps : List Pending) → All (λ p. P (f p)) ps → All P (map f ps)
all_map P f [] h = tt
all_map P f (p ∷ ps) (h, more) = (h, all_map P f ps more)

agrees_in : (past : List Event) (is : List (List ℕ)) (ms : List ℕ) (ps : List Pending) → KnowsIn past is ms → Taken is ps → Agrees past (map (seen is ms) ps)
agrees_in past is ms ps knows taken =
    all_map (λ (x : Delivery). x.mode ≡ mode_in x.subscription past) (seen is ms) ps (all_with (λ p t. knows p.place t) ps taken)

distinct_in : (f : Pending → Delivery) → ((p : Pending) → (f p).label ≡ p.label) → (ps : List Pending) → Apart ps → Distinct (map f ps)
distinct_in f e [] a = tt
distinct_in f e (p ∷ ps) (a, more) = (
  any_map (named (f p).label) f ps ∙ alike ps ∙ a,
  distinct_in f e ps more,
)
  where
    alike : (qs : List Pending) → any (λ q. named (f p).label (f q)) qs ≡ any (labelled p.label) qs
    alike [] = refl
    alike (q ∷ qs) = ap₂ (λ x y. same x (f p).label || y) (e q) (alike qs) ∙ ap (λ z. same q.label z || any (labelled p.label) qs) (e p)

-- ---- SUBSCRIBE, in place k

module _ (is : List (List ℕ)) (ms : List ℕ) (k : ℕ) (id : List ℕ) (m : ℕ) where
  -- a delivery of another place
  seen_elsewhere : (p : Pending) → Elsewhere k p → seen (set is k id) (set ms k m) p ≡ seen is ms p
  seen_elsewhere p n =
      ap₂ (λ a b. record { subscription = a; mode = b; label = p.label }) (get_or-set_other is k p.place id [] n) (get_or-set_other ms k p.place m 0 n)

  subscribed_held : (d : Deliveries) → All (Elsewhere k) (pending d) → held_in (set is k id) (set ms k m) d ≡ held_in is ms d
  subscribed_held d e = map_alike (seen (set is k id) (set ms k m)) (seen is ms) (pending d) (all_with seen_elsewhere (pending d) e)

  subscribed_knows : (past : List Event) → KnowsIn past is ms → k < length is → k < length ms → live id is ≡ false → id ≢ []
      → KnowsIn (subscribed id m ∷ past) (set is k id) (set ms k m)
  subscribed_knows past knows a b new n j t = by (eqb j k) refl
    where
      by : (q : Bool) → eqb j k ≡ q → get_or (set ms k m) j 0 ≡ cond (same id (get_or (set is k id) j [])) m (mode_in (get_or (set is k id) j []) past)
      by true e =
          let at : j ≡ k = eqb-true j k e in
          let here : get_or (set is k id) j [] ≡ id = ap (λ z. get_or (set is k id) z []) at ∙ get_or-set_same is k id [] a in
          ap (λ z. get_or (set ms k m) z 0) at ∙ get_or-set_same ms k m 0 b
          ∙ sym (ap (λ z. cond z m (mode_in (get_or (set is k id) j []) past)) (ap (same id) here ∙ same_self id))
      by false e =
          let away : j ≢ k = eqb-false j k e in
          let here : get_or (set is k id) j [] ≡ get_or is j [] = get_or-set_other is k j id [] away in
          get_or-set_other ms k j m 0 away ∙ knows j (sym (ap empty here) ∙ t) ∙ ap (λ z. mode_in z past) (sym here)
          ∙ sym (ap (λ z. cond z m (mode_in (get_or (set is k id) j []) past)) (ap (same id) here ∙ same_turn id (get_or is j []) ∙ not_live is id j new n))

-- ---- UNSUBSCRIBE, in place k

module _ (is : List (List ℕ)) (ms : List ℕ) (k : ℕ) (id : List ℕ) (at : get_or is k [] ≡ id) where
  abbrev of_it : Pending → Bool
  of_it p = eqb p.place k

  unsubscribed_held : (d : Deliveries) → distinct is ≡ true → empty id ≡ false → pending (dropped (some k) d) ≡ without of_it (pending d)
      → held_in (set is k []) (set ms k auto_mode) (dropped (some k) d) ≡ without (λ (x : Delivery). same id x.subscription) (held_in is ms d)
  unsubscribed_held d apart n left =
      ap (map (seen (set is k []) (set ms k auto_mode))) left
      ∙ map_alike (seen (set is k []) (set ms k auto_mode)) (seen is ms) (without of_it (pending d))
      (all_with (λ p e. seen_elsewhere is ms k [] auto_mode p (eqb-false p.place k e)) (without of_it (pending d)) (without_fail of_it (pending d)))
      ∙ map_without (seen is ms) of_it (λ (x : Delivery). same id x.subscription) (pending d) (same_all (pending d))
    where
      same_all : (ps : List Pending) → All (λ (p : Pending). eqb p.place k ≡ same id (get_or is p.place [])) ps
      same_all [] = tt
      same_all (p ∷ ps) = (
        place_id is apart k p.place (ap empty at ∙ n) ∙ ap (same (get_or is p.place [])) at ∙ same_turn (get_or is p.place []) id,
        same_all ps,
      )

  unsubscribed_knows : (past : List Event) → KnowsIn past is ms → KnowsIn (unsubscribed id ∷ past) (set is k []) (set ms k auto_mode)
  unsubscribed_knows past knows j t = by (eqb j k) refl
    where
      by : (q : Bool) → eqb j k ≡ q → get_or (set ms k auto_mode) j 0 ≡ mode_in (get_or (set is k []) j []) past
      by true e = absurd (true≢false (sym (ap empty (none is k j (eqb-true j k e))) ∙ t))
        where
          none : (xs : List (List ℕ)) (i h : ℕ) → h ≡ i → get_or (set xs i []) h [] ≡ []
          none xs i h q = ap (λ z. get_or (set xs i []) z []) q ∙ at_set xs i
            where
              at_set : (xs : List (List ℕ)) (i : ℕ) → get_or (set xs i []) i [] ≡ []
              at_set [] i = refl
              at_set (x ∷ xs) zero = refl
              at_set (x ∷ xs) (suc i) = at_set xs i
      by false e =
          let away : j ≢ k = eqb-false j k e in
          let here : get_or (set is k []) j [] ≡ get_or is j [] = get_or-set_other is k j [] [] away in
          get_or-set_other ms k j auto_mode 0 away ∙ knows j (sym (ap empty here) ∙ t) ∙ ap (λ z. mode_in z past) (sym here)

-- ---- ACK and NACK

first_all : (P : Pending → Type 0) (b : Pending → Bool) (ps : List Pending) (n : Pending) → All P ps → first_of b ps ≡ some n → P n
first_all P b [] n h e = absurd (let z : ◌≡◌ {A = ℕ} 0 1 = cc in omega arith)
first_all P b (p ∷ ps) n (h, more) e = by (b p) e (first_all P b ps n more)
  where
    by : (t : Bool) → cond t (some p) (first_of b ps) ≡ some n → (first_of b ps ≡ some n → P n) → P n
    by true f go = let is : p ≡ n = cc in subst P is h
    by false f go = go f

abbrev seen_option : (Pending → Delivery) → Option Pending → Option Delivery
seen_option f none = none
seen_option f (some p) = some (f p)

first_map : (f : Pending → Delivery) (b : Delivery → Bool) (ps : List Pending) → first_of b (map f ps) ≡ seen_option f (first_of (λ p. b (f p)) ps)
first_map f b [] = refl
first_map f b (p ∷ ps) = by (b (f p)) (first_map f b ps)
  where
    by : (t : Bool) → first_of b (map f ps) ≡ seen_option f (first_of (λ p. b (f p)) ps)
        → cond t (some (f p)) (first_of b (map f ps)) ≡ seen_option f (cond t (some p) (first_of (λ p. b (f p)) ps))
    by true go = refl
    by false go = go

settled_held : (lens ms : List ℕ) (is : List (List ℕ)) (d : Deliveries) → Holds lens ms d → distinct is ≡ true → Taken is (pending d) → (l : List ℕ)
    → held_in is ms (settle_label ms l d) ≡ settled_by l (held_in is ms d)
settled_held lens ms is d h apart taken l =
    by (first_of (labelled l) (pending d)) refl ∙ ap (λ o. settled_for l o (held_in is ms d)) (sym (first_map (seen is ms) (named l) (pending d)))
  where
    by : (o : Option Pending) → first_of (labelled l) (pending d) ≡ o
        → held_in is ms (settled_as ms l d o) ≡ settled_for l (seen_option (seen is ms) o) (held_in is ms d)
    by none e = refl
    by (some n) e = go
      where
        live_n : empty (get_or is n.place []) ≡ false
        live_n = first_all (λ (p : Pending). empty (get_or is p.place []) ≡ false) (labelled l) (pending d) n taken e

        each : (ps : List Pending)
            → All (λ (p : Pending). (labelled l p ≡ labelled l p) × (goes_with ms n p ≡ settled_with (seen is ms n) (get_or is p.place []))) ps
        each [] = tt
        each (p ∷ ps) = ((refl, ap (eqb (mode_of ms n.place) client_mode &&◌) (place_id is apart n.place p.place live_n)), each ps)

        goes : Delivery → Bool
        goes x = settled_with (seen is ms n) x.subscription

        go : held_in is ms (deliveries_of (settled (labelled l) (goes_with ms n) (pending d))) ≡ settled (named l) goes (held_in is ms d)
        go =
            ap (map (seen is ms)) (holds_settled lens ms d h (labelled l) (goes_with ms n)).1
            ∙ map_settled (seen is ms) (labelled l) (goes_with ms n) (named l) goes (pending d) (each (pending d))

-- ---- a delivery

module _ (past : List Event) (is : List (List ℕ)) (ms : List ℕ) (d : Deliveries) (k : ℕ) (id l : List ℕ) where
  abbrev more : List Pending
  more = pending d ++ (record { place = k; label = l } ∷ [])

  recorded_held : get_or is k [] ≡ id → empty id ≡ false → KnowsIn past is ms
      → (eqb (mode_of ms k) auto_mode ≡ false → pending (deliveries_of more) ≡ more)
      → held_in is ms (record_label ms (some k) l d) ≡ entered (made_at past id l) (held_in is ms d)
  recorded_held at n knows laid_out = by (eqb (mode_of ms k) auto_mode) refl
    where
      mode_is : mode_of ms k ≡ mode_in id past
      mode_is = knows k (ap empty at ∙ n) ∙ ap (λ z. mode_in z past) at

      by_mode : (t : Bool) → eqb (mode_of ms k) auto_mode ≡ t
          → cond t (held_in is ms d) (held_in is ms d ++ (made_at past id l ∷ [])) ≡ entered (made_at past id l) (held_in is ms d)
      by_mode t e = sym (ap (λ z. cond z (held_in is ms d) (held_in is ms d ++ (made_at past id l ∷ []))) (ap (λ z. eqb z auto_mode) (sym mode_is) ∙ e))

      by : (t : Bool) → eqb (mode_of ms k) auto_mode ≡ t → held_in is ms (cond t d (deliveries_of more)) ≡ entered (made_at past id l) (held_in is ms d)
      by true e = by_mode true e
      by false e =
          ap (map (seen is ms)) (laid_out e) ∙ map-append (seen is ms) (pending d) (record { place = k; label = l } ∷ [])
          ∙ ap₂ (λ a b. held_in is ms d ++ (record { subscription = a; mode = b; label = l } ∷ [])) at mode_is
          ∙ by_mode false e

-- ---- a session

abbrev pub Knows : List Event → Session → Type 0
Knows past s = KnowsIn past (ids_of Subscriptions s) s.subscriptions.modes

module _ (s : Session) (kept : Kept s) where
  taken : Taken (ids_of Subscriptions s) (pending s.deliveries)
  taken = all_with each (pending s.deliveries) (good s.subscriptions.lens s.subscriptions.modes s.deliveries kept.holds).each
    where
      some_there : (x : List ℕ) → not (eqb (length x) 0) ≡ true → empty x ≡ false
      some_there x h = empty_eqb x ∙ not-true (eqb (length x) 0) h

      each : (p : Pending) → Proper s.subscriptions.lens s.subscriptions.modes p → empty (get_or (ids_of Subscriptions s) p.place []) ≡ false
      each p h =
          some_there (get_or (ids_of Subscriptions s) p.place [])
          (ap (λ z. not (eqb z 0)) (sym (get_or-map length (ids_of Subscriptions s) p.place []) ∙ ap (λ z. get_or z p.place 0) (lens_are s kept))
          ∙ and_left (not (eqb (get_or s.subscriptions.lens p.place 0) 0)) (not (eqb (mode_of s.subscriptions.modes p.place) auto_mode)) h.acks)

  pub held_distinct_labels : Distinct (held_deliveries s)
  held_distinct_labels =
      distinct_in (delivery_of s) (λ p. refl) (pending s.deliveries)
      (good s.subscriptions.lens s.subscriptions.modes s.deliveries kept.holds).apart

  pub held_agrees : (past : List Event) → Knows past s → Agrees past (held_deliveries s)
  held_agrees past k = agrees_in past (ids_of Subscriptions s) s.subscriptions.modes (pending s.deliveries) k taken

-- what a call leaves: the deliveries that it holds, and what is known of the modes
pub record Left (past : List Event) (s r : Session) (e : Event) : Type 0 where
  pub holds_are : held_deliveries r ≡ left_by past e (held_deliveries s)
  pub knows : Knows (e ∷ past) r

module _ (past : List Event) (s : Session) (kept : Kept s) (knows : Knows past s) where
  left_closed : Left past s (closed_session s) closed
  left_closed =
      record {
        holds_are = ap (map (delivery_of (closed_session s))) (holds_none s.subscriptions.lens s.subscriptions.modes kept.holds.modes).1;
        knows = knows;
      }

  left_same : Left past s s nothing
  left_same = record { holds_are = refl; knows = knows }

  left_refused : (k : ℕ) (after : Session) → Left past s (session_left (refused k) s after) (refusal_event k)
  left_refused k after = by (eqb k 38 || eqb k 39)
    where
      by : (t : Bool) → Left past s (cond t s (closed_session s)) (cond t nothing closed)
      by true = left_same
      by false = left_closed

-- by the ids, the modes and the deliveries that are left
left_views : (past : List Event) (s r : Session) (e : Event) (is : List (List ℕ)) (ms : List ℕ) (d : Deliveries)
    → ids_of Subscriptions r ≡ is → r.subscriptions.modes ≡ ms → r.deliveries ≡ d
    → held_in is ms d ≡ left_by past e (held_deliveries s) → KnowsIn (e ∷ past) is ms → Left past s r e
left_views past s r e is ms d a m b h k =
    record {
      holds_are = ap₂ (λ x y. held_in x y r.deliveries) a m ∙ ap (held_in is ms) b ∙ h;
      knows = subst (λ z. KnowsIn (e ∷ past) z r.subscriptions.modes) (sym a) (subst (KnowsIn (e ∷ past) is) (sym m) k);
    }

module _ (past : List Event) (s : Session) (kept : Kept s) (knows : Knows past s) where
  subs : List (List ℕ)
  subs = ids_of Subscriptions s

  -- an id used: the ids that are left
  used_ids : (u : Use) (id : List ℕ) → settle (use_checks id_max u id (ids_of Subscriptions s)) [] ≡ accepted []
      → ids_of Subscriptions (with_ids Subscriptions s (used u id (ids_of Subscriptions s))) ≡ used u id (ids_of Subscriptions s)
  used_ids u id e =
      ids_laid id_max (used u id (ids_of Subscriptions s))
      (used_short id_max u id (ids_of Subscriptions s) (use_short id_max u id (ids_of Subscriptions s) [] [] e) (held_short s kept.ids Subscriptions))

  abbrev ms : List ℕ
  ms = s.subscriptions.modes

  inside : (k : ℕ) → k < length (ids_of Subscriptions s) → k < length ms
  inside k h = omega (arith, h, held_long s kept.ids Subscriptions, kept.ids.sized.subscriptions.modes_long)

  -- the session with an id used, and with other modes and deliveries
  abbrev left : Use → List ℕ → List ℕ → Deliveries → Session
  left u id ms' d = with_deliveries (with_modes (with_ids Subscriptions s (used u id (ids_of Subscriptions s))) ms') d

  left_subscribe : (m : ℕ) (id : List ℕ) → settle (use_checks id_max Enter id (ids_of Subscriptions s)) [] ≡ accepted []
      → Left past s (left Enter id (with_mode (free_place s) m ms) s.deliveries) (subscribed id m)
  left_subscribe m id e =
      let (k, f) = enter_place s kept id e in
      let (a, put) = found_at empty id k (ids_of Subscriptions s) (sym f) in
      left_views past s _ (subscribed id m) (set (ids_of Subscriptions s) k id) (set ms k m) s.deliveries
      (used_ids Enter id e ∙ put) (ap (λ o. with_mode o m ms) f) refl
      (subscribed_held (ids_of Subscriptions s) ms k id m s.deliveries
      (free_elsewhere s.subscriptions.lens ms k (pending s.deliveries) (lens_free s kept k f)
      (good s.subscriptions.lens ms s.deliveries kept.holds).each))
      (subscribed_knows (ids_of Subscriptions s) ms k id m past knows a (inside k a)
      (use_new id_max Enter id (ids_of Subscriptions s) [] [] e) (use_some id_max Enter id (ids_of Subscriptions s) [] [] e))

  left_unsubscribe : (id : List ℕ) → settle (use_checks id_max Free id (ids_of Subscriptions s)) [] ≡ accepted []
      → Left past s (left Free id (with_mode (place_named s (some id)) auto_mode ms) (dropped (place_named s (some id)) s.deliveries)) (unsubscribed id)
  left_unsubscribe id e =
      let (k, f) = free_there s kept id e in
      let (a, put) = found_at (λ x. same x id) [] k (ids_of Subscriptions s) (sym f) in
      let at : get_or (ids_of Subscriptions s) k [] ≡ id =
      same_eq (get_or (ids_of Subscriptions s) k []) id (first_passes (λ x. same x id) [] k (ids_of Subscriptions s) f).1 in
      left_views past s _ (unsubscribed id) (set (ids_of Subscriptions s) k []) (set ms k auto_mode) (dropped (some k) s.deliveries)
      (used_ids Free id e ∙ put) (ap (λ o. with_mode o auto_mode ms) f) (ap (λ o. dropped o s.deliveries) f)
      (unsubscribed_held (ids_of Subscriptions s) ms k id at s.deliveries (held_distinct s kept.ids Subscriptions)
      (empty_not id (use_some id_max Free id (ids_of Subscriptions s) [] [] e))
      (holds_dropped s.subscriptions.lens ms s.deliveries kept.holds k).1)
      (unsubscribed_knows (ids_of Subscriptions s) ms k id at past knows)

  -- ids of transactions: the same subscriptions
  same_subs : (r : Session) → SameSubscriptions r s → ids_of Subscriptions r ≡ ids_of Subscriptions s
  same_subs r e = ap (λ (x : SubscriptionStore). ids id_max x.ids x.lens) e

  -- a session with the modes that were, and with other deliveries
  abbrev settled_in : Session → Deliveries → Session
  settled_in r d = with_deliveries (with_modes r ms) d

  left_settle : (r : Session) (l : List ℕ) (e : Event) → SameSubscriptions r s → ((ds : List Delivery) → left_by past e ds ≡ settled_by l ds)
      → ((x : List ℕ) → mode_in x (e ∷ past) ≡ mode_in x past) → Left past s (settled_in r (settle_label ms l s.deliveries)) e
  left_settle r l e same_ids leaves modes =
      left_views past s _ e (ids_of Subscriptions s) ms (settle_label ms l s.deliveries) (same_subs r same_ids) refl refl
      (settled_held s.subscriptions.lens ms (ids_of Subscriptions s) s.deliveries kept.holds (held_distinct s kept.ids Subscriptions)
      (taken s kept) l ∙ sym (leaves (held_deliveries s)))
      (λ k t. knows k t ∙ sym (modes (get_or (ids_of Subscriptions s) k [])))

  left_other : (r : Session) → SameSubscriptions r s → Left past s (settled_in r s.deliveries) nothing
  left_other r same_ids = left_views past s _ nothing (ids_of Subscriptions s) ms s.deliveries (same_subs r same_ids) refl refl refl knows

  -- ---- an accepted frame

  -- the protocol version of the session
  abbrev ver : Version
  ver = spoken s

  left_named : (n : ℕ) (es : List Entry) → Passed s n es → opens n ≡ false → is DISCONNECT n ≡ false → Left past s (named_effect s n es) (frame_event ver n es)
  left_named n es p o d = by (is SUBSCRIBE n) (is UNSUBSCRIBE n) (is ACK n) (is NACK n) refl refl refl refl
    where
      Goal : ℕ → Type 0
      Goal z = Passed s z es → Left past s (named_effect s z es) (frame_event ver z es)

      -- the effect on the ids, and the session with that, and with other modes and deliveries
      ids_left : ℕ → Session
      ids_left z = id_effect s (changed_id (uses_of s z es))

      entering : Goal 14
      entering q =
          let (id, v) = subscribe_id s kept es q.needs in
          subst (λ o. Left past s (with_deliveries (with_modes (id_effect s o) (modes_effect s 14 es)) s.deliveries) (frame_event ver 14 es))
          (sym (subscribe_changes s es id v))
          (subst (λ w. Left past s (left Enter id (modes_effect s 14 es) s.deliveries) (subscribed (said w) (mode_or_auto (mode_asked es)))) (sym v)
          (left_subscribe (mode_or_auto (mode_asked es)) id (subscribe_settles s es id v q)))

      freeing : Goal 15
      freeing q =
          let (id, v) = unsubscribe_id s kept es q.needs in
          subst (λ o. Left past s (with_deliveries (with_modes (id_effect s o) (modes_effect s 15 es)) (delivery_effect s 15 es)) (frame_event ver 15 es))
          (sym (unsubscribe_changes s es id v))
          (subst (λ w. Left past s (left Free id (with_mode (place_named s w) auto_mode ms) (dropped (place_named s w) s.deliveries))
          (unsubscribed (said w))) (sym v)
          (left_unsubscribe id (unsubscribe_settles s es id v q)))

      acking : Goal 2
      acking q =
          let (l, v) = settling_label ver 2 es refl q.needs in
          subst (λ w. Left past s (settled_in (ids_left 2) (settle_named ms w s.deliveries)) (acked (said w))) (sym v)
          (left_settle (ids_left 2) l (acked l) (other_lens s kept 2 es refl refl) (λ ds. refl) (λ x. refl))

      nacking : Goal 10
      nacking q =
          let (l, v) = settling_label ver 10 es refl q.needs in
          subst (λ w. Left past s (settled_in (ids_left 10) (settle_named ms w s.deliveries)) (nacked (said w))) (sym v)
          (left_settle (ids_left 10) l (nacked l) (other_lens s kept 10 es refl refl) (λ ds. refl) (λ x. refl))

      by : (a b c e : Bool) → is SUBSCRIBE n ≡ a → is UNSUBSCRIBE n ≡ b → is ACK n ≡ c → is NACK n ≡ e
          → Left past s (named_effect s n es) (frame_event ver n es)
      by true b c e x y z w = subst Goal (sym (eqb-true n 14 x)) entering p
      by false true c e x y z w = subst Goal (sym (eqb-true n 15 y)) freeing p
      by false false true e x y z w = subst Goal (sym (eqb-true n 2 z)) acking p
      by false false false true x y z w = subst Goal (sym (eqb-true n 10 w)) nacking p
      by false false false false x y z w =
          let event : frame_event ver n es ≡ nothing = rw (x, y, z, w, d) in
          let modes_stay : modes_effect s n es ≡ ms = rw (x, y) in
          let stays : delivery_effect s n es ≡ s.deliveries = rw (y, z, w) in
          subst (Left past s (named_effect s n es)) (sym event)
          (subst (λ t. Left past s (with_deliveries (with_modes (ids_left n) t) (delivery_effect s n es)) nothing) (sym modes_stay)
          (subst (λ t. Left past s (settled_in (ids_left n) t) nothing) (sym stays) (left_other (ids_left n) (other_lens s kept n es x y))))

  left_opened : (shared : List Bool) (o : Option HeartBeats) → Left past s (opened_by s shared o) nothing
  left_opened shared none = record { holds_are = refl; knows = knows }
  left_opened shared (some b) = record { holds_are = refl; knows = knows }

  left_effect : (n : ℕ) (es : List Entry) → Passed s n es → Left past s (effect s n es) (frame_event ver n es)
  left_effect n es p = by (opens n) (is DISCONNECT n) refl refl
    where
      no_event : opens n ≡ true → frame_event ver n es ≡ nothing
      no_event o =
          or_either (is CONNECT n) (is STOMP n) o (λ e. ap (λ m. frame_event ver m es) (eqb-true n 5 e)) (λ e. ap (λ m. frame_event ver m es) (eqb-true n 13 e))

      by : (a b : Bool) → opens n ≡ a → is DISCONNECT n ≡ b
          → Left past s (cond a (opening s es) (cond b (closed_session s) (named_effect s n es))) (frame_event ver n es)
      by true b o d = subst (Left past s (opening s es)) (sym (no_event o)) (left_opened (shared_by s (client_versions es)) (client_heart_beats es))
      by false true o d = subst (Left past s (closed_session s)) (sym (ap (λ m. frame_event ver m es) (eqb-true n 7 d))) (left_closed past s kept knows)
      by false false o d = left_named n es p o d

  left_heard : (r : Session) (e : Event) (time : ℕ) → Left past s r e → Left past s (heard r time) e
  left_heard r e time l = record { holds_are = l.holds_are; knows = l.knows }

  -- ---- the calls

  left_frame : (n : ℕ) (block : List ℕ) (time : ℕ) → Left past s (frame_session s n block time) (event_of ver (frame n block time) (frame_answer s n block))
  unfolding frame_session
  left_frame n block time = by (frame_answer s n block) refl
    where
      es : List Entry
      es = listed (entries block)

      by : (A : Answer) → frame_answer s n block ≡ A → Left past s (session_left A s (heard (effect s n es) time)) (event_of ver (frame n block time) A)
      by (accepted v) e = left_heard (effect s n es) (frame_event ver n es) time (left_effect n es (frame_passed s n block v e))
      by (refused k) e = left_refused past s kept knows k (heard (effect s n es) time)

  left_heart_beat : (time : ℕ) → Left past s (heart_beat_session s time) (event_of ver (heart_beat time) (heart_beat_answer s))
  unfolding heart_beat_session
  left_heart_beat time = by (heart_beat_answer s)
    where
      by : (A : Answer) → Left past s (session_left A s (heard s time)) (event_of ver (heart_beat time) A)
      by (accepted v) = record { holds_are = refl; knows = knows }
      by (refused k) = left_refused past s kept knows k (heard s time)

  left_deliver : (id label : List ℕ) → Left past s (deliver_session s id label) (event_of ver (deliver id label) (deliver_answer s id label))
  unfolding deliver_session deliver_answer
  left_deliver id label = by (deliver_answer s id label) refl
    where
      by : (A : Answer) → settle (deliver_checks s id label) [] ≡ A → Left past s (recorded_by A s (recording s id label)) (event_of ver (deliver id label) A)
      by (refused k) e = left_same past s kept knows
      by (accepted v) e =
          let (k, f) = deliver_place s kept id label v e in
          left_views past s _ (delivered id label) (ids_of Subscriptions s) ms (record_label ms (some k) label s.deliveries) refl refl
          (ap (λ o. record_label ms o label s.deliveries) f)
          (recorded_held past (ids_of Subscriptions s) ms s.deliveries k id label (deliver_at s kept id label v e k f) (deliver_id s kept id label v e) knows
          (λ a. (deliver_entered s kept id label v e k f a).1))
          (λ j t. knows j t)

  pub left_next : (c : Call) → Left past s (next s c) (event_of ver c (answer_to s c))
  left_next (frame n block time) = left_frame n block time
  left_next (heart_beat time) = left_heart_beat time
  left_next (deliver id label) = left_deliver id label

-- ---- a history

held_history : (past : List Event) (s : Session) → Kept s → Knows past s → (cs : List Call)
    → held_deliveries (after s cs) ≡ survivors (held_deliveries s) (events s cs) ++ pending_in past (events s cs)
held_history past s kept knows [] = none_later past (held_deliveries s)
held_history past s kept knows (c ∷ cs) =
    let l = left_next past s kept knows c in
    let e = event_of (spoken s) c (answer_to s c) in
    held_history (e ∷ past) (next s c) (kept_next s c kept) l.knows cs
    ∙ ap (λ ds. survivors ds (events (next s c) cs) ++ pending_in (e ∷ past) (events (next s c) cs)) l.holds_are
    ∙ step_pending past e (held_deliveries s) (held_distinct_labels s kept) (held_agrees s kept past knows) (events (next s c) cs)
    ∙ ap (λ es. survivors (held_deliveries s) es ++ pending_in past es) (sym (events_next s c cs))

-- a session that is made holds none, and no place of it is taken
none_held : (sends wants : ℕ) (offered : List Bool) → held_deliveries (made sends wants offered) ≡ []
none_held sends wants offered = ap (λ (d : Deliveries). map (delivery_of (made sends wants offered)) (pending d)) (made_none sends wants offered).0

none_known : (sends wants : ℕ) (offered : List Bool) → Knows [] (made sends wants offered)
none_known sends wants offered k t = absurd (true≢false (sym (empty_there k) ∙ t))
  where
    empty_there : (k : ℕ) → empty (get_or (ids_of Subscriptions (made sends wants offered)) k []) ≡ true
    empty_there k = ap (λ (x : List (List ℕ)). empty (get_or x k [])) (made_ids sends wants offered) ∙ none 16 k
      where
        none : (n k : ℕ) → empty {A = ℕ} (get_or (replicate {A = List ℕ} n []) k []) ≡ true
        none zero k = refl
        none (suc n) zero = refl
        none (suc n) (suc k) = none n k

-- "the outstanding ones are exactly those that the session holds, oldest first"
pub made_pending : (sends wants : ℕ) (offered : List Bool) (cs : List Call)
    → pending_in [] (events (made sends wants offered) cs) ≡ held_deliveries (after (made sends wants offered) cs)
made_pending sends wants offered cs =
    sym (held_history [] (made sends wants offered) (kept_made sends wants offered) (none_known sends wants offered) cs
    ∙ ap (λ ds. survivors ds (events (made sends wants offered) cs) ++ pending_in [] (events (made sends wants offered) cs)) (none_held sends wants offered))

-- "deliveries made equal those acknowledged, refused by NACK, dropped at UNSUBSCRIBE or close, and outstanding", each counted from the
-- history of calls and answers
pub made_counted : (sends wants : ℕ) (offered : List Bool) (cs : List Call)
    → recorded (events (made sends wants offered) cs)
    ≡ length (with_fate is_acknowledged (accounts [] (events (made sends wants offered) cs))) + length
    (with_fate is_refused (accounts [] (events (made sends wants offered) cs)))
    + length (with_fate is_dropped (accounts [] (events (made sends wants offered) cs))) + length (pending_in [] (events (made sends wants offered) cs))
made_counted sends wants offered cs = all_accounted [] (events (made sends wants offered) cs)

-- the same with the pending ones that the session holds
pub made_accounted : (sends wants : ℕ) (offered : List Bool) (cs : List Call)
    → recorded (events (made sends wants offered) cs)
    ≡ length (with_fate is_acknowledged (accounts [] (events (made sends wants offered) cs))) + length
    (with_fate is_refused (accounts [] (events (made sends wants offered) cs)))
    + length (with_fate is_dropped (accounts [] (events (made sends wants offered) cs))) + length (held_deliveries (after (made sends wants offered) cs))
made_accounted sends wants offered cs =
    let es = events (made sends wants offered) cs in
    all_accounted [] es
    ∙ ap (λ (ds : List Delivery). length (with_fate is_acknowledged (accounts [] es)) + length (with_fate is_refused (accounts [] es)) + length
    (with_fate is_dropped (accounts [] es)) + length ds)
    (made_pending sends wants offered cs)
