-- Deliveries found, settled, dropped and recorded, as the code has them. Assumes nothing.
--     find_fits, find_pending                  the search for a label
--     settled_client, settled_individual       what an ACK or NACK leaves
--     dropped_none, dropped_some               what an UNSUBSCRIBE leaves
--     dropped_idle, modes_idle, entered_auto   an UNSUBSCRIBE and a SUBSCRIBE that change no mode and no delivery
--     says_at, says_nowhere                    where a search ended
--     free_is, place_inside                    the places of subscriptions
--     label_found, label_missed                60
--     records_placed                           a delivery, by the place of its subscription
--     told_held, told_absent                   the question for a pending delivery
use Rattle.std.proofs.Common.{◌≡◌, ℕ, zero, suc, ◌+◌, ◌-◌, ◌*◌, ◌<◌, ◌≤◌, Bool, true, false, cond, not, ◌&&◌, ◌||◌, eqb, ltb, leb, List, [], ◌∷◌, ◌++◌, map, length, get_or, take, drop, set, sym, refl, ap, ◌∙◌, subst, ap₂, true≢false, add-one, arith, length-take-le, get_or-take, take-take, ltb-false, eq-eqb, ne_eqb, eqb-true, leb-false, leb-true}
use mathlib.Core.Option.{Option, none, some}
use lib.ListN.{length-map, get_or-map}
use Rattle.headers.specs.Rows.{every, empty, same, first_of}
use Rattle.headers.specs.Answers.{accepted, refused, settle}
use Rattle.stores.specs.Places.{padded, is_zero}
use Rattle.stores.specs.Searches.{first_from, search_says}
use Rattle.std.specs.Prelude.{Option as Maybe, Some, None, Ok, Err, is_some as has_place}
use Rattle.sessions.specs.declared.session.Pending.{Pending as Told}
use Rattle.sessions.specs.declared.refusals.Refusal.{Refusal}
use Rattle.sessions.specs.Stores.{ids, laid, live, bad_length}
use Rattle.sessions.specs.Places.{Fits}
use Rattle.stores.specs.Compaction.{kept}
use Rattle.sessions.specs.Deliveries.{deliveries_max, label_max, auto_mode, client_mode, Pending, paired, pending, places_of, labelled}
use Rattle.sessions.specs.Deliveries.{is_pending, mode_of, settled, settled_as, settle_label, without, deliveries_of, with_mode, dropped}
use Rattle.sessions.specs.Deliveries.{record_label, acknowledging, idle_modes, Laid}
use Rattle.sessions.specs.Sessions.{subscriptions_max, id_max, open_phase, ids_of, with_deliveries, is_valid, SizedDeliveries}
use Rattle.sessions.specs.Held.{delivery_of, held_deliveries, nth, told_of, pending_answer}
use Rattle.sessions.specs.Calls.{free_place, place_named, is_auto, deliver_checks, deliver_answer, deliver_session, recording, may_name}
use Rattle.sessions.specs.Steps.{Records, RecordsAt, MayRecord, unrecorded_by}
use Rattle.sessions.specs.Steps.{recorded_as, recording_at, label_checks}
use Rattle.sessions.specs.Answers.{delivery_says}
use Rattle.sessions.specs.declared.command.Kind.TheVariants.{Subscriptions}
use Rattle.frames.specs.declared.version.Version.{Version}
use Rattle.frames.specs.declared.version.Version.TheVariants.{V11}
use Rattle.sessions.specs.declared.delivery.Deliveries.{Deliveries}
use Rattle.sessions.specs.declared.session.Session.{Session}
use Rattle.sessions.specs.Afters.{Recording}
use Rattle.stores.proofs.Searching.{told_any}
use Rattle.sessions.proofs.Settling.{first_free}
use Rattle.sessions.proofs.Stores.{place_padded, lengths_ids, valid_clean}
use Rattle.sessions.proofs.Pending.{none_laid, idle, places_ack, holds_laid}
use Rattle.sessions.proofs.Taking.{fits, alike, places_are, labels_are, store_same, lens_same, dropped_kept, client_kept, individual_kept}
use Rattle.sessions.proofs.Validating.{no_lens}
use Rattle.headers.proofs.Rows.{and_left, and_right, and_false, or_false_right, empty_eqb, empty_zero}
use Rattle.sessions.proofs.Steps.{records_refused, records_on, records_done}
use Rattle.sessions.proofs.Keeping.{subscriptions_fit, held_long}
use Rattle.sessions.proofs.Kept.{Kept, first_passes, lens_are, lens_free}

-- ---- the pending delivery with a label

first_paired : (l : List ℕ) (k : ℕ) (ps : List ℕ) (ls : List (List ℕ)) → length ps ≡ length ls
    → first_from (labelled l) k (paired ps ls) ≡ first_from (λ x. same x l) k ls
unfolding first_from
first_paired l k [] [] e = refl
first_paired l k [] (x ∷ xs) e = absurd (omega (arith, e))
first_paired l k (p ∷ ps) [] e = absurd (omega (arith, e))
first_paired l k (p ∷ ps) (x ∷ xs) e = ap (cond (same x l) (some k)) (first_paired l (suc k) ps xs (omega (arith, e)))

module _ (d : Deliveries) (sized : SizedDeliveries d) (l : Laid d) (n : ℕ) (e : n ≡ d.count) where
  pub find_fits : Fits 32 n (take (n * 32 - 0) (drop 0 d.labels)) (take (n - 0) (drop 0 d.lens))
  find_fits = rw (store_same d sized l n e, lens_same d sized l n e, e) (fits d sized l)

  pub find_pending : (x : List ℕ)
      → first_from (λ y. same y x) 0 (ids 32 (take (n * 32 - 0) (drop 0 d.labels)) (take (n - 0) (drop 0 d.lens))) ≡ first_from (labelled x) 0 (pending d)
  find_pending x =
      ap₂ (λ s ls. first_from (λ y. same y x) 0 (ids 32 s ls)) (store_same d sized l n e) (lens_same d sized l n e)
      ∙ sym (first_paired x 0 (take d.count d.places) (ids label_max (take (d.count * label_max) d.labels) (take d.count d.lens))
      (alike d sized l))

-- ---- what an ACK or NACK leaves

-- the first that passes is the one with the number found
first_nth : {A : Type 0} (p : A → Bool) (d : A) (j k : ℕ) (xs : List A) → first_from p j xs ≡ some k → (i : ℕ) × (k ≡ j + i) × (i < length xs)
    × (first_of p xs ≡ some (get_or xs i d))
unfolding first_from
first_nth p d j k [] e = absurd (let z : ◌≡◌ {A = ℕ} 0 1 = cc in omega arith)
first_nth {A} p d j k (x ∷ xs) e = by (p x) e (first_nth p d (suc j) k xs)
  where
    by : (t : Bool) → cond t (some j) (first_from p (suc j) xs) ≡ some k
        → (first_from p (suc j) xs ≡ some k → (i : ℕ) × (k ≡ suc j + i) × (i < length xs) × (first_of p xs ≡ some (get_or xs i d)))
        → (i : ℕ) × (k ≡ j + i) × (i < suc (length xs)) × (cond t (some x) (first_of p xs) ≡ some (get_or (x ∷ xs) i d))
    by true f go = let s : j ≡ k = cc in (0, omega arith, omega arith, refl)
    by false f go = let (i, a, b, c) = go f in (suc i, omega (arith, a), omega (arith, b), c)

abbrev none_pending : Pending
none_pending = record { place = 0; label = [] }

module _ (d : Deliveries) (sized : SizedDeliveries d) (l : Laid d) where
  -- how many there are
  pub pending_count : length (pending d) ≡ d.count
  pending_count =
      sym (length-map (pending d) (λ (p : Pending). p.place)) ∙ ap length (places_are d sized l)
      ∙ length-take-le d.count d.places (omega (arith, l.few, sized.places_long))

  -- the place and the label of the one with a number
  pub place_at : (i : ℕ) → i < d.count → (get_or (pending d) i none_pending).place ≡ get_or d.places i 0
  place_at i h =
      sym (get_or-map (λ (p : Pending). p.place) (pending d) i none_pending) ∙ ap (λ z. get_or z i 0) (places_are d sized l)
      ∙ get_or-take d.count d.places i 0 h

  pub label_at : (i : ℕ)
      → (get_or (pending d) i none_pending).label ≡ get_or (ids label_max (take (d.count * label_max) d.labels) (take d.count d.lens)) i []
  label_at i = sym (get_or-map (λ (p : Pending). p.label) (pending d) i none_pending) ∙ ap (λ (z : List (List ℕ)). get_or z i []) (labels_are d sized l)

  module _ (ms x : List ℕ) (i : ℕ) (found : first_from (labelled x) 0 (pending d) ≡ some i) (of : ℕ) (there : of ≡ get_or d.places i 0) where
    named_there : (i < length (pending d)) × (first_of (labelled x) (pending d) ≡ some (get_or (pending d) i none_pending))
    named_there =
        let (j, a, b, c) = first_nth (labelled x) none_pending 0 i (pending d) found in
        let s : j ≡ i = omega (arith, a) in
        (omega (arith, b, s), c ∙ ap (λ z. some (get_or (pending d) z none_pending)) s)

    named_place : (get_or (pending d) i none_pending).place ≡ of
    named_place = place_at i (omega (arith, named_there.0, pending_count)) ∙ sym there

    of_named : (p : Pending) → first_of (labelled x) (pending d) ≡ some p → p.place ≡ of
    of_named p e = (let q : p ≡ get_or (pending d) i none_pending = some_same (sym e ∙ named_there.1) in ap (λ (z : Pending). z.place) q) ∙ named_place
      where
        some_same : {A : Type 0} {a b : A} → some a ≡ some b → a ≡ b
        some_same h = cc

    settled_is : (t : Bool) → eqb (mode_of ms of) client_mode ≡ t
        → settle_label ms x d ≡ deliveries_of (settled (labelled x) (λ (p : Pending). t && eqb p.place of) (pending d))
    settled_is t h =
        ap (settled_as ms x d) named_there.1
        ∙ ap₂ (λ u k. deliveries_of (settled (labelled x) (λ (p : Pending). u && eqb p.place k) (pending d)))
        (ap (λ k. eqb (mode_of ms k) client_mode) named_place ∙ h) named_place

    -- those that stay where the ones with numbers from here to there go
    abbrev staying : ℕ → ℕ → Deliveries
    staying a b = deliveries_of (kept (record { from = a; to = b; of = of }) 0 (places_of (pending d)) (pending d))

    pub settled_client : get_or ms of 0 ≡ 1 → staying 0 (i + 1) ≡ settle_label ms x d
    settled_client h =
        ap (staying 0) (add-one i) ∙ ap deliveries_of (client_kept x of i 0 (pending d) found of_named) ∙ sym (settled_is true (eq-eqb (get_or ms of 0) 1 h))

    pub settled_individual : (get_or ms of 0 ≡ 1 → ⊥) → staying i (i + 1) ≡ settle_label ms x d
    settled_individual h =
        ap (staying i) (add-one i) ∙ ap deliveries_of (individual_kept x of i 0 (pending d) found of_named) ∙ sym (settled_is false (ne_eqb (get_or ms of 0) 1 h))

  -- ---- what an UNSUBSCRIBE leaves

  pub dropped_none : (k : ℕ) → d.count ≡ 0 → d ≡ dropped (some k) d
  unfolding deliveries_of laid
  dropped_none k e =
      let none : pending d ≡ [] = ap (λ n. paired (take n d.places) (ids label_max (take (n * label_max) d.labels) (take n d.lens))) e in
      sym (none_laid d sized l.labels_zero l.lens_zero l.places_zero e)
      ∙ ap (λ ps. deliveries_of (without (λ (p : Pending). eqb p.place k) ps)) (sym none)

  pub dropped_some : (k n of : ℕ) → n ≡ d.count → of ≡ k
      → deliveries_of (kept (record { from = 0; to = n; of = of }) 0 (places_of (pending d)) (pending d)) ≡ dropped (some k) d
  dropped_some k n of e o =
      ap deliveries_of (ap (λ z. kept (record { from = 0; to = n; of = z }) 0 (places_of (pending d)) (pending d)) o
      ∙ dropped_kept n k 0 (pending d) (omega (arith, pending_count, e)))

-- ---- modes that stay

set_same : (xs : List ℕ) (k v : ℕ) → get_or xs k v ≡ v → set xs k v ≡ xs
set_same [] k v e = refl
set_same (x ∷ xs) zero v e = ap (◌∷ xs) (sym e)
set_same (x ∷ xs) (suc k) v e = ap (x ∷◌) (set_same xs k v e)

idle_at : (ls ms : List ℕ) (k : ℕ) → idle_modes ls ms ≡ true → k < length ls → get_or ls k 0 ≡ 0 → get_or ms k auto_mode ≡ auto_mode
idle_at [] ms k h l e = absurd (omega arith)
idle_at (x ∷ ls) [] k h l e = refl
idle_at (x ∷ ls) (m ∷ ms) zero h l e =
    eqb-true m auto_mode (ap (λ z. not (eqb z 0) || eqb m auto_mode) (sym e) ∙ and_left (not (eqb x 0) || eqb m auto_mode) (idle_modes ls ms) h)
idle_at (x ∷ ls) (m ∷ ms) (suc k) h l e = idle_at ls ms k (and_right (not (eqb x 0) || eqb m auto_mode) (idle_modes ls ms) h) (omega arith) e

zero_at : (xs : List ℕ) (k : ℕ) → is_zero xs ≡ true → get_or xs k 0 ≡ 0
zero_at [] k h = refl
zero_at (x ∷ xs) zero h = eqb-true x 0 (and_left (eqb x 0) (is_zero xs) h)
zero_at (x ∷ xs) (suc k) h = zero_at xs k (and_right (eqb x 0) (is_zero xs) h)

-- an UNSUBSCRIBE where there is no delivery, and one where every mode is auto
pub dropped_idle : (d : Deliveries) → SizedDeliveries d → Laid d → (o : Option ℕ) → d.count ≡ 0 → d ≡ dropped o d
dropped_idle d sized l none e = refl
dropped_idle d sized l (some k) e = dropped_none d sized l k e

pub modes_idle : (ms : List ℕ) (o : Option ℕ) → is_zero ms ≡ true → ms ≡ with_mode o auto_mode ms
modes_idle ms none h = refl
modes_idle ms (some k) h = sym (set_same ms k auto_mode (zero_at ms k h))

-- ---- where a search ended

pub says_at : (r : Maybe ℕ) (o : Option ℕ) (k : ℕ) → search_says r ≡ o → r ≡ Some k → o ≡ some k
says_at r o k e h = sym e ∙ ap search_says h

pub says_nowhere : (r : Maybe ℕ) (o : Option ℕ) → search_says r ≡ o → r ≡ None → o ≡ none
says_nowhere r o e h = sym e ∙ ap search_says h

-- the first that passes a test, by its number
first_number : {A : Type 0} (f : A → Bool) (z : A) (n i : ℕ) (xs : List A) → first_from f n xs ≡ some i → (n ≤ i) × (first_of f xs ≡ some (get_or xs (i - n) z))
unfolding first_from
first_number f z n i [] e = absurd (let y : ◌≡◌ {A = ℕ} 0 1 = cc in omega arith)
first_number f z n i (x ∷ xs) e = by (f x) e (first_number f z (suc n) i xs)
  where
    by : (t : Bool) → cond t (some n) (first_from f (suc n) xs) ≡ some i
        → (first_from f (suc n) xs ≡ some i → (suc n ≤ i) × (first_of f xs ≡ some (get_or xs (i - suc n) z)))
        → (n ≤ i) × (cond t (some x) (first_of f xs) ≡ some (get_or (x ∷ xs) (i - n) z))
    by true q go =
        let same : n ≡ i = cc in
        let none : i - n ≡ 0 = omega arith in
        (omega arith, ap (λ k. some (get_or (x ∷ xs) k z)) (sym none))
    by false q go =
        let (l, h) = go q in
        let next : suc (i - suc n) ≡ i - n = omega arith in
        (omega arith, h ∙ ap (λ k. some (get_or (x ∷ xs) k z)) next)

first_at : {A : Type 0} (f : A → Bool) (z : A) (i : ℕ) (xs : List A) → first_from f 0 xs ≡ some i → first_of f xs ≡ some (get_or xs i z)
first_at f z i xs e = let same : i - 0 ≡ i = omega arith in (first_number f z 0 i xs e).1 ∙ ap (λ k. some (get_or xs k z)) same

first_gone : {A : Type 0} (f : A → Bool) (n : ℕ) (xs : List A) → first_from f n xs ≡ none → first_of f xs ≡ none
unfolding first_from
first_gone f n [] e = refl
first_gone f n (x ∷ xs) e = by (f x) e (first_gone f (suc n) xs)
  where
    by : (t : Bool) → cond t (some n) (first_from f (suc n) xs) ≡ none → (first_from f (suc n) xs ≡ none → first_of f xs ≡ none)
        → cond t (some x) (first_of f xs) ≡ none
    by true q go = absurd (let y : ◌≡◌ {A = ℕ} 0 1 = cc in omega arith)
    by false q go = go q

-- ---- a session

module _ (s : Session) (kept : Kept s) where
  pub laid_of : Laid s.deliveries
  laid_of = holds_laid s.subscriptions.lens s.subscriptions.modes s.deliveries kept.holds

  -- the first free place, by the lengths
  pub free_is : free_place s ≡ first_from (λ l. eqb l 0) 0 s.subscriptions.lens
  free_is = first_free id_max subscriptions_max 0 s.subscriptions.ids s.subscriptions.lens (subscriptions_fit s kept.ids)

  -- a free place has mode auto
  pub entered_auto : s.subscriptions.modes ≡ with_mode (free_place s) auto_mode s.subscriptions.modes
  entered_auto = by (free_place s) refl
    where
      by : (o : Option ℕ) → free_place s ≡ o → s.subscriptions.modes ≡ with_mode o auto_mode s.subscriptions.modes
      by none e = refl
      by (some k) e =
          sym (set_same s.subscriptions.modes k auto_mode
          (idle_at s.subscriptions.lens s.subscriptions.modes k (idle s.subscriptions.lens s.subscriptions.modes s.deliveries kept.holds)
          (omega (
            arith,
            (first_passes empty [] k (ids_of Subscriptions s) e).0,
            held_long s kept.ids Subscriptions,
            kept.ids.sized.subscriptions.lens_long,
          ))
          (lens_free s kept k e)))

  -- a place that a search found is one
  pub place_inside : (p : List ℕ → Bool) (k : ℕ) → first_from p 0 (ids_of Subscriptions s) ≡ some k → k < subscriptions_max
  place_inside p k e = omega (arith, (first_passes p [] k (ids_of Subscriptions s) e).0, held_long s kept.ids Subscriptions)

  -- 60
  pub label_found : (may : Pending → Bool) (x : List ℕ) (i : ℕ) → first_from (labelled x) 0 (pending s.deliveries) ≡ some i → (i < s.deliveries.count)
      × (may (get_or (pending s.deliveries) i none_pending) ≡ true → (v : List ℕ) → settle (label_checks may (some x) s.deliveries) v ≡ accepted v)
      × (may (get_or (pending s.deliveries) i none_pending) ≡ false → settle (label_checks may (some x) s.deliveries) [] ≡ refused 60)
  label_found may x i e =
      let is = first_at (labelled x) none_pending i (pending s.deliveries) e in (
        omega (arith, (first_passes (labelled x) none_pending i (pending s.deliveries) e).0, pending_count s.deliveries kept.holds.sized laid_of),
        λ t v. rw (is, t) refl,
        λ t. rw (is, t) refl,
      )

  pub label_missed : (may : Pending → Bool) (x : List ℕ) → first_from (labelled x) 0 (pending s.deliveries) ≡ none
      → settle (label_checks may (some x) s.deliveries) [] ≡ refused 60
  label_missed may x e = rw (first_gone (labelled x) 0 (pending s.deliveries) e) refl

-- whether an ACK or NACK of 1.1 may name the one with a number
pub may_at : (d : Deliveries) (sized : SizedDeliveries d) (l : Laid d) (i : ℕ) → i < d.count → (ver : Version) (o : Maybe ℕ) (k w : ℕ) → ver ≡ V11
    → o ≡ Some k → w ≡ get_or d.places i 0 → eqb w k ≡ may_name ver (search_says o) (get_or (pending d) i none_pending)
may_at d sized l i h ver o k w e q p = rw (e, q) (ap (λ z. eqb z k) (p ∙ sym (place_at d sized l i h)))

-- ---- a delivery recorded

module _ (s : Session) (k : ℕ) (label : List ℕ) where
  abbrev new : ℕ → List Pending
  new p = record { place = p; label = label } ∷ []

  pub recorded_pending : (p : ℕ) (d : Deliveries) → eqb (mode_of s.subscriptions.modes k) auto_mode ≡ false → p ≡ k
      → d ≡ deliveries_of (pending s.deliveries ++ new p) → recorded_as (with_deliveries s d) ≡ recorded_as (recording_at s k label)
  recorded_pending p d h e q =
      ap (λ z. recorded_as (with_deliveries s z))
      (q ∙ ap (λ z. deliveries_of (pending s.deliveries ++ new z)) e
      ∙ ap (λ t. cond t s.deliveries (deliveries_of (pending s.deliveries ++ new k))) (sym h))

  pub recorded_auto : eqb (mode_of s.subscriptions.modes k) auto_mode ≡ true → recorded_as s ≡ recorded_as (recording_at s k label)
  recorded_auto h = ap (λ t. recorded_as (with_deliveries s (cond t s.deliveries (deliveries_of (pending s.deliveries ++ new k))))) (sym h)

-- ---- a delivery, by the place of its subscription

pub records_placed : (s : Session) (id label : List ℕ) (k : ℕ) (r : Recording) → place_named s (some id) ≡ some k → RecordsAt s k label r
    → Records (record { fails = bad_length label_max label || is_pending label s.deliveries; number = 62 } ∷
    record { fails = not (is_auto s (place_named s (some id))) && leb deliveries_max s.deliveries.count; number = 61 } ∷ []) s
    (recording s id label) r
records_placed s id label k r e g =
    subst (λ o. Records (record { fails = bad_length label_max label || is_pending label s.deliveries; number = 62 } ∷
    record { fails = not (is_auto s o) && leb deliveries_max s.deliveries.count; number = 61 } ∷ []) s
    (with_deliveries s (record_label s.subscriptions.modes o label s.deliveries)) r) (sym e) g

pub deliver_gives : (s : Session) (id label : List ℕ) (r : Recording)
    → Records (deliver_checks s id label) s (recording s id label) r
    → (delivery_says r.answer ≡ deliver_answer s id label) × (r.session ≡ deliver_session s id label)
unfolding deliver_answer deliver_session
deliver_gives s id label r g = (g.answered, g.left)

-- by the tests in turn: 62 and 61 of a delivery to a place
module _ (s : Session) (k : ℕ) (label : List ℕ) (r : Recording) where
  label_bad : (t : Bool) → eqb (length label) 0 || ltb 32 (length label) ≡ t → bad_length label_max label ≡ t
  label_bad t h = ap (◌|| ltb 32 (length label)) (empty_eqb label) ∙ h

  pub at_bad : eqb (length label) 0 || ltb 32 (length label) ≡ true → r ≡ unrecorded_by s Refusal.BadLabel → RecordsAt s k label r
  at_bad h q = records_refused _ Refusal.BadLabel _ (ap (◌|| is_pending label s.deliveries) (label_bad true h)) q

  module _ (fine : eqb (length label) 0 || ltb 32 (length label) ≡ false) where
    pub at_pending : is_pending label s.deliveries ≡ true → r ≡ unrecorded_by s Refusal.BadLabel → RecordsAt s k label r
    at_pending h q = records_refused _ Refusal.BadLabel _ (ap₂ (◌||◌) (label_bad false fine) h) q

    module _ (new : is_pending label s.deliveries ≡ false) where
      pub at_full : not (eqb (mode_of s.subscriptions.modes k) auto_mode) && leb 64 s.deliveries.count ≡ true → r ≡ unrecorded_by s Refusal.AllPending
          → RecordsAt s k label r
      at_full h q = records_on _ _ (ap₂ (◌||◌) (label_bad false fine) new) (records_refused _ Refusal.AllPending _ h q)

      pub at_done : not (eqb (mode_of s.subscriptions.modes k) auto_mode) && leb 64 s.deliveries.count ≡ false
          → r ≡ recorded_as (recording_at s k label) → RecordsAt s k label r
      at_done h q = records_on _ _ (ap₂ (◌||◌) (label_bad false fine) new) (records_on _ _ h (records_done q))

  -- what recording relies on
  pub may_record : is_valid s ≡ true → k < subscriptions_max → eqb (length label) 0 || ltb 32 (length label) ≡ false
      → not (eqb (mode_of s.subscriptions.modes k) auto_mode) && leb 64 s.deliveries.count ≡ false → MayRecord s k label
  may_record v p fine h =
      record {
        valid = v;
        place = p;
        fits = ltb-false 32 (length label) (or_false_right (eqb (length label) 0) (ltb 32 (length label)) fine);
        room =
            λ e. leb-false 64 s.deliveries.count
            (and_false (not (eqb (mode_of s.subscriptions.modes k) auto_mode)) (leb 64 s.deliveries.count) h (ap not e));
      }

-- 38, 63 and 64
module _ (s : Session) (id label : List ℕ) (r : Recording) where
  abbrev Delivered : Type 0
  Delivered = (delivery_says r.answer ≡ deliver_answer s id label) × (r.session ≡ deliver_session s id label)

  pub deliver_invalid : is_valid s ≡ false → r ≡ unrecorded_by s Refusal.Invalid → Delivered
  deliver_invalid h q = deliver_gives s id label r (records_refused _ Refusal.Invalid _ (ap not h) q)

  module _ (v : is_valid s ≡ true) where
    pub deliver_unopened : (s.phase ≡ open_phase → ⊥) → r ≡ unrecorded_by s Refusal.NotOpen → Delivered
    deliver_unopened h q = deliver_gives s id label r (records_on _ _ (ap not v) (records_refused _ Refusal.NotOpen _ (ap not (ne_eqb s.phase open_phase h)) q))

    module _ (o : s.phase ≡ open_phase) where
      pub deliver_no_id : length id ≡ 0 → r ≡ unrecorded_by s Refusal.NoSubscription → Delivered
      deliver_no_id h q =
          deliver_gives s id label r (records_on _ _ (ap not v) (records_on _ _ (ap not (eq-eqb s.phase open_phase o))
          (records_refused _ Refusal.NoSubscription _ (ap (◌|| not (live id (ids_of Subscriptions s))) (empty_zero id h)) q)))

      module _ (n : length id ≡ 0 → ⊥) (found : Maybe ℕ) (e : search_says found ≡ place_named s (some id)) where
        live_is : live id (ids_of Subscriptions s) ≡ has_place found
        live_is = told_any (λ x. same x id) 0 (ids_of Subscriptions s) found e

        there : empty id ≡ false
        there = empty_eqb id ∙ ne_eqb (length id) 0 n

        pub deliver_unknown : found ≡ None → r ≡ unrecorded_by s Refusal.NoSubscription → Delivered
        deliver_unknown f q =
            deliver_gives s id label r (records_on _ _ (ap not v) (records_on _ _ (ap not (eq-eqb s.phase open_phase o))
            (records_refused _ Refusal.NoSubscription _ (ap₂ (λ a b. a || not b) there (live_is ∙ ap has_place f)) q)))

        pub deliver_placed : (k : ℕ) → found ≡ Some k → RecordsAt s k label r → Delivered
        deliver_placed k f g =
            deliver_gives s id label r (records_on _ _ (ap not v) (records_on _ _ (ap not (eq-eqb s.phase open_phase o))
            (records_on _ _ (ap₂ (λ a b. a || not b) there (live_is ∙ ap has_place f)) (records_placed s id label k r (says_at found _ k e f) g))))

-- ---- the question for a pending delivery

nth_map : {A B : Type 0} (f : A → B) (d : A) (i : ℕ) (xs : List A) → i < length xs → nth i (map f xs) ≡ some (f (get_or xs i d))
nth_map f d i [] h = absurd (omega arith)
nth_map f d zero (x ∷ xs) h = refl
nth_map f d (suc i) (x ∷ xs) h = nth_map f d i xs (omega arith)

nth_none : {A B : Type 0} (f : A → B) (i : ℕ) (xs : List A) → length xs ≤ i → nth i (map f xs) ≡ none
nth_none f i [] h = refl
nth_none f zero (x ∷ xs) h = absurd (omega arith)
nth_none f (suc i) (x ∷ xs) h = nth_none f i xs (omega arith)

every_at : (p : ℕ → Bool) (i : ℕ) (xs : List ℕ) → i < length xs → every p xs ≡ true → p (get_or xs i 0) ≡ true
every_at p i [] h e = absurd (omega arith)
every_at p zero (x ∷ xs) h e = and_left (p x) (every p xs) e
every_at p (suc i) (x ∷ xs) h e = every_at p i xs (omega arith) (and_right (p x) (every p xs) e)

-- a part of a front
part_front : (n k m : ℕ) (xs : List ℕ) → k + n ≤ m → take n (drop k (take m xs)) ≡ take n (drop k xs)
part_front n zero m xs h = take-take n m xs (omega arith)
part_front n (suc k) zero xs h = absurd (omega arith)
part_front n (suc k) (suc m) [] h = refl
part_front n (suc k) (suc m) (x ∷ xs) h = part_front n k m xs (omega arith)

pub told_invalid : (s : Session) (i : ℕ) → is_valid s ≡ false → Err (record {}) ≡ pending_answer s i
unfolding pending_answer
told_invalid s i h = rw h

module _ (s : Session) (kept : Kept s) (i : ℕ) where
  abbrev few : Deliveries
  few = s.deliveries

  abbrev laid_few : Laid few
  laid_few = laid_of s kept

  pub told_absent : is_valid s ≡ true → s.deliveries.count ≤ i → Ok None ≡ pending_answer s i
  unfolding pending_answer
  told_absent v h =
      ap (λ o. Ok (told_of o)) (sym (nth_none (delivery_of s) i (pending few) (omega (arith, h, pending_count few kept.holds.sized laid_few))))
      ∙ ap (λ t. cond t (Ok (told_of (nth i (held_deliveries s)))) (Err (record {}))) (sym v)

  pub told_held : is_valid s ≡ true → Ok (told_of (nth i (held_deliveries s))) ≡ pending_answer s i
  unfolding pending_answer
  told_held v = ap (λ t. cond t (Ok (told_of (nth i (held_deliveries s)))) (Err (record {}))) (sym v)

  module _ (h : i < s.deliveries.count) (k : ℕ) (at : k ≡ get_or s.deliveries.places i 0) where
    acks : acknowledging s.subscriptions.lens s.subscriptions.modes k ≡ true
    acks =
        ap (acknowledging s.subscriptions.lens s.subscriptions.modes) (at ∙ sym (get_or-take few.count few.places i 0 h))
        ∙ every_at (acknowledging s.subscriptions.lens s.subscriptions.modes) i (take few.count few.places)
        (omega (arith, h, length-take-le few.count few.places (omega (arith, laid_few.few, kept.holds.sized.places_long))))
        (places_ack s.subscriptions.lens s.subscriptions.modes few kept.holds.sized kept.holds.valid)

    -- the place is one of a subscription
    pub told_place : k < subscriptions_max
    told_place = by (leb subscriptions_max k) refl
      where
        by : (t : Bool) → leb subscriptions_max k ≡ t → k < subscriptions_max
        by false e = leb-false subscriptions_max k e
        by true e =
            absurd (true≢false (sym acks
            ∙ sym (no_lens s.subscriptions.lens s.subscriptions.modes k
            (omega (arith, leb-true subscriptions_max k e, kept.ids.sized.subscriptions.lens_long)))))

    abbrev sub : List ℕ
    sub = get_or (ids_of Subscriptions s) k []

    sub_octets : padded id_max (get_or (ids_of Subscriptions s) k []) ≡ take 32 (drop (k * 32) s.subscriptions.ids)
    sub_octets =
        place_padded id_max subscriptions_max s.subscriptions.ids s.subscriptions.lens (subscriptions_fit s kept.ids)
        (valid_clean id_max s.subscriptions.ids s.subscriptions.lens kept.ids.valid.subscriptions) k
        (omega (arith, told_place, kept.ids.sized.subscriptions.lens_long))

    sub_length : length (get_or (ids_of Subscriptions s) k []) ≡ get_or s.subscriptions.lens k 0
    sub_length = sym (get_or-map length (ids_of Subscriptions s) k []) ∙ ap (λ z. get_or z k 0) (lens_are s kept)

    abbrev labels : List (List ℕ)
    labels = ids label_max (take (few.count * label_max) few.labels) (take few.count few.lens)

    lens_long : length (take few.count few.lens) ≡ few.count
    lens_long = length-take-le few.count few.lens (omega (arith, laid_few.few, kept.holds.sized.lens_long))

    label_octets : padded label_max (get_or labels i []) ≡ take 32 (drop (i * 32) few.labels)
    label_octets =
        place_padded label_max few.count (take (few.count * label_max) few.labels) (take few.count few.lens)
        (fits few kept.holds.sized laid_few) laid_few.clean_yes i (omega (arith, h, lens_long))
        ∙ part_front 32 (i * 32) (few.count * 32) few.labels (omega (arith, h))

    label_length : length (get_or labels i []) ≡ get_or few.lens i 0
    label_length =
        sym (get_or-map length labels i [])
        ∙ ap (λ z. get_or z i 0)
        (lengths_ids label_max few.count (take (few.count * label_max) few.labels) (take few.count few.lens)
        (fits few kept.holds.sized laid_few))
        ∙ get_or-take few.count few.lens i 0 h

    -- what is told of it
    abbrev telling : List ℕ → ℕ → ℕ → List ℕ → ℕ → Maybe Told
    telling sub n mode label m = Some (record {
      subscription = sub;
      subscription_len = n;
      mode = mode;
      label = label;
      label_len = m;
    })

    pub told_at : telling (take 32 (drop (k * 32) s.subscriptions.ids)) (get_or s.subscriptions.lens k 0) (get_or s.subscriptions.modes k 0)
        (take 32 (drop (i * 32) few.labels)) (get_or few.lens i 0)
        ≡ told_of (nth i (held_deliveries s))
    told_at =
        ap₂ (λ a b. telling a b (get_or s.subscriptions.modes k 0) (take 32 (drop (i * 32) few.labels)) (get_or few.lens i 0)) (sym sub_octets)
        (sym sub_length)
        ∙ ap₂ (λ a b. telling (padded id_max sub) (length sub) (get_or s.subscriptions.modes k 0) a b) (sym label_octets) (sym label_length)
        ∙ ap₂ (λ (p : ℕ) (l : List ℕ). told_of (some (delivery_of s (record { place = p; label = l }))))
        (at ∙ sym (place_at few kept.holds.sized laid_few i h)) (sym (label_at few kept.holds.sized laid_few i))
        ∙ ap told_of (sym (nth_map (delivery_of s) none_pending i (pending few) (omega (arith, h, pending_count few kept.holds.sized laid_few))))
