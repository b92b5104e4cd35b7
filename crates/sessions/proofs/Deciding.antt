-- What a frame does to a session, as the code decides it, from its parts. Assumes nothing.
--     lent_..                         what a store that is lent makes of an id
--     put_..                          what is put of an id
--     does_.., label_..               what becomes of modes and deliveries
--     looks_..                        the same by the command
--     decides_.., uses_..             steps
use Rattle.std.proofs.Common.{◌≡◌, ℕ, ◌+◌, ◌-◌, ◌<◌, ◌≤◌, Bool, true, false, List, [], length, get_or, sym, refl, ap, ◌∙◌, subst, ap₂}
use mathlib.Core.Option.{Option, none, some}
use Rattle.headers.specs.Rows.{same}
use Rattle.headers.specs.Block.{Entry, entries, listed}
use Rattle.headers.specs.Answers.{Check, settle}
use Rattle.headers.proofs.Rows.{same_eq}
use Rattle.frames.specs.Grammar.{number, SUBSCRIBE, UNSUBSCRIBE}
use Rattle.stores.specs.Searches.{first_from}
use Rattle.sessions.specs.Stores.{ids}
use Rattle.sessions.specs.Places.{Settles, stored}
use Rattle.sessions.specs.Headers.{is, settles, value_of, mode_asked, put_before, changed_id}
use Rattle.sessions.specs.Deliveries.{auto_mode, with_mode, Pending, pending, labelled, settle_label, dropped}
use Rattle.sessions.specs.Sessions.{subscriptions_max, id_max, ids_of, with_subscriptions, with_transactions, with_deliveries}
use Rattle.sessions.specs.Sessions.{spoken, heard, is_valid, Sized}
use Rattle.sessions.specs.Calls.{uses_of, id_effect, delivery_checks, modes_effect, delivery_effect, place_named, free_place, may_name, lacks_needed}
use Rattle.sessions.specs.Notes.{Locates}
use Rattle.sessions.specs.Steps.{closed_by, accepted_by, Gives, GivesUses, SettlesUse, use_named, put_of, count_of, label_checks, outcome_with}
use Rattle.sessions.specs.Changes.{Lends, PutFits, part_of, put_by, modes_by, deliveries_by, label_of, Does, Looks}
use Rattle.sessions.specs.Changes.{LooksLabel, LooksNamed, LooksFurther, use_of, Uses, Applies, step_of, outcome_of, Decides}
use Rattle.sessions.specs.Changes.{DecidesUses, put_sub, put_tx, set_modes, used_by}
use Rattle.sessions.specs.declared.command.Header.TheVariants.{Id, Subscription}
use Rattle.sessions.specs.declared.command.Kind.{Kind}
use Rattle.sessions.specs.declared.command.Kind.TheVariants.{Subscriptions, Transactions}
use Rattle.sessions.specs.declared.command.Naming.{Naming}
use Rattle.sessions.specs.declared.notes.Located.{Located}
use Rattle.sessions.specs.declared.delivery.Deliveries.{Deliveries}
use Rattle.sessions.specs.declared.parts.SubscriptionStore.{SubscriptionStore}
use Rattle.sessions.specs.declared.parts.TransactionStore.{TransactionStore}
use Rattle.sessions.specs.declared.session.Session.{Session}
use Rattle.sessions.specs.declared.session.Acceptance.{Acceptance}
use Rattle.sessions.specs.declared.store.Use.{Use}
use Rattle.std.specs.Prelude.{Option as Maybe, Some, Result, Ok, Err}
use Rattle.sessions.specs.Refusals.{number_of}
use Rattle.sessions.specs.declared.refusals.Refusal.{Refusal}
use Rattle.sessions.specs.declared.step.Placing.{Placing}
use Rattle.sessions.specs.declared.step.Put.{Put}
use Rattle.sessions.specs.declared.step.Further.{Further}
use Rattle.sessions.specs.declared.step.Step.{Step}
use Rattle.sessions.proofs.Steps.{gives_refused, settle_refused, then_accepted, then_delivery}
use Rattle.sessions.proofs.Tables.{settling_label}
use Rattle.sessions.proofs.Uses.{naming_asked, naming_put}
use Rattle.sessions.proofs.Kept.{Kept, first_passes}
use Rattle.sessions.proofs.Delivering.{label_found, label_missed}

-- ---- what a store that is lent makes of an id

module _ {s : Session} {subs sub_lens txs tx_lens : List ℕ} (l : Lends s subs sub_lens txs tx_lens) (u : Use) (id : List ℕ) (r : Result (Maybe ℕ) Refusal) (k : Kind) where
  pub lent_subscriptions : k ≡ Subscriptions → Settles id_max u id (ids id_max subs sub_lens) r → Settles id_max u id (ids_of k s) r
  lent_subscriptions e h = rw e (subst (λ z. Settles id_max u id z r) (sym (ap₂ (ids id_max) l.subs_are l.sub_lens_are)) h)

  pub lent_transactions : k ≡ Transactions → Settles id_max u id (ids id_max txs tx_lens) r → Settles id_max u id (ids_of k s) r
  lent_transactions e h = rw e (subst (λ z. Settles id_max u id z r) (sym (ap₂ (ids id_max) l.txs_are l.tx_lens_are)) h)

-- ---- what is put of an id

module _ (s : Session) (sized : Sized s) (valid : is_valid s ≡ true) (g : Naming) (block : List ℕ) (l : Located) (at : Locates block g.header (Some l)) (i : ℕ)
    (e : SettlesUse s (use_named g (listed (entries block))) (Ok (Some i))) (n : ℕ) (to : n ≡ l.start + stored g.usage (l.end - l.start))
    (inside : (l.start ≤ n) × (n ≤ length block)) where
  abbrev placing : Placing
  placing = record { place = i; start = l.start; end = n }

  abbrev left : Session
  left = id_effect s (changed_id (put_before (use_named g (listed (entries block))) []))

  abbrev PutsIt : Put → Type 0
  PutsIt r = (put_by s block r ≡ left) × PutFits block r

  pub put_subscription_of : g.kind ≡ Subscriptions → PutsIt (Put.Subscription placing)
  put_subscription_of k =
      let asked = naming_asked s sized valid g block l at i e n to in (
        subst (λ z. put_of z s i (part_of block placing) ≡ left) k (naming_put s sized valid g block l at i e n to),
        record { place_inside = subst (λ z. i < count_of z) k asked.0; part_inside = inside; part_short = asked.1 },
      )

  pub put_transaction_of : g.kind ≡ Transactions → PutsIt (Put.Transaction placing)
  put_transaction_of k =
      let asked = naming_asked s sized valid g block l at i e n to in (
        subst (λ z. put_of z s i (part_of block placing) ≡ left) k (naming_put s sized valid g block l at i e n to),
        record { place_inside = subst (λ z. i < count_of z) k asked.0; part_inside = inside; part_short = asked.1 },
      )

-- ---- what becomes of modes and deliveries

-- nothing, where they stay; a mode; those of a place dropped
module _ (s : Session) (ms : List ℕ) (d : Deliveries) where
  pub does_nothing : ms ≡ s.subscriptions.modes → d ≡ s.deliveries → Does s ms d Further.Nothing
  does_nothing e f = record { modes_are = e; deliveries_are = f; mode_fits = tt; settle_fits = tt }

  pub does_as : {ns : List ℕ} {x : Deliveries} {f : Further} → ns ≡ ms → x ≡ d → Does s ms d f → Does s ns x f
  does_as e g h =
      record { modes_are = e ∙ h.modes_are; deliveries_are = g ∙ h.deliveries_are; mode_fits = h.mode_fits; settle_fits = h.settle_fits }

pub does_mode : (s : Session) (o : Option ℕ) (k m : ℕ) → o ≡ some k → k < subscriptions_max
    → Does s (with_mode o m s.subscriptions.modes) s.deliveries (Further.Mode k m)
does_mode s o k m e h = rw e (record { modes_are = refl; deliveries_are = refl; mode_fits = h; settle_fits = tt })

pub does_drop : (s : Session) (o : Option ℕ) (k : ℕ) → o ≡ some k → k < subscriptions_max
    → Does s (with_mode o auto_mode s.subscriptions.modes) (dropped o s.deliveries) (Further.Drop k)
does_drop s o k e h = rw e (record { modes_are = refl; deliveries_are = refl; mode_fits = h; settle_fits = tt })

-- a label that is pending, of a delivery that may be named or not, and one that is not
module _ (s : Session) (kept : Kept s) (may : Pending → Bool) (x : List ℕ) where
  abbrev numbered : ℕ → Pending
  numbered i = get_or (pending s.deliveries) i (record { place = 0; label = [] })

  pub label_settles : (i : ℕ) → first_from (labelled x) 0 (pending s.deliveries) ≡ some i → may (numbered i) ≡ true
      → LooksLabel s may x (Ok (Further.Settle i))
  label_settles i e t =
      let d = s.deliveries in
      let (inside, passes, fails) = label_found s kept may x i e in
      let same_label : label_of i d ≡ x =
      same_eq (label_of i d) x (first_passes (labelled x) (record { place = 0; label = [] }) i (pending d) e).1 in
      record {
        passed = passes t;
        does = record {
          modes_are = refl;
          deliveries_are = ap (λ z. settle_label s.subscriptions.modes z d) (sym same_label);
          mode_fits = tt;
          settle_fits = record { number_inside = inside; first_labelled = ap (λ z. first_from (labelled z) 0 (pending d)) same_label ∙ e };
        };
      }

  pub label_other : (i : ℕ) → first_from (labelled x) 0 (pending s.deliveries) ≡ some i → may (numbered i) ≡ false → LooksLabel s may x (Err Refusal.NotPending)
  label_other i e t = ((label_found s kept may x i e).2 t, refl)

  pub label_fails : first_from (labelled x) 0 (pending s.deliveries) ≡ none → LooksLabel s may x (Err Refusal.NotPending)
  label_fails e = (label_missed s kept may x e, refl)

-- the same label, and the same test of the deliveries that may be named
pub label_as : (s : Session) {may other : Pending → Bool} {x y : List ℕ} (r : Result Further Refusal) → may ≡ other → x ≡ y → LooksLabel s may x r → LooksLabel s other y r
label_as s {other = other} {x = x} r e q h = subst (λ z. LooksLabel s other z r) q (subst (λ z. LooksLabel s z x r) e h)

-- ---- the same by the command

module _ (s : Session) (n : ℕ) (es : List Entry) where
  -- checks that settle on the same answer, and the same modes and deliveries
  looks_as : (cs ds : List Check) (ms ns : List ℕ) (d x : Deliveries) → ((v : List ℕ) → settle ds v ≡ settle cs v) → ns ≡ ms → x ≡ d → (r : Result Further Refusal)
      → Looks cs s ms d r → Looks ds s ns x r
  looks_as cs ds ms ns d x same e f (Err k) h = (same [] ∙ h.0, h.1)
  looks_as cs ds ms ns d x same e f (Ok g) h = record { passed = λ v. same v ∙ h.passed v; does = does_as s ms d e f h.does }

  module _ (e : n ≡ number SUBSCRIBE) where
    pub looks_mode_unknown : mode_asked es ≡ none → LooksFurther s n es (Err Refusal.UnknownMode)
    looks_mode_unknown h = (rw (e, h) refl, refl)

    pub looks_mode : (m : ℕ) (f : Further) → mode_asked es ≡ some m → Does s (with_mode (free_place s) m s.subscriptions.modes) s.deliveries f
        → LooksFurther s n es (Ok f)
    looks_mode m f h does = record { passed = λ v. rw (e, h) refl; does = does_as s _ _ (rw (e, h) refl) (rw e refl) does }

  pub looks_dropped : n ≡ number UNSUBSCRIBE → (id : List ℕ) (f : Further) → value_of Id es ≡ some id
      → Does s (with_mode (place_named s (some id)) auto_mode s.subscriptions.modes) (dropped (place_named s (some id)) s.deliveries) f
      → LooksFurther s n es (Ok f)
  looks_dropped e id f h does = record { passed = λ v. rw e refl; does = does_as s _ _ (rw (e, h) refl) (rw (e, h) refl) does }

  module _ (a : is SUBSCRIBE n ≡ false) (b : is UNSUBSCRIBE n ≡ false) where
    pub looks_label : settles n ≡ true → lacks_needed s n es ≡ false → (r : Result Further Refusal) → LooksNamed s es r → LooksFurther s n es r
    looks_label t there r named =
        let (l, h) = settling_label (spoken s) n es t there in
        let g : LooksLabel s (may_name (spoken s) (place_named s (value_of Subscription es))) l r = named l h in
        looks_as (label_checks (may_name (spoken s) (place_named s (value_of Subscription es))) (some l) s.deliveries) (delivery_checks s n es) s.subscriptions.modes (modes_effect s n es)
        (settle_label s.subscriptions.modes l s.deliveries) (delivery_effect s n es) (λ v. rw (a, t, h) refl) (rw (a, b) refl) (rw (b, t, h) refl) r g

    pub looks_none : settles n ≡ false → LooksFurther s n es (Ok Further.Nothing)
    looks_none t = record { passed = λ v. rw (a, t) refl; does = does_nothing s _ _ (rw (a, b) refl) (rw (b, t) refl) }

-- ---- steps

pub decides_as : {checks : List Check} {acceptance : Acceptance} {s : Session} {block : List ℕ} {after : Session} {r x : Result Step Refusal} → r ≡ x
    → Decides checks acceptance s block after x → Decides checks acceptance s block after r
decides_as {checks} {acceptance} {s} {block} {after} e d = subst (Decides checks acceptance s block after) (sym e) d

-- refused, and closed
pub decides_closing : {checks : List Check} {acceptance : Acceptance} {s : Session} {block : List ℕ} {after : Session} (x : Refusal)
    → ((time : ℕ) → Gives checks acceptance s (heard after time) (closed_by s x)) → Decides checks acceptance s block after (Err x)
decides_closing x g = record { gives = g; applies = tt }

-- what is put, and what becomes of modes and deliveries
module _ (s : Session) (block : List ℕ) where
  -- made part by part
  pub used_is : (time : ℕ) (p : Put) (f : Further) (a : SubscriptionStore) (b : TransactionStore) (d : Deliveries)
      → a ≡ set_modes f (put_sub block p s.subscriptions) → b ≡ put_tx block p s.transactions → d ≡ deliveries_by f s
      → heard (with_deliveries (with_transactions (with_subscriptions s a) b) d) time ≡ heard (used_by s block p f) time
  used_is time p f a b d x y z = rw (x, y, z) refl

  used_outcome : (acceptance : Acceptance) (time : ℕ) (p : Put) (f : Further) → outcome_of s block time (step_of acceptance (use_of p f))
      ≡ outcome_with (accepted_by (put_by s block p) acceptance time) (modes_by f s.subscriptions.modes) (deliveries_by f s)
  used_outcome acceptance time Put.Nothing Further.Nothing = refl
  used_outcome acceptance time Put.Nothing (Further.Mode k m) = refl
  used_outcome acceptance time Put.Nothing (Further.Drop k) = refl
  used_outcome acceptance time Put.Nothing (Further.Settle i) = refl
  used_outcome acceptance time (Put.Subscription p) f = refl
  used_outcome acceptance time (Put.Transaction p) f = refl

  used_applies : (p : Put) (f : Further) → Uses s block p f → Applies s block (use_of p f)
  used_applies Put.Nothing Further.Nothing u = tt
  used_applies Put.Nothing (Further.Mode k m) u = u
  used_applies Put.Nothing (Further.Drop k) u = u
  used_applies Put.Nothing (Further.Settle i) u = u
  used_applies (Put.Subscription p) f u = u
  used_applies (Put.Transaction p) f u = u

module _ (s : Session) (n : ℕ) (block : List ℕ) (acceptance : Acceptance) where
  abbrev es : List Entry
  es = listed (entries block)

  -- refused for an id
  pub uses_closed : (x : Refusal) → ((time : ℕ) → GivesUses s (uses_of s n es) acceptance time (closed_by s x))
      → DecidesUses s n block acceptance (Err x)
  uses_closed x g =
      record { gives = λ time. then_delivery s n es acceptance time (closed_by s x) (closed_by s x) (g time) refl; applies = tt }

  -- the ids are accepted, and leave a session
  module _ (x : Session) (g : (time : ℕ) → GivesUses s (uses_of s n es) acceptance time (accepted_by x acceptance time)) where
    pub uses_refused_later : (k : Refusal) → LooksFurther s n es (Err k) → DecidesUses s n block acceptance (Err k)
    uses_refused_later k (h, c) =
        record {
          gives = λ time. then_delivery s n es acceptance time (accepted_by x acceptance time) (closed_by s k) (g time)
              (gives_refused (delivery_checks s n es) k (settle_refused (delivery_checks s n es) [] _ (number_of k) h) c refl);
          applies = tt;
        }

    pub uses_done : (p : Put) (f : Further) → put_by s block p ≡ x → PutFits block p → LooksFurther s n es (Ok f)
        → DecidesUses s n block acceptance (step_of acceptance (use_of p f))
    uses_done p f e fits h =
        record {
          gives = λ time.
              let named = accepted_by (put_by s block p) acceptance time in
              let r = outcome_of s block time (step_of acceptance (use_of p f)) in
              then_delivery s n es acceptance time named r
              (subst (λ z. GivesUses s (uses_of s n es) acceptance time (accepted_by z acceptance time)) (sym e) (g time))
              (then_accepted (delivery_checks s n es) s (modes_effect s n es) (delivery_effect s n es) named r h.passed acceptance refl
              (used_outcome s block acceptance time p f
              ∙ ap₂ (outcome_with named) (sym h.does.modes_are) (sym h.does.deliveries_are)));
          applies = used_applies s block p f
              (record { put_fits = fits; mode_fits = h.does.mode_fits; settle_fits = h.does.settle_fits });
        }
