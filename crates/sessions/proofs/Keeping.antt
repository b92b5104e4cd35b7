-- The numbers and ids of a session stay valid: made, and after each call. Its modes and deliveries too: Kept. Assumes nothing.
--     Valid, valid_record, record_modes, record_valid       the test of a record, taken apart
--     SameStores                                            two sessions have the same ids where they lie
--     Held                                                  a session with valid numbers and ids, whose arrays of ids have their sizes
--     held_long, held_short, held_distinct                  its ids of a kind: how many places, none too long, no two the same
--     held_frame, held_heart_beat, held_deliver, held_made  each call and making keep that
use Rattle.std.proofs.Common.{◌≡◌, ℕ, ◌*◌, ◌≤◌, Bool, true, false, cond, not, ◌&&◌, ◌||◌, eqb, ltb, leb, List, [], ◌∷◌, length, replicate, sym, refl, ap, ◌∙◌, subst, ap₂, arith, length-set, ltb-false, eqb-true, le-leb, leb-true}
use mathlib.Core.Option.{Option, none, some}
use lib.ListN.{length-map, length-replicate}
use borrow.Author.Tests.{not-false}
use Rattle.headers.specs.Rows.{All}
use Rattle.headers.specs.Numbers.{amount}
use Rattle.headers.specs.Block.{Entry, entries, listed}
use Rattle.headers.specs.Answers.{Answer, accepted, refused, settle}
use Rattle.headers.proofs.Rows.{cond_case, and_left, and_right, or_false_left, or_false_right}
use Rattle.headers.proofs.Decimals.{amount_record}
use Rattle.frames.specs.Grammar.{DISCONNECT, SUBSCRIBE, UNSUBSCRIBE}
use Rattle.headers.specs.Parts.{split}
use Rattle.sessions.specs.Stores.{distinct, valid_store, used, use_checks}
use Rattle.sessions.specs.Places.{Fits}
use Rattle.sessions.specs.Values.{HeartBeats, heart_beat_max, both, heart_beats_in, heart_beats}
use Rattle.sessions.specs.Opening.{flag, shared_flags, none_shared, may_offer, all_among, interval}
use Rattle.sessions.specs.Headers.{IdUse, changed_id, value_of, mode_asked, is, opens}
use Rattle.sessions.specs.Sessions.{subscriptions_max, transactions_max, id_max, fresh_phase, open_phase, closed_phase, in_phase, fresh}
use Rattle.sessions.specs.Sessions.{ids_of, with_subscriptions, with_transactions, with_ids, with_modes, with_phase, with_deliveries, closed, heard}
use Rattle.sessions.specs.Sessions.{right_flags, right_shared, valid_offers, valid_agreed, valid_numbers, valid_subscriptions, valid_transactions, valid_ids}
use Rattle.sessions.specs.Sessions.{right_deliveries, is_valid, Sized, SizedSubscriptions, SizedTransactions}
use Rattle.sessions.specs.declared.parts.SubscriptionStore.{SubscriptionStore}
use Rattle.sessions.specs.declared.parts.TransactionStore.{TransactionStore}
use Rattle.sessions.specs.Calls.{making_checks, making_answer, made_by, made, shared_by, heart_beats_of, client_versions, client_heart_beats}
use Rattle.sessions.specs.Calls.{opened_by, uses_of, id_checks, frame_answer, id_effect, free_place, mode_or_auto, modes_effect, delivery_effect}
use Rattle.sessions.specs.Calls.{named_effect, effect, frame_session, deliver_answer, deliver_session, recorded_by, recording, place_named}
use Rattle.sessions.specs.Calls.{heart_beat_answer, heart_beat_session}
use Rattle.sessions.specs.Deliveries.{auto_mode, valid_modes, with_mode, record_label}
use Rattle.sessions.specs.Steps.{count_of}
use Rattle.sessions.specs.declared.delivery.Deliveries.{Deliveries}
use Rattle.sessions.specs.declared.store.Use.{Use}
use Rattle.sessions.specs.declared.command.Header.TheVariants.{HeartBeat, Id}
use Rattle.sessions.specs.declared.command.Kind.{Kind}
use Rattle.sessions.specs.declared.command.Kind.TheVariants.{Subscriptions, Transactions}
use Rattle.sessions.specs.declared.session.Session.{Session}
use Rattle.headers.proofs.Settling.{Passes, all_pass}
use Rattle.sessions.proofs.Checks.{Passed, frame_passed, changed_settles, left_case}
use Rattle.sessions.proofs.Stores.{length_ids, valid_fits, are_short, ids_short, length_laid, laid_valid, valid_distinct, used_length}
use Rattle.sessions.proofs.Stores.{used_short, used_distinct, use_short, zeros_valid}

-- ---- a valid record

pub record Valid (s : Session) : Type 0 where
  pub known : s.phase ≤ closed_phase
  pub offers : (s.offers.sends ≤ heart_beat_max) × (s.offers.wants ≤ heart_beat_max)
  pub intervals : (s.agreed.inbound ≤ heart_beat_max) × (s.agreed.outbound ≤ heart_beat_max)
  pub flags : right_flags s ≡ true
  pub shared : right_shared s ≡ true
  pub subscriptions : valid_store id_max s.subscriptions.ids s.subscriptions.lens ≡ true
  pub transactions : valid_store id_max s.transactions.ids s.transactions.lens ≡ true

-- both of two tests
pair : (a b : Bool) → a && b ≡ true → (a ≡ true) × (b ≡ true)
pair a b h = (and_left a b h, and_right a b h)

pub valid_record : (s : Session) → is_valid s ≡ true → Valid s
unfolding is_valid
valid_record s h =
    let (numbers, rest) = pair (valid_numbers s) _ h in
    let (stores, deliveries) = pair (valid_ids s) (right_deliveries s) rest in
    let (phase, others) = pair (leb s.phase closed_phase) _ numbers in
    let (small, versions) = pair (valid_offers s.offers && valid_agreed s.agreed) _ others in
    let (flags, shared) = pair (right_flags s) (right_shared s) versions in
    let (offers, intervals) = pair (valid_offers s.offers) _ small in
    let (sends, wants) = pair (leb s.offers.sends heart_beat_max) _ offers in
    let (inbound, outbound) = pair (leb s.agreed.inbound heart_beat_max) _ intervals in
    let (subscriptions, transactions) = pair (valid_subscriptions s.subscriptions) _ stores in
    record {
      known = leb-true s.phase closed_phase phase;
      offers = (leb-true s.offers.sends heart_beat_max sends, leb-true s.offers.wants heart_beat_max wants);
      intervals = (leb-true s.agreed.inbound heart_beat_max inbound, leb-true s.agreed.outbound heart_beat_max outbound);
      flags = flags;
      shared = shared;
      subscriptions = and_left (valid_store id_max s.subscriptions.ids s.subscriptions.lens) _ subscriptions;
      transactions = transactions;
    }

-- the modes of a valid one
pub record_modes : (s : Session) → is_valid s ≡ true → valid_modes s.subscriptions.lens s.subscriptions.modes ≡ true
unfolding is_valid
record_modes s h =
    let stores = and_left (valid_ids s) (right_deliveries s) (and_right (valid_numbers s) _ h) in
    and_right (valid_store id_max s.subscriptions.ids s.subscriptions.lens) _ (and_left (valid_subscriptions s.subscriptions) _ stores)

pub record_valid : (s : Session) → Valid s → valid_modes s.subscriptions.lens s.subscriptions.modes ≡ true → right_deliveries s ≡ true
    → is_valid s ≡ true
unfolding is_valid
record_valid s v m o =
    ap₂ (◌&&◌) (ap₂ (◌&&◌) (le-leb s.phase closed_phase v.known) (ap₂ (◌&&◌) small (ap₂ (◌&&◌) v.flags v.shared)))
    (ap₂ (◌&&◌) (ap₂ (◌&&◌) (ap₂ (◌&&◌) v.subscriptions m) v.transactions) o)
  where
    small : valid_offers s.offers && valid_agreed s.agreed ≡ true
    small =
        ap₂ (◌&&◌) (ap₂ (◌&&◌) (le-leb s.offers.sends heart_beat_max v.offers.0) (le-leb s.offers.wants heart_beat_max v.offers.1))
        (ap₂ (◌&&◌) (le-leb s.agreed.inbound heart_beat_max v.intervals.0) (le-leb s.agreed.outbound heart_beat_max v.intervals.1))

-- ---- the opening's intervals are small

abbrev pub OfSome : {A : Type 0} → (A → Type 0) → Option A → Type 0
OfSome P none = Unit {0}
OfSome P (some x) = P x

abbrev pub Small : HeartBeats → Type 0
Small b = (b.sends ≤ heart_beat_max) × (b.wants ≤ heart_beat_max)

amount_small : (v : List ℕ) → OfSome (◌≤ heart_beat_max) (amount heart_beat_max v)
amount_small v = by (amount heart_beat_max v) refl
  where
    by : (o : Option ℕ) → amount heart_beat_max v ≡ o → OfSome (◌≤ heart_beat_max) o
    by none e = tt
    by (some n) e = let (a, is) = amount_record heart_beat_max n v e in omega (arith, a.small)

both_small : (o p : Option ℕ) → OfSome (◌≤ heart_beat_max) o → OfSome (◌≤ heart_beat_max) p → OfSome Small (both o p)
both_small none p h k = tt
both_small (some a) none h k = tt
both_small (some a) (some b) h k = (h, k)

in_small : (ps : List (List ℕ)) → OfSome Small (heart_beats_in ps)
in_small [] = tt
in_small (a ∷ []) = tt
in_small (a ∷ b ∷ []) = both_small (amount heart_beat_max a) (amount heart_beat_max b) (amount_small a) (amount_small b)
in_small (a ∷ b ∷ c ∷ more) = tt

pub of_small : (o : Option (List ℕ)) → OfSome Small (heart_beats_of o)
unfolding heart_beats
of_small none = (omega arith, omega arith)
of_small (some v) = in_small (split 44 v)

pub interval_small : (a b m : ℕ) → a ≤ m → b ≤ m → interval a b ≤ m
interval_small a b m h k = cond_case (◌≤ m) (eqb a 0 || eqb b 0) (λ e. omega arith) (λ e. omega arith)

-- ---- the ids of a kind

-- two sessions with the same stores
abbrev pub SameStores : Session → Session → Type 0
SameStores r s = (r.subscriptions ≡ s.subscriptions) × (r.transactions ≡ s.transactions)

-- a session whose arrays have their sizes, and that is valid
pub record Held (s : Session) : Type 0 where
  pub sized : Sized s
  pub valid : Valid s

-- its ids
module _ (s : Session) (h : Held s) where
  pub subscriptions_fit : Fits id_max subscriptions_max s.subscriptions.ids s.subscriptions.lens
  subscriptions_fit =
      valid_fits id_max s.subscriptions.ids s.subscriptions.lens h.valid.subscriptions subscriptions_max h.sized.subscriptions.lens_long
      h.sized.subscriptions.ids_long

  transactions_fit : Fits id_max transactions_max s.transactions.ids s.transactions.lens
  transactions_fit =
      valid_fits id_max s.transactions.ids s.transactions.lens h.valid.transactions transactions_max h.sized.transactions.lens_long
      h.sized.transactions.ids_long

  pub held_long : (k : Kind) → length (ids_of k s) ≡ count_of k
  held_long Subscriptions = length_ids id_max s.subscriptions.ids s.subscriptions.lens ∙ h.sized.subscriptions.lens_long
  held_long Transactions = length_ids id_max s.transactions.ids s.transactions.lens ∙ h.sized.transactions.lens_long

  pub held_short : (k : Kind) → are_short id_max (ids_of k s) ≡ true
  held_short Subscriptions = ids_short id_max subscriptions_max s.subscriptions.ids s.subscriptions.lens subscriptions_fit
  held_short Transactions = ids_short id_max transactions_max s.transactions.ids s.transactions.lens transactions_fit

  pub held_distinct : (k : Kind) → distinct (ids_of k s) ≡ true
  held_distinct Subscriptions = valid_distinct id_max s.subscriptions.ids s.subscriptions.lens h.valid.subscriptions
  held_distinct Transactions = valid_distinct id_max s.transactions.ids s.transactions.lens h.valid.transactions

  -- a session with the same stores
  held_by : (r : Session) → SameStores r s → r.phase ≤ closed_phase → (r.offers.sends ≤ heart_beat_max) × (r.offers.wants ≤ heart_beat_max)
      → (r.agreed.inbound ≤ heart_beat_max) × (r.agreed.outbound ≤ heart_beat_max) → right_flags r ≡ true → right_shared r ≡ true → Held r
  held_by r (a, b) known offers intervals flags shared =
      record {
        sized = record {
          subscriptions = subst SizedSubscriptions (sym a) h.sized.subscriptions;
          transactions = subst SizedTransactions (sym b) h.sized.transactions;
        };
        valid = record {
          known = known;
          offers = offers;
          intervals = intervals;
          flags = flags;
          shared = shared;
          subscriptions = ap (λ (x : SubscriptionStore). valid_store id_max x.ids x.lens) a ∙ h.valid.subscriptions;
          transactions = ap valid_transactions b ∙ h.valid.transactions;
        };
      }

  -- ---- each change keeps them

  pub held_closed : Held (closed s)
  held_closed = held_by (closed s) (refl, refl) (omega arith) h.valid.offers h.valid.intervals refl refl

  pub held_heard : (time : ℕ) → Held (heard s time)
  held_heard time = held_by (heard s time) (refl, refl) h.valid.known h.valid.offers h.valid.intervals h.valid.flags h.valid.shared

  -- a fresh one offers what it may
  fresh_flags : in_phase fresh_phase s ≡ true → may_offer s.offers.versions ≡ true
  fresh_flags f = sym (ap (λ p. eqb p closed_phase || may_offer s.offers.versions) (eqb-true s.phase fresh_phase f)) ∙ h.valid.flags

  -- versions that are shared, of those offered
  abbrev pub Shares : List Bool → Type 0
  Shares shared = not (none_shared shared) && all_among shared s.offers.versions ≡ true

  pub held_opened : in_phase fresh_phase s ≡ true → (shared : List Bool) (o : Option HeartBeats) → Shares shared → OfSome Small o → Held (opened_by s shared o)
  held_opened f shared none some_shared small = h
  held_opened f shared (some b) some_shared small =
      held_by (opened_by s shared (some b)) (refl, refl) (omega arith) h.valid.offers (
        interval_small b.sends s.offers.wants heart_beat_max small.0 h.valid.offers.1,
        interval_small s.offers.sends b.wants heart_beat_max h.valid.offers.0 small.1,
      )
      (fresh_flags f) some_shared

  -- with other stores
  stored : {subscriptions : SubscriptionStore} {transactions : TransactionStore} → valid_store id_max subscriptions.ids subscriptions.lens ≡ true
      → valid_transactions transactions ≡ true → Valid (with_transactions (with_subscriptions s subscriptions) transactions)
  stored a b =
      record {
        known = h.valid.known;
        offers = h.valid.offers;
        intervals = h.valid.intervals;
        flags = h.valid.flags;
        shared = h.valid.shared;
        subscriptions = a;
        transactions = b;
      }

  held_with : (k : Kind) (is : List (List ℕ)) → length is ≡ count_of k → are_short id_max is ≡ true → distinct is ≡ true → Held (with_ids k s is)
  held_with Subscriptions is l m d =
      record {
        sized = record {
          subscriptions = record {
            ids_long = length_laid id_max is m ∙ ap (◌* id_max) l;
            lens_long = length-map is length ∙ l;
            modes_long = h.sized.subscriptions.modes_long;
          };
          transactions = h.sized.transactions;
        };
        valid = stored (laid_valid id_max is m d) h.valid.transactions;
      }
  held_with Transactions is l m d =
      record {
        sized = record {
          subscriptions = h.sized.subscriptions;
          transactions = record { ids_long = length_laid id_max is m ∙ ap (◌* id_max) l; lens_long = length-map is length ∙ l };
        };
        valid = stored h.valid.subscriptions (laid_valid id_max is m d);
      }

  pub held_used : (k : Kind) (u : Use) (id : List ℕ) → settle (use_checks id_max u id (ids_of k s)) [] ≡ accepted []
      → Held (with_ids k s (used u id (ids_of k s)))
  held_used k u id e =
      held_with k (used u id (ids_of k s))
      (used_length u id (ids_of k s) ∙ held_long k)
      (used_short id_max u id (ids_of k s) (use_short id_max u id (ids_of k s) [] [] e) (held_short k))
      (used_distinct id_max u id (ids_of k s) [] [] e (held_distinct k))

  pub held_changed : (us : List IdUse) → All Passes (id_checks s us) → Held (id_effect s (changed_id us))
  held_changed us p = by (changed_id us) refl
    where
      by : (o : Option IdUse) → changed_id us ≡ o → Held (id_effect s o)
      by none e = h
      by (some u) e = held_used u.kind u.usage u.id (changed_settles s us u p e)

  held_modes : (ms : List ℕ) → length ms ≡ subscriptions_max → Held (with_modes s ms)
  held_modes ms long =
      record {
        sized = record {
          subscriptions = record { ids_long = h.sized.subscriptions.ids_long; lens_long = h.sized.subscriptions.lens_long; modes_long = long };
          transactions = h.sized.transactions;
        };
        valid = stored h.valid.subscriptions h.valid.transactions;
      }

  pub held_deliveries : (d : Deliveries) → Held (with_deliveries s d)
  held_deliveries d = held_by (with_deliveries s d) (refl, refl) h.valid.known h.valid.offers h.valid.intervals h.valid.flags h.valid.shared

-- the versions that both sides have are among those offered
shared_among : (a b : List Bool) → all_among (shared_flags a b) b ≡ true
shared_among a b = ap₂ (◌&&◌) (one (flag a 0) (flag b 0)) (ap₂ (◌&&◌) (one (flag a 1) (flag b 1)) (one (flag a 2) (flag b 2)))
  where
    one : (x y : Bool) → not (x && y) || y ≡ true
    one true true = refl
    one true false = refl
    one false y = refl

opening_shares : (s : Session) (es : List Entry) → none_shared (shared_by s (client_versions es)) ≡ false
    → not (none_shared (shared_by s (client_versions es))) && all_among (shared_by s (client_versions es)) s.offers.versions ≡ true
opening_shares s es h = ap₂ (λ a b. not a && b) h (by (client_versions es))
  where
    by : (o : Option (List Bool)) → all_among (shared_by s o) s.offers.versions ≡ true
    by none = refl
    by (some client) = shared_among client s.offers.versions

pub passed_shares : (s : Session) (n : ℕ) (es : List Entry) → Passed s n es → opens n ≡ true
    → not (none_shared (shared_by s (client_versions es))) && all_among (shared_by s (client_versions es)) s.offers.versions ≡ true
passed_shares s n es p o = opening_shares s es (sym (ap (◌&& none_shared (shared_by s (client_versions es))) o) ∙ p.opening.1.0)

-- modes with one set are as many
mode_long : (o : Option ℕ) (m : ℕ) (ms : List ℕ) → length (with_mode o m ms) ≡ length ms
mode_long none m ms = refl
mode_long (some k) m ms = length-set ms k m

module _ (s : Session) (h : Held s) where
  modes_long : (n : ℕ) (es : List Entry) → length (modes_effect s n es) ≡ subscriptions_max
  modes_long n es =
      cond_case (λ ms. length ms ≡ subscriptions_max) (is SUBSCRIBE n) (λ a. mode_long (free_place s) (mode_or_auto (mode_asked es)) _ ∙ long)
      (λ a. cond_case (λ ms. length ms ≡ subscriptions_max) (is UNSUBSCRIBE n) (λ b. mode_long (place_named s (value_of Id es)) auto_mode _ ∙ long) (λ b. long))
    where
      long : length s.subscriptions.modes ≡ subscriptions_max
      long = h.sized.subscriptions.modes_long

  pub held_named : (n : ℕ) (es : List Entry) → Passed s n es → Held (named_effect s n es)
  held_named n es p =
      let named = id_effect s (changed_id (uses_of s n es)) in
      held_deliveries (with_modes named (modes_effect s n es))
      (held_modes named (held_changed s h (uses_of s n es) p.named) (modes_effect s n es) (modes_long n es)) (delivery_effect s n es)

  pub held_effect : (n : ℕ) (es : List Entry) → Passed s n es → Held (effect s n es)
  held_effect n es p =
      cond_case Held (opens n)
      (λ o. held_opened s h
      (not-false (in_phase fresh_phase s) (sym (ap (λ t. cond t (not (in_phase fresh_phase s)) (not (in_phase open_phase s))) o) ∙ p.in_turn))
      (shared_by s (client_versions es)) (client_heart_beats es) (passed_shares s n es p o) (of_small (value_of HeartBeat es)))
      (λ o. cond_case Held (is DISCONNECT n) (λ d. held_closed s h) (λ d. held_named n es p))

pub held_frame : (s : Session) (n : ℕ) (block : List ℕ) (time : ℕ) → Held s → Held (frame_session s n block time)
unfolding frame_session
held_frame s n block time h =
    left_case Held (frame_answer s n block) s (heard (effect s n (listed (entries block))) time) h (held_closed s h)
    (λ v e. held_heard (effect s n (listed (entries block))) (held_effect s h n (listed (entries block)) (frame_passed s n block v e)) time)

pub held_heart_beat : (s : Session) (time : ℕ) → Held s → Held (heart_beat_session s time)
unfolding heart_beat_session
held_heart_beat s time h = left_case Held (heart_beat_answer s) s (heard s time) h (held_closed s h) (λ v e. held_heard s h time)

pub held_deliver : (s : Session) (id label : List ℕ) → Held s → Held (deliver_session s id label)
unfolding deliver_session
held_deliver s id label h = by (deliver_answer s id label)
  where
    by : (A : Answer) → Held (recorded_by A s (recording s id label))
    by (accepted v) = held_deliveries s h (record_label s.subscriptions.modes (place_named s (some id)) label s.deliveries)
    by (refused k) = h

-- ---- a session that is made

pub held_fresh : (sends wants : ℕ) (offered : List Bool) (phase : ℕ) → sends ≤ heart_beat_max → wants ≤ heart_beat_max → phase ≤ closed_phase
    → eqb phase closed_phase || may_offer offered ≡ true → eqb phase open_phase ≡ false → Held (with_phase (fresh sends wants offered) phase)
held_fresh sends wants offered phase a b known flags not_open =
    record {
      sized = record {
        subscriptions = record {
          ids_long = length-replicate {A = ℕ} (subscriptions_max * id_max) 0;
          lens_long = length-replicate {A = ℕ} subscriptions_max 0;
          modes_long = length-replicate {A = ℕ} subscriptions_max auto_mode;
        };
        transactions = record {
          ids_long = length-replicate {A = ℕ} (transactions_max * id_max) 0;
          lens_long = length-replicate {A = ℕ} transactions_max 0;
        };
      };
      valid = record {
        known = known;
        offers = (a, b);
        intervals = (omega arith, omega arith);
        flags = flags;
        shared = ap (λ t. not t || false) not_open;
        subscriptions = zeros_valid id_max subscriptions_max;
        transactions = zeros_valid id_max transactions_max;
      };
    }

pub held_made : (sends wants : ℕ) (offered : List Bool) → Held (made sends wants offered)
unfolding made making_answer
held_made sends wants offered = by (making_answer sends wants offered) refl
  where
    by : (A : Answer) → settle (making_checks sends wants offered) [] ≡ A → Held (made_by A sends wants offered)
    by (accepted v) e =
        let small : ltb heart_beat_max sends || (ltb heart_beat_max wants || not (may_offer offered)) ≡ false =
        (all_pass (making_checks sends wants offered) [] v e).0 in
        let rest = or_false_right (ltb heart_beat_max sends) (ltb heart_beat_max wants || not (may_offer offered)) small in
        held_fresh sends wants offered fresh_phase
        (ltb-false heart_beat_max sends (or_false_left (ltb heart_beat_max sends) (ltb heart_beat_max wants || not (may_offer offered)) small))
        (ltb-false heart_beat_max wants (or_false_left (ltb heart_beat_max wants) (not (may_offer offered)) rest))
        (omega arith)
        (not-false (may_offer offered) (or_false_right (ltb heart_beat_max wants) (not (may_offer offered)) rest)) refl
    by (refused k) e = held_fresh 0 0 (replicate 3 false) closed_phase (omega arith) (omega arith) (omega arith) refl refl
