-- What a frame does to a session, as the code decides it: an answer and a change, and what the change makes of a session. Assumes nothing.
use Rattle.std.specs.Prelude.{◌≡◌, ℕ, ◌-◌, ◌<◌, ◌≤◌, Bool, false, ◌||◌, List, [], ◌++◌, length, take, drop, ◌==◌, slice_index_or, slice_set, Result, Ok, Err}
use Rattle.std.proofs.Math.Option.{some}
use Rattle.headers.specs.Block.{Entry, entries, listed}
use Rattle.headers.specs.Answers.{Check, accepted, refused, settle}
use Rattle.sessions.specs.Headers.{put_before, changed_id, value_of, label_named}
use Rattle.stores.specs.Searches.{first_from}
use Rattle.sessions.specs.Deliveries.{auto_mode, Pending, pending, labelled, settle_label, dropped}
use Rattle.sessions.specs.Sessions.{subscriptions_max, transactions_max, id_max, with_subscriptions, with_transactions, with_deliveries}
use Rattle.sessions.specs.Sessions.{opened, closed, heard, spoken}
use Rattle.sessions.specs.Calls.{id_effect, opening, uses_of, id_checks, delivery_checks, modes_effect, delivery_effect, named_effect}
use Rattle.sessions.specs.Calls.{entry_checks, effect, acceptance_of, phase_checks, place_named, may_name}
use Rattle.sessions.specs.Steps.{closed_by, accepted_by, Gives, GivesUses, SettlesUse, use_named, put_subscription, put_transaction}
use Rattle.sessions.specs.Steps.{opening_only, label_checks}
use Rattle.sessions.specs.declared.command.Header.TheVariants.{Subscription}
use Rattle.sessions.specs.declared.parts.SubscriptionStore.{SubscriptionStore}
use Rattle.sessions.specs.declared.parts.TransactionStore.{TransactionStore}
use Rattle.sessions.specs.declared.delivery.Deliveries.{Deliveries}
use Rattle.sessions.specs.declared.session.Session.{Session}
use Rattle.sessions.specs.Refusals.{number_of}
use Rattle.sessions.specs.declared.refusals.Refusal.{Refusal}
use Rattle.sessions.specs.declared.session.Acceptance.{Acceptance}
use Rattle.sessions.specs.Afters.{Outcome}
use Rattle.sessions.specs.declared.step.Named.{Named}
use Rattle.sessions.specs.declared.step.Placing.{Placing}
use Rattle.sessions.specs.declared.step.Put.{Put}
use Rattle.sessions.specs.declared.step.Further.{Further}
use Rattle.sessions.specs.declared.step.Change.{Change}
use Rattle.sessions.specs.declared.step.Step.{Step}

-- the stores of a session that are lent are its own
pub record Lends (s : Session) (subs sub_lens txs tx_lens : List ℕ) : Type 0 where
  pub subs_are : s.subscriptions.ids ≡ subs
  pub sub_lens_are : s.subscriptions.lens ≡ sub_lens
  pub txs_are : s.transactions.ids ≡ txs
  pub tx_lens_are : s.transactions.lens ≡ tx_lens

-- the ids that a frame names are settled: accepted, and then they leave the session with the first entered or freed; or refused with the lowest
-- number
pub record NamesPlace (s : Session) (n : ℕ) (es : List Entry) (r : Named) : Type 0 where
  pub first_settled : SettlesUse s (use_named r.first es) (Ok r.place)
  pub accepts : (acceptance : Acceptance) (time : ℕ)
      → GivesUses s (uses_of s n es) acceptance time (accepted_by (id_effect s (changed_id (put_before (use_named r.first es) []))) acceptance time)

abbrev pub NamesIds : Session → ℕ → List Entry → Result Named Refusal → Type 0
NamesIds s n es (Ok r) = NamesPlace s n es r
NamesIds s n es (Err e) = (acceptance : Acceptance) (time : ℕ) → GivesUses s (uses_of s n es) acceptance time (closed_by s e)

-- ---- what is put

-- the part of the block that is put in a place
abbrev pub part_of : List ℕ → Placing → List ℕ
part_of block p = take (p.end - p.start) (drop p.start block)

-- the stores with it
abbrev pub put_sub : List ℕ → Put → SubscriptionStore → SubscriptionStore
put_sub block Put.Nothing s = s
put_sub block (Put.Subscription p) s = put_subscription s p.place (part_of block p)
put_sub block (Put.Transaction p) s = s

abbrev pub put_tx : List ℕ → Put → TransactionStore → TransactionStore
put_tx block Put.Nothing t = t
put_tx block (Put.Subscription p) t = t
put_tx block (Put.Transaction p) t = put_transaction t p.place (part_of block p)

abbrev pub put_by : Session → List ℕ → Put → Session
put_by s block p = with_transactions (with_subscriptions s (put_sub block p s.subscriptions)) (put_tx block p s.transactions)

-- it can be put there: a place of so many, a part of the block, and no longer than an id
pub record PlacingFits (n : ℕ) (block : List ℕ) (p : Placing) : Type 0 where
  pub place_inside : p.place < n
  pub part_inside : (p.start ≤ p.end) × (p.end ≤ length block)
  pub part_short : length (part_of block p) ≤ id_max

abbrev pub PutFits : List ℕ → Put → Type 0
PutFits block Put.Nothing = Unit {0}
PutFits block (Put.Subscription p) = PlacingFits subscriptions_max block p
PutFits block (Put.Transaction p) = PlacingFits transactions_max block p

-- ---- what becomes of modes and deliveries

abbrev pub modes_by : Further → List ℕ → List ℕ
modes_by Further.Nothing ms = ms
modes_by (Further.Mode k m) ms = slice_set ms k m
modes_by (Further.Drop k) ms = slice_set ms k auto_mode
modes_by (Further.Settle i) ms = ms

abbrev pub set_modes : Further → SubscriptionStore → SubscriptionStore
set_modes f s = record { ids = s.ids; lens = s.lens; modes = modes_by f s.modes }

-- the label of the delivery with a number
abbrev pub label_of : ℕ → Deliveries → List ℕ
label_of i d = (slice_index_or (pending d) i (record { place = 0; label = [] })).label

abbrev pub deliveries_by : Further → Session → Deliveries
deliveries_by Further.Nothing s = s.deliveries
deliveries_by (Further.Mode k m) s = s.deliveries
deliveries_by (Further.Drop k) s = dropped (some k) s.deliveries
deliveries_by (Further.Settle i) s = settle_label s.subscriptions.modes (label_of i s.deliveries) s.deliveries

-- the place is one; the delivery is pending, and the first with its label
abbrev pub ModeFits : Further → Type 0
ModeFits Further.Nothing = Unit {0}
ModeFits (Further.Mode k m) = k < subscriptions_max
ModeFits (Further.Drop k) = k < subscriptions_max
ModeFits (Further.Settle i) = Unit {0}

pub record IsPending (i : ℕ) (d : Deliveries) : Type 0 where
  pub number_inside : i < d.count
  pub first_labelled : first_from (labelled (label_of i d)) 0 (pending d) ≡ some i

abbrev pub SettleFits : Further → Deliveries → Type 0
SettleFits Further.Nothing d = Unit {0}
SettleFits (Further.Mode k m) d = Unit {0}
SettleFits (Further.Drop k) d = Unit {0}
SettleFits (Further.Settle i) d = IsPending i d

-- a session's modes and deliveries become these
pub record Does (s : Session) (ms : List ℕ) (d : Deliveries) (f : Further) : Type 0 where
  pub modes_are : ms ≡ modes_by f s.subscriptions.modes
  pub deliveries_are : d ≡ deliveries_by f s
  pub mode_fits : ModeFits f
  pub settle_fits : SettleFits f s.deliveries

-- by checks: refused, with a number that closes; or passed
pub record Passes (checks : List Check) (s : Session) (ms : List ℕ) (d : Deliveries) (f : Further) : Type 0 where
  pub passed : (v : List ℕ) → settle checks v ≡ accepted v
  pub does : Does s ms d f

abbrev pub Looks : List Check → Session → List ℕ → Deliveries → Result Further Refusal → Type 0
Looks checks s ms d (Err e) = (settle checks [] ≡ refused (number_of e)) × (number_of e == 38 || (number_of e == 39) ≡ false)
Looks checks s ms d (Ok f) = Passes checks s ms d f

-- the label that an ACK or NACK names; and all that a frame does to modes and deliveries
abbrev pub LooksLabel : Session → (Pending → Bool) → List ℕ → Result Further Refusal → Type 0
LooksLabel s may l r =
    Looks (label_checks may (some l) s.deliveries) s s.subscriptions.modes (settle_label s.subscriptions.modes l s.deliveries) r

-- the same by the entries: no promise where the label is not there
abbrev pub LooksNamed : Session → List Entry → Result Further Refusal → Type 0
LooksNamed s es r =
    (l : List ℕ) → label_named (spoken s) es ≡ some l → LooksLabel s (may_name (spoken s) (place_named s (value_of Subscription es))) l r

abbrev pub LooksFurther : Session → ℕ → List Entry → Result Further Refusal → Type 0
LooksFurther s n es r = Looks (delivery_checks s n es) s (modes_effect s n es) (delivery_effect s n es) r

-- ---- the change

abbrev pub use_of : Put → Further → Change
use_of Put.Nothing Further.Nothing = Change.Hear
use_of Put.Nothing (Further.Mode k m) = Change.Use Put.Nothing (Further.Mode k m)
use_of Put.Nothing (Further.Drop k) = Change.Use Put.Nothing (Further.Drop k)
use_of Put.Nothing (Further.Settle i) = Change.Use Put.Nothing (Further.Settle i)
use_of (Put.Subscription p) f = Change.Use (Put.Subscription p) f
use_of (Put.Transaction p) f = Change.Use (Put.Transaction p) f

abbrev pub used_by : Session → List ℕ → Put → Further → Session
used_by s block p f =
    with_deliveries (with_transactions (with_subscriptions s (set_modes f (put_sub block p s.subscriptions))) (put_tx block p s.transactions))
    (deliveries_by f s)

abbrev pub changed_by : Session → List ℕ → ℕ → Change → Session
changed_by s block time Change.Disconnect = heard (closed s) time
changed_by s block time (Change.Open a) = heard (opened s a.versions a.inbound a.outbound) time
changed_by s block time Change.Hear = heard s time
changed_by s block time (Change.Use p f) = heard (used_by s block p f) time

-- it can be made
pub record Uses (s : Session) (block : List ℕ) (p : Put) (f : Further) : Type 0 where
  pub put_fits : PutFits block p
  pub mode_fits : ModeFits f
  pub settle_fits : SettleFits f s.deliveries

abbrev pub Applies : Session → List ℕ → Change → Type 0
Applies s block Change.Disconnect = Unit {0}
Applies s block (Change.Open a) = Unit {0}
Applies s block Change.Hear = Unit {0}
Applies s block (Change.Use p f) = Uses s block p f

-- ---- steps: what is accepted, and the change; or a refusal, which closes

abbrev pub step_of : Acceptance → Change → Result Step Refusal
step_of a c = Ok (record { acceptance = a; change = c })

-- what a step comes to
abbrev pub outcome_of : Session → List ℕ → ℕ → Result Step Refusal → Outcome
outcome_of s block time (Ok r) = record { session = changed_by s block time r.change; answer = Ok r.acceptance }
outcome_of s block time (Err e) = closed_by s e

-- its change can be made
abbrev pub StepApplies : Session → List ℕ → Result Step Refusal → Type 0
StepApplies s block (Ok r) = Applies s block r.change
StepApplies s block (Err e) = Unit {0}

-- a step by checks, with what an acceptance says and the session that it leaves then, not yet heard from
pub record Decides (checks : List Check) (acceptance : Acceptance) (s : Session) (block : List ℕ) (after : Session) (r : Result Step Refusal)
    : Type 0 where
  pub gives : (time : ℕ) → Gives checks acceptance s (heard after time) (outcome_of s block time r)
  pub applies : StepApplies s block r

-- the opening frame; a frame that may name ids and a delivery; and all from 40 on
abbrev pub DecidesOpening : Session → List ℕ → Acceptance → Result Step Refusal → Type 0
DecidesOpening s block acceptance r = Decides (opening_only s (listed (entries block))) acceptance s block (opening s (listed (entries block))) r

abbrev pub DecidesUses : Session → ℕ → List ℕ → Acceptance → Result Step Refusal → Type 0
DecidesUses s n block acceptance r =
    Decides (id_checks s (uses_of s n (listed (entries block))) ++ delivery_checks s n (listed (entries block))) acceptance s block
    (named_effect s n (listed (entries block))) r

abbrev pub DecidesFrame : Session → ℕ → List ℕ → Result Step Refusal → Type 0
DecidesFrame s n block r =
    Decides (phase_checks s n ++ entry_checks s n (listed (entries block))) (acceptance_of n (listed (entries block))) s block
    (effect s n (listed (entries block))) r
