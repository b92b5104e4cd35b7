-- What the parts of a session's calls give, in the code's types: the checks of Calls group by group. That they come to Calls' answers
-- and sessions is proofs/Steps.antt. Assumes nothing.
use Rattle.std.specs.Prelude.{◌≡◌, ℕ, ◌<◌, ◌≤◌, Bool, true, false, cond, not, ◌&&◌, ◌||◌, List, [], ◌∷◌, ◌++◌, length, ◌==◌, nat_eq, nat_le, nat_lt, slice_set, Option as Maybe, None, Result, Ok, Err}
use Rattle.std.proofs.Math.Option.{Option, none, some}
use Rattle.headers.specs.Block.{Entry}
use Rattle.headers.specs.Answers.{Check, settle}
use Rattle.sessions.specs.Stores.{enters, wants_live, changes, bad_length}
use Rattle.sessions.specs.Deliveries.{deliveries_max, label_max, auto_mode, Pending, mode_of, is_pending, record_label}
use Rattle.sessions.specs.Opening.{none_shared}
use Rattle.sessions.specs.Headers.{is_some, from_server, opens, value_of, IdUse, id_use, changed_id}
use Rattle.sessions.specs.Sessions.{subscriptions_max, transactions_max, id_max, fresh_phase, open_phase, closed_phase, ids_of}
use Rattle.sessions.specs.Sessions.{with_subscriptions, with_transactions}
use Rattle.sessions.specs.Sessions.{with_modes, with_deliveries, closed, heard, is_valid}
use Rattle.sessions.specs.Answers.{acceptance_says, answer_says, delivery_says}
use Rattle.sessions.specs.Calls.{left_by, shared_by, client_versions, client_heart_beats, opening, uses_of, id_effect, id_checks}
use Rattle.sessions.specs.Calls.{delivery_checks, named_effect, entry_checks, acceptance_of, effect, is_no_label}
use Rattle.sessions.specs.Calls.{recorded_by}
use Rattle.sessions.specs.Places.{put_in, Settles}
use Rattle.sessions.specs.declared.store.Use.{Use}
use Rattle.sessions.specs.declared.command.Naming.{Naming}
use Rattle.sessions.specs.declared.command.Namings.{Namings}
use Rattle.sessions.specs.declared.command.Kind.{Kind}
use Rattle.sessions.specs.declared.command.Kind.TheVariants.{Subscriptions, Transactions}
use Rattle.sessions.specs.declared.parts.SubscriptionStore.{SubscriptionStore}
use Rattle.sessions.specs.declared.parts.TransactionStore.{TransactionStore}
use Rattle.sessions.specs.declared.session.Session.{Session}
use Rattle.sessions.specs.declared.session.Acceptance.{Acceptance}
use Rattle.sessions.specs.Afters.{Outcome}
use Rattle.sessions.specs.Afters.{Recording}
use Rattle.sessions.specs.Refusals.{number_of}
use Rattle.sessions.specs.declared.refusals.Refusal.{Refusal}
use Rattle.sessions.specs.declared.delivery.Deliveries.{Deliveries}

-- refused, the session as it was; refused, the session closed; accepted
abbrev pub kept_by : Session → Refusal → Outcome
kept_by s e = record { session = s; answer = Err e }

abbrev pub closed_by : Session → Refusal → Outcome
closed_by s e = record { session = closed s; answer = Err e }

abbrev pub accepted_by : Session → Acceptance → ℕ → Outcome
accepted_by s acceptance time = record { session = heard s time; answer = Ok acceptance }

-- what a call gives by its checks, with what it says where it accepts and the session that it leaves then
pub record Gives (checks : List Check) (acceptance : Acceptance) (before after : Session) (r : Outcome) : Type 0 where
  pub answered : answer_says r.answer ≡ settle checks (acceptance_says acceptance)
  pub left : r.session ≡ left_by (settle checks (acceptance_says acceptance)) before after

-- 40, 41 and 42, or 0
abbrev pub phase_number : ℕ → ℕ → ℕ
phase_number phase n =
    cond (phase == closed_phase) 40
    (cond (from_server n) 41
    (cond (cond (opens n) (not (phase == fresh_phase)) (not (phase == open_phase))) 42 0))

-- how many places a kind of id has, and the session with an id put in one of them
abbrev pub count_of : Kind → ℕ
count_of Subscriptions = subscriptions_max
count_of Transactions = transactions_max

abbrev pub put_subscription : SubscriptionStore → ℕ → List ℕ → SubscriptionStore
put_subscription s k id = record { ids = put_in id_max s.ids k id; lens = slice_set s.lens k (length id); modes = s.modes }

abbrev pub put_mode : SubscriptionStore → ℕ → ℕ → SubscriptionStore
put_mode s k m = record { ids = s.ids; lens = s.lens; modes = slice_set s.modes k m }

abbrev pub put_transaction : TransactionStore → ℕ → List ℕ → TransactionStore
put_transaction t k id = record { ids = put_in id_max t.ids k id; lens = slice_set t.lens k (length id) }

abbrev pub put_of : Kind → Session → ℕ → List ℕ → Session
put_of Subscriptions s k id = with_subscriptions s (put_subscription s.subscriptions k id)
put_of Transactions s k id = with_transactions s (put_transaction s.transactions k id)

-- what the store makes of an id that a frame names, or of none
abbrev pub SettlesUse : Session → Option IdUse → Result (Maybe ℕ) Refusal → Type 0
SettlesUse s none r = r ≡ Ok None
SettlesUse s (some u) r = Settles id_max u.usage u.id (ids_of u.kind s) r

-- the lower of two refusals, and of two numbers, where 0 is none
abbrev pub lower : Refusal → Refusal → Refusal
lower a b = cond (nat_lt (number_of b) (number_of a)) b a

abbrev pub lower_number : ℕ → ℕ → ℕ
lower_number a b = cond (a == 0) b (cond (b == 0) a (cond (nat_lt b a) b a))

-- what becomes of two ids: the first's place, or the lowest refusal
abbrev pub both : Result (Maybe ℕ) Refusal → Result (Maybe ℕ) Refusal → Result (Maybe ℕ) Refusal
both (Ok place) (Ok other) = Ok place
both (Ok place) (Err b) = Err b
both (Err a) (Ok other) = Err a
both (Err a) (Err b) = Err (lower a b)

-- a use is of an id: of a new one or a live one
abbrev pub names_id : Use → Bool
names_id u = enters u || wants_live u

-- the ids that a command names, as the code has them: at most two, of which only the first is entered or freed
abbrev pub naming_list : Naming → List Naming → List Naming
naming_list g gs = cond (names_id g.usage) (g ∷ gs) gs

abbrev pub listed_namings : Namings → List Naming
listed_namings r = naming_list r.first (naming_list r.second [])

pub record GivesNamings (gs : List Naming) (r : Namings) : Type 0 where
  pub are : listed_namings r ≡ gs
  pub second_stays : changes r.second.usage ≡ false

-- the id that a naming names, if it names one
abbrev pub use_named : Naming → List Entry → Option IdUse
use_named g es = cond (names_id g.usage) (id_use g (value_of g.header es)) none

-- the opening frame: 31, 32, 33
abbrev pub opening_only : Session → List Entry → List Check
opening_only s es =
    record { fails = not (is_some (client_versions es)); number = 31 } ∷
    record { fails = none_shared (shared_by s (client_versions es)); number = 32 } ∷
    record { fails = not (is_some (client_heart_beats es)); number = 33 } ∷
    []

abbrev pub GivesOpening : Session → List Entry → Acceptance → ℕ → Outcome → Type 0
GivesOpening s es acceptance time r = Gives (opening_only s es) acceptance s (heard (opening s es) time) r

-- the ids that a frame names: 44 to 47
abbrev pub GivesUses : Session → List IdUse → Acceptance → ℕ → Outcome → Type 0
GivesUses s us acceptance time r = Gives (id_checks s us) acceptance s (heard (id_effect s (changed_id us)) time) r

-- and the delivery that it names or the mode that it asks for: 49 and 60
abbrev pub GivesDelivery : Session → ℕ → List Entry → Acceptance → ℕ → Outcome → Type 0
GivesDelivery s n es acceptance time r =
    Gives (id_checks s (uses_of s n es) ++ delivery_checks s n es) acceptance s (heard (named_effect s n es) time) r

-- all that depends on the entries: from 43 on
abbrev pub GivesEntries : Session → ℕ → List Entry → ℕ → Outcome → Type 0
GivesEntries s n es time r = Gives (entry_checks s n es) (acceptance_of n es) s (heard (effect s n es) time) r

-- ---- deliveries

-- what is given where an outcome was: a refusal stays; what was accepted passes further checks, and its session gets other modes and
-- deliveries
abbrev pub after_answer : Result Acceptance Refusal → List Check → Session → List ℕ → Deliveries → Outcome → Outcome → Type 0
after_answer (Err e) checks before ms d named r = r ≡ named
after_answer (Ok acceptance) checks before ms d named r =
    Gives checks acceptance before (with_deliveries (with_modes named.session ms) d) r

abbrev pub GivesThen : List Check → Session → List ℕ → Deliveries → Outcome → Outcome → Type 0
GivesThen checks before ms d named r = after_answer named.answer checks before ms d named r

-- an outcome with other modes, with other deliveries, and with both
abbrev pub outcome_modes : Outcome → List ℕ → Outcome
outcome_modes r ms = record { session = with_modes r.session ms; answer = r.answer }

abbrev pub outcome_deliveries : Outcome → Deliveries → Outcome
outcome_deliveries r d = record { session = with_deliveries r.session d; answer = r.answer }

abbrev pub outcome_with : Outcome → List ℕ → Deliveries → Outcome
outcome_with r ms d = outcome_deliveries (outcome_modes r ms) d

-- 60 of the label that an ACK or NACK names
abbrev pub label_checks : (Pending → Bool) → Option (List ℕ) → Deliveries → List Check
label_checks may o d = record { fails = is_no_label may o d; number = 60 } ∷ []

-- a delivery that is recorded, by its checks and the session that it leaves where it is accepted
pub record Records (checks : List Check) (before after : Session) (r : Recording) : Type 0 where
  pub answered : delivery_says r.answer ≡ settle checks []
  pub left : r.session ≡ recorded_by (settle checks []) before after

-- refused, the session as it was; recorded
abbrev pub unrecorded_by : Session → Refusal → Recording
unrecorded_by s e = record { session = s; answer = Err e }

abbrev pub recorded_as : Session → Recording
recorded_as s = record { session = s; answer = Ok tt }

-- 62 and 61, of a delivery to the subscription in a place
abbrev pub recording_checks : Session → ℕ → List ℕ → List Check
recording_checks s k label =
    record { fails = bad_length label_max label || is_pending label s.deliveries; number = 62 } ∷
    record { fails = not (mode_of s.subscriptions.modes k == auto_mode) && nat_le deliveries_max s.deliveries.count; number = 61 } ∷
    []

abbrev pub recording_at : Session → ℕ → List ℕ → Session
recording_at s k label = with_deliveries s (record_label s.subscriptions.modes (some k) label s.deliveries)

abbrev pub RecordsAt : Session → ℕ → List ℕ → Recording → Type 0
RecordsAt s k label r = Records (recording_checks s k label) s (recording_at s k label) r

-- what recording relies on: a valid session, a place, a label that fits, and room where the mode is not auto
pub record MayRecord (s : Session) (k : ℕ) (label : List ℕ) : Type 0 where
  pub valid : is_valid s ≡ true
  pub place : k < subscriptions_max
  pub fits : length label ≤ label_max
  pub room : nat_eq (mode_of s.subscriptions.modes k) auto_mode ≡ false → s.deliveries.count < deliveries_max
