-- Histories of calls on one session, and what closes one. Assumes nothing.
use Rattle.std.specs.Prelude.{◌≡◌, ℕ, Bool, true, false, cond, ◌&&◌, ◌||◌, ◌≢◌, List, [], ◌∷◌, ◌==◌}
use Rattle.std.proofs.Math.Option.{Option, none, some}
use Rattle.headers.specs.Rows.{same}
use Rattle.headers.specs.Block.{Entry, entries, listed}
use Rattle.headers.specs.Answers.{Answer, accepted, refused}
use Rattle.frames.specs.declared.version.Version.{Version}
use Rattle.frames.specs.Grammar.{v1_2, number, ACK, DISCONNECT, NACK, SUBSCRIBE, UNSUBSCRIBE}
use Rattle.sessions.specs.Headers.{value_of, is, opens, namings_by, IdUse, id_uses, changed_id, mode_asked, label_named}
use Rattle.sessions.specs.Opening.{shared_flags, chosen}
use Rattle.sessions.specs.Sessions.{spoken}
use Rattle.sessions.specs.Calls.{frame_answer, frame_session, heart_beat_answer, heart_beat_session, deliver_answer, deliver_session}
use Rattle.sessions.specs.Calls.{mode_or_auto, client_versions}
use Rattle.sessions.specs.Accounts.{Event, subscribed, unsubscribed, delivered, acked, nacked, closed, nothing}
use Rattle.sessions.specs.declared.command.Header.TheVariants.{Id}
use Rattle.sessions.specs.declared.store.Use.{Use}
use Rattle.sessions.specs.declared.store.Use.TheVariants.{Nothing, Need, Enter, Free}
use Rattle.sessions.specs.declared.command.Kind.{Kind}
use Rattle.sessions.specs.declared.command.Kind.TheVariants.{Subscriptions, Transactions}
use Rattle.sessions.specs.declared.session.Session.{Session}

-- A call: a frame's command number, header block and time; a heart-beat's time; or the subscription's id and the label of a delivery that is recorded
pub data Call : Type 0 where
  frame : (command : ℕ) (block : List ℕ) (time : ℕ) → Call
  heart_beat : (time : ℕ) → Call
  deliver : (subscription : List ℕ) (label : List ℕ) → Call

abbrev pub answer_to : Session → Call → Answer
answer_to s (frame n block time) = frame_answer s n block
answer_to s (heart_beat time) = heart_beat_answer s
answer_to s (deliver id label) = deliver_answer s id label

abbrev pub next : Session → Call → Session
next s (frame n block time) = frame_session s n block time
next s (heart_beat time) = heart_beat_session s time
next s (deliver id label) = deliver_session s id label

-- the session after calls, the first of them first
abbrev pub after : Session → List Call → Session
after s [] = s
after s (c ∷ cs) = after (next s c) cs

-- ---- The ids that are live, told from the calls and their answers alone

abbrev pub same_kind : Kind → Kind → Bool
same_kind Subscriptions Subscriptions = true
same_kind Subscriptions Transactions = false
same_kind Transactions Subscriptions = false
same_kind Transactions Transactions = true

-- whether an id is live after it was used: entered, it is; freed, it is not; else as before
abbrev pub by_use : Use → Bool → Bool
by_use Enter before = true
by_use Free before = false
by_use Need before = before
by_use Nothing before = before

-- the ids that a frame names, of which those that are entered or freed are the same in each version (`changed_alike`, proofs/Tables.antt)
abbrev pub told_uses : ℕ → List Entry → List IdUse
told_uses n es = id_uses (namings_by v1_2 n) es

-- whether an id of a kind is live after this id, or none, was entered or freed
abbrev pub live_changed : Kind → List ℕ → Bool → Option IdUse → Bool
live_changed k id before none = before
live_changed k id before (some u) = cond (same_kind k u.kind && same u.id id) (by_use u.usage before) before

abbrev pub is_accepted : Answer → Bool
is_accepted (accepted values) = true
is_accepted (refused number) = false

-- whether an id is live after one call: an accepted frame that enters it or frees it says so, and no other call changes it
abbrev pub live_by : Kind → List ℕ → Bool → Answer → Call → Bool
live_by k id before a (frame n block time) = cond (is_accepted a) (live_changed k id before (changed_id (told_uses n (listed (entries block))))) before
live_by k id before a (heart_beat time) = before
live_by k id before a (deliver x label) = before

-- a call and its answer
pub record Answered : Type 0 where
  pub call : Call
  pub answer : Answer

-- the calls of a history, each with its answer
abbrev pub trace : Session → List Call → List Answered
trace s [] = []
trace s (c ∷ cs) = record { call = c; answer = answer_to s c } ∷ trace (next s c) cs

-- whether an id is live after these calls and answers, by whether it was before them
abbrev pub live_told : Kind → List ℕ → Bool → List Answered → Bool
live_told k id before [] = before
live_told k id before (e ∷ es) = live_told k id (live_by k id before e.answer e.call) es

-- the same of the calls on a session, with the answers that it gives
abbrev pub live_after : Kind → List ℕ → Bool → Session → List Call → Bool
live_after k id before s cs = live_told k id before (trace s cs)

-- ---- The protocol version, told from the calls, their answers and what the server offers alone: an accepted opening frame chooses it

abbrev pub chosen_of : List Bool → Option (List Bool) → Version
chosen_of offered none = v1_2
chosen_of offered (some client) = chosen (shared_flags client offered)

abbrev pub version_by : List Bool → Version → Answer → Call → Version
version_by offered before a (frame n block time) =
    cond (is_accepted a && opens n) (chosen_of offered (client_versions (listed (entries block)))) before
version_by offered before a (heart_beat time) = before
version_by offered before a (deliver id label) = before

-- ---- what a call did with deliveries, told from the call and its answer alone, and from the version told

-- the first value of a header, nothing where there is none
abbrev pub said : Option (List ℕ) → List ℕ
said none = []
said (some v) = v

abbrev pub frame_event : Version → ℕ → List Entry → Event
frame_event ver n es =
    cond (is SUBSCRIBE n) (subscribed (said (value_of Id es)) (mode_or_auto (mode_asked es)))
    (cond (is UNSUBSCRIBE n) (unsubscribed (said (value_of Id es)))
    (cond (is ACK n) (acked (said (label_named ver es)))
    (cond (is NACK n) (nacked (said (label_named ver es)))
    (cond (is DISCONNECT n) closed nothing))))

-- "38 and 39 leave the session unchanged; every other number closes it"
abbrev pub refusal_event : ℕ → Event
refusal_event k = cond (k == 38 || k == 39) nothing closed

abbrev pub event_of : Version → Call → Answer → Event
event_of ver (frame n block time) (accepted v) = frame_event ver n (listed (entries block))
event_of ver (frame n block time) (refused k) = refusal_event k
event_of ver (heart_beat time) (accepted v) = nothing
event_of ver (heart_beat time) (refused k) = refusal_event k
event_of ver (deliver id label) (accepted v) = delivered id label
event_of ver (deliver id label) (refused k) = nothing

-- the events of calls and answers, by what the server offers and the version before them; and those of the calls on a session with the
-- answers that it gives
abbrev pub told : List Bool → Version → List Answered → List Event
told offered ver [] = []
told offered ver (x ∷ xs) = event_of ver x.call x.answer ∷ told offered (version_by offered ver x.answer x.call) xs

abbrev pub events : Session → List Call → List Event
events s cs = told s.offers.versions (spoken s) (trace s cs)

-- a frame or a heart-beat: a refused delivery closes nothing
abbrev pub may_close : Call → Bool
may_close (frame n block time) = true
may_close (heart_beat time) = true
may_close (deliver id label) = false

-- What closes a session: "38 and 39 leave the session unchanged; every other number closes it"; "DISCONNECT closes, accepted".
pub data Closes (s : Session) : Call → Type 0 where
  by_number : {c : Call} (k : ℕ) → may_close c ≡ true → answer_to s c ≡ refused k → k ≢ 38 → k ≢ 39 → Closes s c
  by_disconnect : (block : List ℕ) (time : ℕ) (values : List ℕ) → frame_answer s (number DISCONNECT) block ≡ accepted values
      → Closes s (frame (number DISCONNECT) block time)
