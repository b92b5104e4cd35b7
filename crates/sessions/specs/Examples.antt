-- Short lives of sessions as a table, and what a row claims: document 01's session examples, and rows that together have every command,
-- header, version, limit and number of a session. That all hold is proofs/Examples.antt. Assumes nothing.
use Rattle.std.specs.Prelude.{Option as Maybe, Some, None, Result, Ok, Err, ◌≡◌, ℕ, zero, suc, Bool, true, false, List, [], ◌∷◌, ◌++◌, map, length, replicate}
use Rattle.std.proofs.Math.Option.{some}
use Prim.Native.String.{String}
use Rattle.headers.specs.Rows.{octets_of}
use Rattle.headers.specs.Block.{Entry, image}
use Rattle.headers.specs.Answers.{Answer, accepted, refused}
use Rattle.frames.specs.Grammar.{Command, number, ABORT, ACK, BEGIN, COMMIT, CONNECT, CONNECTED, DISCONNECT, ERROR}
use Rattle.frames.specs.Grammar.{MESSAGE, NACK, RECEIPT, SEND, STOMP, SUBSCRIBE, UNSUBSCRIBE}
use Rattle.sessions.specs.Values.{versions}
use Rattle.sessions.specs.Opening.{shared_flags, highest, passed, chosen}
use Rattle.frames.specs.declared.version.Version.TheVariants.{V11, V12}
use Rattle.sessions.specs.Sessions.{fresh_phase, open_phase, closed_phase, fresh, ids_of, with_ids, with_subscriptions, with_transactions, with_phase}
use Rattle.sessions.specs.Sessions.{with_modes, with_deliveries, opened, heard}
use Rattle.sessions.specs.Deliveries.{auto_mode, client_mode, individual_mode, Pending, deliveries_of}
use Rattle.sessions.specs.Accounts.{Delivery, Event, recorded, accounts, with_fate, is_acknowledged, is_refused, is_dropped, pending_in}
use Rattle.sessions.specs.Held.{held_deliveries, pending_answer}
use Rattle.sessions.specs.Calls.{made, making_answer, timed_out_answer}
use Rattle.sessions.specs.Histories.{Call, frame, heart_beat, deliver, Answered, trace, events, after}
use Rattle.sessions.specs.declared.command.Kind.TheVariants.{Subscriptions, Transactions}
use Rattle.sessions.specs.declared.delivery.Deliveries.{Deliveries}
use Rattle.sessions.specs.declared.session.Session.{Session}
use Rattle.sessions.specs.declared.session.Pending.{Pending as Told}
use Rattle.sessions.specs.declared.refusals.InvalidRecord.{InvalidRecord}

-- ---- A row

-- How a session begins: made with offers, with what making answers; or given, as any record may be.
pub data Start : Type 0 where
  making : (sends wants : ℕ) (offered : List Bool) (answer : Answer) → Start
  given : Session → Start

-- How many deliveries were made, and what became of them, told from calls and answers.
pub record Counts : Type 0 where
  pub made : ℕ
  pub acknowledged : ℕ
  pub refused : ℕ
  pub dropped : ℕ
  pub pending : ℕ

-- What a session has: its offers, its intervals, its live ids in the order of their places, the highest version shared, and the pending
-- deliveries, oldest first; with what its calls and answers tell of deliveries.
pub record State : Type 0 where
  pub sends : ℕ
  pub wants : ℕ
  pub offered : List Bool
  pub phase : ℕ
  pub inbound : ℕ
  pub outbound : ℕ
  pub last_heard : ℕ
  pub subscriptions : List (List ℕ)
  pub transactions : List (List ℕ)
  pub highest_shared : ℕ
  pub pending : List Delivery
  pub counts : Counts

-- The question whether the peer is timed out, at a time, with its answer.
pub record Question : Type 0 where
  pub time : ℕ
  pub answer : Answer

-- A life: how the session begins, the calls on it with their answers, what it has then, and questions that it is then asked.
pub record Life : Type 0 where
  pub start : Start
  pub events : List Answered
  pub left : State
  pub asked : List Question

-- ---- What a row claims

abbrev pub started : Start → Start
started (making sends wants offered a) = making sends wants offered (making_answer sends wants offered)
started (given s) = given s

abbrev pub session_of : Start → Session
session_of (making sends wants offered a) = made sends wants offered
session_of (given s) = s

abbrev pub without_free : List (List ℕ) → List (List ℕ)
without_free [] = []
without_free ([] ∷ ids) = without_free ids
without_free ((x ∷ xs) ∷ ids) = (x ∷ xs) ∷ without_free ids

abbrev pub counts_of : List Event → Counts
counts_of es = record {
  made = recorded es;
  acknowledged = length (with_fate is_acknowledged (accounts [] es));
  refused = length (with_fate is_refused (accounts [] es));
  dropped = length (with_fate is_dropped (accounts [] es));
  pending = length (pending_in [] es);
}

abbrev pub state_of : Session → List Event → State
state_of s es = record {
  sends = s.offers.sends;
  wants = s.offers.wants;
  offered = s.offers.versions;
  phase = s.phase;
  inbound = s.agreed.inbound;
  outbound = s.agreed.outbound;
  last_heard = s.last_heard;
  subscriptions = without_free (ids_of Subscriptions s);
  transactions = without_free (ids_of Transactions s);
  highest_shared = highest s.agreed.versions;
  pending = held_deliveries s;
  counts = counts_of es;
}

abbrev pub calls : List Answered → List Call
calls es = map (λ (e : Answered). e.call) es

abbrev pub asked_of : Session → Question → Question
asked_of s q = record { time = q.time; answer = timed_out_answer s q.time }

-- the life that the definitions give for the same beginning, calls and questions
abbrev pub defined : Life → Life
defined l = record {
  start = started l.start;
  events = trace (session_of l.start) (calls l.events);
  left = state_of (after (session_of l.start) (calls l.events)) (events (session_of l.start) (calls l.events));
  asked = map (asked_of (after (session_of l.start) (calls l.events))) l.asked;
}

abbrev pub Holds : Life → Type 0
Holds l = defined l ≡ l

-- ---- Words for rows

infix 70 ◌⇒◌
abbrev ◌⇒◌ : Call → Answer → Answered
c ⇒ a = record { call = c; answer = a }

-- accepted, and no receipt is owed; accepted, and one is
abbrev ok : Answer
ok = accepted (0 ∷ 0 ∷ 0 ∷ 0 ∷ [])

abbrev receipt_owed : Answer
receipt_owed = accepted (1 ∷ 0 ∷ 0 ∷ 0 ∷ [])

-- accepted, no receipt is owed, and so many later entries follow the first destination, id and transaction
abbrev overwritten : ℕ → ℕ → ℕ → Answer
overwritten destinations ids transactions = accepted (0 ∷ destinations ∷ ids ∷ transactions ∷ [])

-- the peer is timed out at a time, and it is not
abbrev late : ℕ → Question
late time = record { time = time; answer = accepted (1 ∷ []) }

abbrev in_time : ℕ → Question
in_time time = record { time = time; answer = accepted (0 ∷ []) }

abbrev pub entry : String → String → Entry
entry n v = record { name = octets_of n; value = octets_of v }

abbrev frame_of : Command → List Entry → ℕ → Call
frame_of c es time = frame (number c) (image es) time

abbrev v1_2 : List Bool
v1_2 = false ∷ false ∷ true ∷ []

abbrev v1_1 : List Bool
v1_1 = false ∷ true ∷ false ∷ []

abbrev both_versions : List Bool
both_versions = false ∷ true ∷ true ∷ []

-- a server that offers 1.2 and no heart-beats, and a client that opens a session with it at time 1
abbrev server : Start
server = making 0 0 v1_2 (accepted [])

abbrev connect : Answered
connect = frame_of CONNECT (entry "accept-version" "1.2" ∷ entry "host" "h" ∷ []) 1 ⇒ ok

-- no delivery was made
abbrev none_made : Counts
none_made = record { made = 0; acknowledged = 0; refused = 0; dropped = 0; pending = 0 }

-- a session that offers these versions and has chosen one, ten times its number; in a phase, last heard from at a time, with these live ids
abbrev speaking : List Bool → ℕ → ℕ → ℕ → List String → List String → State
speaking offered version phase time subscriptions transactions = record {
  sends = 0;
  wants = 0;
  offered = offered;
  phase = phase;
  inbound = 0;
  outbound = 0;
  last_heard = time;
  subscriptions = map octets_of subscriptions;
  transactions = map octets_of transactions;
  highest_shared = version;
  pending = [];
  counts = none_made;
}

-- the same of that session
abbrev having : ℕ → ℕ → List String → List String → State
having phase time subscriptions transactions = speaking v1_2 12 phase time subscriptions transactions

-- a state with these pending deliveries, and with what became of those that were made
abbrev holding : State → List Delivery → Counts → State
holding s ds counts = record {
  sends = s.sends;
  wants = s.wants;
  offered = s.offered;
  phase = s.phase;
  inbound = s.inbound;
  outbound = s.outbound;
  last_heard = s.last_heard;
  subscriptions = s.subscriptions;
  transactions = s.transactions;
  highest_shared = s.highest_shared;
  pending = ds;
  counts = counts;
}

-- made, acknowledged, refused by NACK, dropped, pending
abbrev counted : ℕ → ℕ → ℕ → ℕ → ℕ → Counts
counted made acknowledged nacked dropped pending = record {
  made = made;
  acknowledged = acknowledged;
  refused = nacked;
  dropped = dropped;
  pending = pending;
}

-- a SUBSCRIBE that asks for an ack mode; a delivery that is recorded; an ACK and a NACK
abbrev subscribe_as : String → String → ℕ → Call
subscribe_as mode id time = frame_of SUBSCRIBE (entry "destination" "/d" ∷ entry "id" id ∷ entry "ack" mode ∷ []) time

abbrev given_to : String → String → Answered
given_to id label = deliver (octets_of id) (octets_of label) ⇒ accepted []

abbrev ack : String → ℕ → Call
ack label time = frame_of ACK (entry "id" label ∷ []) time

abbrev nack : String → ℕ → Call
nack label time = frame_of NACK (entry "id" label ∷ []) time

-- a pending delivery
abbrev delivery : String → ℕ → String → Delivery
delivery id mode label = record { subscription = octets_of id; mode = mode; label = octets_of label }

-- the same before it is opened
abbrev unopened : ℕ → ℕ → State
unopened phase time = speaking v1_2 0 phase time [] []

-- a frame that is refused with a number as the first, and as one after the session was opened
abbrev first_refused : Command → List Entry → ℕ → Life
first_refused c es k = record { start = server; events = frame_of c es 1 ⇒ refused k ∷ []; left = unopened closed_phase 0; asked = [] }

abbrev then_refused : Command → List Entry → ℕ → Life
then_refused c es k = record { start = server; events = connect ∷ frame_of c es 2 ⇒ refused k ∷ []; left = having closed_phase 1 [] []; asked = [] }

-- ---- The rows

-- "Offers 1000,0 and 500,2000 give 2000 and 0", and the other way round: the client's and the server's offers, and the intervals from
-- client to server and back. "0 if the client's first or the server's second is 0, else the larger"; "absent means 0,0".
abbrev offered_with : List Entry → ℕ → ℕ → ℕ → ℕ → Life
offered_with client sends wants inbound outbound = record {
  start = making sends wants v1_2 (accepted []);
  events = frame_of CONNECT (entry "accept-version" "1.2" ∷ entry "host" "h" ∷ client) 1 ⇒ ok ∷ [];
  left = record {
    sends = sends;
    wants = wants;
    offered = v1_2;
    phase = open_phase;
    inbound = inbound;
    outbound = outbound;
    last_heard = 1;
    subscriptions = [];
    transactions = [];
    highest_shared = 12;
    pending = [];
    counts = none_made;
  };
  asked = [];
}

abbrev offers : String → ℕ → ℕ → ℕ → ℕ → Life
offers client sends wants inbound outbound = offered_with (entry "heart-beat" client ∷ []) sends wants inbound outbound

unfoldable pub intervals : List Life
intervals =
    offers "1000,0" 500 2000 2000 0 ∷
    offers "500,2000" 1000 0 0 2000 ∷
    offers "2000,500" 0 1000 2000 0 ∷
    offers "0,1000" 2000 500 0 2000 ∷
    offers "300,400" 100 200 300 400 ∷
    offers "0,0" 100 200 0 0 ∷
    offers "3600000,3600000" 3600000 3600000 3600000 3600000 ∷
    offers "0003600000,00" 1 1 3600000 0 ∷
    offered_with [] 100 200 0 0 ∷
    []

-- "more than twice that interval has passed since last-heard": the interval is 8. Heard from at 4,294,967,290, at 10 just twice that
-- has passed. A heart-beat is heard too. A session that is not open, or whose interval is 0, is never timed out.
abbrev heard_at : ℕ → ℕ → State
heard_at phase time = record {
  sends = 0;
  wants = 8;
  offered = v1_2;
  phase = phase;
  inbound = 8;
  outbound = 0;
  last_heard = time;
  subscriptions = [];
  transactions = [];
  highest_shared = 12;
  pending = [];
  counts = none_made;
}

abbrev connect_at : ℕ → Answered
connect_at time = frame_of CONNECT (entry "accept-version" "1.2" ∷ entry "host" "h" ∷ entry "heart-beat" "5,0" ∷ []) time ⇒ ok

unfoldable pub clocks : List Life
clocks =
    record {
      start = making 0 8 v1_2 (accepted []);
      events = connect_at 4294967290 ∷ [];
      left = heard_at open_phase 4294967290;
      asked = in_time 4294967290 ∷ in_time 4294967295 ∷ in_time 0 ∷ in_time 10 ∷ late 11 ∷ late 4294967289 ∷ [];
    } ∷
    record {
      start = making 0 8 v1_2 (accepted []);
      events = connect_at 4294967290 ∷ heart_beat 3 ⇒ ok ∷ [];
      left = heard_at open_phase 3;
      asked = late 2 ∷ in_time 3 ∷ in_time 19 ∷ late 20 ∷ [];
    } ∷
    record {
      start = making 0 8 v1_2 (accepted []);
      events = connect_at 1 ∷ frame_of DISCONNECT [] 2 ⇒ ok ∷ [];
      left = heard_at closed_phase 2;
      asked = in_time 100 ∷ [];
    } ∷
    record { start = server; events = connect ∷ []; left = having open_phase 1 [] []; asked = in_time 100 ∷ [] } ∷
    record { start = server; events = heart_beat 1 ⇒ ok ∷ []; left = unopened fresh_phase 1; asked = in_time 100 ∷ [] } ∷
    []

-- "offers above 3,600,000", or version marks "where 1.0 is marked, or neither 1.1 nor 1.2" (C-18): refused with 34, and a closed session
-- whose other fields are 0
abbrev unmade : ℕ → ℕ → List Bool → Life
unmade sends wants offered = record {
  start = making sends wants offered (refused 34);
  events = heart_beat 1 ⇒ refused 40 ∷ [];
  left = speaking (false ∷ false ∷ false ∷ []) 0 closed_phase 0 [] [];
  asked = in_time 100 ∷ [];
}

abbrev made_with : List Bool → Life
made_with offered =
    record { start = making 0 0 offered (accepted []); events = heart_beat 1 ⇒ ok ∷ []; left = speaking offered 0 fresh_phase 1 [] []; asked = [] }

unfoldable pub makings : List Life
makings =
    unmade 3600001 0 v1_2 ∷
    unmade 0 3600001 v1_2 ∷
    unmade 0 0 (false ∷ false ∷ false ∷ []) ∷
    unmade 0 0 (true ∷ false ∷ false ∷ []) ∷
    unmade 0 0 (true ∷ true ∷ false ∷ []) ∷
    unmade 0 0 (true ∷ false ∷ true ∷ []) ∷
    unmade 0 0 (true ∷ true ∷ true ∷ []) ∷
    made_with v1_2 ∷
    made_with v1_1 ∷
    made_with both_versions ∷
    []

-- "An item counts only if it is exactly 1.0, 1.1 or 1.2; order and repeats don't matter"; 32 where no version is shared
abbrev versions_accepted : Command → String → Life
versions_accepted c versions = record {
  start = server;
  events = frame_of c (entry "accept-version" versions ∷ entry "host" "h" ∷ []) 1 ⇒ ok ∷ [];
  left = having open_phase 1 [] [];
  asked = [];
}

abbrev versions_refused : Command → String → ℕ → Life
versions_refused c versions k = first_refused c (entry "accept-version" versions ∷ entry "host" "h" ∷ []) k

unfoldable pub versions_counted : List Life
versions_counted =
    versions_accepted CONNECT "1.2" ∷
    versions_accepted STOMP "1.2" ∷
    versions_accepted CONNECT "1.0,1.2" ∷
    versions_accepted CONNECT "1.2,1.1,1.2,10.11" ∷
    versions_refused CONNECT "1.0,1.1" 32 ∷
    versions_refused STOMP "1.0,1.1" 32 ∷
    versions_refused CONNECT "2.2" 32 ∷
    versions_refused CONNECT "1.20" 32 ∷
    versions_refused CONNECT "01.2" 32 ∷
    []

-- 31 where accept-version is not "items of digits, a point, digits (no part empty), joined by commas"
unfoldable pub versions_malformed : List Life
versions_malformed =
    versions_refused CONNECT "" 31 ∷
    versions_refused CONNECT "1" 31 ∷
    versions_refused CONNECT "1." 31 ∷
    versions_refused CONNECT ".2" 31 ∷
    versions_refused CONNECT "1.2," 31 ∷
    versions_refused CONNECT ",1.2" 31 ∷
    versions_refused CONNECT "1.2.0" 31 ∷
    versions_refused CONNECT "1.2, 1.1" 31 ∷
    versions_refused STOMP "1.x" 31 ∷
    []

-- 33 where heart-beat is not "two numbers, digits only, a comma between, each at most 3,600,000"; 31 and 32 come before it
abbrev heart_beat_refused : Command → String → Life
heart_beat_refused c heart_beats = first_refused c (entry "accept-version" "1.2" ∷ entry "host" "h" ∷ entry "heart-beat" heart_beats ∷ []) 33

unfoldable pub heart_beats_malformed : List Life
heart_beats_malformed =
    heart_beat_refused CONNECT "3600001,0" ∷
    heart_beat_refused CONNECT "0,3600001" ∷
    heart_beat_refused CONNECT "" ∷
    heart_beat_refused CONNECT "1" ∷
    heart_beat_refused CONNECT "1," ∷
    heart_beat_refused CONNECT ",1" ∷
    heart_beat_refused CONNECT "1,2,3" ∷
    heart_beat_refused CONNECT "1, 2" ∷
    heart_beat_refused STOMP "x,0" ∷
    first_refused CONNECT (entry "accept-version" "x" ∷ entry "host" "h" ∷ entry "heart-beat" "x" ∷ []) 31 ∷
    first_refused CONNECT (entry "accept-version" "1.1" ∷ entry "host" "h" ∷ entry "heart-beat" "x" ∷ []) 32 ∷
    []

-- "43 header missing": each header that a command needs
unfoldable pub missing_headers : List Life
missing_headers =
    first_refused CONNECT (entry "host" "h" ∷ []) 43 ∷
    first_refused CONNECT (entry "accept-version" "x" ∷ []) 43 ∷
    first_refused STOMP (entry "host" "h" ∷ []) 43 ∷
    first_refused STOMP (entry "accept-version" "1.2" ∷ []) 43 ∷
    then_refused SEND (entry "transaction" "t" ∷ []) 43 ∷
    then_refused SUBSCRIBE (entry "id" "" ∷ []) 43 ∷
    then_refused SUBSCRIBE (entry "destination" "/d" ∷ []) 43 ∷
    then_refused UNSUBSCRIBE (entry "destination" "/d" ∷ []) 43 ∷
    then_refused ACK (entry "transaction" "t" ∷ []) 43 ∷
    then_refused NACK (entry "transaction" "t" ∷ []) 43 ∷
    then_refused BEGIN (entry "id" "a" ∷ []) 43 ∷
    then_refused COMMIT (entry "id" "a" ∷ []) 43 ∷
    then_refused ABORT (entry "id" "a" ∷ []) 43 ∷
    []

-- Every command with the headers that it needs and no more, accepted; and with a receipt, which CONNECT and STOMP never owe. Ids that
-- were freed are entered again, in the first free place.
unfoldable pub accepted_frames : List Life
accepted_frames =
    record {
      start = server;
      events =
          connect ∷
          heart_beat 2 ⇒ ok ∷
          frame_of SUBSCRIBE (entry "destination" "/d" ∷ entry "id" "a" ∷ []) 3 ⇒ ok ∷
          subscribe_as "client" "b" 4 ⇒ ok ∷
          given_to "b" "m" ∷
          given_to "b" "a" ∷
          frame_of UNSUBSCRIBE (entry "id" "a" ∷ []) 5 ⇒ ok ∷
          frame_of SUBSCRIBE (entry "destination" "/d" ∷ entry "id" "c" ∷ []) 6 ⇒ ok ∷
          frame_of SUBSCRIBE (entry "destination" "/d" ∷ entry "id" "a" ∷ []) 7 ⇒ ok ∷
          frame_of SEND (entry "destination" "/d" ∷ []) 8 ⇒ ok ∷
          ack "m" 9 ⇒ ok ∷
          nack "a" 10 ⇒ ok ∷
          [];
      left = holding (having open_phase 10 ("c" ∷ "b" ∷ "a" ∷ []) []) [] (counted 2 1 1 0 0);
      asked = [];
    } ∷
    record {
      start = server;
      events =
          connect ∷
          subscribe_as "client-individual" "s" 1 ⇒ ok ∷
          given_to "s" "l" ∷
          given_to "s" "m" ∷
          frame_of BEGIN (entry "transaction" "t" ∷ []) 2 ⇒ ok ∷
          frame_of BEGIN (entry "transaction" "u" ∷ []) 3 ⇒ ok ∷
          frame_of SEND (entry "destination" "/d" ∷ entry "transaction" "t" ∷ []) 4 ⇒ ok ∷
          frame_of ACK (entry "id" "m" ∷ entry "transaction" "t" ∷ []) 5 ⇒ ok ∷
          frame_of NACK (entry "id" "l" ∷ entry "transaction" "u" ∷ []) 6 ⇒ ok ∷
          frame_of COMMIT (entry "transaction" "t" ∷ []) 7 ⇒ ok ∷
          frame_of BEGIN (entry "transaction" "v" ∷ []) 8 ⇒ ok ∷
          frame_of ABORT (entry "transaction" "u" ∷ []) 9 ⇒ ok ∷
          frame_of BEGIN (entry "transaction" "t" ∷ []) 10 ⇒ ok ∷
          [];
      left = holding (having open_phase 10 ("s" ∷ []) ("v" ∷ "t" ∷ [])) [] (counted 2 1 1 0 0);
      asked = [];
    } ∷
    record {
      start = server;
      events = connect ∷ frame_of DISCONNECT [] 2 ⇒ ok ∷ frame_of SEND (entry "destination" "/d" ∷ []) 3 ⇒ refused 40 ∷ heart_beat 4 ⇒ refused 40 ∷ [];
      left = having closed_phase 2 [] [];
      asked = [];
    } ∷
    record {
      start = server;
      events =
          frame_of CONNECT (entry "accept-version" "1.2" ∷ entry "host" "h" ∷ entry "receipt" "r" ∷ []) 1 ⇒ ok ∷
          frame_of SUBSCRIBE (entry "destination" "/d" ∷ entry "id" "a" ∷ entry "receipt" "r" ∷ entry "ack" "client" ∷ []) 2 ⇒ receipt_owed ∷
          given_to "a" "a" ∷
          given_to "a" "b" ∷
          frame_of SEND (entry "destination" "/d" ∷ entry "receipt" "" ∷ []) 3 ⇒ receipt_owed ∷
          frame_of ACK (entry "id" "a" ∷ entry "receipt" "r" ∷ []) 4 ⇒ receipt_owed ∷
          frame_of NACK (entry "id" "b" ∷ entry "receipt" "r" ∷ []) 5 ⇒ receipt_owed ∷
          frame_of UNSUBSCRIBE (entry "id" "a" ∷ entry "receipt" "r" ∷ []) 6 ⇒ receipt_owed ∷
          frame_of BEGIN (entry "transaction" "t" ∷ entry "receipt" "r" ∷ []) 7 ⇒ receipt_owed ∷
          frame_of COMMIT (entry "transaction" "t" ∷ entry "receipt" "r" ∷ []) 8 ⇒ receipt_owed ∷
          frame_of BEGIN (entry "transaction" "t" ∷ entry "receipt" "r" ∷ []) 9 ⇒ receipt_owed ∷
          frame_of ABORT (entry "transaction" "t" ∷ entry "receipt" "r" ∷ []) 10 ⇒ receipt_owed ∷
          frame_of DISCONNECT (entry "receipt" "r" ∷ []) 11 ⇒ receipt_owed ∷
          [];
      left = holding (having closed_phase 11 [] []) [] (counted 2 1 1 0 0);
      asked = [];
    } ∷
    record {
      start = server;
      events = frame_of STOMP (entry "accept-version" "1.2" ∷ entry "host" "h" ∷ entry "receipt" "r" ∷ []) 1 ⇒ ok ∷ [];
      left = having open_phase 1 [] [];
      asked = [];
    } ∷
    []

-- Of entries with one name the first counts, and an accepted frame says how many later ones follow, whatever its command, of destination,
-- id and transaction (C-19); a heart-beat says 0.
unfoldable pub repeated_headers : List Life
repeated_headers =
    record {
      start = server;
      events =
          frame_of CONNECT (entry "accept-version" "1.2" ∷ entry "accept-version" "x" ∷ entry "host" "h" ∷ []) 1 ⇒ ok ∷
          frame_of SUBSCRIBE (entry "destination" "/d" ∷ entry "id" "a" ∷ entry "id" "b" ∷ []) 2 ⇒ overwritten 0 1 0 ∷
          frame_of BEGIN (entry "transaction" "t" ∷ entry "transaction" "u" ∷ []) 3 ⇒ overwritten 0 0 1 ∷
          frame_of SEND (entry "destination" "/d" ∷ entry "id" "a" ∷ entry "destination" "/e" ∷ entry "id" "b" ∷ entry "destination" "/d" ∷ []) 4
          ⇒ overwritten 2 1 0 ∷
          frame_of SEND (entry "run" "b" ∷ entry "destination" "/d" ∷ entry "run" "a" ∷ []) 5 ⇒ overwritten 0 0 0 ∷
          heart_beat 6 ⇒ overwritten 0 0 0 ∷
          frame_of DISCONNECT (entry "receipt" "r" ∷ entry "id" "" ∷ entry "id" "" ∷ entry "id" "" ∷ []) 7 ⇒ accepted (1 ∷ 0 ∷ 2 ∷ 0 ∷ []) ∷
          [];
      left = having closed_phase 7 ("a" ∷ []) ("t" ∷ []);
      asked = [];
    } ∷
    []

-- "41 a server's command", whether the session is open or not
unfoldable pub server_commands : List Life
server_commands =
    first_refused CONNECTED [] 41 ∷
    first_refused ERROR [] 41 ∷
    first_refused MESSAGE [] 41 ∷
    first_refused RECEIPT [] 41 ∷
    then_refused CONNECTED [] 41 ∷
    then_refused ERROR [] 41 ∷
    then_refused MESSAGE [] 41 ∷
    then_refused RECEIPT [] 41 ∷
    []

-- "42 not open, or a second CONNECT/STOMP", which comes before 43
unfoldable pub out_of_turn : List Life
out_of_turn =
    first_refused ABORT [] 42 ∷
    first_refused ACK [] 42 ∷
    first_refused BEGIN [] 42 ∷
    first_refused COMMIT [] 42 ∷
    first_refused DISCONNECT [] 42 ∷
    first_refused NACK [] 42 ∷
    first_refused SEND [] 42 ∷
    first_refused SUBSCRIBE [] 42 ∷
    first_refused UNSUBSCRIBE [] 42 ∷
    then_refused CONNECT [] 42 ∷
    then_refused STOMP [] 42 ∷
    []

-- "44 the id that names a subscription or transaction is empty or over 32": 32 octets are accepted, 33 are not, for either kind
abbrev long : String
long = "0123456789abcdef0123456789abcdef"

abbrev longer : String
longer = "0123456789abcdef0123456789abcdef0"

unfoldable pub bad_lengths : List Life
bad_lengths =
    record {
      start = server;
      events =
          connect ∷
          frame_of SUBSCRIBE (entry "destination" "/d" ∷ entry "id" long ∷ []) 2 ⇒ ok ∷
          frame_of BEGIN (entry "transaction" long ∷ []) 3 ⇒ ok ∷
          frame_of SEND (entry "destination" "/d" ∷ entry "transaction" long ∷ []) 4 ⇒ ok ∷
          frame_of UNSUBSCRIBE (entry "id" long ∷ []) 5 ⇒ ok ∷
          [];
      left = having open_phase 5 [] (long ∷ []);
      asked = [];
    } ∷
    then_refused SUBSCRIBE (entry "destination" "/d" ∷ entry "id" "" ∷ []) 44 ∷
    then_refused SUBSCRIBE (entry "destination" "/d" ∷ entry "id" longer ∷ []) 44 ∷
    then_refused UNSUBSCRIBE (entry "id" "" ∷ []) 44 ∷
    then_refused UNSUBSCRIBE (entry "id" longer ∷ []) 44 ∷
    then_refused BEGIN (entry "transaction" "" ∷ []) 44 ∷
    then_refused BEGIN (entry "transaction" longer ∷ []) 44 ∷
    then_refused COMMIT (entry "transaction" "" ∷ []) 44 ∷
    then_refused ABORT (entry "transaction" "" ∷ []) 44 ∷
    then_refused SEND (entry "destination" "/d" ∷ entry "transaction" "" ∷ []) 44 ∷
    then_refused ACK (entry "id" "m" ∷ entry "transaction" "" ∷ []) 44 ∷
    then_refused NACK (entry "id" "m" ∷ entry "transaction" "" ∷ []) 44 ∷
    []

-- "45 id already live; 46 not live": ids of one kind do not count as ids of the other, and ids that were freed are live no more
abbrev subscribe : String → ℕ → Call
subscribe id time = frame_of SUBSCRIBE (entry "destination" "/d" ∷ entry "id" id ∷ []) time

abbrev begin : String → ℕ → Call
begin transaction time = frame_of BEGIN (entry "transaction" transaction ∷ []) time

abbrev with_both : Command → List Entry → ℕ → Life
with_both c es k = record {
  start = server;
  events = connect ∷ subscribe "a" 2 ⇒ ok ∷ begin "t" 3 ⇒ ok ∷ frame_of c es 4 ⇒ refused k ∷ [];
  left = having closed_phase 3 ("a" ∷ []) ("t" ∷ []);
  asked = [];
}

abbrev freed_by : Command → Life
freed_by c = record {
  start = server;
  events =
      connect ∷
      begin "t" 2 ⇒ ok ∷
      frame_of c (entry "transaction" "t" ∷ []) 3 ⇒ ok ∷
      frame_of SEND (entry "destination" "/d" ∷ entry "transaction" "t" ∷ []) 4 ⇒ refused 46 ∷
      [];
  left = having closed_phase 3 [] [];
  asked = [];
}

unfoldable pub live_ids : List Life
live_ids =
    with_both SUBSCRIBE (entry "destination" "/d" ∷ entry "id" "a" ∷ []) 45 ∷
    with_both BEGIN (entry "transaction" "t" ∷ []) 45 ∷
    with_both UNSUBSCRIBE (entry "id" "t" ∷ []) 46 ∷
    with_both COMMIT (entry "transaction" "a" ∷ []) 46 ∷
    with_both ABORT (entry "transaction" "a" ∷ []) 46 ∷
    with_both SEND (entry "destination" "/d" ∷ entry "transaction" "a" ∷ []) 46 ∷
    with_both ACK (entry "id" "a" ∷ entry "transaction" "a" ∷ []) 46 ∷
    with_both NACK (entry "id" "a" ∷ entry "transaction" "a" ∷ []) 46 ∷
    freed_by COMMIT ∷
    freed_by ABORT ∷
    record {
      start = server;
      events =
          connect ∷
          subscribe "a" 2 ⇒ ok ∷
          frame_of UNSUBSCRIBE (entry "id" "a" ∷ []) 3 ⇒ ok ∷
          frame_of UNSUBSCRIBE (entry "id" "a" ∷ []) 4 ⇒ refused 46 ∷
          [];
      left = having closed_phase 3 [] [];
      asked = [];
    } ∷
    record {
      start = server;
      events = connect ∷ subscribe "t" 2 ⇒ ok ∷ begin "t" 3 ⇒ ok ∷ frame_of DISCONNECT (entry "transaction" "u" ∷ []) 4 ⇒ ok ∷ [];
      left = having closed_phase 4 ("t" ∷ []) ("t" ∷ []);
      asked = [];
    } ∷
    []

-- "47 all places live": 16 subscriptions, 4 transactions; an id that is live gets 45 there too
abbrev texts_16 : List String
texts_16 = "a" ∷ "b" ∷ "c" ∷ "d" ∷ "e" ∷ "f" ∷ "g" ∷ "h" ∷ "i" ∷ "j" ∷ "k" ∷ "l" ∷ "m" ∷ "n" ∷ "o" ∷ "p" ∷ []

abbrev texts_4 : List String
texts_4 = "t" ∷ "u" ∷ "v" ∷ "w" ∷ []

-- all calls at time 1, accepted; then one at time 2
abbrev filled : (String → ℕ → Call) → List String → Call → Answer → List Answered
filled enter ids last a = (connect ∷ map (λ id. enter id 1 ⇒ ok) ids) ++ (last ⇒ a ∷ [])

unfoldable pub full_stores : List Life
full_stores =
    record { start = server; events = filled subscribe texts_16 (subscribe "q" 2) (refused 47); left = having closed_phase 1 texts_16 []; asked = [] } ∷
    record { start = server; events = filled subscribe texts_16 (subscribe "p" 2) (refused 45); left = having closed_phase 1 texts_16 []; asked = [] } ∷
    record { start = server; events = filled subscribe texts_16 (begin "q" 2) ok; left = having open_phase 2 texts_16 ("q" ∷ []); asked = [] } ∷
    record { start = server; events = filled begin texts_4 (begin "x" 2) (refused 47); left = having closed_phase 1 [] texts_4; asked = [] } ∷
    record { start = server; events = filled begin texts_4 (begin "t" 2) (refused 45); left = having closed_phase 1 [] texts_4; asked = [] } ∷
    record { start = server; events = filled begin texts_4 (subscribe "x" 2) ok; left = having open_phase 2 ("x" ∷ []) texts_4; asked = [] } ∷
    []

-- "39 unknown command or malformed sheet", which leaves the session as it was, in any phase; "40 closed", for every other call
unfoldable pub kept_and_closed : List Life
kept_and_closed =
    record {
      start = server;
      events = frame 0 [] 1 ⇒ refused 39 ∷ frame 16 [] 1 ⇒ refused 39 ∷ frame (number CONNECT) (72 ∷ []) 1 ⇒ refused 39 ∷ connect ∷ [];
      left = having open_phase 1 [] [];
      asked = [];
    } ∷
    record {
      start = server;
      events = connect ∷ frame 0 [] 2 ⇒ refused 39 ∷ frame 16 [] 2 ⇒ refused 39 ∷ frame (number ERROR) (72 ∷ []) 2 ⇒ refused 39 ∷ subscribe "a" 3 ⇒ ok ∷ [];
      left = having open_phase 3 ("a" ∷ []) [];
      asked = [];
    } ∷
    record {
      start = server;
      events =
          connect ∷
          frame_of SEND [] 2 ⇒ refused 43 ∷
          frame 0 [] 3 ⇒ refused 39 ∷
          frame (number SEND) (72 ∷ []) 3 ⇒ refused 39 ∷
          frame_of ERROR [] 3 ⇒ refused 40 ∷
          frame_of CONNECT [] 3 ⇒ refused 40 ∷
          frame_of DISCONNECT [] 3 ⇒ refused 40 ∷
          heart_beat 3 ⇒ refused 40 ∷
          [];
      left = having closed_phase 1 [] [];
      asked = [];
    } ∷
    []

-- "38 unsound session record (unknown phase, length over 32, two equal live ids of one kind, non-zero unused octets, offer or interval
-- over the limit, marks that making refuses unless closed)": before every other number, and the record stays as it is. Beside each of
-- them, a record just within the rule.
abbrev with_numbers : ℕ → ℕ → ℕ → ℕ → List Bool → ℕ → Session
with_numbers sends wants inbound outbound offered phase = with_phase (opened (fresh sends wants offered) offered inbound outbound) phase

abbrev in_state : List Bool → ℕ → Session
in_state offered phase = with_numbers 0 0 0 0 offered phase

-- an open session with these ids in the first two places of each kind; and with these octets and lengths in the first place
abbrev with_texts : List String → List String → Session
with_texts subscriptions transactions =
    with_ids Transactions (with_ids Subscriptions (in_state v1_2 open_phase) (map octets_of subscriptions ++ replicate 14 []))
    (map octets_of transactions ++ replicate 2 [])

-- the first octet of the first subscription's place and its length, and its mode
abbrev pub with_place : ℕ → ℕ → ℕ → Session
with_place octet len mode =
    with_subscriptions (in_state v1_2 open_phase)
    (record { ids = octet ∷ replicate 511 0; lens = len ∷ replicate 15 0; modes = mode ∷ replicate 15 auto_mode })

-- the same with the first transaction's place, in mode auto
abbrev with_octets : ℕ → ℕ → ℕ → ℕ → Session
with_octets sub sub_len tx tx_len =
    with_transactions (with_place sub sub_len auto_mode) (record { ids = tx ∷ replicate 127 0; lens = tx_len ∷ replicate 3 0 })

abbrev pub invalid : Session → Life
invalid s = record {
  start = given s;
  events = heart_beat 1 ⇒ refused 38 ∷ frame 0 [] 1 ⇒ refused 38 ∷ frame_of SEND (entry "destination" "/d" ∷ []) 1 ⇒ refused 38 ∷ [];
  left = state_of s [];
  asked = record { time = 1; answer = refused 38 } ∷ [];
}

abbrev valid : Session → Life
valid s = record { start = given s; events = heart_beat 1 ⇒ ok ∷ []; left = state_of (heard s 1) []; asked = in_time 1 ∷ [] }

abbrev valid_closed : Session → Life
valid_closed s = record { start = given s; events = heart_beat 1 ⇒ refused 40 ∷ []; left = state_of s []; asked = in_time 1 ∷ [] }

-- "each subscription's mode from the ack header (auto, client, client-individual; absent means auto)", the first entry of the name;
-- "49 unknown mode, after 47". An auto delivery is acknowledged at once.
abbrev subscribed_as : List Entry → List Delivery → Counts → Life
subscribed_as es ds counts = record {
  start = server;
  events = connect ∷ frame_of SUBSCRIBE (entry "destination" "/d" ∷ entry "id" "a" ∷ es) 2 ⇒ ok ∷ given_to "a" "m" ∷ [];
  left = holding (having open_phase 2 ("a" ∷ []) []) ds counts;
  asked = [];
}

abbrev unknown_mode : String → Life
unknown_mode mode = record { start = server; events = connect ∷ subscribe_as mode "a" 2 ⇒ refused 49 ∷ []; left = having closed_phase 1 [] []; asked = [] }

unfoldable pub modes_asked : List Life
modes_asked =
    subscribed_as [] [] (counted 1 1 0 0 0) ∷
    subscribed_as (entry "ack" "auto" ∷ []) [] (counted 1 1 0 0 0) ∷
    subscribed_as (entry "ack" "client" ∷ []) (delivery "a" client_mode "m" ∷ []) (counted 1 0 0 0 1) ∷
    subscribed_as (entry "ack" "client-individual" ∷ []) (delivery "a" individual_mode "m" ∷ []) (counted 1 0 0 0 1) ∷
    subscribed_as (entry "ack" "client" ∷ entry "ack" "other" ∷ []) (delivery "a" client_mode "m" ∷ []) (counted 1 0 0 0 1) ∷
    unknown_mode "" ∷
    unknown_mode "Client" ∷
    unknown_mode "client-" ∷
    unknown_mode "individual" ∷
    then_refused SUBSCRIBE (entry "destination" "/d" ∷ entry "id" "" ∷ entry "ack" "x" ∷ []) 44 ∷
    record {
      start = server;
      events = connect ∷ subscribe_as "auto" "a" 2 ⇒ ok ∷ subscribe_as "x" "a" 3 ⇒ refused 45 ∷ [];
      left = having closed_phase 2 ("a" ∷ []) [];
      asked = [];
    } ∷
    []

-- "In client mode ACK or NACK settles the named delivery and all earlier outstanding ones of that subscription; in client-individual
-- only the named one." A label is free again when it is settled; ABORT changes nothing.
abbrev three_subscribed : List Answered
three_subscribed = connect ∷ subscribe_as "client" "a" 1 ⇒ ok ∷ subscribe_as "client" "b" 1 ⇒ ok ∷ subscribe_as "client-individual" "c" 1 ⇒ ok ∷ []

abbrev five_given : List Answered
five_given = three_subscribed ++ (given_to "a" "a1" ∷ given_to "b" "b1" ∷ given_to "a" "a2" ∷ given_to "c" "c1" ∷ given_to "c" "c2" ∷ [])

abbrev of_three : ℕ → List Delivery → Counts → State
of_three time ds counts = holding (having open_phase time ("a" ∷ "b" ∷ "c" ∷ []) []) ds counts

abbrev after_five : List Answered → State → Life
after_five events left = record { start = server; events = five_given ++ events; left = left; asked = [] }

unfoldable pub settled_deliveries : List Life
settled_deliveries =
    after_five []
    (of_three 1
    (delivery "a" client_mode "a1" ∷ delivery "b" client_mode "b1" ∷ delivery "a" client_mode "a2" ∷ delivery "c" individual_mode "c1"
    ∷ delivery "c" individual_mode "c2" ∷ [])
    (counted 5 0 0 0 5)) ∷
    after_five (ack "a2" 2 ⇒ ok ∷ [])
    (of_three 2 (delivery "b" client_mode "b1" ∷ delivery "c" individual_mode "c1" ∷ delivery "c" individual_mode "c2" ∷ []) (counted 5 2 0 0 3)) ∷
    after_five (nack "a2" 2 ⇒ ok ∷ [])
    (of_three 2 (delivery "b" client_mode "b1" ∷ delivery "c" individual_mode "c1" ∷ delivery "c" individual_mode "c2" ∷ []) (counted 5 0 2 0 3)) ∷
    after_five (ack "a1" 2 ⇒ ok ∷ nack "c2" 3 ⇒ ok ∷ [])
    (of_three 3 (delivery "b" client_mode "b1" ∷ delivery "a" client_mode "a2" ∷ delivery "c" individual_mode "c1" ∷ []) (counted 5 1 1 0 3)) ∷
    after_five (ack "c2" 2 ⇒ ok ∷ given_to "a" "c2" ∷ given_to "b" "b2" ∷ ack "c2" 3 ⇒ ok ∷ [])
    (of_three 3 (delivery "b" client_mode "b1" ∷ delivery "c" individual_mode "c1" ∷ delivery "b" client_mode "b2" ∷ []) (counted 7 4 0 0 3)) ∷
    record {
      start = server;
      events =
          connect ∷
          subscribe_as "client" "a" 1 ⇒ ok ∷
          given_to "a" "m" ∷
          frame_of BEGIN (entry "transaction" "t" ∷ []) 2 ⇒ ok ∷
          frame_of ACK (entry "id" "m" ∷ entry "transaction" "t" ∷ []) 3 ⇒ ok ∷
          frame_of ABORT (entry "transaction" "t" ∷ []) 4 ⇒ ok ∷
          [];
      left = holding (having open_phase 4 ("a" ∷ []) []) [] (counted 1 1 0 0 0);
      asked = [];
    } ∷
    []

-- "60 the id of ACK or NACK is no outstanding label, after 46": also one that is empty or too long, that was settled, or of an auto
-- delivery. A refusal closes, and "Any close now empties these places".
abbrev one_given : List Answered
one_given = connect ∷ subscribe_as "client" "a" 1 ⇒ ok ∷ subscribe_as "auto" "b" 1 ⇒ ok ∷ given_to "a" "m" ∷ given_to "b" "n" ∷ []

abbrev unsettled : Call → ℕ → Life
unsettled c k = record {
  start = server;
  events = one_given ++ (c ⇒ refused k ∷ []);
  left = holding (having closed_phase 1 ("a" ∷ "b" ∷ []) []) [] (counted 2 1 0 1 0);
  asked = [];
}

unfoldable pub not_pending : List Life
not_pending =
    unsettled (ack "x" 2) 60 ∷
    unsettled (nack "x" 2) 60 ∷
    unsettled (ack "" 2) 60 ∷
    unsettled (nack "" 2) 60 ∷
    unsettled (ack longer 2) 60 ∷
    unsettled (ack "a" 2) 60 ∷
    unsettled (ack "n" 2) 60 ∷
    unsettled (nack "n" 2) 60 ∷
    unsettled (frame_of ACK (entry "id" "x" ∷ entry "transaction" "t" ∷ []) 2) 46 ∷
    record {
      start = server;
      events = one_given ++ (ack "m" 2 ⇒ ok ∷ nack "m" 3 ⇒ refused 60 ∷ []);
      left = holding (having closed_phase 2 ("a" ∷ "b" ∷ []) []) [] (counted 2 2 0 0 0);
      asked = [];
    } ∷
    []

-- "Recording a delivery, in order: 38; 63 session not open; 64 subscription not live; 62 label empty, too long or equal to an outstanding
-- one; 61 all 64 outstanding, never in auto." "A call that records a delivery and is refused leaves the session as it was."
abbrev unrecorded : String → String → ℕ → Life
unrecorded id label k = record {
  start = server;
  events = one_given ++ (deliver (octets_of id) (octets_of label) ⇒ refused k ∷ []);
  left = holding (having open_phase 1 ("a" ∷ "b" ∷ []) []) (delivery "a" client_mode "m" ∷ []) (counted 2 1 0 0 1);
  asked = [];
}

-- labels of one octet, from a number on
abbrev labels_from : ℕ → ℕ → List Pending
labels_from zero k = []
labels_from (suc n) k = record { place = 0; label = k ∷ [] } ∷ labels_from n (suc k)

-- a session with three subscriptions, of modes client, auto and client-individual, and these deliveries
abbrev three_live : Session
three_live =
    with_modes (with_ids Subscriptions (in_state v1_2 open_phase) (map octets_of ("a" ∷ "b" ∷ "c" ∷ []) ++ replicate 13 []))
    ((client_mode ∷ auto_mode ∷ individual_mode ∷ []) ++ replicate 13 auto_mode)

abbrev three_with : Deliveries → Session
three_with d = with_deliveries three_live d

abbrev many_given : ℕ → Session
many_given n = three_with (deliveries_of (labels_from n 1))

abbrev all_given : Call → Answer → Life
all_given c a = record { start = given (many_given 64); events = c ⇒ a ∷ []; left = state_of (many_given 64) (events (many_given 64) (c ∷ [])); asked = [] }

unfoldable pub recordings : List Life
recordings =
    unrecorded "c" "x" 64 ∷
    unrecorded "" "x" 64 ∷
    unrecorded longer "x" 64 ∷
    unrecorded "c" "" 64 ∷
    unrecorded "a" "" 62 ∷
    unrecorded "a" longer 62 ∷
    unrecorded "a" "m" 62 ∷
    unrecorded "b" "m" 62 ∷
    unrecorded "b" "" 62 ∷
    unrecorded "b" longer 62 ∷
    record { start = server; events = deliver (octets_of "a") (octets_of "") ⇒ refused 63 ∷ []; left = unopened fresh_phase 0; asked = [] } ∷
    record {
      start = server;
      events = one_given ++ (frame_of DISCONNECT [] 2 ⇒ ok ∷ deliver (octets_of "a") (octets_of "x") ⇒ refused 63 ∷ []);
      left = holding (having closed_phase 2 ("a" ∷ "b" ∷ []) []) [] (counted 2 1 0 1 0);
      asked = [];
    } ∷
    record {
      start = server;
      events = one_given ++ (given_to "a" long ∷ []);
      left = holding (having open_phase 1 ("a" ∷ "b" ∷ []) []) (delivery "a" client_mode "m" ∷ delivery "a" client_mode long ∷ []) (counted 3 1 0 0 2);
      asked = [];
    } ∷
    []

unfoldable pub all_pending : List Life
all_pending =
    all_given (deliver (octets_of "a") (65 ∷ [])) (refused 61) ∷
    all_given (deliver (octets_of "a") (64 ∷ [])) (refused 62) ∷
    all_given (deliver (octets_of "b") (65 ∷ [])) (accepted []) ∷
    []

-- "dropped at UNSUBSCRIBE or close": an UNSUBSCRIBE drops those of its own subscription, and an id that is entered again has its new mode
unfoldable pub dropped_deliveries : List Life
dropped_deliveries =
    record {
      start = server;
      events = five_given ++ (frame_of UNSUBSCRIBE (entry "id" "a" ∷ []) 2 ⇒ ok ∷ subscribe_as "client-individual" "a" 3 ⇒ ok ∷ given_to "a" "a1" ∷ []);
      left = of_three 3
          (delivery "b" client_mode "b1" ∷ delivery "c" individual_mode "c1" ∷ delivery "c" individual_mode "c2" ∷ delivery "a" individual_mode "a1" ∷ [])
          (counted 6 0 0 2 4);
      asked = [];
    } ∷
    record {
      start = server;
      events = five_given ++ (frame_of DISCONNECT [] 2 ⇒ ok ∷ []);
      left = holding (having closed_phase 2 ("a" ∷ "b" ∷ "c" ∷ []) []) [] (counted 5 0 0 5 0);
      asked = [];
    } ∷
    record {
      start = server;
      events = five_given ++ (frame_of SEND [] 2 ⇒ refused 43 ∷ []);
      left = holding (having closed_phase 1 ("a" ∷ "b" ∷ "c" ∷ []) []) [] (counted 5 0 0 5 0);
      asked = [];
    } ∷
    record {
      start = server;
      events = five_given ++ (frame 0 [] 2 ⇒ refused 39 ∷ heart_beat 3 ⇒ ok ∷ ack "b1" 4 ⇒ ok ∷ []);
      left = of_three 4
          (delivery "a" client_mode "a1" ∷ delivery "a" client_mode "a2" ∷ delivery "c" individual_mode "c1" ∷ delivery "c" individual_mode "c2" ∷ [])
          (counted 5 1 0 0 4);
      asked = [];
    } ∷
    []

unfoldable pub record_ids : List Life
record_ids =
    invalid (with_octets 1 33 0 0) ∷
    invalid (with_octets 0 0 1 33) ∷
    valid (with_texts (long ∷ "" ∷ []) (long ∷ "" ∷ [])) ∷
    invalid (with_texts ("a" ∷ "a" ∷ []) ("" ∷ "" ∷ [])) ∷
    invalid (with_texts ("" ∷ "" ∷ []) ("a" ∷ "a" ∷ [])) ∷
    valid (with_texts ("a" ∷ "b" ∷ []) ("a" ∷ "b" ∷ [])) ∷
    invalid (with_octets 1 0 0 0) ∷
    invalid (with_octets 0 0 1 0) ∷
    valid (with_octets 1 1 1 1) ∷
    []

unfoldable pub record_numbers : List Life
record_numbers =
    invalid (in_state v1_2 3) ∷
    valid (in_state v1_2 fresh_phase) ∷
    valid (in_state v1_2 open_phase) ∷
    valid_closed (in_state v1_2 closed_phase) ∷
    invalid (with_numbers 3600001 0 0 0 v1_2 open_phase) ∷
    invalid (with_numbers 0 3600001 0 0 v1_2 open_phase) ∷
    invalid (with_numbers 0 0 3600001 0 v1_2 open_phase) ∷
    invalid (with_numbers 0 0 0 3600001 v1_2 open_phase) ∷
    invalid (with_numbers 0 0 0 3600001 v1_2 closed_phase) ∷
    valid (with_numbers 3600000 3600000 3600000 3600000 v1_2 open_phase) ∷
    invalid (in_state (true ∷ false ∷ true ∷ []) open_phase) ∷
    invalid (in_state (true ∷ true ∷ true ∷ []) fresh_phase) ∷
    invalid (in_state (false ∷ false ∷ false ∷ []) open_phase) ∷
    valid_closed (in_state (true ∷ true ∷ false ∷ []) closed_phase) ∷
    []

-- "38 grows by a rule for the new fields, ... at least for an unknown mode, more than 64 deliveries, bad or equal labels, and a delivery
-- of no live subscription or an auto one": also for the mode of a free place, for octets that are not in use, and for deliveries of a
-- session that is not open. One delivery with a label of this octet and length, in this place; and two with these labels.
abbrev one_delivery : ℕ → ℕ → ℕ → ℕ → Deliveries
one_delivery octet len place count = record {
  labels = octet ∷ replicate 2047 0;
  lens = len ∷ replicate 63 0;
  places = place ∷ replicate 63 0;
  count = count;
}

abbrev two_deliveries : ℕ → ℕ → Deliveries
two_deliveries a b = record {
  labels = (a ∷ replicate 31 0) ++ (b ∷ replicate 2015 0);
  lens = (1 ∷ 1 ∷ []) ++ replicate 62 0;
  places = (0 ∷ 2 ∷ []) ++ replicate 62 0;
  count = 2;
}

abbrev in_phase_with : ℕ → Deliveries → Session
in_phase_with phase d = with_phase (three_with d) phase

unfoldable pub record_modes : List Life
record_modes =
    valid (three_with (one_delivery 0 0 0 0)) ∷
    invalid (with_place 1 1 3) ∷
    invalid (with_place 0 0 client_mode) ∷
    valid_closed (in_phase_with closed_phase (one_delivery 0 0 0 0)) ∷
    []

unfoldable pub record_labels : List Life
record_labels =
    valid (three_with (one_delivery 7 1 0 1)) ∷
    invalid (three_with (one_delivery 7 1 0 65)) ∷
    invalid (three_with (one_delivery 0 0 0 1)) ∷
    invalid (three_with (one_delivery 7 33 0 1)) ∷
    invalid (three_with (one_delivery 7 1 0 0)) ∷
    invalid (three_with (one_delivery 7 0 0 0)) ∷
    invalid (three_with (one_delivery 0 0 2 0)) ∷
    []

unfoldable pub record_places : List Life
record_places =
    invalid (three_with (one_delivery 7 1 1 1)) ∷
    invalid (three_with (one_delivery 7 1 3 1)) ∷
    invalid (three_with (one_delivery 7 1 16 1)) ∷
    invalid (in_phase_with fresh_phase (one_delivery 7 1 0 1)) ∷
    invalid (in_phase_with closed_phase (one_delivery 7 1 0 1)) ∷
    valid (three_with (two_deliveries 7 8)) ∷
    invalid (three_with (two_deliveries 7 7)) ∷
    []

-- "38 also where an open session's shared marks are none, or not all among those it offers" (C-18): what a session that is not open shares
-- is not looked at
abbrev sharing : List Bool → List Bool → ℕ → Session
sharing offered shared phase = with_phase (opened (fresh 0 0 offered) shared 0 0) phase

unfoldable pub record_versions : List Life
record_versions =
    invalid (sharing v1_2 (false ∷ false ∷ false ∷ []) open_phase) ∷
    invalid (sharing v1_2 v1_1 open_phase) ∷
    invalid (sharing v1_1 both_versions open_phase) ∷
    invalid (sharing both_versions (true ∷ false ∷ false ∷ []) open_phase) ∷
    valid (sharing both_versions v1_1 open_phase) ∷
    valid (sharing both_versions v1_2 open_phase) ∷
    valid (sharing both_versions both_versions open_phase) ∷
    valid (sharing v1_2 (true ∷ true ∷ false ∷ []) fresh_phase) ∷
    valid_closed (sharing v1_2 (true ∷ true ∷ false ∷ []) closed_phase) ∷
    []

-- ---- Version 1.1 (document 02, C-18)

-- "Offer versions 1.1 and 1.2": the highest that both sides have is chosen
abbrev offering : List Bool → String → ℕ → Life
offering offered versions version = record {
  start = making 0 0 offered (accepted []);
  events = frame_of CONNECT (entry "accept-version" versions ∷ entry "host" "h" ∷ []) 1 ⇒ ok ∷ [];
  left = speaking offered version open_phase 1 [] [];
  asked = [];
}

abbrev offering_refused : List Bool → String → ℕ → Life
offering_refused offered versions k = record {
  start = making 0 0 offered (accepted []);
  events = frame_of CONNECT (entry "accept-version" versions ∷ entry "host" "h" ∷ []) 1 ⇒ refused k ∷ [];
  left = speaking offered 0 closed_phase 0 [] [];
  asked = [];
}

unfoldable pub versions_chosen : List Life
versions_chosen =
    offering both_versions "1.1" 11 ∷
    offering both_versions "1.0,1.1" 11 ∷
    offering both_versions "1.2" 12 ∷
    offering both_versions "1.0,1.1,1.2" 12 ∷
    offering v1_1 "1.1,1.2" 11 ∷
    offering v1_2 "1.1,1.2" 12 ∷
    offering_refused both_versions "1.0" 32 ∷
    offering_refused v1_1 "1.0,1.2" 32 ∷
    offering_refused v1_2 "1.1" 32 ∷
    []

-- "ACK and NACK name a message by `subscription` and `message-id`": an `id` is not looked at. A session of 1.1 with subscriptions "a" and
-- "b", of mode client, and four deliveries.
abbrev of_1_1 : Start
of_1_1 = making 0 0 both_versions (accepted [])

abbrev four_given : List Answered
four_given =
    frame_of CONNECT (entry "accept-version" "1.1" ∷ entry "host" "h" ∷ []) 1 ⇒ ok ∷
    subscribe_as "client" "a" 1 ⇒ ok ∷
    subscribe_as "client" "b" 1 ⇒ ok ∷
    given_to "a" "m" ∷
    given_to "b" "n" ∷
    given_to "a" "o" ∷
    given_to "b" "p" ∷
    []

abbrev named_by : String → String → List Entry
named_by id label = entry "subscription" id ∷ entry "message-id" label ∷ []

abbrev settled_1_1 : Command → List Entry → List Delivery → Counts → Life
settled_1_1 c es ds counts = record {
  start = of_1_1;
  events = four_given ++ (frame_of c es 2 ⇒ ok ∷ []);
  left = holding (speaking both_versions 11 open_phase 2 ("a" ∷ "b" ∷ []) []) ds counts;
  asked = [];
}

abbrev unsettled_1_1 : Command → List Entry → ℕ → Life
unsettled_1_1 c es k = record {
  start = of_1_1;
  events = four_given ++ (frame_of c es 2 ⇒ refused k ∷ []);
  left = holding (speaking both_versions 11 closed_phase 1 ("a" ∷ "b" ∷ []) []) [] (counted 4 0 0 4 0);
  asked = [];
}

unfoldable pub named_in_1_1 : List Life
named_in_1_1 =
    settled_1_1 ACK (named_by "a" "o") (delivery "b" client_mode "n" ∷ delivery "b" client_mode "p" ∷ []) (counted 4 2 0 0 2) ∷
    settled_1_1 NACK (named_by "b" "n") (delivery "a" client_mode "m" ∷ delivery "a" client_mode "o" ∷ delivery "b" client_mode "p" ∷ [])
    (counted 4 0 1 0 3) ∷
    settled_1_1 ACK (entry "id" "n" ∷ named_by "a" "m") (delivery "b" client_mode "n" ∷ delivery "a" client_mode "o" ∷ delivery "b" client_mode "p" ∷ [])
    (counted 4 1 0 0 3) ∷
    unsettled_1_1 ACK (entry "id" "m" ∷ []) 43 ∷
    unsettled_1_1 ACK (entry "subscription" "a" ∷ entry "id" "m" ∷ []) 43 ∷
    unsettled_1_1 NACK (entry "message-id" "m" ∷ entry "id" "m" ∷ []) 43 ∷
    []

-- "44 and 46 also check that subscription, 46 before 60; 60 also for another subscription's label"
unfoldable pub unnamed_in_1_1 : List Life
unnamed_in_1_1 =
    unsettled_1_1 ACK (named_by "" "m") 44 ∷
    unsettled_1_1 NACK (named_by longer "m") 44 ∷
    unsettled_1_1 ACK (entry "transaction" "" ∷ named_by "x" "m") 44 ∷
    unsettled_1_1 ACK (named_by "x" "m") 46 ∷
    unsettled_1_1 NACK (named_by "x" "y") 46 ∷
    unsettled_1_1 ACK (entry "transaction" "t" ∷ named_by "a" "y") 46 ∷
    unsettled_1_1 ACK (named_by "a" "y") 60 ∷
    unsettled_1_1 ACK (named_by "a" "n") 60 ∷
    unsettled_1_1 NACK (named_by "b" "o") 60 ∷
    unsettled_1_1 ACK (named_by "b" "") 60 ∷
    []

-- ---- The whole table

abbrev pub lives : List (List Life)
lives =
    intervals ∷
    clocks ∷
    makings ∷
    versions_counted ∷
    versions_malformed ∷
    heart_beats_malformed ∷
    missing_headers ∷
    accepted_frames ∷
    repeated_headers ∷
    server_commands ∷
    out_of_turn ∷
    bad_lengths ∷
    live_ids ∷
    full_stores ∷
    kept_and_closed ∷
    record_ids ∷
    record_numbers ∷
    modes_asked ∷
    settled_deliveries ∷
    not_pending ∷
    recordings ∷
    all_pending ∷
    dropped_deliveries ∷
    record_modes ∷
    record_labels ∷
    record_places ∷
    record_versions ∷
    versions_chosen ∷
    named_in_1_1 ∷
    unnamed_in_1_1 ∷
    []

-- ---- The clock, and what no life shows while no server offers 1.0

pub record FlagsAndClock : Type 0 where
  -- "Then 4,294,967,290, now 10: 16 passed."
  pub rolled_over : passed 10 4294967290 ≡ 16
  pub not_rolled_over : passed 4294967290 10 ≡ 4294967280
  -- "The versions both sides have are kept as three yes-or-no marks"
  pub versions_1_0 : versions (octets_of "1.0") ≡ some (true ∷ false ∷ false ∷ [])
  pub versions_1_1 : versions (octets_of "1.1,9.9") ≡ some (false ∷ true ∷ false ∷ [])
  pub versions_1_2 : versions (octets_of "1.2,1.0") ≡ some (true ∷ false ∷ true ∷ [])
  pub both_1_0 : shared_flags (true ∷ true ∷ false ∷ []) (true ∷ false ∷ true ∷ []) ≡ true ∷ false ∷ false ∷ []
  pub both_1_1 : shared_flags (false ∷ true ∷ true ∷ []) (true ∷ true ∷ false ∷ []) ≡ false ∷ true ∷ false ∷ []
  -- "the highest is chosen"
  pub highest_1_0 : highest (true ∷ false ∷ false ∷ []) ≡ 10
  pub highest_1_1 : highest (true ∷ true ∷ false ∷ []) ≡ 11
  pub highest_1_2 : highest (true ∷ true ∷ true ∷ []) ≡ 12
  -- "all up to the end of the opening frame is read by 1.2 rules, the rest by the version chosen" (C-18)
  pub chosen_none : chosen (false ∷ false ∷ false ∷ []) ≡ V12
  pub chosen_1_1 : chosen (false ∷ true ∷ false ∷ []) ≡ V11
  pub chosen_1_2 : chosen (false ∷ false ∷ true ∷ []) ≡ V12
  pub chosen_both : chosen (false ∷ true ∷ true ∷ []) ≡ V12

-- ---- The question for a pending delivery, of a session with one of "a", in client mode, and then one of "c", in client-individual mode

abbrev told_as : ℕ → ℕ → ℕ → ℕ → ℕ → Result (Maybe Told) InvalidRecord
told_as id id_length mode label label_length = Ok (Some (record {
  subscription = id ∷ replicate 31 0;
  subscription_len = id_length;
  mode = mode;
  label = label ∷ replicate 31 0;
  label_len = label_length;
}))

pub record PendingAsked : Type 0 where
  -- oldest first; "a" is 97 and "c" 99
  pub oldest : pending_answer (three_with (two_deliveries 7 8)) 0 ≡ told_as 97 1 1 7 1
  pub youngest : pending_answer (three_with (two_deliveries 7 8)) 1 ≡ told_as 99 1 2 8 1
  pub no_more : pending_answer (three_with (two_deliveries 7 8)) 2 ≡ Ok None
  -- 38
  pub of_invalid : pending_answer (three_with (two_deliveries 7 7)) 0 ≡ Err (record {})
