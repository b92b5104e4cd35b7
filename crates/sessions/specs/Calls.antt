-- What each call of a session answers, and the session that it leaves (document 01, "One client's session"): the checks as one
-- list in their order, and the effect of what is accepted. Assumes nothing.
use Rattle.std.specs.Prelude.{ℕ, Bool, true, false, cond, not, ◌&&◌, ◌||◌, List, [], ◌∷◌, ◌++◌, replicate, ◌==◌, nat_le, nat_lt}
use Rattle.std.proofs.Math.Option.{Option, none, some}
use Rattle.headers.specs.Rows.{empty, any, same, first_of}
use Rattle.headers.specs.Block.{Entry, entries, listed, later}
use Rattle.headers.specs.Answers.{Answer, accepted, refused, Check, settle, is_block}
use Rattle.frames.specs.Grammar.{DISCONNECT, SUBSCRIBE, UNSUBSCRIBE}
use Rattle.frames.specs.declared.version.Version.{Version}
use Rattle.frames.specs.declared.version.Version.TheVariants.{V11, V12}
use Rattle.stores.specs.Searches.{first_from}
use Rattle.sessions.specs.Stores.{live, used, bad_length, live_again, not_live, no_room}
use Rattle.sessions.specs.Deliveries.{deliveries_max, label_max, auto_mode, mode_of, Pending, pending, labelled, is_pending, settle_label, with_mode, dropped, record_label}
use Rattle.sessions.specs.Values.{HeartBeats, versions, heart_beats, heart_beat_max}
use Rattle.sessions.specs.Opening.{shared_flags, none_shared, may_offer, interval, overdue}
use Rattle.sessions.specs.Headers.{name_of, value_of, has, is_some, is, unknown, from_server, opens, needed_by, namings_by, IdUse, id_uses, changed_id}
use Rattle.sessions.specs.Headers.{mode_asked, settles, label_named}
use Rattle.sessions.specs.Sessions.{id_max, fresh_phase, open_phase, closed_phase, in_phase, fresh, ids_of, with_ids, with_deliveries, closed, opened}
use Rattle.sessions.specs.Sessions.{with_modes, heard, spoken, is_valid}
use Rattle.sessions.specs.Answers.{bit, acceptance_says}
use Rattle.sessions.specs.declared.command.Header.{Header}
use Rattle.sessions.specs.declared.command.Header.TheVariants.{AcceptVersion, HeartBeat, Destination, Id, Transaction, Receipt, Subscription}
use Rattle.sessions.specs.declared.command.Kind.TheVariants.{Subscriptions}
use Rattle.sessions.specs.declared.delivery.Deliveries.{Deliveries}
use Rattle.sessions.specs.declared.session.Session.{Session}
use Rattle.sessions.specs.declared.session.Acceptance.{Acceptance}

-- "38 and 39 leave the session unchanged; every other number closes it and changes nothing else."
abbrev pub left_by : Answer → Session → Session → Session
left_by (accepted values) before after = after
left_by (refused k) before after = cond (k == 38 || k == 39) before (closed before)

-- Making a session: "with offers above 3,600,000 .. is refused with 34 and gives a closed session whose other fields are 0"; "34 where
-- 1.0 is marked, or neither 1.1 nor 1.2" (C-18).
abbrev pub making_checks : ℕ → ℕ → List Bool → List Check
making_checks sends wants offered =
    record { fails = nat_lt heart_beat_max sends || (nat_lt heart_beat_max wants || not (may_offer offered)); number = 34 } ∷ []

unfoldable pub making_answer : ℕ → ℕ → List Bool → Answer
making_answer sends wants offered = settle (making_checks sends wants offered) []

abbrev pub made_by : Answer → ℕ → ℕ → List Bool → Session
made_by (accepted values) sends wants offered = fresh sends wants offered
made_by (refused k) sends wants offered = closed (fresh 0 0 (replicate 3 false))

unfoldable pub made : ℕ → ℕ → List Bool → Session
made sends wants offered = made_by (making_answer sends wants offered) sends wants offered

-- ---- the opening frame

-- the versions that the client has, none where its accept-version is malformed or missing
abbrev pub versions_of : Option (List ℕ) → Option (List Bool)
versions_of none = none
versions_of (some v) = versions v

-- those that both sides have
abbrev pub shared_by : Session → Option (List Bool) → List Bool
shared_by s none = replicate 3 false
shared_by s (some client) = shared_flags client s.offers.versions

-- the client's heart-beats: "absent means 0,0"
abbrev pub heart_beats_of : Option (List ℕ) → Option HeartBeats
heart_beats_of none = some (record { sends = 0; wants = 0 })
heart_beats_of (some v) = heart_beats v

abbrev pub client_versions : List Entry → Option (List Bool)
client_versions es = versions_of (value_of AcceptVersion es)

abbrev pub client_heart_beats : List Entry → Option HeartBeats
client_heart_beats es = heart_beats_of (value_of HeartBeat es)

-- "Client to server: 0 if the client's first or the server's second is 0, else the larger. Server to client: the server's first and
-- the client's second likewise."
abbrev pub opened_by : Session → List Bool → Option HeartBeats → Session
opened_by s shared none = s
opened_by s shared (some b) = opened s shared (interval b.sends s.offers.wants) (interval s.offers.sends b.wants)

abbrev pub opening : Session → List Entry → Session
opening s es = opened_by s (shared_by s (client_versions es)) (client_heart_beats es)

-- ---- the ids that a frame names

abbrev pub uses_of : Session → ℕ → List Entry → List IdUse
uses_of s n es = id_uses (namings_by (spoken s) n) es

-- ---- a frame

-- "42 not open, or a second CONNECT/STOMP"
abbrev pub out_of_phase : Session → ℕ → Bool
out_of_phase s n = cond (opens n) (not (in_phase fresh_phase s)) (not (in_phase open_phase s))

-- 44 to 47, each over all ids that a frame names, before the next number
abbrev pub id_checks : Session → List IdUse → List Check
id_checks s us =
    record { fails = any (λ u. bad_length id_max u.id) us; number = 44 } ∷
    record { fails = any (λ u. live_again u.usage u.id (ids_of u.kind s)) us; number = 45 } ∷
    record { fails = any (λ u. not_live u.usage u.id (ids_of u.kind s)) us; number = 46 } ∷
    record { fails = any (λ u. no_room u.usage (ids_of u.kind s)) us; number = 47 } ∷
    []

-- ---- the delivery that a frame names or the mode that it asks for

-- the place of a subscription's id, and the first free one
abbrev pub place_named : Session → Option (List ℕ) → Option ℕ
place_named s none = none
place_named s (some id) = first_from (λ x. same x id) 0 (ids_of Subscriptions s)

abbrev pub free_place : Session → Option ℕ
free_place s = first_from empty 0 (ids_of Subscriptions s)

-- A delivery that an ACK or NACK may name: in 1.2 any, in 1.1 one of the subscription that it names, which has this place.
abbrev pub in_place : Option ℕ → Pending → Bool
in_place none p = false
in_place (some k) p = p.place == k

abbrev pub may_name : Version → Option ℕ → Pending → Bool
may_name V11 place p = in_place place p
may_name V12 place p = true

abbrev pub may_be : (Pending → Bool) → Option Pending → Bool
may_be may none = false
may_be may (some p) = may p

abbrev pub is_no_label : (Pending → Bool) → Option (List ℕ) → Deliveries → Bool
is_no_label may none d = false
is_no_label may (some l) d = not (may_be may (first_of (labelled l) (pending d)))

-- "49 unknown mode, after 47; 60 the id of ACK or NACK is no outstanding label, after 46", "60 also for another subscription's label"
-- (C-18)
abbrev pub delivery_checks : Session → ℕ → List Entry → List Check
delivery_checks s n es =
    record { fails = is SUBSCRIBE n && not (is_some (mode_asked es)); number = 49 } ∷
    record {
      fails = settles n && is_no_label (may_name (spoken s) (place_named s (value_of Subscription es))) (label_named (spoken s) es) s.deliveries;
      number = 60;
    } ∷
    []

-- "43 header missing"
abbrev pub lacks_any : List Header → List Entry → Bool
lacks_any hs es = any (λ h. not (has h es)) hs

abbrev pub lacks_needed : Session → ℕ → List Entry → Bool
lacks_needed s n es = lacks_any (needed_by (spoken s) n) es

-- "Checks in order", group by group: 38 an invalid record (document 01's unsound one); 39 an unknown command or malformed header block
-- (the sheet of document 01)
abbrev pub record_checks : Session → ℕ → List ℕ → List Check
record_checks s n block =
    record { fails = not (is_valid s); number = 38 } ∷
    record { fails = unknown n || not (is_block block); number = 39 } ∷
    []

-- "40 closed; 41 a server's command; 42 not open, or a second CONNECT/STOMP"
abbrev pub phase_checks : Session → ℕ → List Check
phase_checks s n =
    record { fails = in_phase closed_phase s; number = 40 } ∷
    record { fails = from_server n; number = 41 } ∷
    record { fails = out_of_phase s n; number = 42 } ∷
    []

-- "43 header missing"
abbrev pub header_checks : Session → ℕ → List Entry → List Check
header_checks s n es = record { fails = lacks_needed s n es; number = 43 } ∷ []

-- "at CONNECT/STOMP 31, 32, 33 after 43": 31 accept-version malformed, 32 no version shared, 33 heart-beat malformed
abbrev pub opening_checks : Session → ℕ → List Entry → List Check
opening_checks s n es =
    record { fails = opens n && not (is_some (client_versions es)); number = 31 } ∷
    record { fails = opens n && none_shared (shared_by s (client_versions es)); number = 32 } ∷
    record { fails = opens n && not (is_some (client_heart_beats es)); number = 33 } ∷
    []

-- those that depend on the entries
abbrev pub entry_checks : Session → ℕ → List Entry → List Check
entry_checks s n es = header_checks s n es ++ (opening_checks s n es ++ (id_checks s (uses_of s n es) ++ delivery_checks s n es))

abbrev pub frame_checks : Session → ℕ → List ℕ → List Check
frame_checks s n block = record_checks s n block ++ (phase_checks s n ++ entry_checks s n (listed (entries block)))

-- "A receipt is owed exactly if the frame is accepted, the header is there and the command is neither CONNECT nor STOMP"
abbrev pub owes_receipt : ℕ → List Entry → Bool
owes_receipt n es = not (opens n) && has Receipt es

-- What an accepted frame is answered with: the receipt, and "how many later entries of that name follow", "for destination, id and
-- transaction in each accepted answer" (document 02, C-19). "A missing name, or a beat, reports 0."
abbrev pub acceptance_of : ℕ → List Entry → Acceptance
acceptance_of n es = record {
  receipt = owes_receipt n es;
  later_destinations = later (name_of Destination) es;
  later_ids = later (name_of Id) es;
  later_transactions = later (name_of Transaction) es;
}

abbrev pub no_receipt : Acceptance
no_receipt = record { receipt = false; later_destinations = 0; later_ids = 0; later_transactions = 0 }

unfoldable pub frame_answer : Session → ℕ → List ℕ → Answer
frame_answer s n block = settle (frame_checks s n block) (acceptance_says (acceptance_of n (listed (entries block))))

-- the session with an id entered or freed
abbrev pub id_effect : Session → Option IdUse → Session
id_effect s none = s
id_effect s (some u) = with_ids u.kind s (used u.usage u.id (ids_of u.kind s))

abbrev pub mode_or_auto : Option ℕ → ℕ
mode_or_auto none = auto_mode
mode_or_auto (some m) = m

-- the modes after it: SUBSCRIBE sets that of the place that it takes, and a place that UNSUBSCRIBE frees has auto
abbrev pub modes_effect : Session → ℕ → List Entry → List ℕ
modes_effect s n es =
    cond (is SUBSCRIBE n) (with_mode (free_place s) (mode_or_auto (mode_asked es)) s.subscriptions.modes)
    (cond (is UNSUBSCRIBE n) (with_mode (place_named s (value_of Id es)) auto_mode s.subscriptions.modes) s.subscriptions.modes)

-- the deliveries after it: UNSUBSCRIBE drops those of its place, ACK and NACK settle
abbrev pub settle_named : List ℕ → Option (List ℕ) → Deliveries → Deliveries
settle_named ms none d = d
settle_named ms (some l) d = settle_label ms l d

abbrev pub delivery_effect : Session → ℕ → List Entry → Deliveries
delivery_effect s n es =
    cond (is UNSUBSCRIBE n) (dropped (place_named s (value_of Id es)) s.deliveries)
    (cond (settles n) (settle_named s.subscriptions.modes (label_named (spoken s) es) s.deliveries) s.deliveries)

-- all that a frame changes that may name an id or a delivery
abbrev pub named_effect : Session → ℕ → List Entry → Session
named_effect s n es = with_deliveries (with_modes (id_effect s (changed_id (uses_of s n es))) (modes_effect s n es)) (delivery_effect s n es)

-- CONNECT and STOMP open; "DISCONNECT closes, accepted"; the others enter an id, free one, or change none
abbrev pub effect : Session → ℕ → List Entry → Session
effect s n es =
    cond (opens n) (opening s es)
    (cond (is DISCONNECT n) (closed s) (named_effect s n es))

-- "Accepted frames and beats set last-heard."
unfoldable pub frame_session : Session → ℕ → List ℕ → ℕ → Session
frame_session s n block time = left_by (frame_answer s n block) s (heard (effect s n (listed (entries block))) time)

-- ---- a heart-beat: "A beat gets 38 or 40 likewise."

abbrev pub heart_beat_checks : Session → List Check
heart_beat_checks s =
    record { fails = not (is_valid s); number = 38 } ∷
    record { fails = in_phase closed_phase s; number = 40 } ∷
    []

unfoldable pub heart_beat_answer : Session → Answer
heart_beat_answer s = settle (heart_beat_checks s) (acceptance_says no_receipt)

unfoldable pub heart_beat_session : Session → ℕ → Session
heart_beat_session s time = left_by (heart_beat_answer s) s (heard s time)

-- ---- "The peer is dead exactly if the session is open, the client-to-server interval is not 0 and more than twice that interval has
-- passed since last-heard." Dead is timed out here. Of an invalid record (document 01's unsound one) the answer is 38.

abbrev pub is_timed_out : Session → ℕ → Bool
is_timed_out s time = in_phase open_phase s && overdue s.agreed.inbound time s.last_heard

unfoldable pub timed_out_answer : Session → ℕ → Answer
timed_out_answer s time = settle (record { fails = not (is_valid s); number = 38 } ∷ []) (bit (is_timed_out s time) ∷ [])

-- ---- recording a delivery: "in order: 38; 63 session not open; 64 subscription not live; 62 label empty, too long or equal to an
-- outstanding one; 61 all 64 outstanding, never in auto". "A call that records a delivery and is refused leaves the session as it was."

abbrev pub is_auto : Session → Option ℕ → Bool
is_auto s none = true
is_auto s (some k) = mode_of s.subscriptions.modes k == auto_mode

abbrev pub deliver_checks : Session → List ℕ → List ℕ → List Check
deliver_checks s id label =
    record { fails = not (is_valid s); number = 38 } ∷
    record { fails = not (in_phase open_phase s); number = 63 } ∷
    record { fails = empty id || not (live id (ids_of Subscriptions s)); number = 64 } ∷
    record { fails = bad_length label_max label || is_pending label s.deliveries; number = 62 } ∷
    record { fails = not (is_auto s (place_named s (some id))) && nat_le deliveries_max s.deliveries.count; number = 61 } ∷
    []

unfoldable pub deliver_answer : Session → List ℕ → List ℕ → Answer
deliver_answer s id label = settle (deliver_checks s id label) []

abbrev pub recorded_by : Answer → Session → Session → Session
recorded_by (accepted values) before after = after
recorded_by (refused k) before after = before

-- the session with the delivery recorded
abbrev pub recording : Session → List ℕ → List ℕ → Session
recording s id label = with_deliveries s (record_label s.subscriptions.modes (place_named s (some id)) label s.deliveries)

unfoldable pub deliver_session : Session → List ℕ → List ℕ → Session
deliver_session s id label = recorded_by (deliver_answer s id label) s (recording s id label)
