-- The examples hold. Assumes nothing.
--     lives_hold               every row's claim
--     flags_and_clock_hold     the clock, and the flags that no row shows
--     pending_asked_hold       the question for a pending delivery
use Rattle.std.proofs.Common.{◌≡◌, ℕ, false, List, [], ◌∷◌, refl, ap}
use Rattle.headers.specs.Rows.{All}
use Rattle.headers.specs.Block.{entries, listed, image, entries_within, at_record}
use Rattle.headers.specs.Numbers.{evaluate, numeral, amount}
use Rattle.headers.specs.Answers.{refused, is_block}
use Rattle.headers.specs.Parts.{split}
use Rattle.frames.specs.Grammar.{number, SEND}
use Rattle.stores.specs.Searches.{first_from, replaced}
use Rattle.sessions.specs.Stores.{ids, laid, clean, distinct, valid_store}
use Rattle.sessions.specs.Deliveries.{client_mode, deliveries_of, valid_modes, valid_pending}
use Rattle.sessions.specs.Values.{is_item, versions, heart_beats}
use Rattle.sessions.specs.Sessions.{heard, is_valid}
use Rattle.sessions.specs.Calls.{made, making_answer, frame_answer, frame_session, heart_beat_answer, heart_beat_session, timed_out_answer}
use Rattle.sessions.specs.Calls.{left_by, effect, deliver_answer, deliver_session}
use Rattle.sessions.specs.Accounts.{fate, accounts}
use Rattle.sessions.specs.Held.{pending_answer}
use Rattle.sessions.specs.declared.session.Session.{Session}
use Rattle.sessions.specs.Examples.{Holds, lives, entry, invalid, with_place, FlagsAndClock, PendingAsked}
use Rattle.sessions.specs.Examples.{record_versions, versions_chosen, named_in_1_1, unnamed_in_1_1}
use Rattle.sessions.specs.Examples.{intervals, clocks, makings, versions_counted, versions_malformed, heart_beats_malformed}
use Rattle.sessions.specs.Examples.{missing_headers, accepted_frames, repeated_headers, server_commands, out_of_turn, bad_lengths}
use Rattle.sessions.specs.Examples.{live_ids, full_stores, kept_and_closed, record_ids, record_numbers, modes_asked, settled_deliveries}
use Rattle.sessions.specs.Examples.{not_pending, recordings, all_pending, dropped_deliveries, record_modes, record_labels, record_places}

-- the definitions that a row is computed by: the calls, header blocks and their values, stores
unfoldable calls : Unit {0}
unfolding made making_answer frame_answer frame_session heart_beat_answer heart_beat_session timed_out_answer deliver_answer deliver_session is_valid fate
    accounts
calls = tt

unfoldable blocks : Unit {0}
unfolding is_block entries entries_within at_record evaluate numeral amount versions heart_beats split is_item
blocks = tt

unfoldable stores : Unit {0}
unfolding valid_store ids clean distinct laid replaced first_from deliveries_of valid_modes valid_pending
stores = tt

-- ---- An invalid record, by the test alone: every call on it is refused with 38, and leaves it as it is

module _ (s : Session) (h : is_valid s ≡ false) where
  beat_answer : heart_beat_answer s ≡ refused 38
  unfolding heart_beat_answer
  beat_answer = rw h

  frame_38 : (n : ℕ) (block : List ℕ) → frame_answer s n block ≡ refused 38
  unfolding frame_answer
  frame_38 n block = rw h

  asked_38 : timed_out_answer s 1 ≡ refused 38
  unfolding timed_out_answer
  asked_38 = rw h

  beat_left : heart_beat_session s 1 ≡ s
  unfolding heart_beat_session
  beat_left = ap (λ A. left_by A s (heard s 1)) beat_answer

  frame_left : (n : ℕ) (block : List ℕ) → frame_session s n block 1 ≡ s
  unfolding frame_session
  frame_left n block = ap (λ A. left_by A s (heard (effect s n (listed (entries block))) 1)) (frame_38 n block)

  invalid_holds : Holds (invalid s)
  unfolding fate accounts
  invalid_holds =
      let block = image (entry "destination" "/d" ∷ []) in
      rw (beat_left, frame_left 0 [], frame_left (number SEND) block, beat_answer, frame_38 0 [], frame_38 (number SEND) block, asked_38)

-- ---- A refl for each row

intervals_hold : All Holds intervals
unfolding intervals calls blocks stores
intervals_hold = (refl, (refl, (refl, (refl, (refl, (refl, (refl, (refl, (refl, tt)))))))))

clocks_hold : All Holds clocks
unfolding clocks calls blocks stores
clocks_hold = (refl, (refl, (refl, (refl, (refl, tt)))))

makings_hold : All Holds makings
unfolding makings calls blocks stores
makings_hold = (refl, (refl, (refl, (refl, (refl, (refl, (refl, (refl, (refl, (refl, tt))))))))))

versions_counted_hold : All Holds versions_counted
unfolding versions_counted calls blocks stores
versions_counted_hold = (refl, (refl, (refl, (refl, (refl, (refl, (refl, (refl, (refl, tt)))))))))

versions_malformed_hold : All Holds versions_malformed
unfolding versions_malformed calls blocks stores
versions_malformed_hold = (refl, (refl, (refl, (refl, (refl, (refl, (refl, (refl, (refl, tt)))))))))

heart_beats_malformed_hold : All Holds heart_beats_malformed
unfolding heart_beats_malformed calls blocks stores
heart_beats_malformed_hold = (refl, (refl, (refl, (refl, (refl, (refl, (refl, (refl, (refl, (refl, (refl, tt)))))))))))

missing_headers_hold : All Holds missing_headers
unfolding missing_headers calls blocks stores
missing_headers_hold = (refl, (refl, (refl, (refl, (refl, (refl, (refl, (refl, (refl, (refl, (refl, (refl, (refl, tt)))))))))))))

accepted_frames_hold : All Holds accepted_frames
unfolding accepted_frames calls blocks stores
accepted_frames_hold = (refl, (refl, (refl, (refl, (refl, tt)))))

repeated_headers_hold : All Holds repeated_headers
unfolding repeated_headers calls blocks stores
repeated_headers_hold = (refl, tt)

server_commands_hold : All Holds server_commands
unfolding server_commands calls blocks stores
server_commands_hold = (refl, (refl, (refl, (refl, (refl, (refl, (refl, (refl, tt))))))))

out_of_turn_hold : All Holds out_of_turn
unfolding out_of_turn calls blocks stores
out_of_turn_hold = (refl, (refl, (refl, (refl, (refl, (refl, (refl, (refl, (refl, (refl, (refl, tt)))))))))))

bad_lengths_hold : All Holds bad_lengths
unfolding bad_lengths calls blocks stores
bad_lengths_hold = (refl, (refl, (refl, (refl, (refl, (refl, (refl, (refl, (refl, (refl, (refl, (refl, tt))))))))))))

live_ids_hold : All Holds live_ids
unfolding live_ids calls blocks stores
live_ids_hold = (refl, (refl, (refl, (refl, (refl, (refl, (refl, (refl, (refl, (refl, (refl, (refl, tt))))))))))))

full_stores_hold : All Holds full_stores
unfolding full_stores calls blocks stores
full_stores_hold = (refl, (refl, (refl, (refl, (refl, (refl, tt))))))

kept_and_closed_hold : All Holds kept_and_closed
unfolding kept_and_closed calls blocks stores
kept_and_closed_hold = (refl, (refl, (refl, tt)))

record_ids_hold : All Holds record_ids
unfolding record_ids calls blocks stores
record_ids_hold = (refl, (refl, (refl, (refl, (refl, (refl, (refl, (refl, (refl, tt)))))))))

record_numbers_hold : All Holds record_numbers
unfolding record_numbers calls blocks stores
record_numbers_hold = (refl, (refl, (refl, (refl, (refl, (refl, (refl, (refl, (refl, (refl, (refl, (refl, (refl, (refl, tt))))))))))))))

modes_asked_hold : All Holds modes_asked
unfolding modes_asked calls blocks stores
modes_asked_hold = (refl, (refl, (refl, (refl, (refl, (refl, (refl, (refl, (refl, (refl, (refl, tt)))))))))))

settled_deliveries_hold : All Holds settled_deliveries
unfolding settled_deliveries calls blocks stores
settled_deliveries_hold = (refl, (refl, (refl, (refl, (refl, (refl, tt))))))

not_pending_hold : All Holds not_pending
unfolding not_pending calls blocks stores
not_pending_hold = (refl, (refl, (refl, (refl, (refl, (refl, (refl, (refl, (refl, (refl, tt))))))))))

recordings_hold : All Holds recordings
unfolding recordings calls blocks stores
recordings_hold = (refl, (refl, (refl, (refl, (refl, (refl, (refl, (refl, (refl, (refl, (refl, (refl, (refl, tt)))))))))))))

all_pending_hold : All Holds all_pending
unfolding all_pending calls blocks stores
all_pending_hold = (refl, (refl, (refl, tt)))

dropped_deliveries_hold : All Holds dropped_deliveries
unfolding dropped_deliveries calls blocks stores
dropped_deliveries_hold = (refl, (refl, (refl, (refl, tt))))

unknown_mode : is_valid (with_place 1 1 3) ≡ false
unfolding calls stores
unknown_mode = refl

mode_of_none : is_valid (with_place 0 0 client_mode) ≡ false
unfolding calls stores
mode_of_none = refl

record_modes_hold : All Holds record_modes
unfolding record_modes calls blocks stores
record_modes_hold = (refl, (invalid_holds (with_place 1 1 3) unknown_mode, (invalid_holds (with_place 0 0 client_mode) mode_of_none, (refl, tt))))

record_labels_hold : All Holds record_labels
unfolding record_labels calls blocks stores
record_labels_hold = (refl, (refl, (refl, (refl, (refl, (refl, (refl, tt)))))))

record_places_hold : All Holds record_places
unfolding record_places calls blocks stores
record_places_hold = (refl, (refl, (refl, (refl, (refl, (refl, (refl, tt)))))))

record_versions_hold : All Holds record_versions
unfolding record_versions calls blocks stores
record_versions_hold = (refl, (refl, (refl, (refl, (refl, (refl, (refl, (refl, (refl, tt)))))))))

versions_chosen_hold : All Holds versions_chosen
unfolding versions_chosen calls blocks stores
versions_chosen_hold = (refl, (refl, (refl, (refl, (refl, (refl, (refl, (refl, (refl, tt)))))))))

named_in_1_1_hold : All Holds named_in_1_1
unfolding named_in_1_1 calls blocks stores
named_in_1_1_hold = (refl, (refl, (refl, (refl, (refl, (refl, tt))))))

unnamed_in_1_1_hold : All Holds unnamed_in_1_1
unfolding unnamed_in_1_1 calls blocks stores
unnamed_in_1_1_hold = (refl, (refl, (refl, (refl, (refl, (refl, (refl, (refl, (refl, (refl, tt))))))))))

-- ---- The whole table

-- a group of rows holds, and so do those after it
infixr 5 ◌also◌
abbrev ◌also◌ : {A B : Type 0} → A → B → A × B
a also b = (a, b)

pub lives_hold : All (All Holds) lives
lives_hold =
    intervals_hold also
    clocks_hold also
    makings_hold also
    versions_counted_hold also
    versions_malformed_hold also
    heart_beats_malformed_hold also
    missing_headers_hold also
    accepted_frames_hold also
    repeated_headers_hold also
    server_commands_hold also
    out_of_turn_hold also
    bad_lengths_hold also
    live_ids_hold also
    full_stores_hold also
    kept_and_closed_hold also
    record_ids_hold also
    record_numbers_hold also
    modes_asked_hold also
    settled_deliveries_hold also
    not_pending_hold also
    recordings_hold also
    all_pending_hold also
    dropped_deliveries_hold also
    record_modes_hold also
    record_labels_hold also
    record_places_hold also
    record_versions_hold also
    versions_chosen_hold also
    named_in_1_1_hold also
    unnamed_in_1_1_hold also
    tt

pub flags_and_clock_hold : FlagsAndClock
unfolding blocks
flags_and_clock_hold =
    record {
      rolled_over = refl;
      not_rolled_over = refl;
      versions_1_0 = refl;
      versions_1_1 = refl;
      versions_1_2 = refl;
      both_1_0 = refl;
      both_1_1 = refl;
      highest_1_0 = refl;
      highest_1_1 = refl;
      highest_1_2 = refl;
      chosen_none = refl;
      chosen_1_1 = refl;
      chosen_1_2 = refl;
      chosen_both = refl;
    }

pub pending_asked_hold : PendingAsked
unfolding pending_answer calls stores
pending_asked_hold = record { oldest = refl; youngest = refl; no_more = refl; of_invalid = refl }
