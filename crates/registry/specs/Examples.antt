-- Histories of an empty registry, call by call with each answer; records that are valid and that are not; the number that C gets for asking;
-- and runs that stay opened, with what the rule on them compares. That all rows hold is proofs/Examples.antt. Assumes nothing.
use Rattle.std.specs.Prelude.{◌≡◌, true, List, [], ◌∷◌, map, ℕ, replicate, set}
use Rattle.std.proofs.Math.Option.{Option, none, some}
use Prim.Native.String.{String}
use Rattle.headers.specs.Rows.{octets_of}
use Rattle.headers.specs.Answers.{Answer, accepted, refused}
use Rattle.registry.specs.Registry.{Port, Run}
use Rattle.registry.specs.Calls.{Call, open_run, close_run, publish, ask, end_session}
use Rattle.registry.specs.Records.{run_record, registry_record, empty_record, answer_to, text_start, octets_of_run}
use Rattle.registry.specs.Answers.{packed_ask}
use Rattle.registry.specs.Histories.{are_calls, after, Event, events, concerning, answers_for, at_opening, Stays}

-- ---- histories

pub record Example : Type 0 where
  pub label : String
  pub history : List Event

abbrev pub calls_of : List Event → List Call
calls_of es = map (λ e. e.call) es

-- its calls, made one after another from an empty registry, give its answers
pub record Holds (e : Example) : Type 0 where
  pub calls : are_calls (calls_of e.history) ≡ true
  pub answers : events empty_record (calls_of e.history) ≡ e.history

-- a call that is accepted, one that is refused, and asking that gives a text
abbrev done : Call → Event
done c = record { call = c; answer = accepted [] }

abbrev not_done : Call → ℕ → Event
not_done c n = record { call = c; answer = refused n }

abbrev gives : Call → String → Event
gives c text = record { call = c; answer = accepted (octets_of text) }

-- calls with their texts as strings
abbrev opens : String → Call
opens l = open_run (octets_of l)

abbrev closes : String → Call
closes l = close_run (octets_of l)

abbrev asks : String → String → Call
asks l d = ask (octets_of l) (octets_of d)

abbrev puts : String → String → String → ℕ → Call
puts l d t s = publish (octets_of l) (octets_of d) (octets_of t) s

-- texts of n octets
abbrev long : ℕ → List ℕ
long n = replicate n 97

-- yesterday's ocean run is still open when today's is asked for its port
abbrev wrong_port : List Event
wrong_port =
    done (opens "ocean-0611") ∷
    done (puts "ocean-0611" "ocean" "node7:40111" 1) ∷
    done (opens "ocean-0612") ∷
    done (asks "ocean-0612" "ocean") ∷
    gives (asks "ocean-0611" "ocean") "node7:40111" ∷
    done (puts "ocean-0612" "ocean" "node9:40200" 2) ∷
    gives (asks "ocean-0612" "ocean") "node9:40200" ∷
    gives (asks "ocean-0611" "ocean") "node7:40111" ∷
    done (end_session 2) ∷
    done (asks "ocean-0612" "ocean") ∷
    done (closes "ocean-0611") ∷
    not_done (asks "ocean-0611" "ocean") 91 ∷
    done (asks "ocean-0612" "ocean") ∷
    []

abbrev again : List Event
again =
    done (opens "r") ∷
    done (puts "r" "ice" "a:1" 5) ∷
    done (puts "r" "ice" "a:2" 5) ∷
    gives (asks "r" "ice") "a:2" ∷
    not_done (puts "r" "ice" "b:1" 6) 92 ∷
    gives (asks "r" "ice") "a:2" ∷
    done (end_session 5) ∷
    done (puts "r" "ice" "b:1" 6) ∷
    gives (asks "r" "ice") "b:1" ∷
    []

abbrev session_zero : List Event
session_zero =
    done (opens "r") ∷
    done (end_session 0) ∷
    done (puts "r" "ice" "a:1" 0) ∷
    done (puts "r" "sea" "a:2" 18446744073709551615) ∷
    not_done (puts "r" "ice" "b:1" 1) 92 ∷
    done (end_session 7) ∷
    gives (asks "r" "ice") "a:1" ∷
    done (end_session 0) ∷
    done (asks "r" "ice") ∷
    gives (asks "r" "sea") "a:2" ∷
    []

abbrev eight_places : List Event
eight_places =
    done (opens "r") ∷
    done (opens "s") ∷
    done (puts "r" "1" "p1" 1) ∷
    done (puts "r" "2" "p2" 2) ∷
    done (puts "r" "3" "p3" 1) ∷
    done (puts "r" "4" "p4" 1) ∷
    done (puts "r" "5" "p5" 1) ∷
    done (puts "r" "6" "p6" 1) ∷
    done (puts "r" "7" "p7" 1) ∷
    done (puts "r" "8" "p8" 1) ∷
    not_done (puts "r" "9" "p9" 1) 93 ∷
    not_done (puts "r" "2" "q2" 1) 92 ∷
    done (puts "r" "8" "q8" 1) ∷
    done (puts "s" "9" "p9" 1) ∷
    done (asks "r" "9") ∷
    done (end_session 2) ∷
    done (puts "r" "9" "q9" 3) ∷
    gives (asks "r" "9") "q9" ∷
    gives (asks "r" "8") "q8" ∷
    done (asks "r" "2") ∷
    not_done (puts "r" "2" "q2" 1) 93 ∷
    done (closes "r") ∷
    done (opens "r") ∷
    done (puts "r" "2" "q2" 1) ∷
    done (asks "r" "8") ∷
    []

abbrev four_runs : List Event
four_runs =
    done (opens "a") ∷
    done (opens "b") ∷
    not_done (opens "a") 94 ∷
    done (opens "c") ∷
    done (opens "d") ∷
    not_done (opens "e") 95 ∷
    not_done (opens "d") 94 ∷
    not_done (closes "e") 91 ∷
    done (puts "b" "ice" "p" 1) ∷
    done (closes "b") ∷
    not_done (closes "b") 91 ∷
    not_done (puts "b" "ice" "p" 1) 91 ∷
    done (opens "e") ∷
    done (asks "e" "ice") ∷
    not_done (opens "b") 95 ∷
    []

-- the longest texts, and those that are one octet longer or empty, before any other number but 89
abbrev sizes : List Event
sizes =
    not_done (opens "") 90 ∷
    not_done (open_run (long 33)) 90 ∷
    done (open_run (long 32)) ∷
    not_done (close_run (long 33)) 90 ∷
    not_done (closes "") 90 ∷
    done (publish (long 32) (long 32) (long 64) 1) ∷
    not_done (publish (long 32) (long 33) (long 64) 1) 90 ∷
    not_done (publish (long 32) (long 32) (long 65) 1) 90 ∷
    not_done (publish (long 33) (long 32) (long 64) 1) 90 ∷
    not_done (publish (long 32) (long 32) [] 1) 90 ∷
    not_done (publish (long 32) [] (long 64) 1) 90 ∷
    not_done (publish [] (long 32) (long 64) 1) 90 ∷
    not_done (publish (long 31) (long 32) (long 65) 1) 90 ∷
    not_done (publish (long 31) (long 32) (long 64) 1) 91 ∷
    not_done (ask (long 31) (long 33)) 90 ∷
    not_done (ask (long 31) []) 90 ∷
    not_done (ask (long 31) (long 32)) 91 ∷
    record { call = ask (long 32) (long 32); answer = accepted (long 64) } ∷
    []

unfoldable pub examples : List Example
examples =
    record { label = "the night of the wrong port"; history = wrong_port } ∷
    record { label = "publishing again"; history = again } ∷
    record { label = "session 0, and the last number"; history = session_zero } ∷
    record { label = "eight places"; history = eight_places } ∷
    record { label = "four runs"; history = four_runs } ∷
    record { label = "sizes"; history = sizes } ∷
    []

-- ---- records

pub record Judged : Type 0 where
  pub label : String
  pub octets : List ℕ
  pub answer : Answer

-- what a session's end, which has no other refusal, answers
abbrev pub Judges : Judged → Type 0
Judges j = answer_to j.octets (end_session 0) ≡ j.answer

abbrev port : String → String → ℕ → Option Port
port d t s = some (record { destination = octets_of d; text = octets_of t; session = s })

-- a run with two ports, then free slots
abbrev run_of : List ℕ → Option Port → Option Port → Option Run
run_of l p q = some (record { label = l; slots = p ∷ q ∷ replicate 6 none })

-- two runs, then free places
abbrev two : Option Run → Option Run → List ℕ
two r s = registry_record (r ∷ s ∷ none ∷ none ∷ [])

abbrev plain : Option Run
plain = run_of (octets_of "r") (port "ice" "a:1" 1) (port "sea" "a:2" 0)

abbrev valid : String → List ℕ → Judged
valid label octets = record { label = label; octets = octets; answer = accepted [] }

abbrev invalid : String → List ℕ → Judged
invalid label octets = record { label = label; octets = octets; answer = refused 89 }

unfoldable pub judged : List Judged
judged =
    valid "empty" empty_record ∷
    valid "two runs" (two plain (run_of (octets_of "s") (port "ice" "a:1" 1) none)) ∷
    valid "a run in the second place, a port in the second slot" (two none (run_of (octets_of "s") none (port "ice" "a:1" 1))) ∷
    invalid "an octet less" (replicate 3523 0) ∷
    invalid "an octet more" (replicate 3525 0) ∷
    invalid "no octet" [] ∷
    invalid "equal labels" (two plain plain) ∷
    invalid "equal destinations in a run" (two (run_of (octets_of "r") (port "ice" "a:1" 1) (port "ice" "a:2" 1)) none) ∷
    invalid "a label of 33 octets" (set (two plain none) 0 33) ∷
    invalid "a destination of 33 octets" (set (two plain none) 33 33) ∷
    invalid "a text of no octet" (two (run_of (octets_of "r") (port "ice" "" 1) none) none) ∷
    invalid "a text of 65 octets" (set (two plain none) 66 65) ∷
    invalid "an octet after a label" (set (two plain none) 2 1) ∷
    invalid "an octet after a destination" (set (two plain none) 37 1) ∷
    invalid "an octet after a text" (set (two plain none) 70 1) ∷
    invalid "a session in a free slot" (set (two plain none) 350 1) ∷
    invalid "an octet in a free run" (set (two plain none) 3523 1) ∷
    []

-- ---- the number for asking

pub record Numbered : Type 0 where
  pub run : List ℕ
  pub destination : List ℕ
  pub number : ℕ

-- two runs with the same text under one destination, in the first and in the second slot
abbrev pub alike : List ℕ
alike = two plain (run_of (octets_of "s") none (port "ice" "a:1" 1))

abbrev pub Numbers : Numbered → Type 0
Numbers a = packed_ask (answer_to alike (ask a.run a.destination)) (text_start alike a.run a.destination) ≡ a.number

abbrev numbered_by : String → String → ℕ → Numbered
numbered_by l d n = record { run = octets_of l; destination = octets_of d; number = n }

-- three octets at 67, at 173 and at 1,054; none; not open; a bad size
unfoldable pub numbered : List Numbered
numbered =
    numbered_by "r" "ice" 196675 ∷
    numbered_by "r" "sea" 196781 ∷
    numbered_by "s" "ice" 197662 ∷
    numbered_by "s" "sea" 0 ∷
    numbered_by "q" "ice" 91 ∷
    numbered_by "r" "" 90 ∷
    []

-- ---- a run that stays opened

pub record Stayed : Type 0 where
  pub run : List ℕ
  pub before : List Call
  pub rest : List Call
  pub concerned : List Call
  pub answers : List Answer
  pub left : Run

-- the history is one of the rule's; the calls of it that the rule compares; their answers; and the octets of the run after it
pub record Stays_so (s : Stayed) : Type 0 where
  pub stays : Stays s.run s.before s.rest
  pub compared : concerning s.run s.rest ≡ s.concerned
  pub answered : answers_for s.run (at_opening s.run s.before) s.rest ≡ s.answers
  pub octets : octets_of_run s.run (after (at_opening s.run s.before) s.rest) ≡ some (run_record (some s.left))

abbrev concerned_calls : List Call
concerned_calls =
    puts "r" "ice" "a:1" 1 ∷ puts "r" "ice" "b:1" 2 ∷ asks "r" "ice" ∷ end_session 9 ∷ puts "r" "sea" "a:2" 2 ∷ end_session 1 ∷ asks "r" "ice" ∷ []

abbrev concerned_answers : List Answer
concerned_answers =
    accepted [] ∷ refused 92 ∷ accepted (octets_of "a:1") ∷ accepted [] ∷ accepted [] ∷ accepted [] ∷ accepted [] ∷ []

abbrev concerned_run : Run
concerned_run = record { label = octets_of "r"; slots = none ∷ port "sea" "a:2" 2 ∷ replicate 6 none }

-- two histories that the rule compares: the run alone; and with other runs, its first port published before under another label
unfoldable pub stayed : List Stayed
stayed =
    record {
      run = octets_of "r";
      before = [];
      rest = concerned_calls;
      concerned = concerned_calls;
      answers = concerned_answers;
      left = concerned_run;
    } ∷
    record {
      run = octets_of "r";
      before = opens "q" ∷ opens "r" ∷ puts "r" "ice" "old" 2 ∷ closes "r" ∷ [];
      rest =
          puts "r" "ice" "a:1" 1 ∷ puts "q" "ice" "c:1" 2 ∷ opens "r" ∷ puts "r" "ice" "b:1" 2 ∷ asks "q" "ice" ∷ asks "r" "ice" ∷ closes "q"
          ∷ end_session 9 ∷ opens "s" ∷ puts "r" "sea" "a:2" 2 ∷ puts "s" "sea" "d:1" 1 ∷ end_session 1 ∷ asks "r" "ice" ∷ closes "s" ∷ [];
      concerned = concerned_calls;
      answers = concerned_answers;
      left = concerned_run;
    } ∷
    []
