-- Histories of calls on a registry (request C-21): what each call answers, told from the calls before it and their answers alone; and
-- what the rule on a run that stays opened says of two histories. Assumes nothing.
use Rattle.std.specs.Prelude.{◌≡◌, Bool, true, false, cond, ◌&&◌, ◌||◌, not, List, [], ◌∷◌, ℕ, length, eqb, ltb}
use Rattle.std.proofs.Math.Option.{Option, none, some}
use Rattle.headers.specs.Rows.{every, same}
use Rattle.headers.specs.Answers.{Answer, accepted, Check, settle}
use Rattle.registry.specs.Slots.{is_free}
use Rattle.registry.specs.Registry.{Port, runs_max, ports_max, label_max, destination_max, text_max, sessions_max, bad_size, unless_of}
use Rattle.registry.specs.Calls.{Call, open_run, close_run, publish, ask, end_session, of_other, text_of, left_by}
use Rattle.registry.specs.Records.{empty_record, answer_to, next}

-- a session is named by a 64-bit number
abbrev pub is_call : Call → Bool
is_call (open_run l) = true
is_call (close_run l) = true
is_call (publish l d t s) = ltb s sessions_max
is_call (ask l d) = true
is_call (end_session s) = ltb s sessions_max

abbrev pub are_calls : List Call → Bool
are_calls cs = every is_call cs

-- the record after calls, the first of them first
abbrev pub after : List ℕ → List Call → List ℕ
after xs [] = xs
after xs (c ∷ cs) = after (next xs c) cs

-- ---- told from the calls and their answers

pub record Event : Type 0 where
  pub call : Call
  pub answer : Answer

abbrev pub events : List ℕ → List Call → List Event
events xs [] = []
events xs (c ∷ cs) = record { call = c; answer = answer_to xs c } ∷ events (next xs c) cs

-- what was told before, changed by each accepted call
abbrev pub told : {A : Type 0} → (A → Call → A) → A → List Event → A
told by before [] = before
told by before (e ∷ es) = told by (left_by e.answer before (by before e.call)) es

-- those of a list that pass a test
abbrev pub those : {A : Type 0} → (A → Bool) → List A → List A
those q [] = []
those q (a ∷ rest) = cond (q a) (a ∷ those q rest) (those q rest)

-- whether a run is open: it was opened and not closed since
abbrev pub open_by : List ℕ → Bool → Call → Bool
open_by l before (open_run x) = cond (same x l) true before
open_by l before (close_run x) = cond (same x l) false before
open_by l before (publish x y t s) = before
open_by l before (ask x y) = before
open_by l before (end_session s) = before

abbrev pub told_open : List ℕ → List Event → Bool
told_open l es = told (open_by l) false es

-- the labels of the runs that are open
abbrev pub runs_by : List (List ℕ) → Call → List (List ℕ)
runs_by before (open_run x) = x ∷ before
runs_by before (close_run x) = those (λ y. not (same y x)) before
runs_by before (publish x y t s) = before
runs_by before (ask x y) = before
runs_by before (end_session s) = before

abbrev pub told_runs : List Event → List (List ℕ)
told_runs es = told runs_by [] es

-- "the port last published and not withdrawn" under a destination of a run: by its session's end or the run's closing
abbrev pub port_by : List ℕ → List ℕ → Option Port → Call → Option Port
port_by l d before (open_run x) = before
port_by l d before (close_run x) = cond (same x l) none before
port_by l d before (publish x y t s) = cond (same x l && same y d) (some (record { destination = y; text = t; session = s })) before
port_by l d before (ask x y) = before
port_by l d before (end_session s) = unless_of s before

abbrev pub told_port : List ℕ → List ℕ → List Event → Option Port
told_port l d es = told (port_by l d) none es

-- all ports of a run, the last published first
abbrev pub ports_by : List ℕ → List Port → Call → List Port
ports_by l before (open_run x) = before
ports_by l before (close_run x) = cond (same x l) [] before
ports_by l before (publish x y t s) =
    cond (same x l) (record { destination = y; text = t; session = s } ∷ those (λ p. not (same p.destination y)) before) before
ports_by l before (ask x y) = before
ports_by l before (end_session s) = those (λ p. not (eqb p.session s)) before

abbrev pub told_ports : List ℕ → List Event → List Port
told_ports l es = told (ports_by l) [] es

-- The refusals of each call in order, so told. A new destination is one under which the run has no port.
unfoldable pub told_checks : List Event → Call → List Check
told_checks es (open_run l) =
    record { fails = bad_size label_max l; number = 90 } ∷
    record { fails = told_open l es; number = 94 } ∷
    record { fails = eqb (length (told_runs es)) runs_max; number = 95 } ∷
    []
told_checks es (close_run l) =
    record { fails = bad_size label_max l; number = 90 } ∷
    record { fails = not (told_open l es); number = 91 } ∷
    []
told_checks es (publish l d t s) =
    record { fails = bad_size label_max l || (bad_size destination_max d || bad_size text_max t); number = 90 } ∷
    record { fails = not (told_open l es); number = 91 } ∷
    record { fails = of_other s (told_port l d es); number = 92 } ∷
    record { fails = is_free (told_port l d es) && eqb (length (told_ports l es)) ports_max; number = 93 } ∷
    []
told_checks es (ask l d) =
    record { fails = bad_size label_max l || bad_size destination_max d; number = 90 } ∷
    record { fails = not (told_open l es); number = 91 } ∷
    []
told_checks es (end_session s) = []

-- the text that asking answers, so told; no other call answers one
unfoldable pub told_values : List Event → Call → List ℕ
told_values es (open_run l) = []
told_values es (close_run l) = []
told_values es (publish l d t s) = []
told_values es (ask l d) = text_of (told_port l d es)
told_values es (end_session s) = []

abbrev pub told_answer : List Event → Call → Answer
told_answer es c = settle (told_checks es c) (told_values es c)

-- ---- a run that stays opened

-- "the same calls naming that run and the same session ends": "Opening and closing fall outside that rule."
abbrev pub concerns : List ℕ → Call → Bool
concerns l (open_run x) = false
concerns l (close_run x) = false
concerns l (publish x y t s) = same x l
concerns l (ask x y) = same x l
concerns l (end_session s) = true

abbrev pub concerning : List ℕ → List Call → List Call
concerning l cs = those (concerns l) cs

-- their answers
abbrev pub answers_for : List ℕ → List ℕ → List Call → List Answer
answers_for l xs [] = []
answers_for l xs (c ∷ cs) = cond (concerns l c) (answer_to xs c ∷ answers_for l (next xs c) cs) (answers_for l (next xs c) cs)

abbrev pub closes : List ℕ → Call → Bool
closes l (open_run x) = false
closes l (close_run x) = same x l
closes l (publish x y t s) = false
closes l (ask x y) = false
closes l (end_session s) = false

-- the record at the run's opening
abbrev pub at_opening : List ℕ → List Call → List ℕ
at_opening l before = next (after empty_record before) (open_run l)

-- A history of an empty registry: some calls, the run's opening, and from then on calls that do not close it.
pub record Stays (l : List ℕ) (before rest : List Call) : Type 0 where
  pub calls : (are_calls before ≡ true) × (are_calls rest ≡ true)
  pub opening : answer_to (after empty_record before) (open_run l) ≡ accepted []
  pub never_closed : every (λ c. not (closes l c)) rest ≡ true
