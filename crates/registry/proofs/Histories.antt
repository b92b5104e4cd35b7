-- Histories of an empty registry. Assumes nothing.
--     valid_after             it stays valid
--     answer_history          the answer to each call, told from the calls before it and their answers alone
--     open_history            which runs are open, told so
use mathlib.Core.Path.{◌≡◌, refl, sym, ◌∙◌, ap, ap₂, subst}
use mathlib.Core.Bool.{Bool, true, false, ◌&&◌, ◌||◌, not}
use mathlib.Core.Option.{Option, none, some}
use mathlib.Core.List.{List, [], ◌∷◌}
use Prim.Native.Nat.{ℕ}
use lib.ListN.{length}
use lib.Dec.{eqb}
use Rattle.headers.specs.Answers.{Answer, settle}
use Rattle.headers.proofs.Rows.{and_left, and_right}
use Rattle.registry.specs.Slots.{is_free, has_free, has}
use Rattle.registry.specs.Registry.{Port, Run, destination_of, is_open, slots_of, runs_max, ports_max, label_max, destination_max, text_max, bad_size, no_runs}
use Rattle.registry.specs.Calls.{Call, open_run, close_run, publish, ask, end_session, of_other, checks, values, left_by}
use Rattle.registry.specs.Records.{registry_record, is_valid, empty_record, answer_to, next, runs_in}
use Rattle.registry.specs.Histories.{is_call, are_calls, after, Event, events, told, open_by, told_open, runs_by, told_runs, port_by, told_port, ports_by, told_ports, told_checks, told_values, told_answer}
use Rattle.registry.proofs.Slots.{is_some, has_found}
use Rattle.registry.proofs.Counting.{full_count, tally_all}
use Rattle.registry.proofs.Keeping.{answer, step, Good, good_step, good_none, open_slots}
use Rattle.registry.proofs.Local.{open_step, port_of, port_step}
use Rattle.registry.proofs.Told.{Holds, ports_step, Open, runs_step}
use Rattle.registry.proofs.Records.{shown, record_valid, answer_as, next_as, empty_as, valid_good, valid_record}

abbrev pub steps : List (Option Run) → List Call → List (Option Run)
steps runs [] = runs
steps runs (c ∷ cs) = steps (step runs c) cs

module _ (c : Call) (cs : List Call) (ok : are_calls (c ∷ cs) ≡ true) where
  pub first_call : is_call c ≡ true
  first_call = and_left (is_call c) (are_calls cs) ok

  pub rest_calls : are_calls cs ≡ true
  rest_calls = and_right (is_call c) (are_calls cs) ok

pub good_steps : (runs : List (Option Run)) → Good runs → (cs : List Call) → are_calls cs ≡ true → Good (steps runs cs)
good_steps runs g [] ok = g
good_steps runs g (c ∷ cs) ok = good_steps (step runs c) (good_step runs g c (first_call c cs ok)) cs (rest_calls c cs ok)

pub after_as : (runs : List (Option Run)) → Good runs → (cs : List Call) → are_calls cs ≡ true
    → after (registry_record runs) cs ≡ registry_record (steps runs cs)
after_as runs g [] ok = refl
after_as runs g (c ∷ cs) ok =
    ap (λ z. after z cs) (next_as runs g c) ∙ after_as (step runs c) (good_step runs g c (first_call c cs ok)) cs (rest_calls c cs ok)

-- ---- validity

pub valid_next : (xs : List ℕ) → is_valid xs ≡ true → (c : Call) → is_call c ≡ true → is_valid (next xs c) ≡ true
valid_next xs v c ok =
    ap (λ z. is_valid (next z c)) (sym (valid_record xs v))
    ∙ ap is_valid (next_as (runs_in xs) (valid_good xs v) c)
    ∙ record_valid (step (runs_in xs) c) (good_step (runs_in xs) (valid_good xs v) c ok)

pub valid_empty : is_valid empty_record ≡ true
valid_empty = ap is_valid empty_as ∙ record_valid no_runs good_none

-- 89 refuses nothing that calls from an empty registry leave.
pub valid_after : (cs : List Call) → are_calls cs ≡ true → is_valid (after empty_record cs) ≡ true
valid_after cs ok = go empty_record valid_empty cs ok
  where
    go : (xs : List ℕ) → is_valid xs ≡ true → (cs : List Call) → are_calls cs ≡ true → is_valid (after xs cs) ≡ true
    go xs v [] ok = v
    go xs v (c ∷ cs) ok = go (next xs c) (valid_next xs v c (first_call c cs ok)) cs (rest_calls c cs ok)

-- ---- what is told from the calls and their answers

-- what each call changes as it is told, a history does: R is what the runs have to do with what is told
module _ {A : Type 0} (R : List (Option Run) → A → Type 0) (by : A → Call → A)
    (one : (runs : List (Option Run)) → Good runs → (a : A) → R runs a → (c : Call) → R (step runs c) (left_by (answer runs c) a (by a c))) where
  told_related : (runs : List (Option Run)) → Good runs → (a : A) → R runs a → (cs : List Call) → are_calls cs ≡ true
      → R (steps runs cs) (told by a (events (registry_record runs) cs))
  told_related runs g a r [] ok = r
  told_related runs g a r (c ∷ cs) ok =
      subst (R (steps (step runs c) cs))
      (ap₂ (λ z xs. told by (left_by z a (by a c)) (events xs cs)) (sym (answer_as runs g c)) (sym (next_as runs g c)))
      (told_related (step runs c) (good_step runs g c (first_call c cs ok)) (left_by (answer runs c) a (by a c)) (one runs g a r c) cs (rest_calls c cs ok))

  -- from an empty registry
  told_first : (a : A) → R no_runs a → (cs : List Call) → are_calls cs ≡ true → R (steps no_runs cs) (told by a (events empty_record cs))
  told_first a r cs ok = subst (λ z. R (steps no_runs cs) (told by a (events z cs))) (sym empty_as) (told_related no_runs good_none a r cs ok)

-- the same of a function of the runs
module _ {A : Type 0} (of : List (Option Run) → A) (by : A → Call → A)
    (one : (runs : List (Option Run)) → Good runs → (c : Call) → of (step runs c) ≡ left_by (answer runs c) (of runs) (by (of runs) c)) where
  told_so : (cs : List Call) → are_calls cs ≡ true → of (steps no_runs cs) ≡ told by (of no_runs) (events empty_record cs)
  told_so cs ok =
      told_first (λ runs a. of runs ≡ a) by (λ runs g a r c. one runs g c ∙ ap (λ z. left_by (answer runs c) z (by z c)) r) (of no_runs) refl cs ok

module _ (cs : List Call) (ok : are_calls cs ≡ true) where
  last : List (Option Run)
  last = steps no_runs cs

  abbrev es : List Event
  es = events empty_record cs

  good_last : Good last
  unfolding last
  good_last = good_steps no_runs good_none cs ok

  after_last : after empty_record cs ≡ registry_record last
  unfolding last
  after_last = ap (λ z. after z cs) empty_as ∙ after_as no_runs good_none cs ok

  open_last : (l : List ℕ) → is_open l last ≡ told_open l es
  unfolding last
  open_last l = told_so (is_open l) (open_by l) (λ runs g c. open_step runs g l c) cs ok

  port_last : (l d : List ℕ) → port_of l d last ≡ told_port l d es
  unfolding last
  port_last l d = told_so (port_of l d) (port_by l d) (λ runs g c. port_step runs g l d c) cs ok

  -- four runs are open where four are told
  runs_last : Open last (told_runs es)
  unfolding last
  runs_last = told_first Open runs_by (λ runs g a r c. runs_step runs g a r c) [] (λ q. refl) cs ok

  full_last : not (has_free last) ≡ eqb (length (told_runs es)) runs_max
  full_last = full_count last ∙ ap₂ eqb (runs_last (λ l. true) ∙ tally_all (told_runs es)) good_last.long

  -- the places of an open run are all taken where as many ports are told
  ports_last : (l : List ℕ) → Holds (slots_of l last) (told_ports l es)
  unfolding last
  ports_last l = told_first (λ runs a. Holds (slots_of l runs) a) (ports_by l) (λ runs g a r c. ports_step runs g l a r c) [] (λ q. refl) cs ok

  taken_last : (l : List ℕ) → is_open l last ≡ true → not (has_free (slots_of l last)) ≡ eqb (length (told_ports l es)) ports_max
  taken_last l o =
      full_count (slots_of l last) ∙ ap₂ eqb (ports_last l (λ p. true) ∙ tally_all (told_ports l es)) (open_slots last good_last l o).long

  pub open_history : (l : List ℕ) → is_open l (runs_in (after empty_record cs)) ≡ told_open l es
  open_history l = ap (λ z. is_open l (runs_in z)) after_last ∙ ap (is_open l) (shown last good_last) ∙ open_last l

  -- ---- the answers

  -- no port is there, as the code asks and as it is told
  no_port : (o : Option Port) → not (is_some o) ≡ is_free o
  no_port none = refl
  no_port (some p) = refl

  new_last : (l d : List ℕ) → not (has destination_of d (slots_of l last)) ≡ is_free (told_port l d es)
  new_last l d = ap not (has_found destination_of d (slots_of l last)) ∙ no_port (port_of l d last) ∙ ap is_free (port_last l d)

  publish_last : (l d t : List ℕ) (s : ℕ) → answer last (publish l d t s) ≡ told_answer es (publish l d t s)
  unfolding checks values told_checks told_values
  publish_last l d t s =
      by (is_open l last) refl ∙ ap (λ o. settled o (of_other s (told_port l d es)) (is_free (told_port l d es) && full_told)) (open_last l)
    where
      full_told : Bool
      full_told = eqb (length (told_ports l es)) ports_max

      settled : Bool → Bool → Bool → Answer
      settled o held full =
          settle (
          record { fails = bad_size label_max l || (bad_size destination_max d || bad_size text_max t); number = 90 } ∷
          record { fails = not o; number = 91 } ∷
          record { fails = held; number = 92 } ∷
          record { fails = full; number = 93 } ∷
          []
          ) []

      by : (o : Bool) → is_open l last ≡ o
          → settled o (of_other s (port_of l d last)) (not (has destination_of d (slots_of l last)) && not (has_free (slots_of l last)))
          ≡ settled o (of_other s (told_port l d es)) (is_free (told_port l d es) && full_told)
      by true e = ap₂ (settled true) (ap (of_other s) (port_last l d)) (ap₂ (◌&&◌) (new_last l d) (taken_last l e))
      by false e = refl

  answer_last : (c : Call) → answer last c ≡ told_answer es c
  unfolding checks values told_checks told_values
  answer_last (open_run l) = rw (open_last l, full_last) refl
  answer_last (close_run l) = rw (open_last l) refl
  answer_last (publish l d t s) = publish_last l d t s
  answer_last (ask l d) = rw (open_last l, port_last l d) refl
  answer_last (end_session s) = refl

  -- Every call answers what the calls before it and their answers tell. "Asking needs destination and run and answers only from that run,
  -- with the port last published and not withdrawn, or none exactly if the open run has none."
  pub answer_history : (c : Call) → answer_to (after empty_record cs) c ≡ told_answer es c
  answer_history c = ap (λ z. answer_to z c) after_last ∙ answer_as last good_last c ∙ answer_last c
