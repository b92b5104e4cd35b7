-- A run that stays opened depends on the calls that concern it alone. Assumes nothing.
--     isolation               the rule of request C-21 on two histories
--     stays-open              such a run is there
use mathlib.Core.Path.{◌≡◌, refl, sym, ◌∙◌, ap, ap₂}
use mathlib.Core.Bool.{Bool, true, false, cond, not}
use mathlib.Core.Option.{Option, some}
use mathlib.Core.List.{List, [], ◌∷◌}
use Prim.Native.Nat.{ℕ}
use borrow.Author.Tests.{not-true}
use Rattle.headers.specs.Rows.{every}
use Rattle.headers.specs.Answers.{accepted}
use Rattle.headers.proofs.Rows.{and_left, and_right, same_self}
use Rattle.registry.specs.Slots.{found}
use Rattle.registry.specs.Registry.{Run, label_of, new_run, no_runs}
use Rattle.registry.specs.Calls.{Call, open_run, left_by}
use Rattle.registry.specs.Records.{registry_record, empty_record, answer_to, next, octets_of_run}
use Rattle.registry.specs.Histories.{are_calls, after, concerns, concerning, answers_for, closes, at_opening, Stays}
use Rattle.registry.proofs.Keeping.{answer, step, Good, good_step, good_none}
use Rattle.registry.proofs.Local.{run_by, found_step, alone, alone_after, alone_answers, alone_answer, alone_step, other_step, alone_open}
use Rattle.registry.proofs.Records.{answer_as, next_as, empty_as, octets_for, octets_as}
use Rattle.registry.proofs.Histories.{steps, first_call, rest_calls, good_steps, after_as}

-- the run and the answers to what concerns it, by what concerns it alone
record Alike (l : List ℕ) (runs : List (Option Run)) (cs : List Call) : Type 0 where
  pub answers : answers_for l (registry_record runs) cs ≡ alone_answers l (found label_of l runs) (concerning l cs)
  pub run : found label_of l (steps runs cs) ≡ alone_after l (found label_of l runs) (concerning l cs)

alike : (l : List ℕ) (runs : List (Option Run)) → Good runs → (r : Run) → found label_of l runs ≡ some r → (cs : List Call) → are_calls cs ≡ true
    → every (λ c. not (closes l c)) cs ≡ true → Alike l runs cs
alike l runs g r o [] ok kept = record { answers = refl; run = refl }
alike l runs g r o (c ∷ cs) ok kept =
    by (concerns l c) refl
    (λ q e. alike l (step runs c) (good_step runs g c (first_call c cs ok)) q e cs (rest_calls c cs ok)
    (and_right (not (closes l c)) (every (λ c. not (closes l c)) cs) kept))
  where
    by : (t : Bool) → concerns l c ≡ t → ((q : Run) → found label_of l (step runs c) ≡ some q → Alike l (step runs c) cs) → Alike l runs (c ∷ cs)
    by true h later =
        let (q, is) = alone_open l r c h in
        let to : found label_of l (step runs c) ≡ alone l (found label_of l runs) c = alone_step runs g l c h in
        let rest : Alike l (step runs c) cs = later q (to ∙ ap (λ z. alone l z c) o ∙ is) in
        record {
          answers =
              ap (λ t. cond t (answer_to (registry_record runs) c ∷ answers_for l (next (registry_record runs) c) cs)
              (answers_for l (next (registry_record runs) c) cs)) h
              ∙ ap₂ (◌∷◌) (answer_as runs g c ∙ alone_answer l runs c h)
              (ap (λ z. answers_for l z cs) (next_as runs g c) ∙ rest.answers ∙ ap (λ z. alone_answers l z (concerning l cs)) to)
              ∙ sym (ap (λ t. alone_answers l (found label_of l runs) (cond t (c ∷ concerning l cs) (concerning l cs))) h);
          run =
              rest.run ∙ ap (λ z. alone_after l z (concerning l cs)) to
              ∙ sym (ap (λ t. alone_after l (found label_of l runs) (cond t (c ∷ concerning l cs) (concerning l cs))) h);
        }
    by false h later =
        let to : found label_of l (step runs c) ≡ some r =
        other_step runs g l r o c h (not-true (closes l c) (and_left (not (closes l c)) (every (λ c. not (closes l c)) cs) kept)) in
        let rest : Alike l (step runs c) cs = later r to in
        let same_run : found label_of l (step runs c) ≡ found label_of l runs = to ∙ sym o in
        record {
          answers =
              ap (λ t. cond t (answer_to (registry_record runs) c ∷ answers_for l (next (registry_record runs) c) cs)
              (answers_for l (next (registry_record runs) c) cs)) h
              ∙ ap (λ z. answers_for l z cs) (next_as runs g c) ∙ rest.answers ∙ ap (λ z. alone_answers l z (concerning l cs)) same_run
              ∙ sym (ap (λ t. alone_answers l (found label_of l runs) (cond t (c ∷ concerning l cs) (concerning l cs))) h);
          run =
              rest.run ∙ ap (λ z. alone_after l z (concerning l cs)) same_run
              ∙ sym (ap (λ t. alone_after l (found label_of l runs) (cond t (c ∷ concerning l cs) (concerning l cs))) h);
        }

-- ---- one history

module _ (l : List ℕ) (before rest : List Call) (h : Stays l before rest) where
  runs : List (Option Run)
  runs = step (steps no_runs before) (open_run l)

  good_before : Good (steps no_runs before)
  good_before = good_steps no_runs good_none before h.calls.0

  good_runs : Good runs
  unfolding runs
  good_runs = good_step (steps no_runs before) good_before (open_run l) refl

  before_as : after empty_record before ≡ registry_record (steps no_runs before)
  before_as = ap (λ z. after z before) empty_as ∙ after_as no_runs good_none before h.calls.0

  opening_as : at_opening l before ≡ registry_record runs
  unfolding runs
  opening_as = ap (λ z. next z (open_run l)) before_as ∙ next_as (steps no_runs before) good_before (open_run l)

  -- the run just opened
  at_first : found label_of l runs ≡ some (new_run l)
  unfolding runs
  at_first =
      let opens : answer (steps no_runs before) (open_run l) ≡ accepted [] =
      sym (answer_as (steps no_runs before) good_before (open_run l)) ∙ ap (λ z. answer_to z (open_run l)) (sym before_as) ∙ h.opening in
      found_step (steps no_runs before) good_before l (open_run l)
      ∙ ap (λ a. left_by a (found label_of l (steps no_runs before)) (run_by l (found label_of l (steps no_runs before)) (open_run l))) opens
      ∙ ap (λ t. cond t (some (new_run l)) (found label_of l (steps no_runs before))) (same_self l)

  alike_rest : Alike l runs rest
  alike_rest = alike l runs good_runs (new_run l) at_first rest h.calls.1 h.never_closed

  pub answers_alone : answers_for l (at_opening l before) rest ≡ alone_answers l (some (new_run l)) (concerning l rest)
  answers_alone = ap (λ z. answers_for l z rest) opening_as ∙ alike_rest.answers ∙ ap (λ z. alone_answers l z (concerning l rest)) at_first

  pub record_alone : octets_of_run l (after (at_opening l before) rest) ≡ octets_for (alone_after l (some (new_run l)) (concerning l rest))
  record_alone =
      ap (λ z. octets_of_run l (after z rest)) opening_as
      ∙ ap (octets_of_run l) (after_as runs good_runs rest h.calls.1)
      ∙ octets_as l (steps runs rest) (good_steps runs good_runs rest h.calls.1)
      ∙ ap octets_for (alike_rest.run ∙ ap (λ z. alone_after l z (concerning l rest)) at_first)

-- "For a run that stays opened, two histories of an empty register that have, from its opening on, the same calls naming that run
-- and the same session ends, in the same order, give that run the same answers and records."
pub isolation : (l : List ℕ) (before₁ rest₁ before₂ rest₂ : List Call) → Stays l before₁ rest₁ → Stays l before₂ rest₂
    → concerning l rest₁ ≡ concerning l rest₂
    → (answers_for l (at_opening l before₁) rest₁ ≡ answers_for l (at_opening l before₂) rest₂)
    × (octets_of_run l (after (at_opening l before₁) rest₁) ≡ octets_of_run l (after (at_opening l before₂) rest₂))
isolation l before₁ rest₁ before₂ rest₂ h k e = (
  answers_alone l before₁ rest₁ h ∙ ap (alone_answers l (some (new_run l))) e ∙ sym (answers_alone l before₂ rest₂ k),
  record_alone l before₁ rest₁ h ∙ ap (λ z. octets_for (alone_after l (some (new_run l)) z)) e ∙ sym (record_alone l before₂ rest₂ k),
)
