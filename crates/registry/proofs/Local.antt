-- What a call does to one run is a function of that run and the call. Assumes nothing.
--     run_by, found_step          the run of a label after a call
--     answer_local                the answer to a call that concerns the run
--     port_step, open_step        the port under a destination, and whether the run is open
--     alone, alone_..             a run by itself under the calls that concern it
use mathlib.Core.Path.{◌≡◌, refl, sym, ◌∙◌, ap}
use mathlib.Core.Bool.{Bool, true, false, cond, ◌&&◌, not, true≢false}
use mathlib.Core.Option.{Option, none, some}
use mathlib.Core.List.{List, [], ◌∷◌}
use Prim.Native.Nat.{ℕ}
use borrow.Author.Tests.{not-false}
use Rattle.headers.specs.Rows.{same, All}
use Rattle.headers.specs.Answers.{Answer, accepted, refused}
use Rattle.headers.proofs.Settling.{Passes, all_pass}
use Rattle.headers.proofs.Rows.{cond_case, refuted, same_eq, same_self}
use Rattle.stores.specs.Searches.{replaced}
use Rattle.registry.specs.Slots.{is_free, holds, has_free, has, found, distinct}
use Rattle.registry.specs.Registry.{Port, Run, destination_of, label_of, is_open, slots_in, slots_of, new_run, published, unless_of, withdrawn, opened, closed, with_slots, run_without, ended}
use Rattle.registry.specs.Calls.{Call, open_run, close_run, publish, ask, end_session, checks, values, effect, left_by}
use Rattle.registry.specs.Histories.{open_by, port_by, concerns, closes}
use Rattle.registry.proofs.Slots.{is_some, has_found, found_none, found_name, holds_one, free_holds, found_other, again_here, new_here, freed_here, found_map, found_keep}
use Rattle.registry.proofs.Keeping.{answer, step, Good, good_run_slots, of_session, without_holds}

abbrev pub port : List ℕ → List ℕ → ℕ → Port
port d t s = record { destination = d; text = t; session = s }

-- the run of a label after an accepted call, by the run before
abbrev pub run_by : List ℕ → Option Run → Call → Option Run
run_by l before (open_run x) = cond (same x l) (some (new_run x)) before
run_by l before (close_run x) = cond (same x l) none before
run_by l before (publish x d t s) = cond (same x l) (some (record { label = x; slots = published (port d t s) (slots_in before) })) before
run_by l before (ask x d) = before
run_by l before (end_session s) = run_without s before

-- ---- the run after a call

module _ (runs : List (Option Run)) (g : Good runs) (l : List ℕ) where
  found_opened : (x : List ℕ) → is_open x runs ≡ false → not (has_free runs) ≡ false
      → found label_of l (opened x runs) ≡ cond (same x l) (some (new_run x)) (found label_of l runs)
  found_opened x new room =
      cond_case (λ z. found label_of l (opened x runs) ≡ z) (same x l)
      (λ e. ap (λ z. found label_of z (opened x runs)) (sym (same_eq x l e)) ∙ new_here label_of (new_run x) runs (not-false (has_free runs) room) new)
      (λ e. found_other label_of is_free (some (new_run x)) l (λ s f. free_holds label_of s l f) e runs)

  found_closed : (x : List ℕ) → found label_of l (closed x runs) ≡ cond (same x l) none (found label_of l runs)
  found_closed x =
      cond_case (λ z. found label_of l (closed x runs) ≡ z) (same x l)
      (λ e. ap (λ z. found label_of z (closed x runs)) (sym (same_eq x l e)) ∙ freed_here label_of x runs g.apart)
      (λ e. found_other label_of (holds label_of x) none l (λ s f. holds_one label_of s x l f e) refl runs)

  found_with : (x : List ℕ) (slots : List (Option Port)) → is_open x runs ≡ true
      → found label_of l (with_slots x slots runs) ≡ cond (same x l) (some (record { label = x; slots = slots })) (found label_of l runs)
  found_with x slots o =
      let r : Run = record { label = x; slots = slots } in
      cond_case (λ z. found label_of l (with_slots x slots runs) ≡ z) (same x l)
      (λ e. ap (λ z. found label_of z (with_slots x slots runs)) (sym (same_eq x l e)) ∙ again_here label_of r runs o)
      (λ e. found_other label_of (holds label_of x) (some r) l (λ s f. holds_one label_of s x l f e) e runs)

  found_ended : (s : ℕ) → found label_of l (ended s runs) ≡ run_without s (found label_of l runs)
  found_ended s = found_map label_of (run_without s) refl (without_holds s) l runs

  pub found_effect : (c : Call) → All Passes (checks runs c) → found label_of l (effect runs c) ≡ run_by l (found label_of l runs) c
  unfolding checks effect
  found_effect (open_run x) p = found_opened x p.1.0 p.1.1.0
  found_effect (close_run x) p = found_closed x
  found_effect (publish x d t s) p =
      found_with x (published (port d t s) (slots_of x runs)) (not-false (is_open x runs) p.1.0)
      ∙ by (same x l) refl
    where
      by : (u : Bool) → same x l ≡ u
          → cond u (some (record { label = x; slots = published (port d t s) (slots_of x runs) })) (found label_of l runs)
          ≡ cond u (some (record { label = x; slots = published (port d t s) (slots_of l runs) })) (found label_of l runs)
      by true e = ap (λ z. some (record { label = x; slots = published (port d t s) (slots_of z runs) })) (same_eq x l e)
      by false e = refl
  found_effect (ask x d) p = refl
  found_effect (end_session s) p = found_ended s

  pub found_step : (c : Call) → found label_of l (step runs c) ≡ left_by (answer runs c) (found label_of l runs) (run_by l (found label_of l runs) c)
  found_step c = by (answer runs c) refl
    where
      by : (a : Answer) → answer runs c ≡ a
          → found label_of l (left_by a runs (effect runs c)) ≡ left_by a (found label_of l runs) (run_by l (found label_of l runs) c)
      by (accepted v) e = found_effect c (all_pass (checks runs c) (values runs c) v e)
      by (refused k) e = refl

-- ---- whether a run is open

open_effect : (runs : List (Option Run)) (l : List ℕ) (c : Call) → All Passes (checks runs c)
    → is_some (run_by l (found label_of l runs) c) ≡ open_by l (is_some (found label_of l runs)) c
unfolding checks
open_effect runs l (open_run x) p = by (same x l)
  where
    by : (t : Bool) → is_some (cond t (some (new_run x)) (found label_of l runs)) ≡ cond t true (is_some (found label_of l runs))
    by true = refl
    by false = refl
open_effect runs l (close_run x) p = by (same x l)
  where
    by : (t : Bool) → is_some (cond t none (found label_of l runs)) ≡ cond t false (is_some (found label_of l runs))
    by true = refl
    by false = refl
open_effect runs l (publish x d t s) p = by (same x l) refl
  where
    by : (u : Bool) → same x l ≡ u
        → is_some (cond u (some (record { label = x; slots = published (port d t s) (slots_of l runs) })) (found label_of l runs))
        ≡ is_some (found label_of l runs)
    by true e =
        sym (sym (has_found label_of l runs) ∙ ap (λ z. is_open z runs) (sym (same_eq x l e)) ∙ not-false (is_open x runs) p.1.0)
    by false e = refl
open_effect runs l (ask x d) p = refl
open_effect runs l (end_session s) p = by (found label_of l runs)
  where
    by : (o : Option Run) → is_some (run_without s o) ≡ is_some o
    by none = refl
    by (some r) = refl

pub open_step : (runs : List (Option Run)) → Good runs → (l : List ℕ) (c : Call)
    → is_open l (step runs c) ≡ left_by (answer runs c) (is_open l runs) (open_by l (is_open l runs) c)
open_step runs g l c =
    has_found label_of l (step runs c) ∙ ap is_some (found_step runs g l c) ∙ by (answer runs c) refl
    ∙ ap (λ z. left_by (answer runs c) z (open_by l z c)) (sym (has_found label_of l runs))
  where
    by : (a : Answer) → answer runs c ≡ a
        → is_some (left_by a (found label_of l runs) (run_by l (found label_of l runs) c)) ≡ left_by a (is_some (found label_of l runs))
        (open_by l (is_some (found label_of l runs)) c)
    by (accepted v) e = open_effect runs l c (all_pass (checks runs c) (values runs c) v e)
    by (refused k) e = refl

-- ---- the port under a destination

-- of slots that a port is published in
pub found_published : (p : Port) (d : List ℕ) (slots : List (Option Port)) → not (has destination_of p.destination slots) && not (has_free slots) ≡ false
    → found destination_of d (published p slots) ≡ cond (same p.destination d) (some p) (found destination_of d slots)
unfolding published
found_published p d slots room = by (has destination_of p.destination slots) refl room
  where
    y : List ℕ
    y = p.destination

    by : (t : Bool) → has destination_of y slots ≡ t → not t && not (has_free slots) ≡ false
        → found destination_of d (cond t (replaced (holds destination_of y) (some p) slots) (replaced is_free (some p) slots))
        ≡ cond (same y d) (some p) (found destination_of d slots)
    by true h k =
        cond_case (λ z. found destination_of d (replaced (holds destination_of y) (some p) slots) ≡ z) (same y d)
        (λ e. ap (λ z. found destination_of z (replaced (holds destination_of y) (some p) slots)) (sym (same_eq y d e)) ∙ again_here destination_of p slots h)
        (λ e. found_other destination_of (holds destination_of y) (some p) d (λ s f. holds_one destination_of s y d f e) e slots)
    by false h k =
        cond_case (λ z. found destination_of d (replaced is_free (some p) slots) ≡ z) (same y d)
        (λ e. ap (λ z. found destination_of z (replaced is_free (some p) slots)) (sym (same_eq y d e))
        ∙ new_here destination_of p slots (not-false (has_free slots) k) h)
        (λ e. found_other destination_of is_free (some p) d (λ s f. free_holds destination_of s d f) e slots)

-- of slots that a session's ports are withdrawn from
pub found_withdrawn : (s : ℕ) (d : List ℕ) (slots : List (Option Port)) → distinct destination_of slots ≡ true
    → found destination_of d (withdrawn s slots) ≡ unless_of s (found destination_of d slots)
found_withdrawn s d slots apart = found_keep destination_of (unless_of s) (of_session s) refl (λ p. refl) d slots apart

abbrev pub port_of : List ℕ → List ℕ → List (Option Run) → Option Port
port_of l d runs = found destination_of d (slots_of l runs)

module _ (runs : List (Option Run)) (g : Good runs) (l d : List ℕ) where
  port_effect : (c : Call) → All Passes (checks runs c)
      → found destination_of d (slots_in (run_by l (found label_of l runs) c)) ≡ port_by l d (port_of l d runs) c
  unfolding checks
  port_effect (open_run x) p = by (same x l) refl
    where
      by : (u : Bool) → same x l ≡ u → found destination_of d (slots_in (cond u (some (new_run x)) (found label_of l runs))) ≡ port_of l d runs
      by true e =
          sym (ap (λ z. found destination_of d (slots_in z)) (found_none label_of l runs (ap (λ z. is_open z runs) (sym (same_eq x l e)) ∙ p.1.0)))
      by false e = refl
  port_effect (close_run x) p = by (same x l)
    where
      by : (u : Bool) → found destination_of d (slots_in (cond u none (found label_of l runs))) ≡ cond u none (port_of l d runs)
      by true = refl
      by false = refl
  port_effect (publish x y t s) p = by (same x l) refl
    where
      by : (u : Bool) → same x l ≡ u
          → found destination_of d (slots_in (cond u (some (record { label = x; slots = published (port y t s) (slots_of l runs) })) (found label_of l runs)))
          ≡ cond (u && same y d) (some (port y t s)) (port_of l d runs)
      by true e =
          found_published (port y t s) d (slots_of l runs)
          (ap (λ z. not (has destination_of y (slots_of z runs)) && not (has_free (slots_of z runs))) (sym (same_eq x l e)) ∙ p.1.1.1.0)
      by false e = refl
  port_effect (ask x y) p = refl
  port_effect (end_session s) p = by (found label_of l runs) refl
    where
      by : (o : Option Run) → found label_of l runs ≡ o
          → found destination_of d (slots_in (run_without s o)) ≡ unless_of s (found destination_of d (slots_in o))
      by none e = refl
      by (some r) e = found_withdrawn s d r.slots (good_run_slots runs g l r e).apart

  pub port_step : (c : Call) → port_of l d (step runs c) ≡ left_by (answer runs c) (port_of l d runs) (port_by l d (port_of l d runs) c)
  port_step c = ap (λ z. found destination_of d (slots_in z)) (found_step runs g l c) ∙ by (answer runs c) refl
    where
      by : (a : Answer) → answer runs c ≡ a
          → found destination_of d (slots_in (left_by a (found label_of l runs) (run_by l (found label_of l runs) c)))
          ≡ left_by a (port_of l d runs) (port_by l d (port_of l d runs) c)
      by (accepted v) e = port_effect c (all_pass (checks runs c) (values runs c) v e)
      by (refused k) e = refl

-- ---- the answer to a call that concerns the run

pub answer_local : (l : List ℕ) (R S : List (Option Run)) → found label_of l R ≡ found label_of l S → (c : Call) → concerns l c ≡ true → answer R c ≡ answer S c
unfolding checks values
answer_local l R S e (open_run x) h = absurd (true≢false (sym h))
answer_local l R S e (close_run x) h = absurd (true≢false (sym h))
answer_local l R S e (publish x d t s) h =
    let f : found label_of x R ≡ found label_of x S = ap (λ z. found label_of z R) (same_eq x l h) ∙ e ∙ ap (λ z. found label_of z S) (sym (same_eq x l h)) in
    let o : is_open x R ≡ is_open x S = has_found label_of x R ∙ ap is_some f ∙ sym (has_found label_of x S) in
    rw (o, f)
answer_local l R S e (ask x d) h =
    let f : found label_of x R ≡ found label_of x S = ap (λ z. found label_of z R) (same_eq x l h) ∙ e ∙ ap (λ z. found label_of z S) (sym (same_eq x l h)) in
    let o : is_open x R ≡ is_open x S = has_found label_of x R ∙ ap is_some f ∙ sym (has_found label_of x S) in
    rw (o, f)
answer_local l R S e (end_session s) h = refl

-- ---- a run by itself

abbrev pub alone : List ℕ → Option Run → Call → Option Run
alone l o c = left_by (answer (o ∷ []) c) o (run_by l o c)

abbrev pub alone_after : List ℕ → Option Run → List Call → Option Run
alone_after l o [] = o
alone_after l o (c ∷ cs) = alone_after l (alone l o c) cs

abbrev pub alone_answers : List ℕ → Option Run → List Call → List Answer
alone_answers l o [] = []
alone_answers l o (c ∷ cs) = answer (o ∷ []) c ∷ alone_answers l (alone l o c) cs

-- what is found by itself
found_alone : (l : List ℕ) (runs : List (Option Run)) → found label_of l runs ≡ found label_of l (found label_of l runs ∷ [])
found_alone l runs = by (found label_of l runs) refl
  where
    by : (o : Option Run) → found label_of l runs ≡ o → o ≡ cond (holds label_of l o) o none
    by none e = refl
    by (some r) e = sym (ap (λ z. cond (same z l) (some r) none) (found_name label_of l runs r e) ∙ ap (λ z. cond z (some r) none) (same_self l))

pub alone_answer : (l : List ℕ) (runs : List (Option Run)) (c : Call) → concerns l c ≡ true → answer runs c ≡ answer (found label_of l runs ∷ []) c
alone_answer l runs c h = answer_local l runs (found label_of l runs ∷ []) (found_alone l runs) c h

pub alone_step : (runs : List (Option Run)) → Good runs → (l : List ℕ) (c : Call) → concerns l c ≡ true
    → found label_of l (step runs c) ≡ alone l (found label_of l runs) c
alone_step runs g l c h = found_step runs g l c ∙ ap (λ a. left_by a (found label_of l runs) (run_by l (found label_of l runs) c)) (alone_answer l runs c h)

-- another call leaves an open run as it is, unless it closes it
pub other_step : (runs : List (Option Run)) → Good runs → (l : List ℕ) (r : Run) → found label_of l runs ≡ some r → (c : Call) → concerns l c ≡ false
    → closes l c ≡ false
    → found label_of l (step runs c) ≡ some r
unfolding checks
other_step runs g l r o c h k = found_step runs g l c ∙ by (answer runs c) refl
  where
    kept : (c : Call) → concerns l c ≡ false → closes l c ≡ false → All Passes (checks runs c) → run_by l (found label_of l runs) c ≡ some r
    kept (open_run x) h k p =
        let apart : same x l ≡ false = refuted (same x l)
        (λ e. true≢false (sym (has_found label_of l runs ∙ ap is_some o) ∙ ap (λ z. is_open z runs) (sym (same_eq x l e)) ∙ p.1.0)) in
        ap (λ z. cond z (some (new_run x)) (found label_of l runs)) apart ∙ o
    kept (close_run x) h k p = ap (λ z. cond z none (found label_of l runs)) k ∙ o
    kept (publish x d t s) h k p =
        ap (λ z. cond z (some (record { label = x; slots = published (port d t s) (slots_of l runs) })) (found label_of l runs)) h ∙ o
    kept (ask x d) h k p = o
    kept (end_session s) h k p = absurd (true≢false h)

    by : (a : Answer) → answer runs c ≡ a → left_by a (found label_of l runs) (run_by l (found label_of l runs) c) ≡ some r
    by (accepted v) e = kept c h k (all_pass (checks runs c) (values runs c) v e)
    by (refused n) e = o

-- a call that concerns an open run keeps it open
pub alone_open : (l : List ℕ) (r : Run) (c : Call) → concerns l c ≡ true → (q : Run) × (alone l (some r) c ≡ some q)
alone_open l r c h = by (answer (some r ∷ []) c) c h
  where
    by : (a : Answer) (c : Call) → concerns l c ≡ true → (q : Run) × (left_by a (some r) (run_by l (some r) c) ≡ some q)
    by (accepted v) (open_run x) h = absurd (true≢false (sym h))
    by (accepted v) (close_run x) h = absurd (true≢false (sym h))
    by (accepted v) (publish x d t s) h = (
      record { label = x; slots = published (port d t s) r.slots },
      ap
          (λ z. cond z (some (record { label = x; slots = published (port d t s) r.slots })) (some r)) h,
    )
    by (accepted v) (ask x d) h = (r, refl)
    by (accepted v) (end_session s) h = (record { label = r.label; slots = withdrawn s r.slots }, refl)
    by (refused k) c h = (r, refl)
