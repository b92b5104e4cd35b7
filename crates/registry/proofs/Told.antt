-- One call changes the ports of a run and the labels of the open runs as it is told. Assumes nothing.
--     Holds, ports_step       as many ports of each kind are told as the run holds
--     Open, runs_step         as many labels of each kind are told as runs are open
use mathlib.Core.Path.{◌≡◌, refl, sym, ◌∙◌, ap}
use mathlib.Core.Bool.{Bool, true, false, cond, ◌&&◌, not}
use mathlib.Core.Option.{Option, none, some}
use mathlib.Core.List.{List, [], ◌∷◌}
use Prim.Native.Nat.{ℕ}
use lib.Dec.{eqb}
use borrow.Author.Tests.{not-false}
use Rattle.headers.specs.Rows.{same, All}
use Rattle.headers.specs.Answers.{Answer, accepted, refused}
use Rattle.headers.proofs.Settling.{Passes, all_pass}
use Rattle.headers.proofs.Rows.{same_eq}
use Rattle.stores.specs.Searches.{replaced}
use Rattle.registry.specs.Slots.{is_free, holds, has_free, has, found, distinct}
use Rattle.registry.specs.Registry.{Port, Run, destination_of, label_of, is_open, slots_in, slots_of, new_run, published, unless_of, run_without, ended}
use Rattle.registry.specs.Calls.{Call, open_run, close_run, publish, ask, end_session, checks, values, effect, left_by}
use Rattle.registry.specs.Histories.{those, runs_by, ports_by}
use Rattle.registry.proofs.Slots.{found_none}
use Rattle.registry.proofs.Counting.{more, count, tally, tally_those, count_new, others, count_others, count_again, count_freed, count_named, count_kept}
use Rattle.registry.proofs.Keeping.{answer, step, Good, good_run_slots, of_session}
use Rattle.registry.proofs.Local.{port, run_by, found_step}

-- ---- the ports of a run

-- the slots of a run, and what is told of its ports: as many of each kind
abbrev pub Holds : List (Option Port) → List Port → Type 0
Holds slots ports = (q : Port → Bool) → count q slots ≡ tally q ports

-- of slots that a port is published in
holds_published : (p : Port) (slots : List (Option Port)) (ports : List Port) → Holds slots ports → distinct destination_of slots ≡ true
    → not (has destination_of p.destination slots) && not (has_free slots) ≡ false
    → Holds (published p slots) (p ∷ those (λ o. not (same o.destination p.destination)) ports)
unfolding published
holds_published p slots ports so apart room q =
    by (has destination_of p.destination slots) refl room
    ∙ ap (more (q p)) (so (others destination_of q p.destination) ∙ sym (tally_those q (λ o. not (same o.destination p.destination)) ports))
  where
    by : (t : Bool) → has destination_of p.destination slots ≡ t → not t && not (has_free slots) ≡ false
        → count q (cond t (replaced (holds destination_of p.destination) (some p) slots) (replaced is_free (some p) slots))
        ≡ more (q p) (count (others destination_of q p.destination) slots)
    by true h k = count_again destination_of q p slots apart h
    by false h k =
        count_new q p slots (not-false (has_free slots) k) ∙ ap (more (q p)) (sym (count_others destination_of q p.destination slots h))

-- of slots that a session's ports are withdrawn from
holds_ended : (s : ℕ) (o : Option Run) (ports : List Port) → Holds (slots_in o) ports
    → Holds (slots_in (run_without s o)) (those (λ p. not (eqb p.session s)) ports)
holds_ended s none ports so q = so (λ p. q p && not (eqb p.session s)) ∙ sym (tally_those q (λ p. not (eqb p.session s)) ports)
holds_ended s (some r) ports so q =
    count_kept (unless_of s) (of_session s) refl (λ p. refl) q r.slots
    ∙ so (λ p. q p && not (eqb p.session s)) ∙ sym (tally_those q (λ p. not (eqb p.session s)) ports)

module _ (runs : List (Option Run)) (g : Good runs) (l : List ℕ) (ports : List Port) (so : Holds (slots_of l runs) ports) where
  apart_slots : distinct destination_of (slots_of l runs) ≡ true
  apart_slots = by (found label_of l runs) refl
    where
      by : (o : Option Run) → found label_of l runs ≡ o → distinct destination_of (slots_in o) ≡ true
      by none e = refl
      by (some r) e = (good_run_slots runs g l r e).apart

  ports_effect : (c : Call) → All Passes (checks runs c) → Holds (slots_in (run_by l (found label_of l runs) c)) (ports_by l ports c)
  unfolding checks
  ports_effect (open_run x) p q = by (same x l) refl
    where
      by : (u : Bool) → same x l ≡ u → count q (slots_in (cond u (some (new_run x)) (found label_of l runs))) ≡ tally q ports
      by true e = sym (ap (λ z. count q (slots_in z)) (found_none label_of l runs (ap (λ z. is_open z runs) (sym (same_eq x l e)) ∙ p.1.0))) ∙ so q
      by false e = so q
  ports_effect (close_run x) p q = by (same x l)
    where
      by : (u : Bool) → count q (slots_in (cond u none (found label_of l runs))) ≡ tally q (cond u [] ports)
      by true = refl
      by false = so q
  ports_effect (publish x y t s) p q = by (same x l) refl
    where
      by : (u : Bool) → same x l ≡ u
          → count q (slots_in (cond u (some (record { label = x; slots = published (port y t s) (slots_of l runs) })) (found label_of l runs)))
          ≡ tally q (cond u (port y t s ∷ those (λ o. not (same o.destination y)) ports) ports)
      by true e =
          holds_published (port y t s) (slots_of l runs) ports so apart_slots
          (ap (λ z. not (has destination_of y (slots_of z runs)) && not (has_free (slots_of z runs))) (sym (same_eq x l e)) ∙ p.1.1.1.0) q
      by false e = so q
  ports_effect (ask x y) p q = so q
  ports_effect (end_session s) p q = holds_ended s (found label_of l runs) ports so q

  pub ports_step : (c : Call) → Holds (slots_of l (step runs c)) (left_by (answer runs c) ports (ports_by l ports c))
  ports_step c q = ap (λ z. count q (slots_in z)) (found_step runs g l c) ∙ by (answer runs c) refl
    where
      by : (a : Answer) → answer runs c ≡ a
          → count q (slots_in (left_by a (found label_of l runs) (run_by l (found label_of l runs) c))) ≡ tally q (left_by a ports (ports_by l ports c))
      by (accepted v) e = ports_effect c (all_pass (checks runs c) (values runs c) v e) q
      by (refused k) e = so q

-- ---- the labels of the open runs

abbrev pub Open : List (Option Run) → List (List ℕ) → Type 0
Open runs labels = (q : List ℕ → Bool) → count (λ r. q (label_of r)) runs ≡ tally q labels

-- a session's end keeps the labels
count_ended : (s : ℕ) (q : List ℕ → Bool) (runs : List (Option Run)) → count (λ r. q (label_of r)) (ended s runs) ≡ count (λ r. q (label_of r)) runs
count_ended s q [] = refl
count_ended s q (none ∷ runs) = count_ended s q runs
count_ended s q (some r ∷ runs) = ap (more (q r.label)) (count_ended s q runs)

module _ (runs : List (Option Run)) (g : Good runs) (labels : List (List ℕ)) (so : Open runs labels) where
  runs_effect : (c : Call) → All Passes (checks runs c) → Open (effect runs c) (runs_by labels c)
  unfolding checks effect
  runs_effect (open_run x) p q =
      count_new (λ r. q (label_of r)) (new_run x) runs (not-false (has_free runs) p.1.1.0) ∙ ap (more (q x)) (so q)
  runs_effect (close_run x) p q =
      count_freed label_of (λ r. q (label_of r)) x runs g.apart ∙ so (λ y. q y && not (same y x)) ∙ sym (tally_those q (λ y. not (same y x)) labels)
  runs_effect (publish x y t s) p q =
      count_named label_of q (record { label = x; slots = published (port y t s) (slots_of x runs) }) runs ∙ so q
  runs_effect (ask x y) p q = so q
  runs_effect (end_session s) p q = count_ended s q runs ∙ so q

  pub runs_step : (c : Call) → Open (step runs c) (left_by (answer runs c) labels (runs_by labels c))
  runs_step c q = by (answer runs c) refl
    where
      by : (a : Answer) → answer runs c ≡ a
          → count (λ r. q (label_of r)) (left_by a runs (effect runs c)) ≡ tally q (left_by a labels (runs_by labels c))
      by (accepted v) e = runs_effect c (all_pass (checks runs c) (values runs c) v e) q
      by (refused k) e = so q
