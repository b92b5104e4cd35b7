-- Every call keeps a registry good. Assumes nothing.
--     answer, step            what a call answers and leaves, of the runs alone
--     Good, GoodSlots         the tests of a registry and of a run's slots, taken apart
--     good_step               one call
use mathlib.Core.Path.{◌≡◌, refl, sym, ◌∙◌, ap, ap₂}
use mathlib.Core.Bool.{Bool, true, false, cond, ◌&&◌, ◌||◌, not, true≢false}
use mathlib.Core.Option.{Option, none, some}
use mathlib.Core.List.{List, [], ◌∷◌}
use Prim.Native.Nat.{ℕ}
use lib.ListN.{length, replicate}
use lib.Dec.{eqb}
use borrow.Author.Tests.{eqb-true, eq-eqb, not-false}
use Rattle.headers.specs.Rows.{every, same, All}
use Rattle.headers.specs.Answers.{Answer, accepted, refused, settle}
use Rattle.headers.proofs.Settling.{Passes, all_pass}
use Rattle.headers.proofs.Rows.{cond_case, and_left, and_right, or_false_left, or_false_right}
use Rattle.stores.specs.Searches.{replaced}
use Rattle.stores.proofs.Searching.{replaced_length}
use Rattle.registry.specs.Slots.{is_free, holds, has, found, distinct}
use Rattle.registry.specs.Registry.{Port, Run, destination_of, label_of, is_open, slots_in, slots_of, runs_max, ports_max, label_max, destination_max, text_max, bad_size, good_port, good_slots, good_run, good, no_runs, new_run, published, unless_of, withdrawn, opened, closed, with_slots, run_without, ended}
use Rattle.registry.specs.Calls.{Call, open_run, close_run, publish, ask, end_session, checks, values, effect, left_by}
use Rattle.registry.specs.Histories.{is_call}
use Rattle.registry.proofs.Slots.{is_some, none_some, has_found, every_replaced, length_mapped, every_mapped, distinct_keep, distinct_freed, distinct_new, distinct_again, distinct_map}

abbrev pub answer : List (Option Run) → Call → Answer
answer runs c = settle (checks runs c) (values runs c)

abbrev pub step : List (Option Run) → Call → List (Option Run)
step runs c = left_by (answer runs c) runs (effect runs c)

-- what holds before, and after an accepted call, holds of what a call leaves
pub left_case : {A : Type 0} (P : A → Type 0) (a : Answer) (before after : A) → P before → ((v : List ℕ) → a ≡ accepted v → P after)
    → P (left_by a before after)
left_case P (accepted v) before after p q = q v refl
left_case P (refused k) before after p q = p

-- ---- the tests, taken apart

pub record GoodSlots (slots : List (Option Port)) : Type 0 where
  pub long : length slots ≡ ports_max
  pub each : every good_port slots ≡ true
  pub apart : distinct destination_of slots ≡ true

pub record Good (runs : List (Option Run)) : Type 0 where
  pub long : length runs ≡ runs_max
  pub each : every good_run runs ≡ true
  pub apart : distinct label_of runs ≡ true

pub slots_record : (slots : List (Option Port)) → good_slots slots ≡ true → GoodSlots slots
slots_record slots h =
    let rest = and_right (eqb (length slots) ports_max) (every good_port slots && distinct destination_of slots) h in
    record {
      long = eqb-true (length slots) ports_max (and_left (eqb (length slots) ports_max) (every good_port slots && distinct destination_of slots) h);
      each = and_left (every good_port slots) (distinct destination_of slots) rest;
      apart = and_right (every good_port slots) (distinct destination_of slots) rest;
    }

pub record_slots : (slots : List (Option Port)) → GoodSlots slots → good_slots slots ≡ true
record_slots slots g = ap₂ (◌&&◌) (eq-eqb (length slots) ports_max g.long) (ap₂ (◌&&◌) g.each g.apart)

pub good_record : (runs : List (Option Run)) → good runs ≡ true → Good runs
unfolding good
good_record runs h =
    let rest = and_right (eqb (length runs) runs_max) (every good_run runs && distinct label_of runs) h in
    record {
      long = eqb-true (length runs) runs_max (and_left (eqb (length runs) runs_max) (every good_run runs && distinct label_of runs) h);
      each = and_left (every good_run runs) (distinct label_of runs) rest;
      apart = and_right (every good_run runs) (distinct label_of runs) rest;
    }

pub record_good : (runs : List (Option Run)) → Good runs → good runs ≡ true
unfolding good
record_good runs g = ap₂ (◌&&◌) (eq-eqb (length runs) runs_max g.long) (ap₂ (◌&&◌) g.each g.apart)

-- what is found passes the test that every slot passes
pub every_found : {A : Type 0} (name : A → List ℕ) (q : Option A → Bool) (x : List ℕ) (slots : List (Option A)) (a : A) → every q slots ≡ true
    → found name x slots ≡ some a
    → q (some a) ≡ true
every_found name q x [] a h e = absurd (none_some a e)
every_found name q x (none ∷ slots) a h e = every_found name q x slots a (and_right (q none) (every q slots) h) e
every_found name q x (some b ∷ slots) a h e = by (same (name b) x) e (every_found name q x slots a (and_right (q (some b)) (every q slots) h))
  where
    by : (t : Bool) → cond t (some b) (found name x slots) ≡ some a → (found name x slots ≡ some a → q (some a) ≡ true) → q (some a) ≡ true
    by true k go = ap q (sym k) ∙ and_left (q (some b)) (every q slots) h
    by false k go = go k

-- the slots of an open run are good
pub good_run_slots : (runs : List (Option Run)) → Good runs → (l : List ℕ) (r : Run) → found label_of l runs ≡ some r → GoodSlots r.slots
good_run_slots runs g l r e =
    slots_record r.slots (and_right (not (bad_size label_max r.label)) (good_slots r.slots) (every_found label_of good_run l runs r g.each e))

-- ---- each change of a run's slots

pub good_published : (p : Port) (slots : List (Option Port)) → good_port (some p) ≡ true → GoodSlots slots → GoodSlots (published p slots)
unfolding published
good_published p slots ok g = by (has destination_of p.destination slots) refl
  where
    by : (t : Bool) → has destination_of p.destination slots ≡ t
        → GoodSlots (cond t (replaced (holds destination_of p.destination) (some p) slots) (replaced is_free (some p) slots))
    by true e =
        record {
          long = replaced_length (holds destination_of p.destination) (some p) slots ∙ g.long;
          each = every_replaced (holds destination_of p.destination) (some p) good_port slots ok g.each;
          apart = distinct_again destination_of p slots g.apart;
        }
    by false e =
        record {
          long = replaced_length is_free (some p) slots ∙ g.long;
          each = every_replaced is_free (some p) good_port slots ok g.each;
          apart = distinct_new destination_of is_free p slots e g.apart;
        }

-- a session's ports withdrawn
abbrev pub of_session : ℕ → Port → Bool
of_session s p = eqb p.session s

pub good_unless : (s : ℕ) (o : Option Port) → good_port o ≡ true → good_port (unless_of s o) ≡ true
good_unless s none h = refl
good_unless s (some p) h = cond_case (λ z. good_port z ≡ true) (eqb p.session s) (λ e. refl) (λ e. h)

pub good_withdrawn : (s : ℕ) (slots : List (Option Port)) → GoodSlots slots → GoodSlots (withdrawn s slots)
good_withdrawn s slots g =
    record {
      long = length_mapped (unless_of s) slots ∙ g.long;
      each = every_mapped (unless_of s) good_port (good_unless s) slots g.each;
      apart = distinct_keep destination_of (unless_of s) (of_session s) refl (λ p. refl) slots g.apart;
    }

-- ---- each change of the runs

-- a session's end keeps labels
pub without_holds : (s : ℕ) (o : Option Run) (x : List ℕ) → holds label_of x (run_without s o) ≡ holds label_of x o
without_holds s none x = refl
without_holds s (some r) x = refl

good_without : (s : ℕ) (o : Option Run) → good_run o ≡ true → good_run (run_without s o) ≡ true
good_without s none h = refl
good_without s (some r) h =
    ap₂ (◌&&◌) (and_left (not (bad_size label_max r.label)) (good_slots r.slots) h)
    (record_slots (withdrawn s r.slots)
    (good_withdrawn s r.slots (slots_record r.slots (and_right (not (bad_size label_max r.label)) (good_slots r.slots) h))))

module _ (runs : List (Option Run)) (g : Good runs) where
  pub good_ended : (s : ℕ) → Good (ended s runs)
  good_ended s =
      record {
        long = length_mapped (run_without s) runs ∙ g.long;
        each = every_mapped (run_without s) good_run (good_without s) runs g.each;
        apart = distinct_map label_of (run_without s) refl (without_holds s) runs g.apart;
      }

  pub good_closed : (l : List ℕ) → Good (closed l runs)
  good_closed l =
      record {
        long = replaced_length (holds label_of l) none runs ∙ g.long;
        each = every_replaced (holds label_of l) none good_run runs refl g.each;
        apart = distinct_freed label_of (holds label_of l) runs g.apart;
      }

  pub good_opened : (l : List ℕ) → bad_size label_max l ≡ false → is_open l runs ≡ false → Good (opened l runs)
  good_opened l size new =
      record {
        long = replaced_length is_free (some (new_run l)) runs ∙ g.long;
        each = every_replaced is_free (some (new_run l)) good_run runs (ap (λ t. not t && good_slots (replicate 8 none)) size) g.each;
        apart = distinct_new label_of is_free (new_run l) runs new g.apart;
      }

  pub good_with : (l : List ℕ) (slots : List (Option Port)) → bad_size label_max l ≡ false → GoodSlots slots → Good (with_slots l slots runs)
  good_with l slots size k =
      let r : Run = record { label = l; slots = slots } in
      record {
        long = replaced_length (holds label_of l) (some r) runs ∙ g.long;
        each = every_replaced (holds label_of l) (some r) good_run runs (ap₂ (λ t u. not t && u) size (record_slots slots k)) g.each;
        apart = distinct_again label_of r runs g.apart;
      }

  -- the slots of an open run
  pub open_slots : (l : List ℕ) → is_open l runs ≡ true → GoodSlots (slots_of l runs)
  open_slots l o = by (found label_of l runs) refl
    where
      by : (f : Option Run) → found label_of l runs ≡ f → GoodSlots (slots_in f)
      by none e = absurd (true≢false (sym o ∙ has_found label_of l runs ∙ ap is_some e))
      by (some r) e = good_run_slots runs g l r e

  -- ---- a call

  good_effect : (c : Call) → is_call c ≡ true → All Passes (checks runs c) → Good (effect runs c)
  unfolding checks effect
  good_effect (open_run l) ok p = good_opened l p.0 p.1.0
  good_effect (close_run l) ok p = good_closed l
  good_effect (publish l d t s) ok p =
      let sizes = or_false_right (bad_size label_max l) (bad_size destination_max d || bad_size text_max t) p.0 in
      let port : Port = record { destination = d; text = t; session = s } in
      good_with l (published port (slots_of l runs)) (or_false_left (bad_size label_max l) (bad_size destination_max d || bad_size text_max t) p.0)
      (good_published port (slots_of l runs)
      (ap₂ (λ a b. not a && b) (or_false_left (bad_size destination_max d) (bad_size text_max t) sizes)
      (ap₂ (λ a b. not a && b) (or_false_right (bad_size destination_max d) (bad_size text_max t) sizes) ok))
      (open_slots l (not-false (is_open l runs) p.1.0)))
  good_effect (ask l d) ok p = g
  good_effect (end_session s) ok p = good_ended s

  pub good_step : (c : Call) → is_call c ≡ true → Good (step runs c)
  good_step c ok =
      left_case Good (answer runs c) runs (effect runs c) g (λ v e. good_effect c ok (all_pass (checks runs c) (values runs c) v e))

pub good_none : Good no_runs
good_none = record { long = refl; each = refl; apart = refl }
