-- The examples of plans hold. Assumes nothing.
--     claims           what an answer says of a plan is so
--     examples_hold    every row's claim
use mathlib.Core.Path.{◌≡◌, refl, sym, ◌∙◌, ap, subst}
use mathlib.Core.List.{List, [], ◌∷◌, map}
use Prim.Native.Nat.{ℕ}
use lib.ListN.{get_or, drop}
use Rattle.headers.specs.Rows.{All}
use Rattle.headers.specs.Parts.{split}
use Rattle.headers.specs.Numbers.{evaluate, numeral}
use Rattle.topics.specs.Topics.{well_formed, matches}
use Rattle.topics.specs.Lists.{records_within, records}
use Rattle.topics.specs.Plans.{Verdict, accepted, refusal, pair_answer, checked, plan_answer}
use Rattle.topics.specs.PlanExamples.{Example, Claims, Holds, examples}
use Rattle.topics.proofs.Assignments.{acceptable, is_acceptable}

pub claims : (messages subscriptions plan : List ℕ) → Claims (plan_answer messages subscriptions plan) messages subscriptions plan
claims messages subscriptions plan = by (plan_answer messages subscriptions plan) refl
  where
    by : (v : Verdict) → plan_answer messages subscriptions plan ≡ v → Claims v messages subscriptions plan
    by accepted e = is_acceptable messages subscriptions plan e
    by (refusal k n) e = λ a. let other = sym e ∙ acceptable messages subscriptions plan a in cc

abbrev answer : Example → Verdict
answer e = plan_answer e.messages e.subscriptions e.plan

-- the answer of a row is computed
computed : (e : Example) → answer e ≡ e.verdict → Holds e
computed e h = record { answers = h; exactly = subst (λ v. Claims v e.messages e.subscriptions e.plan) h (claims e.messages e.subscriptions e.plan) }

-- every row, where their answers are computed
all_computed : (es : List Example) → map answer es ≡ map (λ e. e.verdict) es → All Holds es
all_computed [] h = tt
all_computed (e ∷ es) h = (computed e (ap (λ answers. get_or answers 0 accepted) h), all_computed es (ap (drop 1) h))

pub examples_hold : All Holds examples
unfolding examples plan_answer checked pair_answer records records_within well_formed split matches evaluate numeral
examples_hold = all_computed examples refl
