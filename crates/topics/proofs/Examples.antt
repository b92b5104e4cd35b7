-- The examples hold. Assumes nothing.
--     says             what an answer says is so
--     examples_hold    every row's claim
use mathlib.Core.Path.{◌≡◌, refl, sym, ◌∙◌, ap, subst}
use mathlib.Core.Bool.{Bool, true, false, cond, not}
use mathlib.Core.List.{List, [], ◌∷◌, map}
use Prim.Native.Nat.{ℕ}
use lib.ListN.{get_or, drop}
use Rattle.headers.specs.Rows.{All}
use Rattle.headers.specs.Parts.{split}
use Rattle.headers.specs.Answers.{accepted, refused}
use Rattle.topics.specs.Topics.{words, well_formed, matches, yes_or_no, match_answer}
use Rattle.topics.specs.Examples.{Example, Says, Holds, examples}
use Rattle.topics.proofs.Matching.{sound, complete}

pub says : (name pattern : List ℕ) → Says (match_answer name pattern) name pattern
unfolding match_answer
says name pattern = by (well_formed name) (well_formed pattern) (matches (words pattern) (words name)) refl
  where
    by : (n p t : Bool) → matches (words pattern) (words name) ≡ t → Says (cond (not n) (refused 80) (cond (not p) (refused 81) (accepted (yes_or_no t ∷ [])))) name pattern
    by false p t e = tt
    by true false t e = tt
    by true true true e = sound (words pattern) (words name) e
    by true true false e = λ m. let other = sym e ∙ complete m in cc

-- the answer of a row is computed
computed : (e : Example) → match_answer e.name e.pattern ≡ e.answer → Holds e
computed e h = record { answers = h; exactly = subst (λ a. Says a e.name e.pattern) h (says e.name e.pattern) }

-- every row, where their answers are computed
all_computed : (es : List Example) → map (λ e. match_answer e.name e.pattern) es ≡ map (λ e. e.answer) es → All Holds es
all_computed [] h = tt
all_computed (e ∷ es) h = (computed e (ap (λ answers. get_or answers 0 (refused 0)) h), all_computed es (ap (drop 1) h))

pub examples_hold : All Holds examples
unfolding examples match_answer well_formed split matches
examples_hold = all_computed examples refl
