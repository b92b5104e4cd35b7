-- The lists and the pairs of a plan, as the code has them. Assumes nothing.
use Rattle.std.specs.Prelude.{◌≡◌, Bool, not, List, [], ℕ, ◌<◌, Option as Perhaps, Some, None, ⊤, Result, Ok, Err}
use Rattle.std.proofs.Math.Option.{none, some}
use Rattle.headers.specs.Rows.{any, first_of}
use Rattle.topics.specs.Lists.{Entry, Pair}
use Rattle.topics.specs.Plans.{with_message, fault_number}
use Rattle.headers.specs.Answers.{Answer}
use Rattle.topics.specs.declared.plan.PairFault.{PairFault}
use Rattle.topics.specs.Places.{Inside, placed, entries}
use Rattle.topics.specs.declared.list.Record.{Record}
use Rattle.topics.specs.declared.list.ValidList.{ValidList}
use Rattle.topics.specs.declared.list.Column.{Column}
use Rattle.topics.specs.declared.list.Column.TheVariants.{Message, Subscription}

-- what a valid list says
abbrev pub entries_of : ValidList → List Entry
entries_of v = entries v.list.width v.list.octets.now

-- a closure that may give such answers at numbers computes a test
abbrev pub IsTest : (ℕ → Bool → Type 0) → (ℕ → Bool) → Type 0
IsTest post f = (n : ℕ) (t : Bool) → n < 4294967296 → post n t → t ≡ f n

-- the first record whose number passes a test
abbrev pub FirstOf : (ℕ → Bool) → ValidList → Perhaps Record → Type 0
FirstOf f v (Some r) = Inside v.list.octets.now r × (first_of (λ e. f e.number) (entries_of v) ≡ some (placed v.list.octets.now r))
FirstOf f v None = first_of (λ e. f e.number) (entries_of v) ≡ none

-- no pair has the message of this number
abbrev pub has_none : List Pair → ℕ → Bool
has_none ps n = not (any (with_message n) ps)

-- the number of a pair in a column, and where it begins
abbrev pub in_column : Column → Pair → ℕ
in_column Message p = p.message
in_column Subscription p = p.subscription

abbrev pub place_of : Column → ℕ
place_of Message = 0
place_of Subscription = 4

-- what the code says of a pair
abbrev pub pair_says : Result ⊤ PairFault → Answer
pair_says (Ok u) = Answer.accepted []
pair_says (Err f) = Answer.refused (fault_number f)
