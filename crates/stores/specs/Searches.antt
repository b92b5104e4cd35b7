-- Searches for the first element that passes a test. Assumes nothing.
use Rattle.std.specs.Prelude.{Bool, cond, List, [], ◌∷◌, ℕ, suc, Option as CodeOption, Some, None}
use Rattle.std.proofs.Math.Option.{Option, none, some}

-- the place of the first that passes the test, counted from k
unfoldable pub first_from : {A : Type 0} → (A → Bool) → ℕ → List A → Option ℕ
first_from p k [] = none
first_from p k (x ∷ xs) = cond (p x) (some k) (first_from p (suc k) xs)

-- the first that passes the test, replaced
unfoldable pub replaced : {A : Type 0} → (A → Bool) → A → List A → List A
replaced p y [] = []
replaced p y (x ∷ xs) = cond (p x) (y ∷ xs) (x ∷ replaced p y xs)

-- where the code's search ended
abbrev pub search_says : CodeOption ℕ → Option ℕ
search_says (Some k) = some k
search_says None = none
