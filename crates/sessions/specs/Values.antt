-- Header values with parts (document 01, "Opening a connection"). Assumes nothing.
use Rattle.std.specs.Prelude.{ℕ, Bool, false, cond, not, ◌&&◌, List, [], ◌∷◌}
use Rattle.std.proofs.Math.Option.{Option, none, some}
use Prim.Native.String.{String}
use Rattle.headers.specs.Rows.{octets_of, empty, every, any, same}
use Rattle.headers.specs.Parts.{split}
use Rattle.headers.specs.Numbers.{is_digit, amount}

-- "items of digits, a point, digits (no part empty), joined by commas"
abbrev pub some_digits : List ℕ → Bool
some_digits p = not (empty p) && every is_digit p

abbrev pub two_numbers : List (List ℕ) → Bool
two_numbers [] = false
two_numbers (a ∷ []) = false
two_numbers (a ∷ b ∷ []) = some_digits a && some_digits b
two_numbers (a ∷ b ∷ c ∷ more) = false

unfoldable pub is_item : List ℕ → Bool
is_item p = two_numbers (split 46 p)

-- "An item counts only if it is exactly 1.0, 1.1 or 1.2; order and repeats don't matter."
abbrev pub counts : String → List (List ℕ) → Bool
counts version items = any (λ p. same p (octets_of version)) items

-- flags for 1.0, 1.1 and 1.2
abbrev pub flags_of : List (List ℕ) → List Bool
flags_of items = counts "1.0" items ∷ counts "1.1" items ∷ counts "1.2" items ∷ []

-- the versions of an accept-version value, none where it is malformed
abbrev pub versions_in : List (List ℕ) → Option (List Bool)
versions_in items = cond (every is_item items) (some (flags_of items)) none

unfoldable pub versions : List ℕ → Option (List Bool)
versions v = versions_in (split 44 v)

-- "two numbers, digits only, a comma between, each at most 3,600,000"
abbrev pub heart_beat_max : ℕ
heart_beat_max = 3600000

-- what a side says of its heart-beats: the first number, how often it can send; the second, how often it wants to hear
pub record HeartBeats : Type 0 where
  pub sends : ℕ
  pub wants : ℕ

abbrev pub both : Option ℕ → Option ℕ → Option HeartBeats
both (some a) (some b) = some (record { sends = a; wants = b })
both (some a) none = none
both none b = none

abbrev pub heart_beats_in : List (List ℕ) → Option HeartBeats
heart_beats_in [] = none
heart_beats_in (a ∷ []) = none
heart_beats_in (a ∷ b ∷ []) = both (amount heart_beat_max a) (amount heart_beat_max b)
heart_beats_in (a ∷ b ∷ c ∷ more) = none

unfoldable pub heart_beats : List ℕ → Option HeartBeats
heart_beats v = heart_beats_in (split 44 v)
