-- What stands in the buffers that a stream passes through. Assumes nothing.
use Rattle.std.specs.Prelude.{◌≡◌, List, [], ◌++◌, ℕ, ◌+◌, ◌≤◌, cond, length, take, drop, ltb, Option as Maybe, Some, None}
use Rattle.headers.specs.Block.{entries, listed, first_value}
use Rattle.std.proofs.Math.Option.{Option, none, some}
use Rattle.listing.specs.declared.buffers.Output.{Output}

-- a row is laid out behind what is laid out; the rest of the buffer stays
abbrev pub Lays : List ℕ → Output → Output → Type 0
Lays row before after =
    (after.used ≡ before.used + length row)
    × (after.octets ≡ take before.used before.octets ++ (row ++ drop (before.used + length row) before.octets))

-- n octets at most are laid out behind what is laid out, which stays
abbrev pub LaysAtMost : ℕ → Output → Output → Type 0
LaysAtMost n before after =
    (before.used ≤ after.used) × (after.used ≤ before.used + n) × (take before.used after.octets ≡ take before.used before.octets)

-- a line where there is room for any, else nothing
abbrev pub line_in : ℕ → List ℕ → List ℕ
line_in room l = cond (ltb room 160) [] l

-- the first value of a name in a header block, or nothing
abbrev pub value_or_nothing : Option (List ℕ) → List ℕ
value_or_nothing none = []
value_or_nothing (some v) = v

abbrev pub first_value_in : List ℕ → List ℕ → List ℕ
first_value_in block name = value_or_nothing (first_value name (listed (entries block)))
