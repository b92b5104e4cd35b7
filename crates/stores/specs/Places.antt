-- Texts in places of fixed width: the text, and octets 0 after it. Assumes nothing.
use Rattle.std.specs.Prelude.{Bool, List, ◌++◌, ℕ, ◌-◌, length, take, replicate, eqb}
use Rattle.headers.specs.Rows.{every}

-- only octets 0
abbrev pub is_zero : List ℕ → Bool
is_zero s = every (λ x. eqb x 0) s

-- a text, and octets 0 after it up to w
abbrev pub padded : ℕ → List ℕ → List ℕ
padded w x = x ++ replicate (w - length x) 0

-- as much of it as a place of w octets holds
abbrev pub filled : ℕ → List ℕ → List ℕ
filled w x = take w (padded w x)
