-- Rows in parts, with one octet between each two. Assumes nothing.
use Rattle.std.specs.Prelude.{cond, List, [], ◌∷◌, ◌++◌, ℕ, suc, length, drop, eqb, ltb}

-- The parts of a row that octets c are between: one more than there are such octets.
abbrev pub onto : ℕ → List (List ℕ) → List (List ℕ)
onto x [] = (x ∷ []) ∷ []
onto x (p ∷ ps) = (x ∷ p) ∷ ps

unfoldable pub split : ℕ → List ℕ → List (List ℕ)
split c [] = [] ∷ []
split c (x ∷ xs) = cond (eqb x c) ([] ∷ split c xs) (onto x (split c xs))

-- how many octets are before the first c
unfoldable pub until : ℕ → List ℕ → ℕ
until c [] = 0
until c (x ∷ xs) = cond (eqb x c) 0 (suc (until c xs))

-- the parts from place i on; there are none where the place is after the end
unfoldable pub parts_from : ℕ → List ℕ → ℕ → List (List ℕ)
parts_from c xs i = cond (ltb (length xs) i) [] (split c (drop i xs))

-- Parts with an octet c between each two. The parts of a row are exactly the parts without c that so give it (proofs/Parts.antt).
abbrev pub join : ℕ → List (List ℕ) → List ℕ
join c [] = []
join c (p ∷ []) = p
join c (p ∷ (q ∷ ps)) = p ++ (c ∷ join c (q ∷ ps))
