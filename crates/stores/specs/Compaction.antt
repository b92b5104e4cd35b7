-- Rows of one width in a flat store, and those of them that stay when others are taken out, in the code's terms. Assumes nothing.
use Rattle.std.specs.Prelude.{Bool, cond, ◌&&◌, ◌||◌, not, List, [], ◌∷◌, ◌++◌, ℕ, suc, ◌*◌, ◌≤◌, ◌≡◌, eqb, leb, ltb, length, take, drop}
use Rattle.stores.specs.declared.compaction.Range.{Range}

-- the rows of w octets in a store, one for each place in the list
unfoldable pub rows : ℕ → List ℕ → List ℕ → List (List ℕ)
rows w s [] = []
rows w s (p ∷ ps) = take w s ∷ rows w (drop w s) ps

abbrev pub joined : List (List ℕ) → List ℕ
joined [] = []
joined (r ∷ rs) = r ++ joined rs

-- Which rows are taken out is the code's struct: those numbered from one on and before another that are of the place.
-- the one numbered i, of place p, stays
abbrev pub stays_at : Range → ℕ → ℕ → Bool
stays_at g i p = ltb i g.from || (leb g.to i || not (eqb p g.of))

-- those that stay of a list, by their places, the first of which is numbered i
unfoldable pub kept : {A : Type 0} → Range → ℕ → List ℕ → List A → List A
kept g i [] xs = []
kept g i (p ∷ ps) [] = []
kept g i (p ∷ ps) (x ∷ xs) = cond (stays_at g i p) (x ∷ kept g (suc i) ps xs) (kept g (suc i) ps xs)

-- a row, or nothing
abbrev pub if_kept : Bool → List ℕ → List ℕ
if_kept stays row = cond stays row []

-- the octets that they are laid out in
abbrev pub kept_octets : Range → ℕ → ℕ → List ℕ → List ℕ → List ℕ
kept_octets g w i s ps = joined (kept g i ps (rows w s ps))

-- a store of rows, one for each place, and room for all of them
pub record Compacts (w : ℕ) (s ps out : List ℕ) : Type 0 where
  pub store_long : length s ≡ length ps * w
  pub room : length s ≤ length out

-- the same as a test
abbrev pub compacts : ℕ → List ℕ → List ℕ → List ℕ → Bool
compacts w s ps out = eqb (length s) (length ps * w) && leb (length s) (length out)

-- what is put at the front of out: nothing where the sizes do not fit
abbrev pub kept_in : Range → ℕ → List ℕ → List ℕ → List ℕ → List ℕ
kept_in g w s ps out = cond (compacts w s ps out) (kept_octets g w 0 s ps) []
