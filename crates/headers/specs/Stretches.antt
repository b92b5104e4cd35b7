-- Stretches of octets: how far a test holds from the front, and stretches without a backslash (C-14). Assumes nothing.
use Rattle.std.specs.Prelude.{◌≡◌, Bool, true, false, cond, ◌&&◌, ◌||◌, not, List, [], ◌∷◌, ◌++◌, ◌⊎◌, ℕ, ◌+◌, ◌≤◌, length, take, drop, get_or, eqb, leb}
use Rattle.headers.specs.Rows.{every}
use Rattle.headers.specs.Escapes.{decode}
use Rattle.headers.specs.declared.plain.Stops.{Stops}
use Rattle.headers.specs.declared.text.Style.{Style}

-- how many octets at the front of a row pass a test
unfoldable pub span : (ℕ → Bool) → List ℕ → ℕ
span p [] = 0
span p (x ∷ xs) = cond (p x) (1 + span p xs) 0

-- the octets that stops leave as they are
abbrev pub plain_in : Stops → ℕ → Bool
plain_in s x = not (eqb x 10 || eqb x s.cr || eqb x s.colon || eqb x s.back) && leb x s.top

-- octets up to top that are at no place of any text a stop: neither 10 nor 13, a colon or a backslash, nor another below 14
abbrev pub calm : ℕ → ℕ → Bool
calm top x = leb 14 x && leb x top && not (eqb x 58) && not (eqb x 92)

-- no backslash
abbrev pub not_back : ℕ → Bool
not_back x = not (eqb x 92)

-- "copy stretches without one at a go, and show that each ends exactly at the first backslash or at the end of the name or value":
-- the stretch at the front of xs has n octets
pub record Stretch (xs : List ℕ) (n : ℕ) : Type 0 where
  pub within : n ≤ length xs
  pub clear : every not_back (take n xs) ≡ true
  pub ends : (n ≡ length xs) ⊎ (get_or xs n 0 ≡ 92)

-- the style without escapes: every octet stands for itself
abbrev pub unescaped : Style
unescaped = record { escapes = false; crlf = true }

-- the raw line, with its line end, of an entry of which no octet is escaped
abbrev pub plain_line : List ℕ → List ℕ → List ℕ
plain_line name value = name ++ (58 ∷ (value ++ (10 ∷ [])))

-- a text of which the first k octets are taken as they are, and the others decoded: where those have no backslash, it is the decoded text
abbrev pub kept : ℕ → Style → List ℕ → List ℕ
kept k s xs = take k xs ++ decode s (drop k xs)
