-- Characters of UTF-8 in numbers, as the code has them: what one octet does to a character that is under way, and whole characters at the
-- front of a row. Assumes nothing.
use Rattle.std.specs.Prelude.{◌≡◌, Option, Some, None, Bool, cond, ◌&&◌, ◌||◌, List, [], ◌∷◌, ◌++◌, ℕ, ◌+◌, ◌-◌, ◌≤◌, length, take, drop, get_or, eqb, leb, ltb}
use Rattle.headers.specs.Rows.{every}
use Rattle.headers.specs.declared.text.Style.{Style}
use Rattle.headers.specs.Text.{missing, tail, second, ascii, Wide, Part, fresh, back, led, tails, Into, into, bad, stop}

-- How far a character is read, in one number: 0 not begun, 92 a backslash, 1 or 2 octets of it to come, or its first octet.
abbrev pub part_number : Part → ℕ
part_number fresh = 0
part_number back = 92
part_number (led x) = x
part_number (tails n) = n

abbrev pub utf8_part : ℕ → Part
utf8_part n = cond (eqb n 0) fresh (cond (ltb n 3) (tails n) (led n))

abbrev pub text_part : ℕ → Part
text_part n = cond (eqb n 92) back (utf8_part n)

-- the numbers of a character that is begun and not whole
abbrev pub is_begun : Style → ℕ → Bool
is_begun s n = (s.escapes && eqb n 92) || (eqb n 1 || (eqb n 2 || ltb 0 (missing n)))

-- what one octet does, as such a number; none where it does not go on
abbrev pub part_after : Into → Option ℕ
part_after (into p) = Some (part_number p)
part_after (bad k) = None
part_after stop = None

-- a character of more than one octet stands whole at the front of a row
abbrev pub is_wide : List ℕ → Bool
is_wide xs =
    ltb 0 (missing (get_or xs 0 0))
    && (leb (missing (get_or xs 0 0) + 1) (length xs)
    && (second (get_or xs 0 0) (get_or xs 1 0) && every tail (take (missing (get_or xs 0 0) - 1) (drop 2 xs))))

-- how many octets it has; 0 where there is none
unfoldable pub wide_front : List ℕ → ℕ
wide_front xs = cond (is_wide xs) (missing (get_or xs 0 0) + 1) 0

-- the same of any character of UTF-8
unfoldable pub front_character : List ℕ → ℕ
front_character [] = 0
front_character (x ∷ xs) = cond (ascii x) 1 (wide_front (x ∷ xs))

-- such a number of octets, or none
abbrev pub whole : ℕ → Option ℕ
whole n = cond (eqb n 0) None (Some n)

-- characters of more than one octet, one after another
pub data Wides : List ℕ → Type 0 where
  no_wide : Wides []
  one_wide : {u xs : List ℕ} → Wide u → Wides xs → Wides (u ++ xs)

-- n octets of them at the front of a row, and no further one after them
pub record WideStretch (xs : List ℕ) (n : ℕ) : Type 0 where
  pub within : n ≤ length xs
  pub row : Wides (take n xs)
  pub ends : wide_front (drop n xs) ≡ 0
