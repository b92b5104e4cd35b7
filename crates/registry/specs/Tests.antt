-- The tests on a record by the parts that the code looks at: rows that begin with a text. Assumes nothing.
use Rattle.std.specs.Prelude.{◌≡◌, Bool, true, cond, ◌&&◌, ◌||◌, not, List, [], ◌∷◌, ℕ, ◌+◌, ◌-◌, ◌*◌, ◌≤◌, ◌<◌, length, take, drop, replicate, get_or, eqb, ltb}
use Rattle.headers.specs.Rows.{every, any, same}
use Rattle.headers.specs.Numbers.{numeral}
use Rattle.stores.specs.Places.{is_zero}
use Rattle.registry.specs.Records.{parts, text_in, is_unused, port_size, run_size}
use Rattle.registry.specs.Registry.{runs_max, ports_max}

-- the text that a row begins with is this one; an empty one says that the row is free
abbrev pub is_named : List ℕ → List ℕ → Bool
is_named name row = same (text_in row) name

-- where that text ends
pub record TextEnd (row : List ℕ) (end : ℕ) : Type 0 where
  pub from_one : 1 ≤ end
  pub inside : end ≤ length row
  pub text : take (end - 1) (drop 1 row) ≡ text_in row

-- count rows of size octets
pub record Rows (size count : ℕ) (xs : List ℕ) : Type 0 where
  pub long : length xs ≡ count * size
  pub some_octet : 0 < size

-- no text but the empty one twice
unfoldable pub are_distinct : List (List ℕ) → Bool
are_distinct [] = true
are_distinct (row ∷ rows) = (is_unused row || not (any (is_named (text_in row)) rows)) && are_distinct rows

-- no field of a text, the 33 octets that a row begins with, twice: the code compares these. Where the texts are laid out it says the same.
abbrev pub begins_with : List ℕ → List ℕ → Bool
begins_with field row = same (take 33 row) field

unfoldable pub are_apart : List (List ℕ) → Bool
are_apart [] = true
are_apart (row ∷ rows) = (is_unused row || not (any (begins_with (take 33 row)) rows)) && are_apart rows

-- a text laid out in a field: at least one octet, and 0 after it
unfoldable pub is_field : List ℕ → Bool
is_field f = not (is_unused f) && (ltb (get_or f 0 0) (length f) && is_zero (drop (get_or f 0 0 + 1) f))

unfoldable pub is_port : List ℕ → Bool
is_port xs = cond (is_unused xs) (is_zero xs) (is_field (take 33 xs) && is_field (take 65 (drop 33 xs)))

unfoldable pub is_run : List ℕ → Bool
is_run xs =
    cond (is_unused xs) (is_zero xs)
    (is_field (take 33 xs) && (every is_port (parts port_size ports_max (drop 33 xs)) && are_distinct (parts port_size ports_max (drop 33 xs))))

unfoldable pub is_registry : List ℕ → Bool
is_registry xs = eqb (length xs) 3524 && (every is_run (parts run_size runs_max xs) && are_distinct (parts run_size runs_max xs))

-- a session's ports withdrawn
abbrev pub row_of : ℕ → List ℕ → Bool
row_of s row = same (take 8 (drop 98 row)) (numeral 256 8 s)

abbrev pub row_without : ℕ → List ℕ → List ℕ
row_without s row = cond (row_of s row) (replicate port_size 0) row
