-- Header lines passed at once, by the states of Scanning: whole lines, and as much of the last as is there. Assumes nothing.
use Rattle.std.specs.Prelude.{◌≡◌, Bool, true, cond, ◌&&◌, ◌||◌, not, List, ◌⊎◌, ℕ, ◌+◌, ◌-◌, ◌≤◌, ◌<◌, length, take, drop, get_or, eqb}
use Rattle.headers.specs.Rows.{every}
use Rattle.headers.specs.Lines.{line_max}
use Rattle.headers.specs.Stretches.{plain_in}
use Rattle.headers.specs.declared.text.Style.{Style}
use Rattle.headers.specs.declared.text.Field.TheVariants.{Name as in_name}
use Rattle.frames.specs.Grammar.{lines_max}
use Rattle.frames.specs.Scanning.{text_stops}
use Rattle.frames.specs.declared.state.Scan.{Scan}

-- where a line begins, or in a value
abbrev pub in_lines : Scan → Bool
in_lines st = (eqb st.phase 4 && eqb st.matched 0) || (eqb st.phase 7 && not (eqb st.len 0))

-- the state k octets on, where n lines are read: a line begins, or the next line has l octets so far and is in its value
abbrev pub line_at : Scan → ℕ → ℕ → ℕ → Scan
line_at st n l k = record {
  phase = cond (eqb l 0) 4 7;
  command = st.command;
  lines = n;
  matched = 0;
  sized = st.sized;
  size = st.size;
  len = l;
  at = st.at + k;
  code = 0;
  rest = 0;
  crlf = st.crlf;
}

-- m octets of xs from i on are a name and its colon: every octet of the name is itself, and its first is not that of content-length
pub record Named (y : Style) (xs : List ℕ) (i m : ℕ) : Type 0 where
  pub some : 1 < m
  pub short : m ≤ line_max
  pub within : i + m ≤ length xs
  pub other : get_or xs i 0 ≡ 99 → ⊥
  pub clear : every (plain_in (text_stops y in_name)) (take (m - 1) (drop i xs)) ≡ true
  pub colon : get_or xs (i + (m - 1)) 0 ≡ 58

-- a line that has l octets before i, the one after n others, has m where its value goes on: as many, or its name begins at i
abbrev pub Begun : Style → List ℕ → ℕ → ℕ → ℕ → ℕ → Type 0
Begun y xs i n l m = (m ≡ l) ⊎ ((l ≡ 0) × (n < lines_max) × Named y xs i m)
