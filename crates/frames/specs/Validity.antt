-- Whether a state is valid, as tests: Valid of Scanning, field by field (proofs/Checks.antt). Assumes nothing.
use Rattle.std.specs.Prelude.{Bool, ◌&&◌, ◌||◌, not, List, [], ◌∷◌, ℕ, ◌+◌, ◌*◌, length, get_or, eqb, leb, ltb}
use Rattle.headers.specs.Characters.{is_begun}
use Rattle.frames.specs.declared.state.Scan.{Scan}
use Rattle.frames.specs.Scanning.{style_of, most_of, word_of, len_max, line_open, outside}

-- by a command's number, how many letters tell its word from those of the commands before it; 0 is no command
abbrev pub leasts : List ℕ
leasts = 0 ∷ 1 ∷ 2 ∷ 1 ∷ 1 ∷ 3 ∷ 8 ∷ 1 ∷ 1 ∷ 1 ∷ 1 ∷ 1 ∷ 1 ∷ 2 ∷ 2 ∷ 1 ∷ []

-- c is the first command that begins with the first k letters of its word
abbrev pub is_reached : ℕ → ℕ → Bool
is_reached c k = leb c 15 && (leb (get_or leasts c 0) k && leb k (length (word_of c)))

module _ (st : Scan) where
  -- the numbers are small
  abbrev pub is_small : Bool
  is_small =
      leb st.phase 16
      && leb (st.lines + line_open st.phase) 32
      && leb st.len (len_max st.phase)
      && leb st.size 32768
      && leb st.at (outside st.phase + 514 * st.lines + st.len)

  -- the word and the body so far
  abbrev pub is_so_far : Bool
  is_so_far =
      (not (eqb st.phase 0) || (eqb st.command 0 && eqb st.at 0))
      && (not (eqb st.phase 2) || is_reached st.command st.at)
      && (not (eqb st.phase 12) || leb st.len (most_of st.command))
      && (not (eqb st.phase 13) || leb st.len st.size)

  -- what most phases do not use is 0 there: lines, the number of a refusal, the octets matched, a length, how far a character is read;
  -- inside a character that is such as a run can leave; the rest is not looked at
  abbrev pub is_clean : Bool
  is_clean =
      (not (ltb st.phase 4) || eqb st.lines 0)
      && (not (ltb st.phase 16) || eqb st.code 0)
      && (not (ltb 6 st.phase) || eqb st.matched 0)
      && (st.sized || (eqb st.phase 9 || eqb st.size 0))
      && (not (eqb st.phase 12) || not st.sized)
      && (eqb st.phase 6 || (eqb st.phase 8 || eqb st.rest 0))
      && (not (eqb st.phase 6 || eqb st.phase 8) || is_begun (style_of st.crlf st.command) st.rest)

  unfoldable pub is_valid : Bool
  is_valid = is_small && is_so_far && is_clean
