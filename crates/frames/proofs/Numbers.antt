-- A state that is refused has a number of the table. Assumes nothing.
--     number_known      each row's number is one of the table
--     numbered_on       a run keeps what a state keeps
--     numbered_first, numbered_resumed      so where parsing begins anew, and where a run is taken up
use mathlib.Core.Path.{◌≡◌, refl}
use mathlib.Core.Bool.{Bool, true, false, cond, ◌&&◌, ◌||◌, not}
use mathlib.Core.List.{List, [], ◌∷◌}
use Prim.Native.Nat.{ℕ, ◌+◌, ◌*◌}
use native.Mathlib.Omega.{arith}
use lib.Dec.{eqb, leb, ltb}
use borrow.Author.Tests.{ltb-true, ne_eqb}
use Rattle.headers.specs.Text.{Part, fresh, back, led, tails, owes, Into, into, bad, stop, reads}
use Rattle.headers.specs.Characters.{text_part}
use Rattle.headers.specs.Numbers.{is_digit, digit_value}
use Rattle.headers.specs.Lines.{line_max}
use Rattle.headers.specs.declared.text.Field.TheVariants.{Name as in_name, Value as in_value}
use Rattle.headers.proofs.Rows.{cond_case, and_right, or_yes}
use Rattle.frames.specs.declared.state.Scan.{Scan}
use Rattle.frames.specs.Grammar.{lines_max}
use Rattle.frames.specs.Refusals.{Reason, numbered, no_command, no_10, not_utf8, wrong_escape, nameless, second_colon, no_colon, long_line, many_lines, bad_length, past_body, faulty}
use Rattle.frames.specs.Scanning.{style_of, most_of, next_command, whole_command, name_phase, value_phase, invalid, in_part, body_begins, line_read, on_10, on_word, on_start, on_name_by, on_name, on_more, on_begin, on_digit, on_value_by, on_value, on_length_by, on_length, on_body, on_counted, scan_step, scan, nothing_read}
use Rattle.frames.specs.Validity.{is_valid}
use Rattle.frames.specs.Streams.{is_number, is_numbered, fits_version, is_resumable}

-- the numbers of the table are known
pub number_known : (r : Reason) → is_number (numbered r) ≡ true
number_known = elim [ no_command ↦ refl | no_10 ↦ refl | not_utf8 ↦ refl | wrong_escape ↦ refl | nameless ↦ refl | second_colon ↦ refl | no_colon ↦ refl | long_line ↦ refl | many_lines ↦ refl | bad_length ↦ refl | past_body ↦ refl ]

pub record Numbered (st : Scan) : Type 0 where
  pub known : is_numbered st ≡ true

either : (t : Bool) {a b : Scan} → Numbered a → Numbered b → Numbered (cond t a b)
either t p q = cond_case Numbered t (λ e. p) (λ e. q)

module _ (st : Scan) where
  refused : (r : Reason) → Numbered (invalid st (numbered r))
  refused r = record { known = number_known r }

  word : (x : ℕ) → Numbered (on_word st x)
  unfolding on_word
  word x =
      either (eqb (next_command st.command st.at x) 0)
      (either (eqb (whole_command st.command st.at) 0) (refused no_command)
      (either (eqb x 10) (record { known = refl }) (either (eqb x 13 && st.crlf) (record { known = refl }) (refused no_command))))
      (record { known = refl })

  start : (x : ℕ) → Numbered (on_start st x)
  unfolding on_start
  start x = either (eqb x 10) (record { known = refl }) (either (eqb x 13 && st.crlf) (record { known = refl }) (word x))

  in_name_part : (p : Part) (m s n r : ℕ) → Numbered (in_part st (name_phase p) m s n r)
  in_name_part fresh m s n r = record { known = refl }
  in_name_part back m s n r = record { known = refl }
  in_name_part (led y) m s n r = record { known = refl }
  in_name_part (tails k) m s n r = record { known = refl }

  in_value_part : (p : Part) (m s n r : ℕ) → Numbered (in_part st (value_phase p) m s n r)
  in_value_part fresh m s n r = record { known = refl }
  in_value_part back m s n r = record { known = refl }
  in_value_part (led y) m s n r = record { known = refl }
  in_value_part (tails k) m s n r = record { known = refl }

  name_by : (x : ℕ) (i : Into) → Numbered (on_name_by st x i)
  name_by x (into p) = either (leb (st.len + 1 + owes p + 1) line_max) (in_name_part p _ _ _ _) (refused long_line)
  name_by x (bad i) = refused (faulty i)
  name_by x stop =
      either (eqb x 58)
      (either (eqb st.len 0) (refused nameless) (either (not st.sized && eqb st.matched 14) (record { known = refl }) (record { known = refl })))
      (refused no_colon)

  name : (p : Part) (x : ℕ) → Numbered (on_name st p x)
  unfolding on_name
  name p x = name_by x (reads (style_of st.crlf st.command) in_name p x)

  one_more : (i : Into) → Numbered (on_more st i)
  one_more (into p) = refused many_lines
  one_more (bad i) = refused (faulty i)
  one_more stop = refused many_lines

  body_starts : Numbered (body_begins st)
  body_starts = by st.sized
    where
      by : (t : Bool) → Numbered (record { phase = cond t 13 12; command = st.command; lines = st.lines; matched = 0; sized = st.sized; size = st.size; len = 0; at = st.at + 1; code = 0; rest = 0; crlf = st.crlf })
      by true = record { known = refl }
      by false = record { known = refl }

  begin : (x : ℕ) → Numbered (on_begin st x)
  unfolding on_begin
  begin x =
      either (eqb x 10) body_starts
      (either (eqb x 13 && st.crlf) (record { known = refl })
      (either (eqb x 58) (refused nameless)
      (either (ltb st.lines lines_max) (name fresh x) (one_more (reads (style_of st.crlf st.command) in_name fresh x)))))

  line : (x : ℕ) (z : Bool) (s : ℕ) → Numbered (line_read st x z s)
  line x z s = either (eqb x 10) (record { known = refl }) (either (eqb x 13 && st.crlf) (record { known = refl }) (refused second_colon))

  value_by : (x : ℕ) (i : Into) → Numbered (on_value_by st x i)
  value_by x (into p) = either (leb (st.len + 1 + owes p) line_max) (in_value_part p _ _ _ _) (refused long_line)
  value_by x (bad i) = refused (faulty i)
  value_by x stop = either (eqb x 58) (refused second_colon) (line x st.sized st.size)

  value : (p : Part) (x : ℕ) → Numbered (on_value st p x)
  unfolding on_value
  value p x = value_by x (reads (style_of st.crlf st.command) in_value p x)

  digit : (x : ℕ) → Numbered (on_digit st x)
  digit x = either (is_digit x && leb (st.size * 10 + digit_value x) (most_of st.command)) (record { known = refl }) (refused bad_length)

  length_by : (x : ℕ) (i : Into) → Numbered (on_length_by st x i)
  length_by x (into p) = either (leb (st.len + 1 + owes p) line_max) (digit x) (refused long_line)
  length_by x (bad i) = refused (faulty i)
  length_by x stop = either (eqb x 58) (refused second_colon) (either (eqb st.len 15) (refused bad_length) (line x true st.size))

  length : (x : ℕ) → Numbered (on_length st x)
  unfolding on_length
  length x = length_by x (reads (style_of st.crlf st.command) in_value fresh x)

  body : (x : ℕ) → Numbered (on_body st x)
  unfolding on_body
  body x = either (eqb x 0) (record { known = refl }) (either (ltb st.len (most_of st.command)) (record { known = refl }) (refused past_body))

  counted : (x : ℕ) → Numbered (on_counted st x)
  unfolding on_counted
  counted x = either (ltb st.len st.size) (record { known = refl }) (either (eqb x 0) (record { known = refl }) (refused past_body))

  ended : {next : Scan} (x : ℕ) → Numbered next → Numbered (on_10 st next x)
  ended x h = either (eqb x 10) h (refused no_10)

  one : (x : ℕ) → Numbered st → Numbered (scan_step st x)
  unfolding scan_step
  one x h =
      either (eqb st.phase 7) (value fresh x)
      (either (eqb st.phase 5) (name fresh x)
      (either (eqb st.phase 4) (begin x)
      (either (eqb st.phase 12) (body x)
      (either (eqb st.phase 13) (counted x)
      (either (eqb st.phase 2) (word x)
      (either (eqb st.phase 9) (length x)
      (either (eqb st.phase 8) (value (text_part st.rest) x)
      (either (eqb st.phase 6) (name (text_part st.rest) x)
      (either (eqb st.phase 10) (ended x (record { known = refl }))
      (either (eqb st.phase 11) (ended x body_starts)
      (either (eqb st.phase 0) (start x)
      (either (eqb st.phase 3) (ended x (record { known = refl }))
      (either (eqb st.phase 1) (ended x (record { known = refl })) h)))))))))))))

pub numbered_on : (xs : List ℕ) (st : Scan) → Numbered st → Numbered (scan st xs)
numbered_on [] st h = h
numbered_on (x ∷ xs) st h = numbered_on xs (scan_step st x) (one st x h)

pub numbered_first : (w : Bool) → Numbered (nothing_read w)
numbered_first w = record { known = refl }

pub numbered_resumed : (st : Scan) → is_resumable st ≡ true → Numbered st
unfolding is_resumable
numbered_resumed st h = by (ltb st.phase 14) refl (and_right (fits_version st) _ (and_right (leb st.at 49227) _ (and_right (is_valid st) _ h)))
  where
    by : (t : Bool) → ltb st.phase 14 ≡ t → t || (eqb st.phase 16 && is_number st.code) ≡ true → Numbered st
    by true e k = record { known = rw (ne_eqb st.phase 16 (λ q. omega (arith, ltb-true st.phase 14 e))) refl }
    by false e k = record { known = rw (and_right (eqb st.phase 16) (is_number st.code) k, or_yes) }
