-- Parsing in numbers: the machine that the code runs. One record of numbers, a step for each octet, ends that stay. It gives the
-- same replies as Parsing (proofs/Scanning.antt). Assumes nothing.
use Rattle.std.specs.Prelude.{◌≡◌, Bool, true, false, cond, ◌&&◌, ◌||◌, not, List, [], ◌∷◌, ◌++◌, map, ℕ, ◌+◌, ◌-◌, ◌*◌, ◌≤◌, ◌<◌, length, take, drop, get_or, eqb, leb, ltb}
use Rattle.std.proofs.Math.Option.{Option, none, some}
use Rattle.headers.specs.Rows.{same, begins}
use Rattle.headers.specs.Text.{divides, missing, Part, fresh, back, led, tails, owes, Into, into, bad, stop, reads}
use Rattle.headers.specs.Characters.{part_number, text_part, is_begun}
use Rattle.headers.specs.Numbers.{is_digit, digit_value}
use Rattle.headers.specs.Lines.{line_max, content_length}
use Rattle.headers.specs.declared.plain.Stops.{Stops}
use Rattle.headers.specs.declared.text.Style.{Style}
use Rattle.headers.specs.declared.text.Field.{Field}
use Rattle.headers.specs.declared.text.Field.TheVariants.{Name as in_name, Value as in_value}
use Rattle.frames.specs.Grammar.{Command, number, word, lines_max, body_max}
use Rattle.frames.specs.Open.{all}
use Rattle.frames.specs.Parsing.{first}
use Rattle.frames.specs.Refusals.{numbered, faulty, no_command, no_10, nameless, second_colon, no_colon, long_line, many_lines, bad_length, past_body}
use Rattle.frames.specs.Replies.{Reply, Complete, Incomplete, Invalid}
use Rattle.frames.specs.declared.state.Scan.{Scan}

-- The phases: where the next octet stands.
--      0 at the start                      1 after the 13 of a heart-beat
--      2 in a command                      3 after the 13 of its line end
--      4 where a line or the empty line begins
--      5 in a name                         6 inside a character of it
--      7 in a value                        8 inside a character of it
--      9 in the first content-length      10 after the 13 of a line's end     11 after the 13 of the empty line
--     12 in a body without a length       13 in a body with one
--     14 a heart-beat is read             15 a frame is read                  16 refused

-- what a command's number makes of header text where 13 begins a line end if w, and its longest body
abbrev pub style_of : Bool → ℕ → Style
style_of w c = record { escapes = not (eqb c 5 || eqb c 6); crlf = w }

abbrev pub most_of : ℕ → ℕ
most_of c = cond (eqb c 8 || eqb c 9 || eqb c 12) body_max 0

-- the word of a command's number; nothing for 0
abbrev pub word_of : ℕ → List ℕ
word_of c = get_or ([] ∷ map word all) c []

abbrev pub number_of : Option Command → ℕ
number_of none = 0
number_of (some c) = number c

-- the first command that begins with the first k octets of c's word and x, and the command that those k octets are; 0 for none
unfoldable pub next_command : ℕ → ℕ → ℕ → ℕ
next_command c k x = number_of (first (begins (take k (word_of c) ++ (x ∷ []))) all)

unfoldable pub whole_command : ℕ → ℕ → ℕ
whole_command c k = number_of (first (same (take k (word_of c))) all)

-- one octet more of a name against content-length
abbrev pub advance : ℕ → ℕ → ℕ
advance m x = cond (ltb m 14 && eqb x (get_or content_length m 0)) (m + 1) 15

-- the phase of a name, and of a value, by the character at hand
abbrev pub name_phase : Part → ℕ
name_phase fresh = 5
name_phase back = 6
name_phase (led x) = 6
name_phase (tails n) = 6

abbrev pub value_phase : Part → ℕ
value_phase fresh = 7
value_phase back = 8
value_phase (led x) = 8
value_phase (tails n) = 8

-- of a name, and of a value: the most octets of a line that is in it, and the phases between its characters and inside one
abbrev pub text_most : Field → ℕ
text_most in_name = 511
text_most in_value = 512

abbrev pub text_between : Field → ℕ
text_between in_name = 5
text_between in_value = 7

abbrev pub text_inside : Field → ℕ
text_inside in_name = 6
text_inside in_value = 8

-- Where an octet leads. It is read, and the next stands at a phase; or it is refused.
module _ (st : Scan) where
  abbrev pub to_phase : ℕ → ℕ → Scan
  to_phase p c = record {
    phase = p;
    command = c;
    lines = 0;
    matched = 0;
    sized = false;
    size = 0;
    len = 0;
    at = st.at + 1;
    code = 0;
    rest = 0;
    crlf = st.crlf;
  }

  -- in a head that has so many lines and that length
  abbrev pub in_head : ℕ → ℕ → Bool → ℕ → Scan
  in_head p n z s = record {
    phase = p;
    command = st.command;
    lines = n;
    matched = 0;
    sized = z;
    size = s;
    len = 0;
    at = st.at + 1;
    code = 0;
    rest = 0;
    crlf = st.crlf;
  }

  -- in a line of that head, in a character that is read as far as r; or in a body
  abbrev pub in_part : ℕ → ℕ → ℕ → ℕ → ℕ → Scan
  in_part p m s n r = record {
    phase = p;
    command = st.command;
    lines = st.lines;
    matched = m;
    sized = st.sized;
    size = s;
    len = n;
    at = st.at + 1;
    code = 0;
    rest = r;
    crlf = st.crlf;
  }

  abbrev pub in_line : ℕ → ℕ → ℕ → ℕ → Scan
  in_line p m s n = in_part p m s n 0

  abbrev pub beat_read : Scan
  beat_read = to_phase 14 0

  abbrev pub frame_read : Scan
  frame_read = record {
    phase = 15;
    command = st.command;
    lines = st.lines;
    matched = 0;
    sized = false;
    size = 0;
    len = st.len;
    at = st.at + 1;
    code = 0;
    rest = 0;
    crlf = st.crlf;
  }

  abbrev pub invalid : ℕ → Scan
  invalid k = record {
    phase = 16;
    command = 0;
    lines = 0;
    matched = 0;
    sized = false;
    size = 0;
    len = 0;
    at = st.at;
    code = k;
    rest = 0;
    crlf = st.crlf;
  }

  -- the empty line is read
  abbrev pub body_begins : Scan
  body_begins = in_head (cond st.sized 13 12) st.lines st.sized st.size

  abbrev pub on_10 : Scan → ℕ → Scan
  on_10 next x = cond (eqb x 10) next (invalid (numbered no_10))

  unfoldable pub on_word : ℕ → Scan
  on_word x =
      let c = next_command st.command st.at x in
      let w = whole_command st.command st.at in
      cond (eqb c 0)
      (cond (eqb w 0) (invalid (numbered no_command))
      (cond (eqb x 10) (to_phase 4 w) (cond (eqb x 13 && st.crlf) (to_phase 3 w) (invalid (numbered no_command)))))
      (to_phase 2 c)

  unfoldable pub on_start : ℕ → Scan
  on_start x = cond (eqb x 10) beat_read (cond (eqb x 13 && st.crlf) (to_phase 1 0) (on_word x))

  -- the colon is read: a content-length begins, if none is declared yet, or another value
  abbrev pub value_begins : Scan
  value_begins = cond (not st.sized && eqb st.matched 14) (in_line 9 0 0 (st.len + 1)) (in_line 7 0 st.size (st.len + 1))

  abbrev pub on_name_by : ℕ → Into → Scan
  on_name_by x (into p) = cond (leb (st.len + 1 + owes p + 1) line_max) (in_part (name_phase p) (advance st.matched x) st.size (st.len + 1) (part_number p)) (invalid (numbered long_line))
  on_name_by x (bad i) = invalid (numbered (faulty i))
  on_name_by x stop =
      cond (eqb x 58)
      (cond (eqb st.len 0) (invalid (numbered nameless)) value_begins)
      (invalid (numbered no_colon))

  unfoldable pub on_name : Part → ℕ → Scan
  on_name p x = on_name_by x (reads (style_of st.crlf st.command) in_name p x)

  -- a line more than there may be
  abbrev pub on_more : Into → Scan
  on_more (into p) = invalid (numbered many_lines)
  on_more (bad i) = invalid (numbered (faulty i))
  on_more stop = invalid (numbered many_lines)

  unfoldable pub on_begin : ℕ → Scan
  on_begin x =
      cond (eqb x 10) body_begins
      (cond (eqb x 13 && st.crlf) (in_head 11 st.lines st.sized st.size)
      (cond (eqb x 58) (invalid (numbered nameless))
      (cond (ltb st.lines lines_max) (on_name fresh x) (on_more (reads (style_of st.crlf st.command) in_name fresh x)))))

  -- An octet of a character of a line that has fewer than m octets, by what it does: where the character is whole the next stands at phase w,
  -- inside it at phase p; n octets of the name match.
  abbrev pub in_character : ℕ → ℕ → ℕ → ℕ → Into → Scan
  in_character m w p n (into fresh) = cond (ltb st.len m) (in_line w n st.size (st.len + 1)) (invalid (numbered long_line))
  in_character m w p n (into back) = cond (ltb st.len (m - 1)) (in_part p n st.size (st.len + 1) 92) (invalid (numbered long_line))
  in_character m w p n (into (led x)) = cond (ltb st.len (m - missing x)) (in_part p n st.size (st.len + 1) x) (invalid (numbered long_line))
  in_character m w p n (into (tails k)) = cond (ltb st.len (m - k)) (in_part p n st.size (st.len + 1) k) (invalid (numbered long_line))
  in_character m w p n (bad i) = invalid (numbered (faulty i))
  in_character m w p n stop = st

  -- the line is read: it declares the length, or does not
  abbrev pub line_read : ℕ → Bool → ℕ → Scan
  line_read x z s =
      cond (eqb x 10) (in_head 4 (st.lines + 1) z s)
      (cond (eqb x 13 && st.crlf) (in_head 10 (st.lines + 1) z s) (invalid (numbered second_colon)))

  abbrev pub on_value_by : ℕ → Into → Scan
  on_value_by x (into p) = cond (leb (st.len + 1 + owes p) line_max) (in_part (value_phase p) 0 st.size (st.len + 1) (part_number p)) (invalid (numbered long_line))
  on_value_by x (bad i) = invalid (numbered (faulty i))
  on_value_by x stop = cond (eqb x 58) (invalid (numbered second_colon)) (line_read x st.sized st.size)

  unfoldable pub on_value : Part → ℕ → Scan
  on_value p x = on_value_by x (reads (style_of st.crlf st.command) in_value p x)

  -- an octet of a name or of a value; and how many octets of the line's name match after it
  abbrev pub on_text : Field → Part → ℕ → Scan
  on_text in_name = on_name
  on_text in_value = on_value

  abbrev pub text_matched : Field → ℕ → ℕ
  text_matched in_name x = advance st.matched x
  text_matched in_value x = 0

  -- one digit more, while the number is not too large
  abbrev pub grows : ℕ → Bool
  grows x = is_digit x && leb (st.size * 10 + digit_value x) (most_of st.command)

  abbrev pub on_digit : ℕ → Scan
  on_digit x = cond (grows x) (in_line 9 0 (st.size * 10 + digit_value x) (st.len + 1)) (invalid (numbered bad_length))

  abbrev pub on_length_by : ℕ → Into → Scan
  on_length_by x (into p) = cond (leb (st.len + 1 + owes p) line_max) (on_digit x) (invalid (numbered long_line))
  on_length_by x (bad i) = invalid (numbered (faulty i))
  on_length_by x stop =
      cond (eqb x 58) (invalid (numbered second_colon))
      (cond (eqb st.len 15) (invalid (numbered bad_length)) (line_read x true st.size))

  unfoldable pub on_length : ℕ → Scan
  on_length x = on_length_by x (reads (style_of st.crlf st.command) in_value fresh x)

  unfoldable pub on_body : ℕ → Scan
  on_body x =
      cond (eqb x 0) frame_read
      (cond (ltb st.len (most_of st.command)) (in_line 12 0 0 (st.len + 1)) (invalid (numbered past_body)))

  unfoldable pub on_counted : ℕ → Scan
  on_counted x =
      cond (ltb st.len st.size) (in_line 13 0 st.size (st.len + 1))
      (cond (eqb x 0) frame_read (invalid (numbered past_body)))

-- an octet that begins a line end; and one with which no name begins where a line would, or after the last line
abbrev pub line_ends : Scan → ℕ → Bool
line_ends st x = eqb x 10 || (eqb x 13 && st.crlf)

abbrev pub nameless_at : Scan → ℕ → Bool
nameless_at st x = line_ends st x || (eqb x 58 || leb lines_max st.lines)

-- One octet, by the phase; the ends stay as they are.
unfoldable pub scan_step : Scan → ℕ → Scan
scan_step st x =
    cond (eqb st.phase 7) (on_value st fresh x)
    (cond (eqb st.phase 5) (on_name st fresh x)
    (cond (eqb st.phase 4) (on_begin st x)
    (cond (eqb st.phase 12) (on_body st x)
    (cond (eqb st.phase 13) (on_counted st x)
    (cond (eqb st.phase 2) (on_word st x)
    (cond (eqb st.phase 9) (on_length st x)
    (cond (eqb st.phase 8) (on_value st (text_part st.rest) x)
    (cond (eqb st.phase 6) (on_name st (text_part st.rest) x)
    (cond (eqb st.phase 10) (on_10 st (in_head st 4 st.lines st.sized st.size) x)
    (cond (eqb st.phase 11) (on_10 st (body_begins st) x)
    (cond (eqb st.phase 0) (on_start st x)
    (cond (eqb st.phase 3) (on_10 st (to_phase st 4 st.command) x)
    (cond (eqb st.phase 1) (on_10 st (beat_read st) x) st)))))))))))))

abbrev pub scan : Scan → List ℕ → Scan
scan st [] = st
scan st (x ∷ xs) = scan (scan_step st x) xs

-- before the first octet, where 13 begins a line end if w
abbrev pub nothing_read : Bool → Scan
nothing_read w = record {
  phase = 0;
  command = 0;
  lines = 0;
  matched = 0;
  sized = false;
  size = 0;
  len = 0;
  at = 0;
  code = 0;
  rest = 0;
  crlf = w;
}

-- what a state replies
abbrev pub scan_reply : Scan → Reply
scan_reply st =
    cond (eqb st.phase 14) (Complete 1 st.at 0 0 0 0)
    (cond (eqb st.phase 15) (Complete 2 st.at st.command st.lines (st.at - 1 - st.len) st.len)
    (cond (eqb st.phase 16) (Invalid st.code st.at) Incomplete))

-- ---- What a state that a run leaves keeps: enough for the code to be safe, from any such state on.

-- the first k octets of c's word are read, and c is the first command that begins with them
pub record Reached (c k : ℕ) : Type 0 where
  pub nothing : k ≡ 0 → c ≡ 0
  pub something : 0 < k → (0 < c) × (k ≤ length (word_of c)) × (number_of (first (begins (take k (word_of c))) all) ≡ c)

-- numbers so small that one octet more overflows none
pub record Bounded (st : Scan) : Type 0 where
  pub few_lines : st.lines ≤ 32
  pub small_size : st.size ≤ 32768
  pub small_len : st.len ≤ 32768
  pub small_at : st.at ≤ 70000

-- the longest line or body at a phase
abbrev pub len_max : ℕ → ℕ
len_max p =
    cond (eqb p 5) 511 (cond (eqb p 6) 510 (cond (eqb p 7) 512 (cond (eqb p 8) 511 (cond (eqb p 9) 512
    (cond (eqb p 12) 32768 (cond (eqb p 13) 32768 (cond (eqb p 15) 32768 0)))))))

-- 1 in a line
abbrev pub line_open : ℕ → ℕ
line_open p = cond (leb 5 p && leb p 9) 1 0

-- the octets of an item outside its lines and its body
abbrev pub outside : ℕ → ℕ
outside p =
    cond (eqb p 0) 0 (cond (eqb p 1) 1 (cond (eqb p 2) 11 (cond (eqb p 3) 12 (cond (eqb p 10) 12 (cond (eqb p 11) 14
    (cond (eqb p 12) 15 (cond (eqb p 13) 15 (cond (eqb p 14) 2 (cond (eqb p 15) 16 (cond (eqb p 16) 49231 13))))))))))

pub record Valid (st : Scan) : Type 0 where
  pub known : st.phase ≤ 16
  pub few : st.lines + line_open st.phase ≤ 32
  pub short : st.len ≤ len_max st.phase
  pub small : st.size ≤ 32768
  pub place : st.at ≤ outside st.phase + 514 * st.lines + st.len
  pub fresh_word : st.phase ≡ 0 → (st.command ≡ 0) × (st.at ≡ 0)
  pub word_so_far : st.phase ≡ 2 → Reached st.command st.at
  pub body_so_far : st.phase ≡ 12 → st.len ≤ most_of st.command
  pub counted_so_far : st.phase ≡ 13 → st.len ≤ st.size
  pub no_lines : st.phase < 4 → st.lines ≡ 0
  pub clean_code : st.phase < 16 → st.code ≡ 0
  pub clean_match : 6 < st.phase → st.matched ≡ 0
  pub clean_rest : (st.phase ≡ 6 → ⊥) → (st.phase ≡ 8 → ⊥) → st.rest ≡ 0
  pub under_way : eqb st.phase 6 || eqb st.phase 8 ≡ true → is_begun (style_of st.crlf st.command) st.rest ≡ true
  pub clean_size : st.sized ≡ false → (st.phase ≡ 9 → ⊥) → st.size ≡ 0
  pub unsized : st.phase ≡ 12 → st.sized ≡ false

-- ---- Plain stretches at a go

-- what ends a stretch of header text beside 10: 13, a colon and a backslash, or 10 again in the place of one that does not
abbrev pub text_stops : Style → Field → Stops
text_stops s f = record { cr = cond s.crlf 13 10; colon = cond (divides s f) 58 10; back = cond s.escapes 92 10; top = 127 }

abbrev pub not_zero : ℕ → Bool
not_zero x = not (eqb x 0)

-- the state k octets on, in the same phase
abbrev pub skip : ℕ → Scan → Scan
skip k st = record {
  phase = st.phase;
  command = st.command;
  lines = st.lines;
  matched = st.matched;
  sized = st.sized;
  size = st.size;
  len = st.len + k;
  at = st.at + k;
  code = st.code;
  rest = st.rest;
  crlf = st.crlf;
}

-- k octets of xs from i on can be passed at a go
pub record Ahead (xs : List ℕ) (i : ℕ) (st : Scan) (k : ℕ) : Type 0 where
  pub within : i + k ≤ length xs
  pub kept : Valid (skip k st)
  pub same_end : scan st (drop i xs) ≡ scan (skip k st) (drop (i + k) xs)

-- st' is the state some octets of xs from i on, as many as its place went on
pub record Passed (xs : List ℕ) (i : ℕ) (st st' : Scan) : Type 0 where
  pub onward : st.at ≤ st'.at
  pub within : i + (st'.at - st.at) ≤ length xs
  pub kept : Valid st'
  pub same_end : scan st (drop i xs) ≡ scan st' (drop (i + (st'.at - st.at)) xs)
