-- Why an octet is refused: document 01's table ("The judge's three replies"), row by row, over an open tree and the octet after it,
-- with the numbers and the order of document 02, C-11.
-- Knows nothing of how parsing goes on.
-- Assumes nothing.
use Rattle.std.specs.Prelude.{◌≡◌, Bool, true, false, cond, ◌&&◌, ◌||◌, not, List, [], ◌∷◌, ◌++◌, ℕ, ◌+◌, length, eqb, leb, ltb}
use Rattle.std.proofs.Math.Option.{Option, none, some}
use Rattle.headers.specs.Rows.{begins, empty, any, first_of, All}
use Rattle.headers.specs.Text.{divides, Part, fresh, Fault, of_utf8, of_escape, fault, owing}
use Rattle.headers.specs.declared.text.Field.{Field}
use Rattle.headers.specs.declared.text.Field.TheVariants.{Name as in_name, Value as in_value}
use Rattle.headers.specs.Numbers.{is_digit, decimal}
use Rattle.headers.specs.Lines.{line_max}
use Rattle.frames.specs.Grammar.{crlf, word, style, most, Head, lines_max, declared}
use Rattle.frames.specs.declared.version.Version.{Version}
use Rattle.frames.specs.Open.{Open, start, heart_beat_13, command, command_13, begin, name, value, line_13, blank_13, body, all, watched}

-- a header line as far as it is read; no value before the colon
pub record Begun : Type 0 where
  pub head : Head
  pub name : List ℕ
  pub value : Option (List ℕ)
  pub part : Part

-- where the octet stands: in a command, after these octets of it; after a 13 that begins a line end; in a header line; in a body
pub data Position : Type 0 where
  in_command : List ℕ → Position
  past_13 : Position
  in_line : Begun → Position
  in_body : Head → List ℕ → Position

abbrev pub position : Open → Position
position start = in_command []
position heart_beat_13 = past_13
position (command w) = in_command w
position (command_13 c) = past_13
position (begin h) = in_line (record { head = h; name = []; value = none; part = fresh })
position (name h n p) = in_line (record { head = h; name = n; value = none; part = p })
position (value h n v p) = in_line (record { head = h; name = n; value = some v; part = p })
position (line_13 h n v) = past_13
position (blank_13 h) = past_13
position (body h e b) = in_body h b

-- the octet stands at such a position, and f holds of it
abbrev pub at_command : Position → (List ℕ → Bool) → Bool
at_command (in_command w) f = f w
at_command past_13 f = false
at_command (in_line l) f = false
at_command (in_body h b) f = false

abbrev pub at_13 : Position → Bool → Bool
at_13 (in_command w) f = false
at_13 past_13 f = f
at_13 (in_line l) f = false
at_13 (in_body h b) f = false

abbrev pub at_line : Position → (Begun → Bool) → Bool
at_line (in_command w) f = false
at_line past_13 f = false
at_line (in_line l) f = f l
at_line (in_body h b) f = false

abbrev pub at_body : Position → (Head → List ℕ → Bool) → Bool
at_body (in_command w) f = false
at_body past_13 f = false
at_body (in_line l) f = false
at_body (in_body h b) f = f h b

-- The words of the table.
-- a line end, or, where line ends may have one, the 13 that begins one
abbrev pub ends : Bool → ℕ → Bool
ends w x = eqb x 10 || (eqb x 13 && w)

-- the octets begin some command with the first octet of its line end
unfoldable pub some_command : Bool → List ℕ → Bool
some_command cr w = any (λ c. begins w (word c ++ (10 ∷ [])) || (begins w (word c ++ (13 ∷ [])) && cr)) all

abbrev pub before_colon : Option (List ℕ) → Bool
before_colon none = true
before_colon (some v) = false

abbrev pub field : Option (List ℕ) → Field
field none = in_name
field (some v) = in_value

abbrev pub past_colon : Option (List ℕ) → Bool
past_colon v = not (before_colon v)

abbrev pub value_octets : Option (List ℕ) → ℕ
value_octets none = 0
value_octets (some v) = 1 + length v

-- the octets of a line so far, its colon counted
abbrev pub reached : Begun → ℕ
reached l = length l.name + value_octets l.value

-- how the octet spoils a first content-length whose digits so far are v: not a digit; line end with no digit; value too large
abbrev pub spoils : Bool → ℕ → List ℕ → ℕ → Bool
spoils w m v x = not (is_digit x || ends w x) || (ends w x && empty v) || (is_digit x && ltb m (decimal 0 (v ++ (x ∷ []))))

abbrev pub spoils_value : Bool → Begun → ℕ → Option (List ℕ) → Bool
spoils_value w l x none = false
spoils_value w l x (some v) = watched l.head l.name && spoils w (most l.head.command) v x

abbrev pub used_up : Option (List ℕ) → List ℕ → Bool
used_up none b = false
used_up (some v) b = leb (decimal 0 v) (length b)

pub data Reason : Type 0 where
  no_command no_10 not_utf8 wrong_escape nameless second_colon no_colon long_line many_lines bad_length past_body : Reason

-- "8 second colon, 9 line end before the colon, 10 wrong or cut escape; at one octet the order is 1, 2, 10, 3, 8, 9, 4 to 7" (C-11), "11
-- .. for an octet that no character has there, between 2 and 10" (C-17): the reasons in that order, and each reason's number
-- (`order_numbers`, proofs/Unique.antt, has the list of the numbers).
abbrev pub order : List Reason
order = no_command ∷ no_10 ∷ not_utf8 ∷ wrong_escape ∷ nameless ∷ second_colon ∷ no_colon ∷ long_line ∷ many_lines ∷ bad_length ∷ past_body ∷ []

abbrev pub numbered : Reason → ℕ
numbered no_command = 1
numbered no_10 = 2
numbered not_utf8 = 11
numbered wrong_escape = 10
numbered nameless = 3
numbered second_colon = 8
numbered no_colon = 9
numbered long_line = 4
numbered many_lines = 5
numbered bad_length = 6
numbered past_body = 7

-- what header text calls at fault
abbrev pub faulty : Fault → Reason
faulty of_utf8 = not_utf8
faulty of_escape = wrong_escape

module _ (ver : Version) where
  abbrev pub fault_of : Begun → ℕ → Fault → Bool
  fault_of l x = fault (style ver l.head.command) (field l.value) l.part x

  -- what the line still owes after the octet: a missing colon 1, an unfinished escape 1, an unfinished character its missing octets
  abbrev pub owed : Begun → ℕ → ℕ
  owed l x = cond (before_colon l.value && not (eqb x 58)) 1 0 + owing (style ver l.head.command) (field l.value) l.part x

  -- The table: the octet x, after what s has read, ..
  unfoldable pub fits : Open → ℕ → Reason → Bool
  -- 1: leaves no command, and is not the start of a beat; never after a 13
  fits s x no_command = at_command (position s) (λ w. not (some_command (crlf ver) (w ++ (x ∷ []))) && not (empty w && ends (crlf ver) x))
  -- 2: follows 13 and is not 10
  fits s x no_10 = at_13 (position s) (not (eqb x 10))
  -- 11: an octet that no character has there
  fits s x not_utf8 = at_line (position s) (λ l. fault_of l x of_utf8)
  -- 10: wrong or cut escape
  fits s x wrong_escape = at_line (position s) (λ l. fault_of l x of_escape)
  -- 3: colon with an empty name
  fits s x nameless = at_line (position s) (λ l. before_colon l.value && empty l.name && eqb x 58)
  -- 8: second colon; not in CONNECT and CONNECTED, where "the first colon now divides, and later ones belong to the value" (C-12)
  fits s x second_colon = at_line (position s) (λ l. past_colon l.value && (eqb x 58 && divides (style ver l.head.command) in_value))
  -- 9: line end before the colon
  fits s x no_colon = at_line (position s) (λ l. before_colon l.value && not (empty l.name) && ends (crlf ver) x)
  -- 4: makes the line, with what it still owes, longer than 512
  fits s x long_line = at_line (position s) (λ l. not (ends (crlf ver) x) && ltb line_max (reached l + 1 + owed l x))
  -- 5: begins a 33rd header line
  fits s x many_lines = at_line (position s) (λ l. before_colon l.value && empty l.name && not (ends (crlf ver) x) && leb lines_max (length l.head.entries))
  -- 6: spoils the first content-length
  fits s x bad_length = at_line (position s) (λ l. spoils_value (crlf ver) l x l.value)
  -- 7: stands where only octet 0 can: empty body, 32,768 octets read, or content-length used up
  fits s x past_body = at_body (position s) (λ h b. not (eqb x 0) && (eqb (most h.command) 0 || leb 32768 (length b) || used_up (declared h.entries) b))

abbrev pub number_of : Option Reason → Option ℕ
number_of none = none
number_of (some r) = some (numbered r)

-- The number that x gets after what s has read, or none.
unfoldable pub refusal : Version → Open → ℕ → Option ℕ
refusal ver s x = number_of (first_of (fits ver s x) order)

-- k is the number of the first reason in the order that fits.
pub record First (f : Reason → Bool) (k : ℕ) : Type 0 where
  pub earlier : List Reason
  pub reason : Reason
  pub later : List Reason
  pub ordered : order ≡ earlier ++ (reason ∷ later)
  pub fitting : f reason ≡ true
  pub number : numbered reason ≡ k
  pub none_earlier : All (λ r. f r ≡ false) earlier
