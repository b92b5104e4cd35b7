-- Raw header text (document 01, "Items on the wire"): what a name or a value is made of, how it is read octet by octet, and what
-- it still owes. What header text takes, and which escapes there are, is said here alone; all else goes by the laws of
-- proofs/Reading.antt and proofs/Coding.antt. Assumes nothing.
use Rattle.std.specs.Prelude.{◌≡◌, Bool, true, false, cond, ◌&&◌, ◌||◌, not, List, [], ◌∷◌, ◌++◌, ℕ, suc, ◌+◌, ◌-◌, ◌<◌, length, eqb, leb, ltb}
use Rattle.headers.specs.Rows.{any, every}
use Rattle.headers.specs.declared.text.Style.{Style}
use Rattle.headers.specs.declared.text.Field.{Field}
use Rattle.headers.specs.declared.text.Field.TheVariants.{Name, Value}

-- A colon stands raw in no name; nor in a value, but in CONNECT and CONNECTED, which have no escapes: there "the first colon now
-- divides, and later ones belong to the value" (C-12).
abbrev pub divides : Style → Field → Bool
divides s Name = true
divides s Value = s.escapes

-- "Neither holds a raw 10, 13 or colon": the colon where it divides, and the 13 where it begins a line end; in version 1.1 "13 is an
-- ordinary header octet" (C-18).
abbrev pub stops : Style → Field → ℕ → Bool
stops s f x = eqb x 10 || (eqb x 13 && s.crlf) || (eqb x 58 && divides s f)

-- an escape: the letter after the backslash, and the octet that the two stand for
pub record Escape : Type 0 where
  pub letter : ℕ
  pub octet : ℕ

-- "`\r` `\n` `\c` `\\` stand for octets 13, 10, 58, 92"; where 13 begins no line end "`\r` is undefined" (C-18).
abbrev pub common : List Escape
common =
    record { letter = 110; octet = 10 } ∷
    record { letter = 99; octet = 58 } ∷
    record { letter = 92; octet = 92 } ∷
    []

abbrev pub of_13 : Escape
of_13 = record { letter = 114; octet = 13 }

abbrev pub escape_table : Style → List Escape
escape_table s = cond s.crlf (of_13 ∷ common) common

-- what may follow a backslash
abbrev pub is_letter : Style → ℕ → Bool
is_letter s x = any (λ e. eqb x e.letter) (escape_table s)

-- the octet begins an escape: "In CONNECT and CONNECTED there are no escapes and a backslash is itself."
abbrev pub opens : Style → ℕ → Bool
opens s x = s.escapes && eqb x 92

-- the octets that stand for themselves
abbrev pub plain : Style → Field → ℕ → Bool
plain s f x = not (stops s f x) && not (opens s x)

-- Characters of more than one octet: UTF-8 as RFC 3629 defines it (its section 4). How many octets follow the first: it is C2 to
-- DF, E0 to EF or F0 to F4; 0 where the octet begins no such character.
abbrev pub between : ℕ → ℕ → ℕ → Bool
between low high x = leb low x && leb x high

abbrev pub missing : ℕ → ℕ
missing x = cond (between 194 223 x) 1 (cond (between 224 239 x) 2 (cond (between 240 244 x) 3 0))

-- The octet after the first: A0 to BF after E0, 80 to 9F after ED, 90 to BF after F0, 80 to 8F after F4, and else, as all others
-- are, 80 to BF.
abbrev pub tail : ℕ → Bool
tail y = between 128 191 y

abbrev pub second : ℕ → ℕ → Bool
second x y =
    cond (eqb x 224) (between 160 191 y)
    (cond (eqb x 237) (between 128 159 y)
    (cond (eqb x 240) (between 144 191 y)
    (cond (eqb x 244) (between 128 143 y) (tail y))))

abbrev pub ascii : ℕ → Bool
ascii x = ltb x 128

-- one character of raw text: an octet that stands for itself, an escape, or a character of more than one octet
pub data Character (s : Style) (f : Field) : List ℕ → Type 0 where
  itself : {x : ℕ} → plain s f x ≡ true → ascii x ≡ true → Character s f (x ∷ [])
  escape : {x : ℕ} → s.escapes ≡ true → is_letter s x ≡ true → Character s f (92 ∷ x ∷ [])
  wide : {x y : ℕ} {t : List ℕ} → missing x ≡ suc (length t) → second x y ≡ true → every tail t ≡ true → Character s f (x ∷ y ∷ t)

-- "UTF-8 as RFC 3629 defines it", of any octets: a row of octets below 128 and of characters of more than one octet. `is_utf8` below is the
-- test for it (`utf8_exact`, proofs/Characters.antt).
pub data Wide : List ℕ → Type 0 where
  led_by : {x y : ℕ} {t : List ℕ} → missing x ≡ suc (length t) → second x y ≡ true → every tail t ≡ true → Wide (x ∷ y ∷ t)

pub data Utf8 : List ℕ → Type 0 where
  utf8_none : Utf8 []
  utf8_ascii : {x : ℕ} {xs : List ℕ} → ascii x ≡ true → Utf8 xs → Utf8 (x ∷ xs)
  utf8_wide : {u xs : List ℕ} → Wide u → Utf8 xs → Utf8 (u ++ xs)

-- raw text is a row of characters
pub data Text (s : Style) (f : Field) : List ℕ → Type 0 where
  none : Text s f []
  more : {u xs : List ℕ} → Character s f u → Text s f xs → Text s f (u ++ xs)

-- Reading. How far the character at hand is read: not begun; a backslash; the first octet of a character of more than one; more of
-- them, and so many are still to come.
pub data Part : Type 0 where
  fresh back : Part
  led : ℕ → Part
  tails : ℕ → Part

-- how many octets it still owes: "an unfinished escape 1"; "An unfinished character owes its missing octets"
abbrev pub owes : Part → ℕ
owes fresh = 0
owes back = 1
owes (led x) = missing x
owes (tails n) = n

-- octets of a character of which n more are to come
pub record Cut (n : ℕ) (pend : List ℕ) : Type 0 where
  pub first : ℕ
  pub next : ℕ
  pub rest : List ℕ
  pub whole : pend ≡ first ∷ next ∷ rest
  pub long : missing first ≡ suc (length rest + n)
  pub ranged : second first next ≡ true
  pub tailed : every tail rest ≡ true
  pub some_left : 0 < n

-- the octets of a character that is read as far as p
abbrev pub Partial : Style → Field → Part → List ℕ → Type 0
Partial s f fresh pend = pend ≡ []
Partial s f back pend = (s.escapes ≡ true) × (pend ≡ 92 ∷ [])
Partial s f (led x) pend = (0 < missing x) × (pend ≡ x ∷ [])
Partial s f (tails n) pend = Cut n pend

-- raw has been read: text, and a character as far as p
pub record Raw (s : Style) (f : Field) (raw : List ℕ) (p : Part) : Type 0 where
  pub front : List ℕ
  pub pend : List ℕ
  pub text : Text s f front
  pub part : Partial s f p pend
  pub whole : raw ≡ front ++ pend

-- what can be wrong with an octet in a character: "an octet that no character has there"; "wrong or cut escape"
pub data Fault : Type 0 where
  of_utf8 of_escape : Fault

-- the octet begins a character
abbrev pub starts : ℕ → Bool
starts x = ascii x || ltb 0 (missing x)

-- The octet x, in a character that is read as far as p: whether it is at fault, and what the character owes after it.
abbrev pub fault : Style → Field → Part → ℕ → Fault → Bool
fault s f fresh x of_utf8 = not (starts x)
fault s f fresh x of_escape = false
fault s f back x of_utf8 = not (starts x)
fault s f back x of_escape = not (is_letter s x)
fault s f (led y) x of_utf8 = not (second y x)
fault s f (led y) x of_escape = false
fault s f (tails n) x of_utf8 = not (tail x)
fault s f (tails n) x of_escape = false

abbrev pub owing : Style → Field → Part → ℕ → ℕ
owing s f fresh x = cond (opens s x) 1 (missing x)
owing s f back x = 0
owing s f (led y) x = missing y - 1
owing s f (tails n) x = n - 1

-- what one octet does: it belongs to the text, is at fault, or stands in no text
pub data Into : Type 0 where
  into : Part → Into
  bad : Fault → Into
  stop : Into

-- n octets of a character are still to come
abbrev pub left : ℕ → Part
left n = cond (eqb n 0) fresh (tails n)

-- an octet in UTF-8, whatever it stands for
abbrev pub starts_with : ℕ → Into
starts_with x = cond (ascii x) (into fresh) (cond (ltb 0 (missing x)) (into (led x)) (bad of_utf8))

abbrev pub utf8_reads : Part → ℕ → Into
utf8_reads fresh x = starts_with x
utf8_reads back x = starts_with x
utf8_reads (led y) x = cond (second y x) (into (left (missing y - 1))) (bad of_utf8)
utf8_reads (tails n) x = cond (tail x) (into (left (n - 1))) (bad of_utf8)

abbrev pub reads : Style → Field → Part → ℕ → Into
reads s f fresh x = cond (stops s f x) stop (cond (opens s x) (into back) (starts_with x))
reads s f back x = cond (is_letter s x) (into fresh) (cond (starts x) (bad of_escape) (bad of_utf8))
reads s f (led y) x = utf8_reads (led y) x
reads s f (tails n) x = utf8_reads (tails n) x

-- The test for raw text, by what an octet does: each octet belongs to it, and at the end nothing is owed.
abbrev pub ended : Part → Bool
ended fresh = true
ended back = false
ended (led x) = false
ended (tails n) = false

abbrev pub then_reads : Into → (Part → Bool) → Bool
then_reads (into p) f = f p
then_reads (bad k) f = false
then_reads stop f = false

unfoldable pub reads_whole : (Part → ℕ → Into) → Part → List ℕ → Bool
reads_whole r p [] = ended p
reads_whole r p (x ∷ xs) = then_reads (r p x) (λ q. reads_whole r q xs)

abbrev pub is_text_from : Style → Field → Part → List ℕ → Bool
is_text_from s f p xs = reads_whole (reads s f) p xs

abbrev pub is_text : Style → Field → List ℕ → Bool
is_text s f xs = is_text_from s f fresh xs

-- The test for UTF-8, of any octets.
abbrev pub is_utf8_from : Part → List ℕ → Bool
is_utf8_from p xs = reads_whole utf8_reads p xs

abbrev pub is_utf8 : List ℕ → Bool
is_utf8 xs = is_utf8_from fresh xs
