-- Names and patterns of ports, and when a pattern matches a name (request C-20). Assumes nothing.
use Rattle.std.specs.Prelude.{◌≡◌, Bool, true, false, cond, ◌&&◌, ◌||◌, not, List, [], ◌∷◌, ◌++◌, ℕ, ◌*◌, ◌/◌, length, get_or, leb, ltb}
use Rattle.headers.specs.Rows.{octets_of, empty, every, same}
use Rattle.headers.specs.Parts.{split}
use Rattle.headers.specs.Answers.{Answer, Check, settle}
use Rattle.std.specs.Prelude.{Result, Ok, Err}
use Rattle.topics.specs.declared.pattern.MatchError.{MatchError}
use Rattle.topics.specs.declared.pattern.MatchError.TheVariants.{BadName, BadPattern}

-- ---- Names and patterns

-- "words joined by points": octet 46 is the point
abbrev pub Word : Type 0
Word = List ℕ

abbrev pub words : List ℕ → List Word
words xs = split 46 xs

-- "Names and patterns have 1 to 32 words and at most 256 octets; no word is empty." Points are octets too.
abbrev pub no_word_empty : List Word → Bool
no_word_empty ws = every (λ w. not (empty w)) ws

abbrev pub good_words : List Word → Bool
good_words ws = (leb 1 (length ws) && leb (length ws) 32) && no_word_empty ws

unfoldable pub well_formed : List ℕ → Bool
well_formed xs = leb (length xs) 256 && good_words (words xs)

-- ---- When a pattern matches a name

-- The words `*` and `#`. "A `*` or `#` in a longer word, or in a name, is an ordinary octet": only a pattern's whole word is one.
abbrev pub star : Word
star = octets_of "*"

abbrev pub hash : Word
hash = octets_of "#"

-- The words of a name that a word of a pattern stands for: "`*` stands for exactly one word, `#` for none or more", any other for itself.
abbrev pub Stands : Word → List Word → Type 0
Stands p ws = cond (same p hash) (Unit {0}) (cond (same p star) (length ws ≡ 1) (ws ≡ p ∷ []))

-- A pattern matches a name whose words are those that the pattern's words stand for, one after another.
pub data Matches : List Word → List Word → Type 0 where
  nothing : Matches [] []
  word : (p : Word) (vs : List Word) {ps ws : List Word} → Stands p vs → Matches ps ws → Matches (p ∷ ps) (vs ++ ws)

-- ---- The same as a test (proofs/Matching.antt: it is true exactly where a pattern matches)

-- a word that is not `#` stands for this one word
abbrev pub stands : Word → Word → Bool
stands p w = same p star || same p w

-- the first word passes the one test, and the words after it the other
abbrev pub first_then : (Word → Bool) → (List Word → Bool) → List Word → Bool
first_then f g [] = false
first_then f g (w ∷ ws) = f w && g ws

-- some words at the front left out, none or more, those that remain pass the test
abbrev pub some_rest : (List Word → Bool) → List Word → Bool
some_rest g [] = g []
some_rest g (w ∷ ws) = g (w ∷ ws) || some_rest g ws

unfoldable pub matches : List Word → List Word → Bool
matches [] ws = empty ws
matches (p ∷ ps) ws = cond (same p hash) (some_rest (matches ps) ws) (first_then (stands p) (matches ps) ws)

-- ---- The answer

-- "Refusals: 80 malformed name, 81 malformed pattern, in that order." An accepted answer is 1 where the pattern matches, 0 where not.
abbrev pub match_checks : List ℕ → List ℕ → List Check
match_checks name pattern =
    record { fails = not (well_formed name); number = 80 } ∷
    record { fails = not (well_formed pattern); number = 81 } ∷
    []

abbrev pub yes_or_no : Bool → ℕ
yes_or_no true = 1
yes_or_no false = 0

unfoldable pub match_answer : List ℕ → List ℕ → Answer
match_answer name pattern = settle (match_checks name pattern) (yes_or_no (matches (words pattern) (words name)) ∷ [])

-- the number of a refusal, and what the code's answer says
abbrev pub match_number : MatchError → ℕ
match_number BadName = 80
match_number BadPattern = 81

abbrev pub match_says : Result Bool MatchError → Answer
match_says (Ok t) = Answer.accepted (yes_or_no t ∷ [])
match_says (Err e) = Answer.refused (match_number e)

-- The answer of stomp_match: 1 or 0, or 65,536 times the number of a refusal; and read back.
abbrev pub packed_match : Answer → ℕ
packed_match (Answer.accepted values) = get_or values 0 0
packed_match (Answer.refused k) = 65536 * k

abbrev pub unpacked_match : ℕ → Answer
unpacked_match p = cond (ltb p 65536) (Answer.accepted (p ∷ [])) (Answer.refused (p / 65536))
