-- Names and patterns as one table, and what a row claims. That all rows hold is proofs/Examples.antt. Assumes nothing.
use Rattle.std.specs.Prelude.{◌≡◌, cond, List, [], ◌∷◌, ℕ, replicate, get_or, eqb}
use Prim.Native.String.{String}
use Rattle.headers.specs.Rows.{octets_of}
use Rattle.headers.specs.Parts.{join}
use Rattle.headers.specs.Answers.{Answer, accepted, refused}
use Rattle.topics.specs.Topics.{words, Matches, match_answer}

pub record Example : Type 0 where
  pub pattern : List ℕ
  pub name : List ℕ
  pub answer : Answer

-- What an answer says of a pattern and a name: 1 that the pattern matches, 0 that it does not; a refusal says nothing of that.
abbrev pub Says : Answer → List ℕ → List ℕ → Type 0
Says (accepted values) name pattern =
    cond (eqb (get_or values 0 0) 1) (Matches (words pattern) (words name)) (Matches (words pattern) (words name) → ⊥)
Says (refused k) name pattern = Unit {0}

-- the answer is the row's, and what it says is so
pub record Holds (e : Example) : Type 0 where
  pub answers : match_answer e.name e.pattern ≡ e.answer
  pub exactly : Says e.answer e.name e.pattern

abbrev row : String → String → Answer → Example
row pattern name answer = record { pattern = octets_of pattern; name = octets_of name; answer = answer }

abbrev long : List ℕ → List ℕ → Answer → Example
long pattern name answer = record { pattern = pattern; name = name; answer = answer }

abbrev yes : Answer
yes = accepted (1 ∷ [])

abbrev no : Answer
no = accepted (0 ∷ [])

-- n words of one octet, joined by points; n octets without a point
abbrev same_words : ℕ → String → List ℕ
same_words n word = join 46 (replicate n (octets_of word))

abbrev letters : ℕ → List ℕ
letters n = replicate n 97

unfoldable pub examples : List Example
examples =
    -- words stand for themselves
    row "a" "a" yes ∷
    row "a" "b" no ∷
    row "a.b" "a.b" yes ∷
    row "a.b" "a" no ∷
    row "a" "a.b" no ∷
    row "ab" "a" no ∷
    row "a" "ab" no ∷
    -- `*` stands for exactly one word
    row "*" "a" yes ∷
    row "*" "ab" yes ∷
    row "*" "a.b" no ∷
    row "a.*" "a" no ∷
    row "*.a" "a" no ∷
    row "a.*.c" "a.b.c" yes ∷
    row "a.*.c" "a.c" no ∷
    row "a.*.c" "a.b.b.c" no ∷
    -- `#` stands for none or more
    row "#" "a" yes ∷
    row "#" "a.b.c" yes ∷
    row "a.#" "a" yes ∷
    row "a.#" "a.b.c" yes ∷
    row "a.#" "b" no ∷
    row "#.a" "a" yes ∷
    row "#.a" "b.c.a" yes ∷
    row "#.a" "a.b" no ∷
    row "#.a.#" "a" yes ∷
    row "#.a.#" "b.a.c" yes ∷
    row "#.a.#" "b" no ∷
    row "a.#.c" "a.c" yes ∷
    row "a.#.c" "a.b.b.c" yes ∷
    row "a.#.c" "a.b" no ∷
    row "#.#" "a" yes ∷
    row "*.#" "a" yes ∷
    row "#.*" "a.b" yes ∷
    row "#.*.*" "a" no ∷
    row "#.a.#.b" "a.b.a.b" yes ∷
    -- in a longer word, or in a name, they are ordinary octets
    row "a*" "a*" yes ∷
    row "a*" "ab" no ∷
    row "*a" "ba" no ∷
    row "a#" "a#" yes ∷
    row "a#" "a" no ∷
    row "#a" "a" no ∷
    row "**" "a" no ∷
    row "**" "a.b" no ∷
    row "##" "a.b" no ∷
    row "##" "##" yes ∷
    row "*" "*" yes ∷
    row "a" "*" no ∷
    row "#" "#" yes ∷
    row "a" "#" no ∷
    row "a.b" "a.*" no ∷
    row "a.b.c" "a.#" no ∷
    -- no word is empty; a malformed name is told first
    row "a" "" (refused 80) ∷
    row "a" "." (refused 80) ∷
    row "a" ".a" (refused 80) ∷
    row "a" "a." (refused 80) ∷
    row "a" "a..b" (refused 80) ∷
    row "" "a" (refused 81) ∷
    row "." "a" (refused 81) ∷
    row ".a" "a" (refused 81) ∷
    row "a." "a" (refused 81) ∷
    row "#..#" "a" (refused 81) ∷
    row "" "" (refused 80) ∷
    -- at most 32 words and 256 octets
    long (octets_of "#") (same_words 32 "a") yes ∷
    long (octets_of "#") (same_words 33 "a") (refused 80) ∷
    long (same_words 32 "#") (octets_of "a") yes ∷
    long (same_words 33 "#") (octets_of "a") (refused 81) ∷
    long (same_words 32 "*") (same_words 32 "a") yes ∷
    long (same_words 31 "*") (same_words 32 "a") no ∷
    long (octets_of "*") (letters 256) yes ∷
    long (octets_of "*") (letters 257) (refused 80) ∷
    long (letters 256) (octets_of "a") no ∷
    long (letters 257) (octets_of "a") (refused 81) ∷
    long (letters 257) (letters 257) (refused 80) ∷
    []
