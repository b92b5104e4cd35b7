-- Words by their places, and the row of answers that the second matcher fills. Assumes nothing.
use Rattle.std.specs.Prelude.{◌≡◌, Bool, false, List, ◌∷◌, ℕ, ◌+◌, ◌-◌, ◌≤◌, ◌<◌, length, take, drop, get_or}
use Rattle.headers.specs.Parts.{parts_from}
use Rattle.topics.specs.Topics.{Word, words, matches}

-- the word at a place, where next is the place after the point that ends it
abbrev pub word_at : List ℕ → ℕ → ℕ → Word
word_at xs at next = take (next - 1 - at) (drop at xs)

-- from a place on, the words are the one there and those from the next place on
pub record Steps (xs : List ℕ) (at next : ℕ) : Type 0 where
  pub forward : at < next
  pub within : next ≤ length xs + 1
  pub parts : parts_from 46 xs at ≡ word_at xs at next ∷ parts_from 46 xs next

-- The n words of a name or pattern begin at these places, and the place with index n is after the end.
pub record Located (xs starts : List ℕ) (n : ℕ) : Type 0 where
  pub short : length xs ≤ 256
  pub long : length starts ≡ 33
  pub few : n ≤ 32
  pub number : length (words xs) ≡ n
  pub parts : (j : ℕ) → j ≤ n → parts_from 46 xs (get_or starts j 0) ≡ drop j (words xs)
  pub steps : (j : ℕ) → j < n → Steps xs (get_or starts j 0) (get_or starts (j + 1) 0)

-- entry k of a row says whether the words ps of a pattern match the words of a name from word k on
abbrev pub Row : List Word → List Word → List Bool → Type 0
Row ps ws row = (k : ℕ) → k ≤ length ws → get_or row k false ≡ matches ps (drop k ws)

-- whatever words ps the one row is for, the other is for these with the word p before them
pub record Next (p : Word) (ws : List Word) (row next : List Bool) : Type 0 where
  pub grows : (ps : List Word) → Row ps ws row → Row (p ∷ ps) ws next
