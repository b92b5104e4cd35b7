-- A number for each place of a store, the same for the same octets, so that places with other numbers need not be compared.
-- Assumes nothing.
use Rattle.std.specs.Prelude.{Bool, true, cond, ◌&&◌, ◌||◌, not, List, [], ◌∷◌, ◌++◌, map, ℕ, ◌+◌, ◌*◌, ◌/◌, ◌%◌, eqb, leb, length, drop, get_or}
use Rattle.headers.specs.Rows.{every, any}
use Rattle.stores.specs.Compaction.{rows}

-- the four octets from i on, as a number
abbrev pub word_at : List ℕ → ℕ → ℕ
word_at p i = ((get_or p i 0 * 256 + get_or p (i + 1) 0) * 256 + get_or p (i + 2) 0) * 256 + get_or p (i + 3) 0

-- the key of a place of 32 octets
unfoldable pub key : List ℕ → ℕ
key p =
    (word_at p 0 + word_at p 4 * 3 + word_at p 8 * 5 + word_at p 12 * 7
    + word_at p 16 * 11 + word_at p 20 * 13 + word_at p 24 * 17 + word_at p 28 * 19)
    % 4294967296

-- the keys of a store's places
abbrev pub keys : List ℕ → List ℕ → List ℕ
keys s ls = map key (rows 32 s ls)

-- a store of places of 32 octets, one for each length, and room for their keys
abbrev pub keys_fit : List ℕ → List ℕ → List ℕ → Bool
keys_fit s ls d = eqb (length s) (length ls * 32) && leb (length ls) (length d)

-- the keys at the front of others, which stay as they are where the sizes do not fit
abbrev pub with_keys : List ℕ → List ℕ → List ℕ → List ℕ
with_keys s ls d = cond (keys_fit s ls d) (keys s ls ++ drop (length ls) d) d

-- no place that is not free has the key of a later one; a place of length 0, or without a length, is free
unfoldable pub apart : List ℕ → List ℕ → Bool
apart [] ls = true
apart (k ∷ ks) [] = true
apart (k ∷ ks) (l ∷ ls) = (eqb l 0 || not (any (λ x. eqb x k) ks)) && apart ks ls

-- the slot of a key in a table of 1,024 marks: the top ten of the low 32 bits of its product with a large odd number
unfoldable pub slot : ℕ → ℕ
slot k = k * 2654435761 / 4194304 % 1024

-- the slot of each key has a mark other than 0
abbrev pub marked : List ℕ → List ℕ → Bool
marked ms ks = every (λ k. not (eqb (get_or ms (slot k) 0) 0)) ks
