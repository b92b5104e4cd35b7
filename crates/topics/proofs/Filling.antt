-- Laws of filling a row of answers. Assumes nothing.
use mathlib.Core.Path.{◌≡◌, refl, sym, ◌∙◌, ap, ap₂, subst}
use mathlib.Core.Logic.{◌⊎◌, ⊎_elim}
use mathlib.Core.Bool.{Bool, true, false, ◌&&◌, ◌||◌}
use mathlib.Core.List.{List, [], ◌∷◌}
use Prim.Native.Nat.{ℕ, ◌+◌, ◌≤◌, ◌<◌}
use native.Mathlib.Nat.{eq-or-lt_of_le}
use native.Mathlib.Omega.{arith}
use lib.ListN.{length, drop, get_or, set, length-set, replicate, get_or-replicate, drop_of_length-le}
use lib.Seq.{get_or-set_same, get_or-set_other, drop-cons}
use Rattle.topics.specs.Topics.{Word, hash, stands, matches}
use Rattle.topics.specs.Rows.{Row, Next}
use Rattle.topics.proofs.Matching.{hash_last, hash_next, word_last, word_next}
use Rattle.headers.specs.Rows.{empty, same}
use Rattle.headers.proofs.Rows.{same_eq}

-- ## With `#` before the words, from the last entry down

-- entries from j to n are filled, those before it are as they were
pub record Hashed (n : ℕ) (row next : List Bool) (j : ℕ) : Type 0 where
  pub within : j ≤ n
  pub long : length next ≡ 33
  pub before : (k : ℕ) → k < j → get_or next k false ≡ get_or row k false
  pub filled : (ws : List Word) → length ws ≡ n → (ps : List Word) → Row ps ws row → (k : ℕ) → j ≤ k → k ≤ n → get_or next k false ≡ matches (hash ∷ ps) (drop k ws)

pub hash_start : (n : ℕ) (row : List Bool) → length row ≡ 33 → Hashed n row row n
hash_start n row l =
    record {
      within = omega arith;
      long = l;
      before = λ k h. refl;
      filled = λ ws e ps r k a b. r k (omega arith) ∙ sym (hash_last ps ws k (omega arith));
    }

module _ (n : ℕ) (row next : List Bool) (i : ℕ) (small : n ≤ 32) (h : Hashed n row next (i + 1)) where
  abbrev with_entry : List Bool
  with_entry = set next i (get_or next i false || get_or next (i + 1) false)

  kept : (k : ℕ) → (k ≡ i → ⊥) → get_or with_entry k false ≡ get_or next k false
  kept k ne = get_or-set_other next i k (get_or next i false || get_or next (i + 1) false) false ne

  pub hash_fill : Hashed n row with_entry i
  hash_fill =
      record {
        within = omega (arith, h.within);
        long = long_still;
        before = λ k l. kept k (λ e. omega arith) ∙ h.before k (omega arith);
        filled = λ ws e ps r k a b. ⊎_elim (λ q. subst (λ m. get_or with_entry m false ≡ matches (hash ∷ ps) (drop m ws)) q (here ws e ps r)) (λ l. kept k (λ q. omega arith) ∙ h.filled ws e ps r k (omega arith) b) (eq-or-lt_of_le a);
      }
    where
      long_still : length with_entry ≡ 33
      long_still = simp length-set h.long

      here : (ws : List Word) → length ws ≡ n → (ps : List Word) → Row ps ws row → get_or with_entry i false ≡ matches (hash ∷ ps) (drop i ws)
      here ws e ps r =
          get_or-set_same next i (get_or next i false || get_or next (i + 1) false) false (omega (arith, h.long, h.within))
          ∙ ap₂ (◌||◌) (h.before i (omega arith) ∙ r i (omega (arith, h.within))) (h.filled ws e ps r (i + 1) (omega arith) h.within)
          ∙ sym (hash_next ps ws i (omega (arith, h.within)))

pub as_hash : (p : Word) {ws : List Word} {row next : List Bool} → same p hash ≡ true → Next hash ws row next → Next p ws row next
as_hash p {ws} {row} {next} h n = subst (λ q. Next q ws row next) (sym (same_eq p hash h)) n

-- ## With another word before them, from the first entry up

-- the name's words from word j on remain; entries before j are filled, those from it on are as they were
pub record Worded (p : Word) (ws : List Word) (row next : List Bool) (j : ℕ) : Type 0 where
  pub within : j ≤ length ws
  pub long : length next ≡ 33
  pub filled : (ps : List Word) → Row ps ws row → (k : ℕ) → k < j → get_or next k false ≡ matches (p ∷ ps) (drop k ws)
  pub behind : (k : ℕ) → j ≤ k → get_or next k false ≡ get_or row k false

module _ (p : Word) (plain : same p hash ≡ false) (ws : List Word) (small : length ws ≤ 32) (row next : List Bool) (j : ℕ) (h : Worded p ws row next j) where
  -- one entry more; w is word j of the name
  module _ (l : j < length ws) (w : Word) (is : get_or ws j [] ≡ w) where
    abbrev with_word : List Bool
    with_word = set next j (get_or next (j + 1) false && stands p w)

    and_swap : (a b : Bool) → a && b ≡ b && a
    and_swap true true = refl
    and_swap true false = refl
    and_swap false true = refl
    and_swap false false = refl

    pub word_fill : Worded p ws row with_word (j + 1)
    word_fill =
        record {
          within = omega arith;
          long = simp length-set h.long;
          filled = λ ps r k b. ⊎_elim (λ q. subst (λ m. get_or with_word m false ≡ matches (p ∷ ps) (drop m ws)) (sym q) (here ps r)) (λ q. get_or-set_other next j k (get_or next (j + 1) false && stands p w) false (λ e. omega arith) ∙ h.filled ps r k q) (last_or k b);
          behind = λ k b. get_or-set_other next j k (get_or next (j + 1) false && stands p w) false (λ e. omega arith) ∙ h.behind k (omega arith);
        }
      where
        last_or : (k : ℕ) → k < j + 1 → (k ≡ j) ⊎ (k < j)
        last_or k b = eq-or-lt_of_le (omega arith)

        here : (ps : List Word) → Row ps ws row → get_or with_word j false ≡ matches (p ∷ ps) (drop j ws)
        here ps r =
            get_or-set_same next j (get_or next (j + 1) false && stands p w) false (omega (arith, h.long))
            ∙ ap (◌&& stands p w) (h.behind (j + 1) (omega arith) ∙ r (j + 1) (omega arith))
            ∙ and_swap (matches ps (drop (j + 1) ws)) (stands p w)
            ∙ ap (λ v. stands p v && matches ps (drop (j + 1) ws)) (sym is)
            ∙ sym (word_next ps p plain ws j l)

  -- no word is left
  pub word_done : length ws ≤ j → Next p ws row (set next j false)
  word_done l =
      record {
        grows = λ ps r k b.
            ⊎_elim
            (λ q. subst (λ m. get_or (set next j false) m false ≡ matches (p ∷ ps) (drop m ws)) (sym q) (get_or-set_same next j false false (omega (arith, h.long, h.within)) ∙ sym (word_last ps p plain ws j l)))
            (λ q. get_or-set_other next j k false false (λ e. omega arith) ∙ h.filled ps r k q)
            (eq-or-lt_of_le (omega (arith, h.within)));
      }

-- ## The row for no words, for the words from word k on, and for all

pub row_start : (ws : List Word) (n : ℕ) → length ws ≡ n → n ≤ 32 → Row [] ws (set (replicate 33 false) n true)
unfolding matches
row_start ws n e small k h =
    let within : k ≤ n = omega arith in
    ⊎_elim
    (λ q. subst (λ m. get_or (set (replicate 33 false) n true) m false ≡ empty (drop m ws)) (sym q) (get_or-set_same (replicate 33 false) n true false (omega arith) ∙ sym (ap empty (drop_of_length-le ws {i = n} (omega arith)))))
    (λ q. get_or-set_other (replicate 33 false) n k true false (λ o. omega arith) ∙ get_or-replicate 33 k false false (omega arith) ∙ sym (ap empty (drop-cons ws k [] (omega arith))))
    (eq-or-lt_of_le within)

-- after the last word
pub row_last : (ps ws : List Word) (m : ℕ) (row : List Bool) → length ps ≤ m → Row [] ws row → Row (drop m ps) ws row
row_last ps ws m row h r = subst (λ qs. Row qs ws row) (sym (drop_of_length-le ps {i = m} h)) r
