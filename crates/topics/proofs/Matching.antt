-- Laws of matching, word by word. Assumes nothing.
--     none-left, hash_end, hash_more, word_end, word_more     the words that remain
--     hash_last, hash_next, word_last, word_next              the same from a word of the name on
--     sound, complete, exact                                  matches is exactly Matches
use mathlib.Core.Path.{◌≡◌, refl, sym, ◌∙◌, ap, ap₂, subst}
use mathlib.Core.Bool.{Bool, true, false, cond, ◌&&◌, ◌||◌}
use mathlib.Core.List.{List, [], ◌∷◌, ◌++◌}
use Prim.Native.Nat.{ℕ, suc, ◌+◌, ◌≤◌, ◌<◌}
use native.Mathlib.Numerals.{add-one}
use native.Mathlib.Omega.{arith}
use lib.ListN.{length, drop, get_or, drop_of_length-le}
use lib.Seq.{drop-cons}
use Rattle.headers.specs.Rows.{same}
use Rattle.headers.proofs.Rows.{and_left, and_right, or_yes, same_eq, same_self}
use Rattle.topics.specs.Topics.{Word, star, hash, stands, first_then, some_rest, matches, Stands, Matches, nothing, word}

module _ (ps : List Word) where
  pub hash_end : matches (hash ∷ ps) [] ≡ matches ps []
  unfolding matches
  hash_end = refl

  pub hash_more : (w : Word) (ws : List Word) → matches (hash ∷ ps) (w ∷ ws) ≡ matches ps (w ∷ ws) || matches (hash ∷ ps) ws
  unfolding matches
  hash_more w ws = refl

  pub hash_last : (ws : List Word) (k : ℕ) → length ws ≤ k → matches (hash ∷ ps) (drop k ws) ≡ matches ps (drop k ws)
  hash_last ws k h = rw (drop_of_length-le ws h) hash_end

  pub hash_next : (ws : List Word) (k : ℕ) → k < length ws → matches (hash ∷ ps) (drop k ws) ≡ matches ps (drop k ws) || matches (hash ∷ ps) (drop (k + 1) ws)
  hash_next ws k h = rw (add-one, drop-cons ws k []) (hash_more (get_or ws k []) (drop (suc k) ws))

  module _ (p : Word) (plain : same p hash ≡ false) where
    pub word_end : matches (p ∷ ps) [] ≡ false
    unfolding matches
    word_end = rw plain

    pub word_more : (w : Word) (ws : List Word) → matches (p ∷ ps) (w ∷ ws) ≡ stands p w && matches ps ws
    unfolding matches
    word_more w ws = rw plain

    pub word_last : (ws : List Word) (k : ℕ) → length ws ≤ k → matches (p ∷ ps) (drop k ws) ≡ false
    word_last ws k h = rw (drop_of_length-le ws h) word_end

    pub word_next : (ws : List Word) (k : ℕ) → k < length ws → matches (p ∷ ps) (drop k ws) ≡ stands p (get_or ws k []) && matches ps (drop (k + 1) ws)
    word_next ws k h = rw (add-one, drop-cons ws k []) (word_more (get_or ws k []) (drop (suc k) ws))

-- ## matches is exactly Matches

-- some words left out at the front, the rest passes
rest_of : (g : List Word → Bool) (ws : List Word) → some_rest g ws ≡ true → (vs : List Word) × (us : List Word) × (ws ≡ vs ++ us) × (g us ≡ true)
rest_of g [] h = ([], [], refl, h)
rest_of g (w ∷ ws) h = by (g (w ∷ ws)) refl h (rest_of g ws)
  where
    by : (t : Bool) → g (w ∷ ws) ≡ t → t || some_rest g ws ≡ true → (some_rest g ws ≡ true → (vs : List Word) × (us : List Word) × (ws ≡ vs ++ us) × (g us ≡ true))
        → (vs : List Word) × (us : List Word) × (w ∷ ws ≡ vs ++ us) × (g us ≡ true)
    by true e h go = ([], w ∷ ws, refl, e)
    by false e h go = let (vs, us, q, t) = go h in (w ∷ vs, us, ap (w ∷◌) q, t)

rest_in : (g : List Word → Bool) (vs us : List Word) → g us ≡ true → some_rest g (vs ++ us) ≡ true
rest_in g [] [] h = h
rest_in g [] (u ∷ us) h = ap (◌|| some_rest g us) h
rest_in g (v ∷ vs) us h = ap (g (v ∷ (vs ++ us)) ||◌) (rest_in g vs us h) ∙ or_yes (g (v ∷ (vs ++ us)))

-- what a word that is not `#` stands for
one_word : (p w : Word) → same p hash ≡ false → stands p w ≡ true → Stands p (w ∷ [])
one_word p w q h = rw q (by (same p star) refl h)
  where
    by : (t : Bool) → same p star ≡ t → t || same p w ≡ true → cond t (length (w ∷ []) ≡ 1) (w ∷ [] ≡ p ∷ [])
    by true e h = refl
    by false e h = ap (◌∷ []) (sym (same_eq p w h))

word_one : (p : Word) (vs : List Word) → same p hash ≡ false → Stands p vs → (w : Word) × (vs ≡ w ∷ []) × (stands p w ≡ true)
word_one p vs q s = by (same p star) refl (rw q at s)
  where
    single : (us : List Word) → length us ≡ 1 → (w : Word) × (us ≡ w ∷ [])
    single [] h = absurd (omega arith)
    single (u ∷ []) h = (u, refl)
    single (u ∷ (v ∷ us)) h = absurd (omega arith)

    by : (t : Bool) → same p star ≡ t → cond t (length vs ≡ 1) (vs ≡ p ∷ []) → (w : Word) × (vs ≡ w ∷ []) × (t || same p w ≡ true)
    by true e h = let (w, o) = single vs h in (w, o, refl)
    by false e h = (p, h, same_self p)

pub sound : (ps ws : List Word) → matches ps ws ≡ true → Matches ps ws
unfolding matches
sound [] [] h = nothing
sound [] (w ∷ ws) h = cc
sound (p ∷ ps) ws h = by (same p hash) refl ws h (sound ps)
  where
    by : (t : Bool) → same p hash ≡ t → (ws : List Word) → cond t (some_rest (matches ps) ws) (first_then (stands p) (matches ps) ws) ≡ true → ((us : List Word) → matches ps us ≡ true → Matches ps us) → Matches (p ∷ ps) ws
    by true q ws h go = let (vs, us, e, m) = rest_of (matches ps) ws h in subst (Matches (p ∷ ps)) (sym e) (word p vs (rw q tt) (go us m))
    by false q [] h go = cc
    by false q (w ∷ us) h go = word p (w ∷ []) (one_word p w q (and_left (stands p w) (matches ps us) h)) (go us (and_right (stands p w) (matches ps us) h))

pub complete : {ps ws : List Word} → Matches ps ws → matches ps ws ≡ true
unfolding matches
complete nothing = refl
complete (word p vs {ps} {ws} s m) = by (same p hash) refl (complete m)
  where
    by : (t : Bool) → same p hash ≡ t → matches ps ws ≡ true → cond t (some_rest (matches ps) (vs ++ ws)) (first_then (stands p) (matches ps) (vs ++ ws)) ≡ true
    by true q h = rest_in (matches ps) vs ws h
    by false q h = let (w, e, t) = word_one p vs q s in ap (λ us. first_then (stands p) (matches ps) (us ++ ws)) e ∙ ap₂ (◌&&◌) t h

-- the test and the relation, each from the other
pub exact : (ps ws : List Word) → (matches ps ws ≡ true → Matches ps ws) × (Matches ps ws → matches ps ws ≡ true)
exact ps ws = (sound ps ws, complete)
