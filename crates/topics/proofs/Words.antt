-- Laws of words by their places. Assumes nothing.
--     steps, steps_long                                  one word on
--     taken_word, taken_rest                             the words from word j on
--     count_long, well_short                             what is known of a well-formed text
--     counted_none, _more, _empty, _full                 the number of words, counted one by one
--     noted_none, noted_more, noted_all, noted_good      where the words begin, noted one by one
--     counted_formed                                     what a count says
--     bad_name, bad_pattern, answered                    what asking for a match answers
--     found_some, found_none                             where nothing is found, and a refusal is passed on
--     rest_none, rest_hash_.., rest_word_..              whether the words that remain match
use mathlib.Core.Path.{◌≡◌, refl, sym, ◌∙◌, ap, ap₂, subst}
use mathlib.Core.Logic.{⊎_elim}
use Rattle.std.specs.Prelude.{Option as Perhaps, Some, None, Result, Ok, Err, IsErrAnd, ok_or}
use mathlib.Core.Bool.{Bool, true, false, cond, ◌&&◌, ◌||◌, not}
use mathlib.Core.List.{List, [], ◌∷◌}
use Prim.Native.Nat.{ℕ, zero, suc, ◌+◌, ◌-◌, ◌≤◌, ◌<◌}
use native.Mathlib.Nat.{eq-or-lt_of_le}
use native.Mathlib.Omega.{arith}
use lib.Dec.{eqb, ltb, leb}
use lib.ListN.{length, take, drop, get_or, set, length-drop, length-set}
use lib.Seq.{get_or-drop, drop-drop, get_or-set_same, get_or-set_other}
use borrow.Author.Tests.{eq-eqb, ne_eqb, le-leb, lt-leb, leb-true}
use Rattle.headers.specs.Rows.{empty, same}
use Rattle.headers.specs.Answers.{accepted, refused}
use Rattle.headers.proofs.Rows.{and_no, and_left, same_eq}
use Rattle.headers.specs.Parts.{until, parts_from}
use Rattle.topics.specs.Topics.{Word, words, no_word_empty, good_words, well_formed, hash, stands, matches, match_answer, yes_or_no}
use Rattle.topics.specs.Rows.{word_at, Steps, Located}
use Rattle.headers.proofs.Parts.{until_le, parts_step, parts_none, parts_all, empty_parts, some_part}
use Rattle.topics.proofs.Matching.{hash_end, hash_more, word_end, word_more}

-- ## One word on

pub steps : (xs : List ℕ) (at end : ℕ) → at ≤ length xs → end ≡ at + until 46 (drop at xs) → Steps xs at (end + 1)
steps xs at end h is =
    let long = length-drop at xs in
    let back : end - at ≡ end + 1 - 1 - at = omega arith in
    record {
      forward = omega arith;
      within = omega (arith, until_le 46 (drop at xs));
      parts = parts_step 46 xs at end h is ∙ ap (λ n. take n (drop at xs) ∷ parts_from 46 xs (end + 1)) back;
    }

pub steps_long : (xs : List ℕ) (at next : ℕ) → Steps xs at next → length (parts_from 46 xs at) ≡ suc (length (parts_from 46 xs next))
steps_long xs at next s = ap length s.parts

-- ## The words from word j on

module _ (ws : List Word) (j : ℕ) where
  module _ (w : Word) (more : List Word) (e : drop j ws ≡ w ∷ more) where
    pub taken_word : get_or ws j [] ≡ w
    taken_word =
        let at : j + 0 ≡ j = omega arith in
        ap (λ k. get_or ws k []) (sym at) ∙ sym (get_or-drop j ws 0 []) ∙ ap (λ vs. get_or vs 0 []) e

    pub taken_rest : drop (j + 1) ws ≡ more
    taken_rest = sym (drop-drop 1 j ws) ∙ ap (drop 1) e

-- ## The number of words

module _ (xs : List ℕ) where
  pub count_long : 256 < length xs → well_formed xs ≡ false
  unfolding well_formed
  count_long h = rw (lt-leb (length xs) 256 h)

  count_empty : no_word_empty (words xs) ≡ false → well_formed xs ≡ false
  unfolding well_formed
  count_empty h = simp (h, and_no)

  count_many : 32 < length (words xs) → well_formed xs ≡ false
  unfolding well_formed
  count_many h = simp (lt-leb (length (words xs)) 32 h, and_no)

  count_good : length xs ≤ 256 → length (words xs) ≤ 32 → no_word_empty (words xs) ≡ true → well_formed xs ≡ true
  unfolding well_formed
  count_good a b e = simp (le-leb (length xs) 256 a, le-leb 1 (length (words xs)) (some_part 46 xs), le-leb (length (words xs)) 32 b, e)

  pub well_short : well_formed xs ≡ true → length xs ≤ 256
  unfolding well_formed
  well_short w = leb-true (length xs) 256 (and_left (leb (length xs) 256) (good_words (words xs)) w)

  -- what remains from a place on, when the words before it are counted and none of them is empty
  pub record Counted (at count : ℕ) : Type 0 where
    pub within : at ≤ length xs + 1
    pub sum : count + length (parts_from 46 xs at) ≡ length (words xs)
    pub full : no_word_empty (words xs) ≡ no_word_empty (parts_from 46 xs at)

  pub counted_none : Counted 0 0
  counted_none = record { within = omega arith; sum = omega (arith, ap length (parts_all 46 xs)); full = ap no_word_empty (sym (parts_all 46 xs)) }

  pub counted_more : (at count next : ℕ) → Counted at count → Steps xs at next → (next ≡ at + 1 → ⊥) → Counted next (count + 1)
  counted_more at count next c s n =
      record { within = s.within; sum = omega (arith, c.sum, steps_long xs at next s); full = c.full ∙ ap no_word_empty s.parts ∙ ap (λ e. not e && no_word_empty (parts_from 46 xs next)) some_octet }
    where
      front : (k : ℕ) (ys : List ℕ) → 0 < k → 0 < length ys → empty (take k ys) ≡ false
      front zero ys h l = absurd (omega arith)
      front (suc k) [] h l = absurd (omega arith)
      front (suc k) (y ∷ ys) h l = refl

      some_octet : empty (word_at xs at next) ≡ false
      some_octet = front (next - 1 - at) (drop at xs) (omega (arith, s.forward)) (omega (arith, s.forward, s.within, length-drop at xs))

  pub counted_empty : (at count next : ℕ) → Counted at count → Steps xs at next → next ≡ at + 1 → well_formed xs ≡ false
  counted_empty at count next c s e =
      let none : next - 1 - at ≡ 0 = omega arith in
      count_empty (c.full ∙ ap no_word_empty s.parts ∙ ap (λ k. not (empty (take k (drop at xs))) && no_word_empty (parts_from 46 xs next)) none)

  pub counted_full : (at count : ℕ) → Counted at count → at ≤ length xs → 32 ≤ count → well_formed xs ≡ false
  counted_full at count c h f =
      let end = at + until 46 (drop at xs) in
      count_many (omega (arith, c.sum, steps_long xs at (end + 1) (steps xs at end h refl)))

  module _ (at count : ℕ) (c : Counted at count) (h : length xs < at) where
    pub all_counted : count ≡ length (words xs)
    all_counted = omega (arith, c.sum, ap length (parts_none 46 xs at h))

    pub counted_all : length xs ≤ 256 → count ≤ 32 → well_formed xs ≡ true
    counted_all a b = count_good a (omega (arith, all_counted)) (c.full ∙ ap no_word_empty (parts_none 46 xs at h))

-- ## Where the words begin

-- the words before place at are counted, and where they and the next one begin is noted
pub record Noted (xs : List ℕ) (at count : ℕ) (starts : List ℕ) : Type 0 where
  pub short : length xs ≤ 256
  pub long : length starts ≡ 33
  pub few : count ≤ 32
  pub counted : Counted xs at count
  pub here : get_or starts count 0 ≡ at
  pub parts : (j : ℕ) → j ≤ count → parts_from 46 xs (get_or starts j 0) ≡ drop j (words xs)
  pub steps : (j : ℕ) → j < count → Steps xs (get_or starts j 0) (get_or starts (j + 1) 0)

module _ (xs starts : List ℕ) (h : length xs ≤ 256) (l : length starts ≡ 33) where
  first_start : get_or (set starts 0 0) 0 0 ≡ 0
  first_start = get_or-set_same starts 0 0 0 (omega arith)

  pub noted_none : Noted xs 0 0 (set starts 0 0)
  noted_none =
      record {
        short = h;
        long = simp length-set l;
        few = omega arith;
        counted = counted_none xs;
        here = first_start;
        parts = first_parts;
        steps = λ j b. absurd (omega arith);
      }
    where
      first_parts : (j : ℕ) → j ≤ 0 → parts_from 46 xs (get_or (set starts 0 0) j 0) ≡ drop j (words xs)
      first_parts zero b = ap (parts_from 46 xs) first_start ∙ parts_all 46 xs
      first_parts (suc j) b = absurd (omega arith)

module _ (xs : List ℕ) (at count : ℕ) (starts : List ℕ) (n : Noted xs at count starts) where
  -- one word more
  module _ (next : ℕ) (s : Steps xs at next) (room : count < 32) (some_octet : next ≡ at + 1 → ⊥) where
    abbrev with_next : List ℕ
    with_next = set starts (count + 1) next

    same_start : (j : ℕ) → j ≤ count → get_or with_next j 0 ≡ get_or starts j 0
    same_start j b = get_or-set_other starts (count + 1) j next 0 (λ e. omega arith)

    new_start : get_or with_next (count + 1) 0 ≡ next
    new_start = get_or-set_same starts (count + 1) next 0 (omega (arith, n.long, n.few))

    remain : drop count (words xs) ≡ word_at xs at next ∷ parts_from 46 xs next
    remain = sym (n.parts count (omega arith)) ∙ ap (parts_from 46 xs) n.here ∙ s.parts

    last_step : Steps xs (get_or with_next count 0) (get_or with_next (count + 1) 0)
    last_step = subst (λ i. Steps xs i (get_or with_next (count + 1) 0)) (sym (same_start count (omega arith) ∙ n.here)) (subst (Steps xs at) (sym new_start) s)

    pub noted_more : Noted xs next (count + 1) with_next
    noted_more =
        record {
          short = n.short;
          long = simp length-set n.long;
          few = omega (arith, n.few);
          counted = counted_more xs at count next n.counted s some_octet;
          here = new_start;
          parts = more_parts;
          steps = more_steps;
        }
      where
        more_parts : (j : ℕ) → j ≤ count + 1 → parts_from 46 xs (get_or with_next j 0) ≡ drop j (words xs)
        more_parts j b =
            ⊎_elim
            (λ q. subst (λ i. parts_from 46 xs (get_or with_next i 0) ≡ drop i (words xs)) (sym q) (ap (parts_from 46 xs) new_start ∙ sym (taken_rest (words xs) count (word_at xs at next) (parts_from 46 xs next) remain)))
            (λ q. ap (parts_from 46 xs) (same_start j (omega arith)) ∙ n.parts j (omega arith))
            (eq-or-lt_of_le b)

        more_steps : (j : ℕ) → j < count + 1 → Steps xs (get_or with_next j 0) (get_or with_next (j + 1) 0)
        more_steps j b =
            let to : j ≤ count = omega arith in
            ⊎_elim
            (λ q. subst (λ i. Steps xs (get_or with_next i 0) (get_or with_next (i + 1) 0)) (sym q) last_step)
            (λ q. subst (λ i. Steps xs i (get_or with_next (j + 1) 0)) (sym (same_start j to)) (subst (Steps xs (get_or starts j 0)) (sym (same_start (j + 1) (omega arith))) (n.steps j q)))
            (eq-or-lt_of_le to)

  module _ (h : length xs < at) where
    pub noted_all : Located xs starts count
    noted_all = record { short = n.short; long = n.long; few = n.few; number = sym (all_counted xs at count n.counted h); parts = n.parts; steps = n.steps }

    pub noted_good : well_formed xs ≡ true
    noted_good = counted_all xs at count n.counted h n.short n.few

-- ## What a count says: 0 that the text is malformed, another that it is not

abbrev pub count_of : List ℕ → ℕ
count_of xs = cond (well_formed xs) (length (words xs)) 0

module _ (xs : List ℕ) (n : ℕ) (is : n ≡ count_of xs) where
  well_count : well_formed xs ≡ true → n ≡ 0 → ⊥
  well_count w e = omega (arith, is, ap (λ t. cond t (length (words xs)) 0) w, some_part 46 xs)

  pub counted_formed : not (eqb n 0) ≡ well_formed xs
  counted_formed = by (well_formed xs) refl
    where
      by : (t : Bool) → well_formed xs ≡ t → not (eqb n 0) ≡ t
      by false w = ap not (eq-eqb n 0 (is ∙ ap (λ t. cond t (length (words xs)) 0) w))
      by true w = ap not (ne_eqb n 0 (well_count w))

-- ## What asking for a match answers

module _ (name pattern : List ℕ) where
  pub bad_name : well_formed name ≡ false → match_answer name pattern ≡ refused 80
  unfolding match_answer
  bad_name h = rw h

  pub bad_pattern : well_formed name ≡ true → well_formed pattern ≡ false → match_answer name pattern ≡ refused 81
  unfolding match_answer
  bad_pattern h k = rw (h, k)

  pub answered : well_formed name ≡ true → well_formed pattern ≡ true → (t : Bool) → matches (words pattern) (words name) ≡ t → match_answer name pattern ≡ accepted (yes_or_no t ∷ [])
  unfolding match_answer
  answered h k t e = rw (h, k, e)

-- ## Where nothing is found, and a refusal is passed on by `?`

pub found_some : {T E : Type 0} (o : Perhaps T) (e : E) (r : Result T E) (x : T) → r ≡ ok_or o e → r ≡ Ok x → o ≡ Some x
found_some None e r x is ok = cc
found_some (Some y) e r x is ok = cc

pub found_none : {T U E : Type 0} (o : Perhaps T) (e f : E) (r : Result T E) (s : Result U E) → r ≡ ok_or o e → r ≡ Err f → IsErrAnd s (λ g. g ≡ f)
    → (o ≡ None) × (s ≡ Err e)
found_none None e f r (Ok u) is err h = absurd h
found_none None e f r (Err g) is err h = (refl, cc)
found_none (Some y) e f r s is err h = absurd (cc)

-- ## Whether the words that remain match

pub rest_none : (P : List ℕ) (p : ℕ) (N : List ℕ) (n : ℕ) → length P < p → ltb (length N) n ≡ matches (parts_from 46 P p) (parts_from 46 N n)
unfolding matches
rest_none P p N n h = rw (parts_none 46 P p h) (sym (empty_parts 46 N n))

module _ (P : List ℕ) (p after : ℕ) (s : Steps P p after) (N : List ℕ) (n : ℕ) where
  abbrev rest : List Word
  rest = parts_from 46 P after

  abbrev left : List Word
  left = parts_from 46 N n

  module _ (h : same (word_at P p after) hash ≡ true) where
    from_hash : parts_from 46 P p ≡ hash ∷ rest
    from_hash = s.parts ∙ ap (◌∷ rest) (same_eq (word_at P p after) hash h)

    yes : (ws : List Word) → matches rest ws ≡ true → matches (hash ∷ rest) ws ≡ true
    yes [] e = hash_end rest ∙ e
    yes (w ∷ ws) e = hash_more rest w ws ∙ ap (◌|| matches (hash ∷ rest) ws) e

    pub rest_hash_yes : matches rest left ≡ true → matches (parts_from 46 P p) left ≡ true
    rest_hash_yes e = ap (λ ps. matches ps left) from_hash ∙ yes left e

    pub rest_hash_end : matches rest left ≡ false → length N < n → matches (parts_from 46 P p) left ≡ false
    rest_hash_end e l =
        let none = parts_none 46 N n l in
        ap₂ matches from_hash none ∙ hash_end rest ∙ ap (matches rest) (sym none) ∙ e

    pub rest_hash_more : (next : ℕ) → Steps N n next → matches rest left ≡ false → matches (parts_from 46 P p) left ≡ matches (parts_from 46 P p) (parts_from 46 N next)
    rest_hash_more next t e =
        ap₂ matches from_hash t.parts
        ∙ hash_more rest (word_at N n next) (parts_from 46 N next)
        ∙ ap (◌|| matches (hash ∷ rest) (parts_from 46 N next)) (ap (matches rest) (sym t.parts) ∙ e)
        ∙ ap (λ ps. matches ps (parts_from 46 N next)) (sym from_hash)

  module _ (h : same (word_at P p after) hash ≡ false) where
    pub rest_word_end : length N < n → matches (parts_from 46 P p) left ≡ false
    rest_word_end l = ap₂ matches s.parts (parts_none 46 N n l) ∙ word_end rest (word_at P p after) h

    rest_word_more : (next : ℕ) → Steps N n next → matches (parts_from 46 P p) left ≡ stands (word_at P p after) (word_at N n next) && matches rest (parts_from 46 N next)
    rest_word_more next t = ap₂ matches s.parts t.parts ∙ word_more rest (word_at P p after) h (word_at N n next) (parts_from 46 N next)

    pub rest_word_no : (next : ℕ) → Steps N n next → stands (word_at P p after) (word_at N n next) ≡ false → matches (parts_from 46 P p) left ≡ false
    rest_word_no next t e = rest_word_more next t ∙ ap (◌&& matches rest (parts_from 46 N next)) e

    pub rest_word_yes : (next : ℕ) → Steps N n next → stands (word_at P p after) (word_at N n next) ≡ true → matches (parts_from 46 P p) left ≡ matches rest (parts_from 46 N next)
    rest_word_yes next t e = rest_word_more next t ∙ ap (◌&& matches rest (parts_from 46 N next)) e
