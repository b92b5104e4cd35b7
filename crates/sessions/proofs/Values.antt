-- Laws of header values with parts. Assumes nothing.
--     front, behind                                                 the parts before and after a place
--     item_none, item_front, item_behind                            an item by its two numbers
--     heart_beats_none, heart_beats_front, heart_beats_both         a heart-beat value by its two numbers
--     versions_from                                                 the versions of the items that are left, with those counted
--     versions_start, versions_stop, versions_turn, versions_end    reading them, item by item
use Rattle.std.proofs.Common.{◌≡◌, ℕ, ◌+◌, ◌-◌, ◌<◌, ◌≤◌, Bool, true, false, cond, not, ◌&&◌, ◌||◌, eqb, ltb, ◌⊎◌, List, [], ◌∷◌, length, take, drop, replicate, sym, refl, ap, ◌∙◌, ap₂, inl, inr, ⊎_elim, arith, length-drop, take_all, ltb-false, ltb-true, eqb-true}
use mathlib.Core.Bool.{or_assoc}
use mathlib.Core.Option.{Option, none, some}
use Rattle.headers.specs.Rows.{empty, every}
use Rattle.headers.specs.Parts.{split, until, parts_from}
use Rattle.headers.specs.Numbers.{is_digit, amount}
use Rattle.headers.specs.Answers.{read_says}
use Rattle.std.specs.Prelude.{Option as Maybe, None}
use Rattle.headers.proofs.Rows.{and_no, or_no}
use Rattle.headers.proofs.Parts.{split_first, part_last, part_next}
use Rattle.sessions.specs.Values.{some_digits, two_numbers, is_item, counts, versions, heart_beat_max, both, heart_beats_in, heart_beats}
use Rattle.sessions.specs.Opening.{flag}
use Rattle.sessions.specs.Reads.{counted}

-- ## One part or several

module _ (c : ℕ) where
  -- a row of several parts, where c is no digit, is no digits
  record Several (xs : List ℕ) : Type 0 where
    pub first : List ℕ
    pub second : List ℕ
    pub rest : List (List ℕ)
    pub parts : split c xs ≡ first ∷ second ∷ rest
    pub no_digits : every is_digit xs ≡ false

  -- one part or several
  parted : is_digit c ≡ false → (xs : List ℕ) → (split c xs ≡ xs ∷ []) ⊎ Several xs
  unfolding split
  parted d [] = inl refl
  parted d (x ∷ xs) = by (eqb x c) refl (parted d xs)
    where
      by : (t : Bool) → eqb x c ≡ t → (split c xs ≡ xs ∷ []) ⊎ Several xs → (split c (x ∷ xs) ≡ (x ∷ xs) ∷ []) ⊎ Several (x ∷ xs)
      by true e go =
          let p : List ℕ = take (until c xs) xs in
          let ps : List (List ℕ) = parts_from c xs (until c xs + 1) in
          inr (record { first = []; second = p; rest = ps; parts = rw e (ap ([] ∷◌) (split_first c xs)); no_digits = rw (eqb-true x c e, d) })
      by false e (inl q) = inl (rw (e, q))
      by false e (inr s) =
          inr (record {
            first = x ∷ s.first;
            second = s.second;
            rest = s.rest;
            parts = rw (e, s.parts);
            no_digits = rw s.no_digits
                (and_no (is_digit x));
          })

-- ## Items and heart-beats

no_some_digits : (xs : List ℕ) → every is_digit xs ≡ false → some_digits xs ≡ false
no_some_digits xs h = rw h (and_no (not (empty xs)))

no_amount : (limit : ℕ) (xs : List ℕ) → every is_digit xs ≡ false → amount limit xs ≡ none
unfolding amount
no_amount limit xs h = rw (h, and_no (not (empty xs)))

both_none : (o : Option ℕ) → both o none ≡ none
both_none none = refl
both_none (some n) = refl

-- the parts before place n and behind it, as slices
abbrev pub front : ℕ → List ℕ → List ℕ
front n xs = take (n - 0) xs

abbrev pub behind : ℕ → List ℕ → List ℕ
behind n xs = take (length xs - (n + 1)) (drop (n + 1) xs)

parts_at : (c : ℕ) (xs : List ℕ) (n : ℕ) → n ≡ 0 + until c xs → n < length xs → split c xs ≡ front n xs ∷ split c (behind n xs)
parts_at c xs n first h =
    part_next c xs 0 n first h
    ∙ ap (λ ys. front n xs ∷ split c ys) (sym (take_all (length xs - (n + 1)) (drop (n + 1) xs) (simp length-drop (omega arith))))

-- what comes of the parts of a row, where of several it is what comes of a row that is no digits
by_parts : {A : Type 0} (f : List (List ℕ) → A) (c : ℕ) (xs : List ℕ) → is_digit c ≡ false →
    ((p q : List ℕ) (ps : List (List ℕ)) → every is_digit xs ≡ false → f (p ∷ q ∷ ps) ≡ f (xs ∷ []))
    → f (split c xs) ≡ f (xs ∷ [])
by_parts f c xs d more = ⊎_elim (λ e. ap f e) (λ s. ap f s.parts ∙ more s.first s.second s.rest s.no_digits) (parted c d xs)

-- an item with its first point at place n
module _ (p : List ℕ) (n : ℕ) (first : n ≡ 0 + until 46 p) where
  pub item_none : length p ≤ n → is_item p ≡ false
  unfolding is_item
  item_none h = rw (part_last 46 p 0 n first h)

  item_parts : n < length p → is_item p ≡ some_digits (front n p) && some_digits (behind n p)
  unfolding is_item
  item_parts h =
      rw (parts_at 46 p n first h)
      (by_parts (λ ps. two_numbers (front n p ∷ ps)) 46 (behind n p) refl
      (λ q r ps d. sym (rw (no_some_digits (behind n p) d) (and_no (some_digits (front n p))))))

  pub item_front : n < length p → some_digits (front n p) ≡ false → is_item p ≡ false
  item_front h e = item_parts h ∙ ap (◌&& some_digits (behind n p)) e

  pub item_behind : n < length p → some_digits (front n p) ≡ true → is_item p ≡ some_digits (behind n p)
  item_behind h e = item_parts h ∙ ap (◌&& some_digits (behind n p)) e

-- a heart-beat value with its first comma at place n
module _ (v : List ℕ) (n : ℕ) (first : n ≡ 0 + until 44 v) where
  pub heart_beats_none : length v ≤ n → heart_beats v ≡ none
  unfolding heart_beats
  heart_beats_none h = rw (part_last 44 v 0 n first h)

  heart_beats_parts : n < length v → heart_beats v ≡ both (amount heart_beat_max (front n v)) (amount heart_beat_max (behind n v))
  unfolding heart_beats
  heart_beats_parts h =
      rw (parts_at 44 v n first h)
      (by_parts (λ ps. heart_beats_in (front n v ∷ ps)) 44 (behind n v) refl
      (λ q r ps d. sym (rw (no_amount heart_beat_max (behind n v) d) (both_none (amount heart_beat_max (front n v))))))

  -- what is read of its parts
  module _ (h : n < length v) (a : Maybe ℕ) (sends : read_says a ≡ amount heart_beat_max (front n v)) where
    pub heart_beats_front : a ≡ None → heart_beats v ≡ none
    heart_beats_front e = heart_beats_parts h ∙ ap (λ o. both o (amount heart_beat_max (behind n v))) (sym sends ∙ ap read_says e)

    pub heart_beats_both : (b : Maybe ℕ) → read_says b ≡ amount heart_beat_max (behind n v) → (a' b' : Maybe ℕ) → a ≡ a' → b ≡ b' → heart_beats
        v ≡ both (read_says a') (read_says b')
    heart_beats_both b wants a' b' p q = heart_beats_parts h ∙ ap₂ both (sym sends ∙ ap read_says p) (sym wants ∙ ap read_says q)

-- ## Versions, item by item

-- the flags of items, with those counted before
abbrev joined : List Bool → List (List ℕ) → List Bool
joined fs items = (flag fs 0 || counts "1.0" items) ∷ (flag fs 1 || counts "1.1" items) ∷ (flag fs 2 || counts "1.2" items) ∷ []

unfoldable pub versions_from : List Bool → List (List ℕ) → Option (List Bool)
versions_from fs items = cond (every is_item items) (some (joined fs items)) none

module _ (fs : List Bool) (p : List ℕ) where
  no_item : (ps : List (List ℕ)) → is_item p ≡ false → versions_from fs (p ∷ ps) ≡ none
  unfolding versions_from
  no_item ps h = rw h

  last_item : is_item p ≡ true → versions_from fs (p ∷ []) ≡ some (counted fs p)
  unfolding versions_from
  last_item h = simp (h, or_no)

  next_item : (ps : List (List ℕ)) → is_item p ≡ true → versions_from fs (p ∷ ps) ≡ versions_from (counted fs p) ps
  unfolding versions_from
  next_item ps h = simp (h, or_assoc)

-- none is counted at first
pub versions_start : (v : List ℕ) → versions v ≡ versions_from (replicate 3 false) (split 44 v)
unfolding versions versions_from
versions_start v = refl

-- the item from place at to e, up to the next comma or the end
module _ (v : List ℕ) (at e : ℕ) (fs : List Bool) (is : e ≡ at + until 44 (drop at v)) where
  abbrev item : List ℕ
  item = take (e - at) (drop at v)

  pub versions_stop : is_item item ≡ false → versions_from fs (split 44 (drop at v)) ≡ none
  versions_stop h = by (ltb e (length v)) refl
    where
      by : (t : Bool) → ltb e (length v) ≡ t → versions_from fs (split 44 (drop at v)) ≡ none
      by true t = ap (versions_from fs) (part_next 44 v at e is (ltb-true e (length v) t)) ∙ no_item fs item (split 44 (drop (e + 1) v)) h
      by false t = ap (versions_from fs) (part_last 44 v at e is (ltb-false e (length v) t)) ∙ no_item fs item [] h

  -- counted, it is in the flags gs
  module _ (h : is_item item ≡ true) (gs : List Bool) (count : gs ≡ counted fs item) where
    pub versions_turn : e < length v → versions_from fs (split 44 (drop at v)) ≡ versions_from gs (split 44 (drop (e + 1) v))
    versions_turn l = rw count (ap (versions_from fs) (part_next 44 v at e is l) ∙ next_item fs item (split 44 (drop (e + 1) v)) h)

    pub versions_end : length v ≤ e → versions_from fs (split 44 (drop at v)) ≡ some gs
    versions_end l = rw count (ap (versions_from fs) (part_last 44 v at e is l) ∙ last_item fs item h)
