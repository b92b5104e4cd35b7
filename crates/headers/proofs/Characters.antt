-- Characters of UTF-8, and the numbers that the code has for them: laws. Assumes nothing.
--     utf8_exact                    the test is true of exactly the octets that are UTF-8
--     utf8_edges                    the first and last characters of each row of RFC 3629's table, and what is next to them
--     wide_on, wide_off             a character of more than one octet at the front, or none
use Rattle.std.specs.Prelude.{Option, Some, None}
use mathlib.Core.Path.{◌≡◌, refl, sym, ◌∙◌, ap, ap₂, subst}
use mathlib.Core.Bool.{Bool, true, false, cond, ◌&&◌, ◌||◌, not}
use mathlib.Core.List.{List, [], ◌∷◌, ◌++◌, append_assoc, append-nil}
use Prim.Native.Nat.{ℕ, suc, ◌+◌, ◌-◌, ◌≤◌, ◌<◌}
use native.Mathlib.Nat.{add-zero}
use native.Mathlib.Omega.{arith}
use native.Mathlib.Numerals.{add-one}
use lib.ListN.{length, take, drop, get_or, length-append, length-drop, drop_of_length-le, take-append-drop}
use lib.Seq.{drop-cons, drop-drop, take-append_seam, drop-append_seam, take-add, length-take-le, get_or-drop}
use lib.Dec.{eqb, leb, ltb}
use borrow.Author.Tests.{eq-eqb, eqb-true, eqb-false, ne_eqb, leb-true, le-leb, ltb-true, ltb-false, lt-ltb, le-ltb, lt-leb}
use Rattle.headers.specs.Rows.{any, every}
use Rattle.headers.specs.Text.{stops, opens, is_letter, starts, starts_with, reads, missing, tail, second, ascii, Character, itself, escape, wide, Text, none, more, Wide, led_by, Utf8, utf8_none, utf8_ascii, utf8_wide, Part, fresh, back, led, tails, owes, left, of_utf8, of_escape, Into, into, bad, stop, utf8_reads, then_reads, ended, reads_whole, is_text_from, is_utf8_from, is_utf8}
use Rattle.headers.specs.Escapes.{encode, writable, means, character_means}
use Rattle.headers.specs.Characters.{part_number, utf8_part, text_part, is_begun, part_after, whole, is_wide, wide_front, front_character, Wides, no_wide, one_wide, WideStretch}
use Rattle.headers.specs.declared.text.Style.{Style}
use Rattle.headers.specs.declared.text.Field.{Field}
use Rattle.headers.proofs.Rows.{cond_case, and_left, and_right, and_no, refuted, never, every_left, every_right}
use Rattle.headers.specs.declared.text.Field.TheVariants.{Value}
use Rattle.headers.proofs.Reading.{missing_high, missing_top, missing_few, owes_left}
use Rattle.headers.proofs.Coding.{decode_means, decode_encode, encode_text, meaning_ascii}

-- ---- a character of more than one octet is passed whole

tails_on : (t xs : List ℕ) → every tail t ≡ true → is_utf8_from (left (length t)) (t ++ xs) ≡ is_utf8 xs
unfolding reads_whole
tails_on [] xs h = refl
tails_on (x ∷ t) xs h =
    let n : suc (length t) - 1 ≡ length t = omega arith in
    let some : eqb (suc (length t)) 0 ≡ false = ne_eqb (suc (length t)) 0 (omega arith) in
    rw (some, and_left (tail x) (every tail t) h, n) (tails_on t xs (and_right (tail x) (every tail t) h))

pub wide_on : {u : List ℕ} (xs : List ℕ) → Wide u → is_utf8 (u ++ xs) ≡ is_utf8 xs
unfolding reads_whole
wide_on xs (led_by {x = x} {y = y} {t = t} e h k) =
    let some : 0 < missing x = omega arith in
    let n : missing x - 1 ≡ length t = omega arith in
    rw (missing_high x some, lt-ltb 0 (missing x) some, h, n) (tails_on t xs k)

pub ascii_on : (x : ℕ) (xs : List ℕ) → ascii x ≡ true → is_utf8 (x ∷ xs) ≡ is_utf8 xs
unfolding reads_whole
ascii_on x xs h = rw h

utf8_passes : {xs : List ℕ} → Utf8 xs → is_utf8 xs ≡ true
unfolding reads_whole
utf8_passes utf8_none = refl
utf8_passes (utf8_ascii {x = x} {xs = xs} h u) = ascii_on x xs h ∙ utf8_passes u
utf8_passes (utf8_wide {xs = xs} w u) = wide_on xs w ∙ utf8_passes u

-- text stands for UTF-8, so what can be written in a style with escapes, which is all UTF-8, is UTF-8
utf8_append : {xs ys : List ℕ} → Utf8 xs → Utf8 ys → Utf8 (xs ++ ys)
utf8_append utf8_none v = v
utf8_append (utf8_ascii h u) v = utf8_ascii h (utf8_append u v)
utf8_append {ys = ys} (utf8_wide {u = c} {xs = xs} w u) v = subst Utf8 (sym (append_assoc c xs ys)) (utf8_wide w (utf8_append u v))

character_utf8 : {s : Style} {f : Field} {u : List ℕ} (c : Character s f u) → Utf8 (character_means c)
character_utf8 (itself h a) = utf8_ascii a utf8_none
character_utf8 {s} (escape {x = x} e h) = utf8_ascii (meaning_ascii s x h) utf8_none
character_utf8 (wide {x = x} {y = y} {t = t} e h k) = subst Utf8 (append-nil (x ∷ y ∷ t)) (utf8_wide (led_by {t = t} e h k) utf8_none)

text_utf8 : {s : Style} {f : Field} {xs : List ℕ} (t : Text s f xs) → Utf8 (means t)
text_utf8 none = utf8_none
text_utf8 (more c t) = utf8_append (character_utf8 c) (text_utf8 t)

passes_utf8 : (xs : List ℕ) → is_utf8 xs ≡ true → Utf8 xs
passes_utf8 xs h =
    let s : Style = record { escapes = true; crlf = true } in
    let t : Text s Value (encode s xs) = encode_text s Value xs (rw (every_writable xs, h)) in
    subst Utf8 (sym (decode_means t) ∙ decode_encode s xs) (text_utf8 t)
  where
    every_writable : (xs : List ℕ) → every (writable (record { escapes = true; crlf = true }) Value) xs ≡ true
    every_writable [] = refl
    every_writable (x ∷ xs) = rw (each x) (every_writable xs)
      where
        each : (x : ℕ) → writable (record { escapes = true; crlf = true }) Value x ≡ true
        each x = by (eqb x 13) (eqb x 10) (eqb x 58) (eqb x 92)
          where
            by : (a b c d : Bool) → (a || (b || (c || (d || false)))) || not (b || (a && true) || (c && true)) ≡ true
            by true b c d = refl
            by false true c d = refl
            by false false true d = refl
            by false false false true = refl
            by false false false false = refl

-- The test is true of exactly the octets that are UTF-8.
pub utf8_exact : (xs : List ℕ) → (Utf8 xs → is_utf8 xs ≡ true) × (is_utf8 xs ≡ true → Utf8 xs)
utf8_exact xs = (utf8_passes, passes_utf8 xs)

-- ---- the table of RFC 3629, section 4

-- by its rows, the first and the last character of each
abbrev edge_characters : List (List ℕ)
edge_characters =
    (0 ∷ []) ∷ (127 ∷ []) ∷
    (194 ∷ 128 ∷ []) ∷ (223 ∷ 191 ∷ []) ∷
    (224 ∷ 160 ∷ 128 ∷ []) ∷ (224 ∷ 191 ∷ 191 ∷ []) ∷
    (225 ∷ 128 ∷ 128 ∷ []) ∷ (236 ∷ 191 ∷ 191 ∷ []) ∷
    (237 ∷ 128 ∷ 128 ∷ []) ∷ (237 ∷ 159 ∷ 191 ∷ []) ∷
    (238 ∷ 128 ∷ 128 ∷ []) ∷ (239 ∷ 191 ∷ 191 ∷ []) ∷
    (240 ∷ 144 ∷ 128 ∷ 128 ∷ []) ∷ (240 ∷ 191 ∷ 191 ∷ 191 ∷ []) ∷
    (241 ∷ 128 ∷ 128 ∷ 128 ∷ []) ∷ (243 ∷ 191 ∷ 191 ∷ 191 ∷ []) ∷
    (244 ∷ 128 ∷ 128 ∷ 128 ∷ []) ∷ (244 ∷ 143 ∷ 191 ∷ 191 ∷ []) ∷
    []

-- what is next to them: before the first lead octet and after the last, before the first second octet and after the last of each
-- row, before the first tail and after the last; then characters that are cut, and one with an octet too many
abbrev edge_octets : List (List ℕ)
edge_octets =
    (128 ∷ []) ∷ (191 ∷ []) ∷ (192 ∷ 128 ∷ []) ∷ (193 ∷ 191 ∷ []) ∷
    (194 ∷ 127 ∷ []) ∷ (194 ∷ 192 ∷ []) ∷ (223 ∷ 127 ∷ []) ∷ (223 ∷ 192 ∷ []) ∷
    (224 ∷ 159 ∷ 191 ∷ []) ∷ (224 ∷ 192 ∷ 128 ∷ []) ∷
    (225 ∷ 127 ∷ 191 ∷ []) ∷ (236 ∷ 192 ∷ 128 ∷ []) ∷
    (237 ∷ 127 ∷ 191 ∷ []) ∷ (237 ∷ 160 ∷ 128 ∷ []) ∷
    (238 ∷ 127 ∷ 191 ∷ []) ∷ (239 ∷ 192 ∷ 128 ∷ []) ∷
    (240 ∷ 143 ∷ 191 ∷ 191 ∷ []) ∷ (240 ∷ 192 ∷ 128 ∷ 128 ∷ []) ∷
    (241 ∷ 127 ∷ 191 ∷ 191 ∷ []) ∷ (243 ∷ 192 ∷ 128 ∷ 128 ∷ []) ∷
    (244 ∷ 127 ∷ 191 ∷ 191 ∷ []) ∷ (244 ∷ 144 ∷ 128 ∷ 128 ∷ []) ∷
    (245 ∷ 128 ∷ 128 ∷ 128 ∷ []) ∷ (255 ∷ []) ∷
    (225 ∷ 128 ∷ 127 ∷ []) ∷ (225 ∷ 128 ∷ 192 ∷ []) ∷
    (241 ∷ 128 ∷ 127 ∷ 128 ∷ []) ∷ (241 ∷ 128 ∷ 192 ∷ 128 ∷ []) ∷
    (241 ∷ 128 ∷ 128 ∷ 127 ∷ []) ∷ (241 ∷ 128 ∷ 128 ∷ 192 ∷ []) ∷
    (194 ∷ []) ∷ (225 ∷ 128 ∷ []) ∷ (241 ∷ 128 ∷ 128 ∷ []) ∷ (194 ∷ 128 ∷ 128 ∷ []) ∷
    []

pub utf8_edges : (every is_utf8 edge_characters ≡ true) × (any is_utf8 edge_octets ≡ false)
unfolding reads_whole
utf8_edges = (refl, refl)

-- ---- whole characters at the front

-- the character of more than one octet at the front
pub wide_whole : (xs : List ℕ) → is_wide xs ≡ true → Wide (take (missing (get_or xs 0 0) + 1) xs) × (missing (get_or xs 0 0) + 1 ≤ length xs)
wide_whole [] h = let z : ◌≡◌ {A = ℕ} 0 1 = cc in absurd (omega arith)
wide_whole (x ∷ []) h =
    let some = ltb-true 0 (missing x) (and_left _ _ h) in
    let long = leb-true (missing x + 1) 1 (and_left _ _ (and_right (ltb 0 (missing x)) _ h)) in
    absurd (omega arith)
wide_whole (x ∷ y ∷ ys) h =
    let some = ltb-true 0 (missing x) (and_left _ _ h) in
    let h₁ = and_right (ltb 0 (missing x)) _ h in
    let long = leb-true (missing x + 1) (length (x ∷ y ∷ ys)) (and_left _ _ h₁) in
    let h₂ = and_right (leb (missing x + 1) (length (x ∷ y ∷ ys))) _ h₁ in
    let n : ℕ = missing x - 1 in
    let count : missing x + 1 ≡ suc (suc n) = omega arith in
    let all : missing x ≡ suc (length (take n ys)) = omega (arith, length-take-le n ys (omega arith)) in (
      subst (λ m. Wide (take m (x ∷ y ∷ ys))) (sym count) (led_by {t = take n ys} all (and_left _ _ h₂) (and_right (second x y) _ h₂)),
      long,
    )

-- and it is found where it stands
pub wide_found : {u : List ℕ} (xs : List ℕ) → Wide u → is_wide (u ++ xs) ≡ true
wide_found xs (led_by {x = x} {y = y} {t = t} e h k) =
    let some : 0 < missing x = omega arith in
    let n : missing x - 1 ≡ length t = omega arith in
    rw (lt-ltb 0 (missing x) some, le-leb (missing x + 1) (length (x ∷ y ∷ (t ++ xs))) (omega (arith, length-append t xs)), h, n, take-append_seam t xs, k)

-- an octet of 128 or more with none at the front is in no UTF-8
pub wide_off : (x : ℕ) (xs : List ℕ) → ascii x ≡ false → wide_front (x ∷ xs) ≡ 0 → is_utf8 (x ∷ xs) ≡ false
unfolding wide_front
wide_off x xs a e = refuted (is_utf8 (x ∷ xs)) (λ t. by (x ∷ xs) refl (passes_utf8 (x ∷ xs) t))
  where
    none : is_wide (x ∷ xs) ≡ true → ⊥
    none t = omega (arith, rw t at e)

    by : (zs : List ℕ) → zs ≡ x ∷ xs → Utf8 zs → ⊥
    by zs same utf8_none = let z : ◌≡◌ {A = ℕ} 0 1 = cc in omega arith
    by zs same (utf8_ascii {x = y} h u) = let y≡x : y ≡ x = ap (λ l. get_or l 0 0) same in let z : ◌≡◌ {A = ℕ} 0 1 = cc in omega arith
    by zs same (utf8_wide {xs = ys} w u) = none (ap is_wide (sym same) ∙ wide_found ys w)

-- ---- one character after another, from a place on

module _ (xs : List ℕ) (i : ℕ) (h : i < length xs) where
  at_place : drop i xs ≡ get_or xs i 0 ∷ drop (i + 1) xs
  at_place = rw (add-one) (drop-cons xs i 0 h)

  pub front_ascii : ascii (get_or xs i 0) ≡ true → front_character (drop i xs) ≡ 1
  unfolding front_character
  front_ascii a = ap front_character at_place ∙ rw a refl

  pub front_wide : ascii (get_or xs i 0) ≡ false → front_character (drop i xs) ≡ wide_front (drop i xs)
  unfolding front_character
  front_wide a = ap front_character at_place ∙ rw a (ap wide_front (sym at_place))

  -- a character of UTF-8 is passed; where none is at the front the octets are no UTF-8
  pub utf8_more : {k : ℕ} → k ≡ front_character (drop i xs) → (k ≡ 0 → ⊥) → (is_utf8 (drop i xs) ≡ is_utf8 (drop (i + k) xs)) × (i + k ≤ length xs)
  unfolding wide_front
  utf8_more {k} e some = by (ascii (get_or xs i 0)) refl (is_wide (drop i xs)) refl
    where
      by : (a : Bool) → ascii (get_or xs i 0) ≡ a → (b : Bool) → is_wide (drop i xs) ≡ b → (is_utf8 (drop i xs) ≡ is_utf8 (drop (i + k) xs)) × (i + k ≤ length xs)
      by true p b q =
          let one : k ≡ 1 = e ∙ front_ascii p in
          (ap is_utf8 at_place ∙ ascii_on (get_or xs i 0) (drop (i + 1) xs) p ∙ ap (λ n. is_utf8 (drop (i + n) xs)) (sym one), omega arith)
      by false p true q =
          let m : ℕ = missing (get_or (drop i xs) 0 0) + 1 in
          let n : k ≡ m = e ∙ front_wide p ∙ ap (λ t. cond t m 0) q in
          let (w, long) = wide_whole (drop i xs) q in
          let apart : is_utf8 (drop i xs) ≡ is_utf8 (drop m (drop i xs)) = ap is_utf8 (sym (take-append-drop m (drop i xs))) ∙ wide_on (drop m (drop i xs)) w in
          (apart ∙ ap is_utf8 (drop-drop m i xs ∙ ap (λ z. drop (i + z) xs) (sym n)), omega (arith, length-drop i xs))
      by false p false q = absurd (some (e ∙ front_wide p ∙ ap (λ t. cond t (missing (get_or (drop i xs) 0 0) + 1) 0) q))

  pub utf8_less : {k : ℕ} → k ≡ front_character (drop i xs) → k ≡ 0 → is_utf8 (drop i xs) ≡ false
  utf8_less {k} e gone = by (ascii (get_or xs i 0)) refl
    where
      by : (a : Bool) → ascii (get_or xs i 0) ≡ a → is_utf8 (drop i xs) ≡ false
      by true p = absurd (omega (arith, e, front_ascii p))
      by false p = ap is_utf8 at_place ∙ wide_off (get_or xs i 0) (drop (i + 1) xs) p (ap wide_front (sym at_place) ∙ sym (front_wide p) ∙ sym e ∙ gone)

pub utf8_end : (xs : List ℕ) (i : ℕ) → length xs ≤ i → is_utf8 (drop i xs) ≡ true
unfolding reads_whole
utf8_end xs i h = rw (drop_of_length-le xs h)

-- where a character is at a place, the place is in the row; where none is, the rest is UTF-8 exactly if there is no rest
pub front_end : (xs : List ℕ) (i : ℕ) → length xs ≤ i → front_character (drop i xs) ≡ 0
unfolding front_character
front_end xs i h = rw (drop_of_length-le xs h) refl

pub front_inside : (xs : List ℕ) (i : ℕ) {k : ℕ} → k ≡ front_character (drop i xs) → (k ≡ 0 → ⊥) → i < length xs
front_inside xs i e some = by (ltb i (length xs)) refl
  where
    by : (t : Bool) → ltb i (length xs) ≡ t → i < length xs
    by true h = ltb-true i (length xs) h
    by false h = absurd (some (e ∙ front_end xs i (ltb-false i (length xs) h)))

pub utf8_rest : (xs : List ℕ) (i : ℕ) → i ≤ length xs → front_character (drop i xs) ≡ 0 → eqb i (length xs) ≡ is_utf8 (drop i xs)
utf8_rest xs i l gone = by (ltb i (length xs)) refl
  where
    by : (t : Bool) → ltb i (length xs) ≡ t → eqb i (length xs) ≡ is_utf8 (drop i xs)
    by true h = let inside : i < length xs = ltb-true i (length xs) h in ne_eqb i (length xs) (omega arith) ∙ sym (utf8_less xs i inside (sym gone) refl)
    by false h = let out : length xs ≤ i = ltb-false i (length xs) h in eq-eqb i (length xs) (omega arith) ∙ sym (utf8_end xs i out)

-- ---- the octets that tell how long a character is, as the code looks at them

module _ (xs : List ℕ) (i : ℕ) where
  abbrev lead : ℕ
  lead = get_or xs i 0

  nth : (k : ℕ) → get_or (drop i xs) k 0 ≡ get_or xs (i + k) 0
  nth k = get_or-drop i xs k 0

  first : get_or (drop i xs) 0 0 ≡ lead
  first = nth 0 ∙ ap (λ n. get_or xs n 0) (add-zero i)

  abbrev told : Bool → Bool → Bool → Bool → ℕ
  told a b c d = cond (a && (b && (c && d))) (missing lead + 1) 0

  front_told : (a b c d : Bool) → ltb 0 (missing lead) ≡ a → leb (missing lead + 1) (length (drop i xs)) ≡ b → second lead (get_or xs (i + 1) 0) ≡ c
      → every tail (take (missing lead - 1) (drop (i + 2) xs)) ≡ d → wide_front (drop i xs) ≡ told a b c d
  unfolding wide_front
  front_told a b c d p q r t = rw (first, nth 1, p, q, r, drop-drop 2 i xs, t)

  pub no_lead : missing lead ≡ 0 → 0 ≡ wide_front (drop i xs)
  no_lead e = sym (front_told false _ _ _ (le-ltb 0 (missing lead) (omega arith)) refl refl refl)

  pub cut_wide : length xs ≤ i + missing lead → 0 ≡ wide_front (drop i xs)
  cut_wide h =
      sym (front_told _ false _ _ refl (lt-leb (missing lead + 1) (length (drop i xs)) (omega (arith, length-drop i xs))) refl refl ∙ by (ltb 0 (missing lead)))
    where
      by : (a : Bool) → cond (a && false) (missing lead + 1) 0 ≡ 0
      by true = refl
      by false = refl

  pub no_second : second lead (get_or xs (i + 1) 0) ≡ false → 0 ≡ wide_front (drop i xs)
  no_second h = sym (front_told _ _ false _ refl refl h refl ∙ by (ltb 0 (missing lead)) (leb (missing lead + 1) (length (drop i xs))))
    where
      by : (a b : Bool) → cond (a && (b && false)) (missing lead + 1) 0 ≡ 0
      by true true = refl
      by true false = refl
      by false b = refl

  no_tails : every tail (take (missing lead - 1) (drop (i + 2) xs)) ≡ false → 0 ≡ wide_front (drop i xs)
  no_tails h =
      sym (front_told _ _ _ false refl refl refl h ∙ by (ltb 0 (missing lead)) (leb (missing lead + 1) (length (drop i xs))) (second lead (get_or xs (i + 1) 0)))
    where
      by : (a b c : Bool) → cond (a && (b && (c && false))) (missing lead + 1) 0 ≡ 0
      by true true true = refl
      by true true false = refl
      by true false c = refl
      by false b c = refl

  all_there : (missing lead ≡ 0 → ⊥) → i + missing lead < length xs → second lead (get_or xs (i + 1) 0) ≡ true
      → every tail (take (missing lead - 1) (drop (i + 2) xs)) ≡ true → missing lead + 1 ≡ wide_front (drop i xs)
  all_there some long h k =
      sym (front_told true true true true (lt-ltb 0 (missing lead) (omega arith)) (le-leb (missing lead + 1) (length (drop i xs)) (omega (arith, length-drop i xs))) h k)

  -- so many tails, one by one
  pub two_octets : missing lead ≡ 1 → i + 1 < length xs → second lead (get_or xs (i + 1) 0) ≡ true → 2 ≡ wide_front (drop i xs)
  two_octets e long h =
      let z : missing lead - 1 ≡ 0 = omega arith in
      let n : 2 ≡ missing lead + 1 = omega arith in
      n ∙ all_there (λ w. omega arith) (omega arith) h (rw z refl)

  third : i + 2 < length xs → drop (i + 2) xs ≡ get_or xs (i + 2) 0 ∷ drop (i + 3) xs
  third h = let n : suc (i + 2) ≡ i + 3 = omega arith in drop-cons xs (i + 2) 0 h ∙ ap (λ n. get_or xs (i + 2) 0 ∷ drop n xs) n

  pub no_third : 2 ≤ missing lead → i + 2 < length xs → tail (get_or xs (i + 2) 0) ≡ false → 0 ≡ wide_front (drop i xs)
  no_third m h t = no_tails (let n : missing lead - 1 ≡ suc (missing lead - 2) = omega arith in rw (n, third h, t) refl)

  pub three_octets : missing lead ≡ 2 → i + 2 < length xs → second lead (get_or xs (i + 1) 0) ≡ true → tail (get_or xs (i + 2) 0) ≡ true → 3 ≡ wide_front (drop i xs)
  three_octets e long h t =
      let z : missing lead - 1 ≡ 1 = omega arith in
      let n : 3 ≡ missing lead + 1 = omega arith in
      n ∙ all_there (λ w. omega arith) (omega arith) h (rw (z, third long, t) refl)

  fourth : i + 3 < length xs → drop (i + 3) xs ≡ get_or xs (i + 3) 0 ∷ drop (i + 4) xs
  fourth h = let n : suc (i + 3) ≡ i + 4 = omega arith in drop-cons xs (i + 3) 0 h ∙ ap (λ n. get_or xs (i + 3) 0 ∷ drop n xs) n

  pub no_fourth : missing lead ≡ 3 → i + 3 < length xs → tail (get_or xs (i + 3) 0) ≡ false → 0 ≡ wide_front (drop i xs)
  no_fourth e h t =
      let z : missing lead - 1 ≡ 2 = omega arith in
      no_tails (rw (z, third (omega arith), fourth h, t) (and_no (tail (get_or xs (i + 2) 0))))

  pub four_octets : missing lead ≡ 3 → i + 3 < length xs → second lead (get_or xs (i + 1) 0) ≡ true → tail (get_or xs (i + 2) 0) ≡ true → tail (get_or xs (i + 3) 0) ≡ true → 4 ≡ wide_front (drop i xs)
  four_octets e long h t u =
      let z : missing lead - 1 ≡ 2 = omega arith in
      let n : 4 ≡ missing lead + 1 = omega arith in
      n ∙ all_there (λ w. omega arith) (omega arith) h (rw (z, third (omega arith), fourth long, t, u) refl)

-- ---- characters of more than one octet, one after another

wides_append : {xs us : List ℕ} → Wides xs → Wide us → Wides (xs ++ us)
wides_append {us = us} no_wide w = subst Wides (append-nil us) (one_wide w no_wide)
wides_append {us = us} (one_wide {u = u} {xs = xs} v ws) w = subst Wides (sym (append_assoc u xs us)) (one_wide v (wides_append ws w))

module _ (xs : List ℕ) (i : ℕ) {k : ℕ} (e : k ≡ wide_front (drop i xs)) (some : k ≡ 0 → ⊥) where
  is_there : is_wide (drop i xs) ≡ true
  unfolding wide_front
  is_there = by (is_wide (drop i xs)) refl
    where
      by : (t : Bool) → is_wide (drop i xs) ≡ t → t ≡ true
      by true q = refl
      by false q = absurd (some (e ∙ ap (λ t. cond t (missing (get_or (drop i xs) 0 0) + 1) 0) q))

  counts : k ≡ missing (get_or (drop i xs) 0 0) + 1
  unfolding wide_front
  counts = e ∙ ap (λ t. cond t (missing (get_or (drop i xs) 0 0) + 1) 0) is_there

  pub wide_here : Wide (take k (drop i xs)) × (i + k ≤ length xs) × (2 ≤ k)
  wide_here =
      let (w, long) = wide_whole (drop i xs) is_there in (
        subst (λ n. Wide (take n (drop i xs))) (sym counts) w,
        omega (arith, counts, length-drop i xs, ltb-true 0 (missing (get_or (drop i xs) 0 0)) (and_left _ _ is_there)),
        omega (arith, counts, ltb-true 0 (missing (get_or (drop i xs) 0 0)) (and_left _ _ is_there)),
      )

  pub wides_more : Wides (take i xs) → Wides (take (i + k) xs)
  wides_more ws = subst Wides (sym (take-add i k xs)) (wides_append ws wide_here.0)

pub wides_none : (xs : List ℕ) → Wides (take 0 xs)
wides_none xs = no_wide

pub wide_end : (xs : List ℕ) (i : ℕ) → length xs ≤ i → wide_front (drop i xs) ≡ 0
unfolding wide_front
wide_end xs i l = rw (drop_of_length-le xs l) refl

-- a number of octets, or none
pub whole_some : (n : ℕ) {k : ℕ} → whole n ≡ Some k → (k ≡ n) × (k ≡ 0 → ⊥)
whole_some n {k} e = by (eqb n 0) refl e
  where
    by : (t : Bool) → eqb n 0 ≡ t → cond t None (Some n) ≡ Some k → (k ≡ n) × (k ≡ 0 → ⊥)
    by true h e = cc
    by false h e = let same : n ≡ k = cc in (sym same, λ z. eqb-false n 0 h (same ∙ z))

pub whole_none : (n : ℕ) → whole n ≡ None → n ≡ 0
whole_none n e = by (eqb n 0) refl e
  where
    by : (t : Bool) → eqb n 0 ≡ t → cond t None (Some n) ≡ None → n ≡ 0
    by true h e = eqb-true n 0 h
    by false h e = cc

-- ---- how far a character is read, as a number

number_left : (n : ℕ) → part_number (left n) ≡ n
number_left n = cond_case (λ p. part_number p ≡ n) (eqb n 0) (λ t. sym (eqb-true n 0 t)) (λ t. refl)

part_left : (n : ℕ) → n < 3 → utf8_part n ≡ left n
part_left n h = rw (lt-ltb n 3 h)

part_led : (n : ℕ) → 3 ≤ n → utf8_part n ≡ led n
part_led n h = rw (ne_eqb n 0 (omega arith), le-ltb n 3 h)

-- a number that goes on is that of the part it came from
abbrev pub Goes : Into → Type 0
Goes (into p) = (part_number p < 255) × (text_part (part_number p) ≡ p)
Goes (bad k) = Unit {0}
Goes stop = Unit {0}

text_left : (n : ℕ) → n < 3 → text_part n ≡ left n
text_left n h = rw (ne_eqb n 92 (omega arith)) (part_left n h)

goes_left : (n : ℕ) → n < 3 → Goes (into (left n))
goes_left n h = (omega (arith, number_left n), ap text_part (number_left n) ∙ text_left n h)

goes_start : (x : ℕ) → Goes (starts_with x)
goes_start x =
    cond_case Goes (ascii x) (λ t. (omega arith, refl))
    (λ t. cond_case Goes (ltb 0 (missing x))
    (λ m.
    let top = missing_top x (ltb-true 0 (missing x) m) in
    let low = ltb-false x 128 t in
    (omega arith, rw (ne_eqb x 92 (omega arith)) (part_led x (omega arith))))
    (λ m. tt))

pub goes_utf8 : (n x : ℕ) → Goes (utf8_reads (utf8_part n) x)
goes_utf8 n x = by (eqb n 0) (ltb n 3) refl refl
  where
    by : (a b : Bool) → eqb n 0 ≡ a → ltb n 3 ≡ b → Goes (utf8_reads (cond a fresh (cond b (tails n) (led n))) x)
    by true b e k = goes_start x
    by false true e k = cond_case Goes (tail x) (λ t. goes_left (n - 1) (omega (arith, ltb-true n 3 k))) (λ t. tt)
    by false false e k = cond_case Goes (second n x) (λ t. goes_left (missing n - 1) (omega (arith, missing_few n))) (λ t. tt)

-- the same of raw text
pub goes_text : (s : Style) (f : Field) (n x : ℕ) → Goes (reads s f (text_part n) x)
goes_text s f n x = by (eqb n 92) (eqb n 0) refl refl
  where
    inside : eqb n 0 ≡ false → Goes (reads s f (utf8_part n) x)
    inside z = subst Goes (same (ltb n 3)) (goes_utf8 n x)
      where
        same : (b : Bool) → utf8_reads (cond (eqb n 0) fresh (cond b (tails n) (led n))) x ≡ reads s f (cond (eqb n 0) fresh (cond b (tails n) (led n))) x
        same true = rw z refl
        same false = rw z refl

    by : (a b : Bool) → eqb n 92 ≡ a → eqb n 0 ≡ b → Goes (reads s f (cond a back (utf8_part n)) x)
    by true b e k = cond_case Goes (is_letter s x) (λ t. (omega arith, refl)) (λ t. cond_case Goes (starts x) (λ u. tt) (λ u. tt))
    by false true e k =
        rw k (cond_case Goes (stops s f x) (λ t. tt) (λ t. cond_case Goes (opens s x) (λ u. (omega arith, refl)) (λ u. goes_start x)))
    by false false e k = inside k

-- ---- what is begun and not whole

-- a part that a reader can have
abbrev pub Begun : Style → Part → Type 0
Begun s fresh = Unit {0}
Begun s back = s.escapes ≡ true
Begun s (led x) = 0 < missing x
Begun s (tails n) = (0 < n) × (n < 3)

abbrev pub Leaves : Style → Into → Type 0
Leaves s (into p) = Begun s p
Leaves s (bad k) = Unit {0}
Leaves s stop = Unit {0}

leaves_left : (s : Style) (n : ℕ) → n < 3 → Leaves s (into (left n))
leaves_left s n h = cond_case (λ p. Leaves s (into p)) (eqb n 0) (λ t. tt) (λ t. (omega (arith, eqb-false n 0 t), h))

leaves_start : (s : Style) (x : ℕ) → Leaves s (starts_with x)
leaves_start s x = cond_case (Leaves s) (ascii x) (λ t. tt) (λ t. cond_case (Leaves s) (ltb 0 (missing x)) (λ m. ltb-true 0 (missing x) m) (λ m. tt))

pub leaves_text : (s : Style) (f : Field) (n x : ℕ) → Leaves s (reads s f (text_part n) x)
leaves_text s f n x = by (eqb n 92) (eqb n 0) (ltb n 3) refl
  where
    by : (a b c : Bool) → ltb n 3 ≡ c → Leaves s (reads s f (cond a back (cond b fresh (cond c (tails n) (led n)))) x)
    by true b c k = cond_case (Leaves s) (is_letter s x) (λ t. tt) (λ t. cond_case (Leaves s) (starts x) (λ u. tt) (λ u. tt))
    by false true c k = cond_case (Leaves s) (stops s f x) (λ t. tt) (λ t. cond_case (Leaves s) (opens s x) (λ u. and_left s.escapes (eqb x 92) u) (λ u. leaves_start s x))
    by false false true k = cond_case (Leaves s) (tail x) (λ t. leaves_left s (n - 1) (omega (arith, ltb-true n 3 k))) (λ t. tt)
    by false false false k = cond_case (Leaves s) (second n x) (λ t. leaves_left s (missing n - 1) (omega (arith, missing_few n))) (λ t. tt)

-- its number, and that it owes an octet
pub begun_back : (s : Style) → s.escapes ≡ true → is_begun s 92 ≡ true
begun_back s h = rw h

pub begun_led : (s : Style) (x : ℕ) → 0 < missing x → is_begun s x ≡ true
begun_led s x h =
    rw (lt-ltb 0 (missing x) h) (by (s.escapes && eqb x 92) (eqb x 1) (eqb x 2))
  where
    by : (a b c : Bool) → a || (b || (c || true)) ≡ true
    by true b c = refl
    by false true c = refl
    by false false true = refl
    by false false false = refl

pub begun_tails : (s : Style) (n : ℕ) → 0 < n → n < 3 → is_begun s n ≡ true
begun_tails s n h k = by (eqb n 1) refl (eqb n 2) refl
  where
    off : (s.escapes && eqb n 92) ≡ false
    off = ap (s.escapes &&◌) (ne_eqb n 92 (omega arith)) ∙ and_no s.escapes

    by : (a : Bool) → eqb n 1 ≡ a → (b : Bool) → eqb n 2 ≡ b → is_begun s n ≡ true
    by true p b q = rw (off, p) refl
    by false p true q = rw (off, p, q) refl
    by false p false q = absurd (omega (arith, eqb-false n 1 p, eqb-false n 2 q))

-- such a number is not 0
pub begun_some : (s : Style) (n : ℕ) → is_begun s n ≡ true → n ≡ 0 → ⊥
begun_some s n h e = no_zero (ap (is_begun s) (sym e) ∙ h)
  where
    no_zero : is_begun s 0 ≡ true → ⊥
    no_zero t = never (sym (ap (◌|| false) (and_no s.escapes)) ∙ t)

-- ---- raw text, octet by octet

module _ (s : Style) (f : Field) (xs : List ℕ) (i n : ℕ) (h : i < length xs) {r : Option ℕ} (is : r ≡ part_after (reads s f (text_part n) (get_or xs i 0))) where
  raw_step : is_text_from s f (text_part n) (drop i xs) ≡ then_reads (reads s f (text_part n) (get_or xs i 0)) (λ q. is_text_from s f q (drop (i + 1) xs))
  unfolding reads_whole
  raw_step = rw (add-one, drop-cons xs i 0 h)

  pub raw_off : r ≡ None → is_text_from s f (text_part n) (drop i xs) ≡ false
  raw_off e = raw_step ∙ by (reads s f (text_part n) (get_or xs i 0)) (sym is ∙ e)
    where
      by : (j : Into) → part_after j ≡ None → then_reads j (λ q. is_text_from s f q (drop (i + 1) xs)) ≡ false
      by (into p) k = cc
      by (bad b) k = refl
      by stop k = refl

  pub raw_on : {m : ℕ} → r ≡ Some m → is_text_from s f (text_part n) (drop i xs) ≡ is_text_from s f (text_part m) (drop (i + 1) xs)
  raw_on {m} e = raw_step ∙ by (reads s f (text_part n) (get_or xs i 0)) (goes_text s f n (get_or xs i 0)) (sym is ∙ e)
    where
      by : (j : Into) → Goes j → part_after j ≡ Some m → then_reads j (λ q. is_text_from s f q (drop (i + 1) xs)) ≡ is_text_from s f (text_part m) (drop (i + 1) xs)
      by (into p) g k = let same : part_number p ≡ m = cc in rw (← same, g.1)
      by (bad b) g k = cc
      by stop g k = cc

pub raw_end : (s : Style) (f : Field) (xs : List ℕ) (i n : ℕ) → length xs ≤ i → is_text_from s f (text_part n) (drop i xs) ≡ eqb n 0
unfolding reads_whole
raw_end s f xs i n h = rw (drop_of_length-le xs h) (by (eqb n 92) (eqb n 0) (ltb n 3) refl)
  where
    by : (a b c : Bool) → eqb n 92 ≡ a → ended (cond a back (cond (eqb n 0) fresh (cond (ltb n 3) (tails n) (led n)))) ≡ eqb n 0
    by true b c e = rw (eqb-true n 92 e) refl
    by false b c e = inner (eqb n 0) (ltb n 3)
      where
        inner : (b c : Bool) → ended (cond b fresh (cond c (tails n) (led n))) ≡ b
        inner true c = refl
        inner false true = refl
        inner false false = refl

-- ---- ASCII is UTF-8

pub ascii_utf8 : (xs : List ℕ) → every ascii xs ≡ true → is_utf8 xs ≡ true
unfolding reads_whole
ascii_utf8 [] h = refl
ascii_utf8 (x ∷ xs) h = ascii_on x xs (and_left (ascii x) (every ascii xs) h) ∙ ascii_utf8 xs (and_right (ascii x) (every ascii xs) h)

-- and so are both parts of it
pub parts_ascii : (k : ℕ) (xs : List ℕ) → every ascii xs ≡ true → is_utf8 (take k xs) && is_utf8 (drop k xs) ≡ true
parts_ascii k xs h =
    let whole : every ascii (take k xs ++ drop k xs) ≡ true = rw take-append-drop h in
    rw (ascii_utf8 (take k xs) (every_left ascii (take k xs) (drop k xs) whole), ascii_utf8 (drop k xs) (every_right ascii (take k xs) (drop k xs) whole)) refl

-- ---- what one octet of UTF-8 does, by its number

-- nothing else comes of it
abbrev pub Goes8 : Into → Type 0
Goes8 (into p) = (part_number p < 255) × (utf8_part (part_number p) ≡ p) × (owes p ≤ 3)
Goes8 (bad of_utf8) = Unit {0}
Goes8 (bad of_escape) = ⊥
Goes8 stop = ⊥

goes8_left : (n : ℕ) → n < 3 → Goes8 (into (left n))
goes8_left n h = (omega (arith, number_left n), ap utf8_part (number_left n) ∙ part_left n h, omega (arith, owes_left n))

pub goes8 : (n x : ℕ) → Goes8 (utf8_reads (utf8_part n) x)
goes8 n x = by (eqb n 0) (ltb n 3) refl
  where
    by : (a b : Bool) → ltb n 3 ≡ b → Goes8 (utf8_reads (cond a fresh (cond b (tails n) (led n))) x)
    by true b k =
        cond_case Goes8 (ascii x) (λ t. (omega arith, refl, omega arith))
        (λ t. cond_case Goes8 (ltb 0 (missing x))
        (λ m. let top = missing_top x (ltb-true 0 (missing x) m) in (omega arith, part_led x (omega (arith, ltb-false x 128 t)), missing_few x)) (λ m. tt))
    by false true k = cond_case Goes8 (tail x) (λ t. goes8_left (n - 1) (omega (arith, ltb-true n 3 k))) (λ t. tt)
    by false false k = cond_case Goes8 (second n x) (λ t. goes8_left (missing n - 1) (omega (arith, missing_few n))) (λ t. tt)

-- inside a character, header text reads UTF-8
pub reads_inside : (s : Style) (f : Field) (n x : ℕ) → (n ≡ 0 → ⊥) → (n ≡ 92 → ⊥) → reads s f (text_part n) x ≡ utf8_reads (utf8_part n) x
reads_inside s f n x z w = rw (ne_eqb n 92 w, ne_eqb n 0 z) (by (ltb n 3))
  where
    by : (b : Bool) → reads s f (cond b (tails n) (led n)) x ≡ utf8_reads (cond b (tails n) (led n)) x
    by true = refl
    by false = refl

-- ---- rows of characters are text

pub text_append : {s : Style} {f : Field} {xs ys : List ℕ} → Text s f xs → Text s f ys → Text s f (xs ++ ys)
text_append none u = u
text_append {s} {f} {ys = ys} (more {u = c} {xs = xs} h t) u = subst (Text s f) (sym (append_assoc c xs ys)) (more h (text_append t u))

wide_character : {s : Style} {f : Field} {u : List ℕ} → Wide u → Character s f u
wide_character (led_by {x = x} {y = y} {t = t} e h k) = wide {x = x} {y = y} {t = t} e h k

pub wides_text : {s : Style} {f : Field} {xs : List ℕ} → Wides xs → Text s f xs
wides_text no_wide = none
wides_text (one_wide w ws) = more (wide_character w) (wides_text ws)

-- one part of a row after another
pub text_then : (s : Style) (f : Field) (l : List ℕ) (i a b : ℕ) → Text s f (take a (drop i l)) → Text s f (take b (drop (i + a) l)) → Text s f (take (a + b) (drop i l))
text_then s f l i a b t u =
    subst (Text s f) (sym (take-add a b (drop i l)))
    (text_append t (subst (λ z. Text s f (take b z)) (sym (drop-drop a i l)) u))

-- ---- no other number of octets is such a stretch

wide_long : {u : List ℕ} (z : List ℕ) → Wide u → length u ≡ missing (get_or (u ++ z) 0 0) + 1
wide_long z (led_by {x = x} {y = y} {t = t} e h k) = omega (arith, e)

wide_some : {u : List ℕ} (z : List ℕ) → Wide u → wide_front (u ++ z) ≡ 0 → ⊥
unfolding wide_front
wide_some {u} z w e = omega (arith, sym (ap (λ t. cond t (missing (get_or (u ++ z) 0 0) + 1) 0) (wide_found z w)) ∙ e)

wides_same : {a b : List ℕ} (r s : List ℕ) → Wides a → Wides b → a ++ r ≡ b ++ s → wide_front r ≡ 0 → wide_front s ≡ 0 → length a ≡ length b
wides_same r s no_wide no_wide e p q = refl
wides_same r s no_wide (one_wide {u = v} {xs = bs} w ws) e p q = absurd (wide_some (bs ++ s) w (ap wide_front (sym (e ∙ append_assoc v bs s)) ∙ p))
wides_same r s (one_wide {u = u} {xs = cs} w ws) no_wide e p q = absurd (wide_some (cs ++ r) w (ap wide_front (sym (append_assoc u cs r) ∙ e) ∙ q))
wides_same r s (one_wide {u = u} {xs = cs} w ws) (one_wide {u = v} {xs = bs} w' ws') e p q =
    let both : u ++ (cs ++ r) ≡ v ++ (bs ++ s) = sym (append_assoc u cs r) ∙ e ∙ append_assoc v bs s in
    let long : length u ≡ length v = wide_long (cs ++ r) w ∙ ap (λ z. missing (get_or z 0 0) + 1) both ∙ sym (wide_long (bs ++ s) w') in
    let rest : cs ++ r ≡ bs ++ s =
    sym (drop-append_seam u (cs ++ r)) ∙ ap (drop (length u)) both ∙ ap (λ n. drop n (v ++ (bs ++ s))) long ∙ drop-append_seam v (bs ++ s) in
    length-append u cs ∙ ap₂ (◌+◌) long (wides_same r s ws ws' rest p q) ∙ sym (length-append v bs)

pub wide_stretch_once : (xs : List ℕ) (n m : ℕ) → WideStretch xs n → WideStretch xs m → n ≡ m
wide_stretch_once xs n m a b =
    let same = wides_same (drop n xs) (drop m xs) a.row b.row (take-append-drop n xs ∙ sym (take-append-drop m xs)) a.ends b.ends in
    sym (length-take-le n xs a.within) ∙ same ∙ length-take-le m xs b.within
