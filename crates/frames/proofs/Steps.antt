-- What an octet of header text does, by the tests that the code makes; and whether a line is still short enough. Assumes nothing.
use mathlib.Core.Path.{◌≡◌, refl, sym, ap, ◌∙◌}
use mathlib.Core.Bool.{Bool, true, false, cond, ◌&&◌, ◌||◌}
use Prim.Native.Nat.{ℕ, ◌+◌, ◌-◌, ◌≤◌}
use native.Mathlib.Omega.{arith}
use lib.Dec.{eqb, leb, ltb}
use Rattle.std.specs.Prelude.{Some, None}
use borrow.Author.Tests.{eqb-true, leb-true, leb-false, ltb-true, ltb-false, le-leb, lt-leb, lt-ltb, le-ltb}
use Rattle.headers.specs.Text.{ascii, missing, starts, starts_with, of_utf8, fresh, back, led, tails, owes, Into, into, bad, stop, of_escape, stops, opens, is_letter, utf8_reads, reads}
use Rattle.headers.specs.Characters.{utf8_part, text_part, part_after}
use Rattle.headers.specs.declared.text.Style.{Style}
use Rattle.headers.specs.declared.text.Field.{Field}
use Rattle.headers.specs.declared.text.Field.TheVariants.{Name as in_name, Value as in_value}
use Rattle.headers.proofs.Reading.{ascii_missing, missing_few, high_text}
use Rattle.headers.proofs.Characters.{Goes8, goes8, reads_inside}
use Rattle.headers.proofs.Rows.{never as no_test, cond_case, or_false_left, or_false_right}
use Rattle.frames.specs.declared.state.Scan.{Scan}
use Rattle.frames.specs.Grammar.{lines_max}
use Rattle.frames.specs.Refusals.{numbered, long_line, many_lines, not_utf8, wrong_escape}
use Rattle.frames.specs.Scanning.{style_of, advance, in_line, in_part, in_character, on_digit, on_length_by, on_more, invalid, on_start, on_word, on_begin, on_name_by, on_name, on_value_by, on_value, on_text, text_most, text_between, text_inside, text_matched, scan_step, line_ends, nameless_at}

-- an octet where a character begins: a stop, the backslash of an escape, or itself
module _ (f : Field) (x : ℕ) {s t : Style} (e : s ≡ t) where
  pub read_stop : {a : Bool} → a ≡ stops s f x → a ≡ true → reads t f fresh x ≡ stop
  read_stop p q = rw (ap (λ r. stops r f x) (sym e) ∙ sym p ∙ q)

  pub read_open : {a b : Bool} → a ≡ stops s f x → a ≡ false → b ≡ opens s x → b ≡ true → reads t f fresh x ≡ into back
  read_open p q u v = rw (ap (λ r. stops r f x) (sym e) ∙ sym p ∙ q, ap (λ r. opens r x) (sym e) ∙ sym u ∙ v)

  pub read_start : {a b : Bool} → a ≡ stops s f x → a ≡ false → b ≡ opens s x → b ≡ false → reads t f fresh x ≡ starts_with x
  read_start p q u v = rw (ap (λ r. stops r f x) (sym e) ∙ sym p ∙ q, ap (λ r. opens r x) (sym e) ∙ sym u ∙ v)

-- an octet after a backslash: the letter of an escape, or not
pub is_lettered : (x : ℕ) {s t : Style} → s ≡ t → {a : Bool} → a ≡ is_letter s x → is_letter t x ≡ a
is_lettered x e p = ap (λ r. is_letter r x) (sym e) ∙ sym p

-- room in the line, as the code tests it
fits : (a m n : ℕ) → a + m ≡ n + 513 → leb a 512 ≡ ltb n m
fits a m n e = by (ltb n m) refl
  where
    by : (t : Bool) → ltb n m ≡ t → leb a 512 ≡ t
    by true h = le-leb a 512 (omega (arith, ltb-true n m h))
    by false h = lt-leb a 512 (omega (arith, ltb-false n m h))

-- for the octet and for o that it owes; and for the colon that is still to come
module _ (o m n : ℕ) where
  pub room : m + o ≡ 512 → leb (n + 1 + o) 512 ≡ ltb n m
  room e = fits (n + 1 + o) m n (omega arith)

  pub room_name : m + o ≡ 511 → leb (n + 1 + o + 1) 512 ≡ ltb n m
  room_name e = fits (n + 1 + o + 1) m n (omega arith)

-- one octet more of a line, by other names of its numbers
pub grown : (st : Scan) {a m p q j k : ℕ} (r : ℕ) → a ≡ m → p ≡ q → j ≡ k
    → cond (ltb st.len a) (in_part st p j st.size (st.len + 1) r) (invalid st (numbered long_line)) ≡ cond (ltb st.len m) (in_part st q k st.size (st.len + 1) r) (invalid st (numbered long_line))
grown st r e f g = rw (e, f, g) refl

-- an octet after a backslash, as the code takes it: t where it is the letter of an escape
module _ (st : Scan) (x : ℕ) where
  abbrev pub after_back : Bool → ℕ → ℕ → ℕ → Scan
  after_back t most p m = cond t (cond (ltb st.len most) (in_line st p m st.size (st.len + 1)) (invalid st (numbered long_line))) (cond (starts x) (invalid st (numbered wrong_escape)) (invalid st (numbered not_utf8)))

  pub value_back : on_value st back x ≡ after_back (is_letter (style_of st.crlf st.command) x) 512 7 0
  unfolding on_value
  value_back = by (is_letter (style_of st.crlf st.command) x)
    where
      by : (t : Bool) → on_value_by st x (cond t (into fresh) (cond (starts x) (bad of_escape) (bad of_utf8))) ≡ after_back t 512 7 0
      by true = rw (room 0 512 st.len refl)
      by false = cond_case (λ i. on_value_by st x i ≡ cond (starts x) (invalid st 10) (invalid st 11)) (starts x) (λ e. rw e) (λ e. rw e)

  pub name_back : on_name st back x ≡ after_back (is_letter (style_of st.crlf st.command) x) 511 5 (advance st.matched x)
  unfolding on_name
  name_back = by (is_letter (style_of st.crlf st.command) x)
    where
      by : (t : Bool) → on_name_by st x (cond t (into fresh) (cond (starts x) (bad of_escape) (bad of_utf8))) ≡ after_back t 511 5 (advance st.matched x)
      by true = rw (room_name 0 511 st.len refl)
      by false = cond_case (λ i. on_name_by st x i ≡ cond (starts x) (invalid st 10) (invalid st 11)) (starts x) (λ e. rw e) (λ e. rw e)

-- a character of UTF-8, as the code takes it
module _ (st : Scan) (x : ℕ) where
  pub value_in : (i : Into) → Goes8 i → on_value_by st x i ≡ in_character st 512 7 8 0 i
  value_in (into fresh) g = rw (room 0 512 st.len refl)
  value_in (into back) g = rw (room 1 511 st.len refl)
  value_in (into (led y)) g = let o = g.2 in rw (room (missing y) (512 - missing y) st.len (omega arith))
  value_in (into (tails k)) g = let o = g.2 in rw (room k (512 - k) st.len (omega arith))
  value_in (bad k) g = refl
  value_in stop g = absurd g

  pub name_in : (i : Into) → Goes8 i → on_name_by st x i ≡ in_character st 511 5 6 (advance st.matched x) i
  name_in (into fresh) g = rw (room_name 0 511 st.len refl)
  name_in (into back) g = rw (room_name 1 510 st.len refl)
  name_in (into (led y)) g = let o = g.2 in rw (room_name (missing y) (511 - missing y) st.len (omega arith))
  name_in (into (tails k)) g = let o = g.2 in rw (room_name k (511 - k) st.len (omega arith))
  name_in (bad k) g = refl
  name_in stop g = absurd g

  pub value_inside : (st.rest ≡ 0 → ⊥) → (st.rest ≡ 92 → ⊥) → on_value st (text_part st.rest) x ≡ in_character st 512 7 8 0 (utf8_reads (utf8_part st.rest) x)
  unfolding on_value
  value_inside z w = ap (on_value_by st x) (reads_inside (style_of st.crlf st.command) in_value st.rest x z w) ∙ value_in (utf8_reads (utf8_part st.rest) x) (goes8 st.rest x)

  pub name_inside : (st.rest ≡ 0 → ⊥) → (st.rest ≡ 92 → ⊥)
      → on_name st (text_part st.rest) x ≡ in_character st 511 5 6 (advance st.matched x) (utf8_reads (utf8_part st.rest) x)
  unfolding on_name
  name_inside z w = ap (on_name_by st x) (reads_inside (style_of st.crlf st.command) in_name st.rest x z w) ∙ name_in (utf8_reads (utf8_part st.rest) x) (goes8 st.rest x)

  -- the same of a text of either field
  pub text_after : (f : Field) → on_text st f back x ≡ after_back st x (is_letter (style_of st.crlf st.command) x) (text_most f) (text_between f) (text_matched st f x)
  text_after in_name = name_back st x
  text_after in_value = value_back st x

  pub text_goes : (f : Field) → (st.rest ≡ 0 → ⊥) → (st.rest ≡ 92 → ⊥)
      → on_text st f (text_part st.rest) x ≡ in_character st (text_most f) (text_between f) (text_inside f) (text_matched st f x) (utf8_reads (utf8_part st.rest) x)
  text_goes in_name = name_inside
  text_goes in_value = value_inside

  module _ (f : Field) {s : Style} (e : s ≡ style_of st.crlf st.command) (n : stops (style_of st.crlf st.command) f x ≡ false) where
    pub text_opens : {b : Bool} → b ≡ opens s x → b ≡ true
        → on_text st f fresh x ≡ cond (ltb st.len (text_most f - 1)) (in_part st (text_inside f) (text_matched st f x) st.size (st.len + 1) 92) (invalid st (numbered long_line))
    unfolding on_name on_value
    text_opens u v = by f n
      where
        o : opens (style_of st.crlf st.command) x ≡ true
        o = ap (λ r. opens r x) (sym e) ∙ sym u ∙ v

        by : (g : Field) → stops (style_of st.crlf st.command) g x ≡ false
            → on_text st g fresh x ≡ cond (ltb st.len (text_most g - 1)) (in_part st (text_inside g) (text_matched st g x) st.size (st.len + 1) 92) (invalid st (numbered long_line))
        by in_name m = rw (m, o, room_name 1 510 st.len refl) refl
        by in_value m = rw (m, o, room 1 511 st.len refl) refl

    pub text_starts : {b : Bool} → b ≡ opens s x → b ≡ false
        → on_text st f fresh x ≡ in_character st (text_most f) (text_between f) (text_inside f) (text_matched st f x) (starts_with x)
    unfolding on_name on_value
    text_starts u v = by f n
      where
        o : opens (style_of st.crlf st.command) x ≡ false
        o = ap (λ r. opens r x) (sym e) ∙ sym u ∙ v

        by : (g : Field) → stops (style_of st.crlf st.command) g x ≡ false
            → on_text st g fresh x ≡ in_character st (text_most g) (text_between g) (text_inside g) (text_matched st g x) (starts_with x)
        by in_name m = rw (m, o) (name_in (starts_with x) (goes8 0 x))
        by in_value m = rw (m, o) (value_in (starts_with x) (goes8 0 x))

  -- by what the octet leaves
  module _ (n m w p k : ℕ) where
    abbrev Taken : Scan → Type 0
    Taken z = z ≡ in_character st m w p k (utf8_reads (utf8_part n) x)

    pub taken_bad : None ≡ part_after (utf8_reads (utf8_part n) x) → Taken (invalid st (numbered not_utf8))
    taken_bad e = by (utf8_reads (utf8_part n) x) (goes8 n x) e
      where
        by : (i : Into) → Goes8 i → None ≡ part_after i → invalid st (numbered not_utf8) ≡ in_character st m w p k i
        by (into q) g e = cc
        by (bad of_utf8) g e = refl
        by (bad of_escape) g e = absurd g
        by stop g e = absurd g

    module _ {r : ℕ} (is : Some r ≡ part_after (utf8_reads (utf8_part n) x)) where
      pub taken_whole : r ≡ 0 → Taken (cond (ltb st.len m) (in_line st w k st.size (st.len + 1)) (invalid st (numbered long_line)))
      taken_whole e = by (utf8_reads (utf8_part n) x) (goes8 n x) is
        where
          by : (i : Into) → Goes8 i → Some r ≡ part_after i → cond (ltb st.len m) (in_line st w k st.size (st.len + 1)) (invalid st (numbered long_line)) ≡ in_character st m w p k i
          by (into fresh) g q = refl
          by (into back) g q = let z : ◌≡◌ {A = ℕ} 92 0 = cc in absurd (omega arith)
          by (into (led y)) g q = let s : y ≡ 0 = cc in let z : fresh ≡ led y = sym (ap utf8_part s) ∙ g.1 in absurd (apart z)
            where
              apart : {y : ℕ} → fresh ≡ led y → ⊥
              apart z = let q : ◌≡◌ {A = ℕ} 0 1 = cc in omega arith
          by (into (tails j)) g q = let s : j ≡ 0 = cc in let z : fresh ≡ tails j = sym (ap utf8_part s) ∙ g.1 in absurd (apart z)
            where
              apart : {y : ℕ} → fresh ≡ tails y → ⊥
              apart z = let q : ◌≡◌ {A = ℕ} 0 1 = cc in omega arith
          by (bad b) g q = cc
          by stop g q = absurd g

      pub taken_part : (r ≡ 0 → ⊥) → (o : ℕ) → o ≡ owes (utf8_part r)
          → Taken (cond (ltb st.len (m - o)) (in_part st p k st.size (st.len + 1) r) (invalid st (numbered long_line))) × (o ≤ 3)
      taken_part z o ow = by (utf8_reads (utf8_part n) x) (goes8 n x) is
        where
          by : (i : Into) → Goes8 i → Some r ≡ part_after i
              → (cond (ltb st.len (m - o)) (in_part st p k st.size (st.len + 1) r) (invalid st (numbered long_line)) ≡ in_character st m w p k i) × (o ≤ 3)
          by (into fresh) g q = let s : r ≡ 0 = cc in absurd (z s)
          by (into back) g q = absurd (apart g.1)
            where
              apart : led 92 ≡ back → ⊥
              apart z = let q : ◌≡◌ {A = ℕ} 0 1 = cc in omega arith
          by (into (led y)) g q = let e : r ≡ y = cc in let t : o ≡ missing y = ow ∙ ap (λ r. owes (utf8_part r)) e ∙ ap owes g.1 in (rw (t, e), omega (arith, t, g.2))
          by (into (tails j)) g q = let e : r ≡ j = cc in let t : o ≡ j = ow ∙ ap (λ r. owes (utf8_part r)) e ∙ ap owes g.1 in (rw (t, e), omega (arith, t, g.2))
          by (bad b) g q = cc
          by stop g q = absurd g

-- the first content-length, whose octets are no stops and begin no escape
module _ (st : Scan) (x : ℕ) where
  pub length_start : starts x ≡ true → on_length_by st x (starts_with x) ≡ cond (ltb st.len (512 - missing x)) (on_digit st x) (invalid st (numbered long_line))
  length_start h =
      cond_case (λ i. on_length_by st x i ≡ cond (ltb st.len (512 - missing x)) (on_digit st x) (invalid st (numbered long_line))) (ascii x)
      (λ t. rw (ascii_missing x t, room 0 512 st.len refl))
      (λ t. cond_case (λ i. on_length_by st x i ≡ cond (ltb st.len (512 - missing x)) (on_digit st x) (invalid st (numbered long_line))) (ltb 0 (missing x))
      (λ u. let few = missing_few x in rw (room (missing x) (512 - missing x) st.len (omega arith)))
      (λ u. no_test (sym (rw (t, u) refl) ∙ h)))

  pub length_bad : starts x ≡ false → on_length_by st x (starts_with x) ≡ invalid st (numbered not_utf8)
  length_bad h = rw (or_false_left (ascii x) (ltb 0 (missing x)) h, or_false_right (ascii x) (ltb 0 (missing x)) h)

  -- a line more than there may be
  pub more_start : stops (style_of st.crlf st.command) in_name x ≡ false → starts x ≡ true → on_more st (reads (style_of st.crlf st.command) in_name fresh x) ≡ invalid st (numbered many_lines)
  more_start n h =
      rw n (cond_case (λ i. on_more st i ≡ invalid st (numbered many_lines)) (opens (style_of st.crlf st.command) x) (λ t. refl)
      (λ t. cond_case (λ i. on_more st i ≡ invalid st (numbered many_lines)) (ascii x) (λ a. refl)
      (λ a. cond_case (λ i. on_more st i ≡ invalid st (numbered many_lines)) (ltb 0 (missing x)) (λ u. refl) (λ u. no_test (sym (rw (a, u) refl) ∙ h)))))

  pub more_bad : starts x ≡ false → on_more st (reads (style_of st.crlf st.command) in_name fresh x) ≡ invalid st (numbered not_utf8)
  more_bad h =
      let a = or_false_left (ascii x) (ltb 0 (missing x)) h in
      let (n, o) = high_text (style_of st.crlf st.command) in_name x a in
      rw (n, o, a, or_false_right (ascii x) (ltb 0 (missing x)) h)

-- where a line or an item begins: the octets that begin no name or no word, and the others
module _ (st : Scan) (x : ℕ) where
  pub past_last : eqb x 10 ≡ false → eqb x 13 && st.crlf ≡ false → eqb x 58 ≡ false → nameless_at st x ≡ true → ltb st.lines lines_max ≡ false
  past_last p q r h = le-ltb st.lines lines_max (leb-true lines_max st.lines (rw (p, q, r) at h))

  pub no_stop : eqb x 10 ≡ false → eqb x 13 && st.crlf ≡ false → eqb x 58 ≡ false → stops (style_of st.crlf st.command) in_name x ≡ false
  no_stop p q r = rw (p, q, r)

  pub begin_more : eqb x 10 ≡ false → eqb x 13 && st.crlf ≡ false → eqb x 58 ≡ false → ltb st.lines lines_max ≡ false
      → on_begin st x ≡ on_more st (reads (style_of st.crlf st.command) in_name fresh x)
  unfolding on_begin
  begin_more p q r l = rw (p, q, r, l)

  pub name_goes_on : {b : Bool} → b ≡ nameless_at st x → eqb st.phase 4 && b ≡ false → (eqb st.phase 4 ≡ false → st.phase ≡ 5) → scan_step st x ≡ on_name st fresh x
  unfolding scan_step on_begin
  name_goes_on e f five = by (eqb st.phase 4) refl
    where
      by : (a : Bool) → eqb st.phase 4 ≡ a → scan_step st x ≡ on_name st fresh x
      by false q = simp (five q)
      by true q =
          let n : nameless_at st x ≡ false = sym e ∙ (rw q at f) in
          let k = or_false_left (line_ends st x) (eqb x 58 || leb lines_max st.lines) n in
          let m = or_false_right (line_ends st x) (eqb x 58 || leb lines_max st.lines) n in
          simp (
            eqb-true st.phase 4 q,
            or_false_left (eqb x 10) (eqb x 13 && st.crlf) k,
            or_false_right (eqb x 10) (eqb x 13 && st.crlf) k,
            or_false_left (eqb x 58) (leb lines_max st.lines) m,
            lt-ltb st.lines lines_max (leb-false lines_max st.lines (or_false_right (eqb x 58) (leb lines_max st.lines) m)),
          )

  pub word_goes_on : eqb st.phase 0 && line_ends st x ≡ false → (eqb st.phase 0 ≡ false → st.phase ≡ 2) → scan_step st x ≡ on_word st x
  unfolding scan_step on_start
  word_goes_on f two = by (eqb st.phase 0) refl
    where
      by : (a : Bool) → eqb st.phase 0 ≡ a → scan_step st x ≡ on_word st x
      by false q = simp (two q)
      by true q =
          let n : line_ends st x ≡ false = rw q at f in
          simp (eqb-true st.phase 0 q, or_false_left (eqb x 10) (eqb x 13 && st.crlf) n, or_false_right (eqb x 10) (eqb x 13 && st.crlf) n)
