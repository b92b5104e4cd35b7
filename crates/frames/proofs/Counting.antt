-- A run counts the octets that it reads, keeps its version and, in 1.1, is never after a 13 that begins a line end. Assumes nothing.
use mathlib.Core.Path.{◌≡◌, refl, sym, ◌∙◌, ap}
use mathlib.Core.Bool.{Bool, true, false, cond, ◌&&◌, ◌||◌, not, true≢false}
use mathlib.Core.Option.{Option, none, some}
use mathlib.Core.List.{List, [], ◌∷◌, ◌++◌}
use Prim.Native.Nat.{ℕ, ◌+◌, ◌≤◌, ◌<◌}
use native.Mathlib.Omega.{arith}
use native.Mathlib.Decide.{dec_lt}
use lib.ListN.{length, take, get_or}
use lib.Dec.{eqb, leb, ltb}
use Rattle.headers.specs.Text.{Part, fresh, back, led, tails, owes, Fault, of_utf8, of_escape, Into, into, bad, stop, reads}
use Rattle.headers.specs.declared.text.Field.TheVariants.{Name as in_name, Value as in_value}
use Rattle.headers.proofs.Rows.{cond_case, and_left, and_right}
use Rattle.frames.specs.declared.state.Scan.{Scan}
use Rattle.headers.specs.Rows.{begins, same}
use Rattle.headers.specs.Characters.{text_part}
use Rattle.headers.specs.Lines.{content_length}
use Rattle.frames.specs.Open.{all}
use Rattle.frames.specs.Parsing.{first}
use Rattle.frames.specs.Grammar.{Command}
use Rattle.frames.specs.Refusals.{numbered, faulty, second_colon, no_colon}
use Rattle.frames.specs.Scanning.{number_of, word_of, advance, name_phase, value_phase, style_of, most_of, next_command, whole_command, invalid}
use Rattle.frames.specs.Scanning.{on_10, on_word, on_start, on_name_by, on_name, on_more, on_begin, line_read, on_value_by, on_value, grows}
use Rattle.frames.specs.Scanning.{on_length_by, on_length, on_body, on_counted, scan_step, scan}
use Rattle.frames.specs.Streams.{cr_phase, after_cr}
use borrow.Author.Tests.{eqb-true, ltb-true}
use Rattle.frames.proofs.EachCommand.{number_small}
use Rattle.frames.proofs.Bounds.{stays}
use Rattle.frames.proofs.Upto.{upto_at}

-- the phases of an item that is not whole
abbrev goes_on : ℕ → Bool
goes_on p =
    eqb p 7 || (eqb p 5 || (eqb p 4 || (eqb p 12 || (eqb p 13 || (eqb p 2 || (eqb p 9 || (eqb p 8 || (eqb p 6 || (eqb p 10 || (eqb p 11
    || (eqb p 0 || (eqb p 3 || eqb p 1))))))))))))

-- the numbers that an octet sets are small
number_few : (o : Option Command) → number_of o ≤ 15
number_few none = omega arith
number_few (some c) = omega (arith, number_small c)

next_small : (c k x : ℕ) → next_command c k x ≤ 15
unfolding next_command
next_small c k x = number_few (first (begins (take k (word_of c) ++ (x ∷ []))) all)

whole_small : (c k : ℕ) → whole_command c k ≤ 15
unfolding whole_command
whole_small c k = number_few (first (same (take k (word_of c))) all)

advance_small : (m x : ℕ) → m ≤ 15 → advance m x ≤ 15
advance_small m x h =
    cond_case (λ n. n ≤ 15) (ltb m 14 && eqb x (get_or content_length m 0)) (λ t. omega (arith, ltb-true m 14 (and_left (ltb m 14) (eqb x (get_or content_length m 0)) t))) (λ t. omega arith)

-- inside a line and where a body begins no such 13 is before; and a fault has another number than 2
name_clear : (p : Part) → cr_phase (name_phase p) ≡ false
name_clear = elim [ fresh ↦ refl | back ↦ refl | led x ↦ refl | tails n ↦ refl ]

value_clear : (p : Part) → cr_phase (value_phase p) ≡ false
value_clear = elim [ fresh ↦ refl | back ↦ refl | led x ↦ refl | tails n ↦ refl ]

body_clear : (t : Bool) → cr_phase (cond t 13 12) ≡ false
body_clear = elim [ true ↦ refl | false ↦ refl ]

fault_clear : (i : Fault) → eqb (numbered (faulty i)) 2 ≡ false
fault_clear = elim [ of_utf8 ↦ refl | of_escape ↦ refl ]

-- s is one octet on from st, or an end, in the same version
pub record Counted (st s : Scan) (n : ℕ) : Type 0 where
  pub onward : st.at ≤ s.at
  pub most : s.at ≤ st.at + n
  pub whole : s.phase < 14 → s.at ≡ st.at + n
  pub few : (st.matched ≤ 15) × (st.command ≤ 15) → (s.matched ≤ 15) × (s.command ≤ 15)
  pub same_ends : s.crlf ≡ st.crlf
  pub clear : st.crlf ≡ false → after_cr st ≡ false → after_cr s ≡ false

module _ (st : Scan) where
  -- in 1.1, s is not after a 13 that begins a line end if st is not
  abbrev Clear : Scan → Type 0
  Clear s = st.crlf ≡ false → after_cr st ≡ false → after_cr s ≡ false

  goes : (s : Scan) → s.at ≡ st.at + 1 → s.crlf ≡ st.crlf → ((st.matched ≤ 15) × (st.command ≤ 15) → (s.matched ≤ 15) × (s.command ≤ 15))
      → Clear s → Counted st s 1
  goes s e v f n = record { onward = omega arith; most = omega arith; whole = λ h. e; few = f; same_ends = v; clear = n }

  ends_so : (k : ℕ) → Clear (invalid st k) → Counted st (invalid st k) 1
  ends_so k n =
      record { onward = omega arith; most = omega arith; whole = λ h. absurd (omega arith); few = λ h. (omega arith, omega arith); same_ends = refl; clear = n }

  ends : (k : ℕ) → eqb k 2 ≡ false → Counted st (invalid st k) 1
  ends k e = ends_so k (λ v h. e)

  module _ (x : ℕ) where
    -- a 13 that begins a line end is of 1.2
    by_13 : eqb x 13 && st.crlf ≡ true → st.crlf ≡ false → ⊥
    by_13 u v = true≢false (sym (and_right (eqb x 13) st.crlf u) ∙ v)

    on_10_counts : (s : Scan) → s.at ≡ st.at + 1 → s.crlf ≡ st.crlf → ((st.matched ≤ 15) × (st.command ≤ 15) → (s.matched ≤ 15) × (s.command ≤ 15))
        → after_cr st ≡ true → Counted st (on_10 st s x) 1
    on_10_counts s e v f p =
        let after : (z : Scan) → Clear z = λ z w h. absurd (true≢false (sym p ∙ h)) in
        cond_case (λ z. Counted st z 1) (eqb x 10) (λ t. goes s e v f (after s)) (λ t. ends_so 2 (after (invalid st 2)))

    word_counts : Counted st (on_word st x) 1
    unfolding on_word
    word_counts =
        cond_case (λ z. Counted st z 1) (eqb (next_command st.command st.at x) 0)
        (λ t. cond_case (λ z. Counted st z 1) (eqb (whole_command st.command st.at) 0) (λ u. ends 1 refl)
        (λ u. cond_case (λ z. Counted st z 1) (eqb x 10)
        (λ q. goes _ refl refl (λ (a, b). (omega arith, whole_small st.command st.at)) (λ v h. refl))
        (λ q. cond_case (λ z. Counted st z 1) (eqb x 13 && st.crlf)
        (λ w. goes _ refl refl (λ (a, b). (omega arith, whole_small st.command st.at)) (λ v h. absurd (by_13 w v))) (λ w. ends 1 refl))))
        (λ t. goes _ refl refl (λ (a, b). (omega arith, next_small st.command st.at x)) (λ v h. refl))

    start_counts : Counted st (on_start st x) 1
    unfolding on_start
    start_counts =
        cond_case (λ z. Counted st z 1) (eqb x 10) (λ t. goes _ refl refl (λ (a, b). (omega arith, omega arith)) (λ v h. refl))
        (λ t. cond_case (λ z. Counted st z 1) (eqb x 13 && st.crlf)
        (λ u. goes _ refl refl (λ (a, b). (omega arith, omega arith)) (λ v h. absurd (by_13 u v))) (λ u. word_counts))

    line_counts : (z : Bool) (s : ℕ) → Counted st (line_read st x z s) 1
    line_counts z s =
        cond_case (λ z. Counted st z 1) (eqb x 10) (λ t. goes _ refl refl (λ (a, b). (omega arith, omega arith)) (λ v h. refl))
        (λ t. cond_case (λ z. Counted st z 1) (eqb x 13 && st.crlf) (λ u. goes _ refl refl (λ (a, b). (omega arith, omega arith)) (λ v h. absurd (by_13 u v)))
        (λ u. ends (numbered second_colon) refl))

    name_counts : (p : Part) → Counted st (on_name st p x) 1
    unfolding on_name
    name_counts p = by (reads (style_of st.crlf st.command) in_name p x)
      where
        by : (i : Into) → Counted st (on_name_by st x i) 1
        by (into p) =
            cond_case (λ z. Counted st z 1) (leb (st.len + 1 + owes p + 1) 512)
            (λ t. goes _ refl refl (λ (a, b). (advance_small st.matched x a, b)) (λ v h. rw (name_clear p) refl)) (λ t. ends 4 refl)
        by (bad i) = ends _ (fault_clear i)
        by stop =
            cond_case (λ z. Counted st z 1) (eqb x 58)
            (λ t. cond_case (λ z. Counted st z 1) (eqb st.len 0) (λ u. ends 3 refl)
            (λ u. cond_case (λ z. Counted st z 1) (not st.sized && eqb st.matched 14)
            (λ q. goes _ refl refl (λ (a, b). (omega arith, omega arith)) (λ v h. refl))
            (λ q. goes _ refl refl (λ (a, b). (omega arith, omega arith)) (λ v h. refl))))
            (λ t. ends (numbered no_colon) refl)

    value_counts : (p : Part) → Counted st (on_value st p x) 1
    unfolding on_value
    value_counts p = by (reads (style_of st.crlf st.command) in_value p x)
      where
        by : (i : Into) → Counted st (on_value_by st x i) 1
        by (into p) =
            cond_case (λ z. Counted st z 1) (leb (st.len + 1 + owes p) 512)
            (λ t. goes _ refl refl (λ (a, b). (omega arith, omega arith)) (λ v h. rw (value_clear p) refl)) (λ t. ends 4 refl)
        by (bad i) = ends _ (fault_clear i)
        by stop = cond_case (λ z. Counted st z 1) (eqb x 58) (λ t. ends (numbered second_colon) refl) (λ t. line_counts st.sized st.size)

    length_counts : Counted st (on_length st x) 1
    unfolding on_length
    length_counts = by (reads (style_of st.crlf st.command) in_value fresh x)
      where
        by : (i : Into) → Counted st (on_length_by st x i) 1
        by (into p) =
            cond_case (λ z. Counted st z 1) (leb (st.len + 1 + owes p) 512)
            (λ t. cond_case (λ z. Counted st z 1) (grows st x) (λ u. goes _ refl refl (λ (a, b). (omega arith, omega arith)) (λ v h. refl)) (λ u. ends 6 refl))
            (λ t. ends 4 refl)
        by (bad i) = ends _ (fault_clear i)
        by stop =
            cond_case (λ z. Counted st z 1) (eqb x 58) (λ t. ends (numbered second_colon) refl)
            (λ t. cond_case (λ z. Counted st z 1) (eqb st.len 15) (λ u. ends 6 refl) (λ u. line_counts true st.size))

    begin_counts : Counted st (on_begin st x) 1
    unfolding on_begin
    begin_counts =
        cond_case (λ z. Counted st z 1) (eqb x 10) (λ t. goes _ refl refl (λ (a, b). (omega arith, omega arith)) (λ v h. rw (body_clear st.sized) refl))
        (λ t. cond_case (λ z. Counted st z 1) (eqb x 13 && st.crlf) (λ u. goes _ refl refl (λ (a, b). (omega arith, omega arith)) (λ v h. absurd (by_13 u v)))
        (λ u. cond_case (λ z. Counted st z 1) (eqb x 58) (λ q. ends 3 refl)
        (λ q. cond_case (λ z. Counted st z 1) (ltb st.lines 32) (λ w. name_counts fresh)
        (λ w. more (reads (style_of st.crlf st.command) in_name fresh x)))))
      where
        more : (i : Into) → Counted st (on_more st i) 1
        more (into q) = ends _ refl
        more (bad k) = ends _ (fault_clear k)
        more stop = ends _ refl

    body_counts : Counted st (on_body st x) 1
    unfolding on_body
    body_counts =
        cond_case (λ z. Counted st z 1) (eqb x 0) (λ t. goes _ refl refl (λ (a, b). (omega arith, omega arith)) (λ v h. refl))
        (λ t. cond_case (λ z. Counted st z 1) (ltb st.len (most_of st.command))
        (λ u. goes _ refl refl (λ (a, b). (omega arith, omega arith)) (λ v h. refl)) (λ u. ends 7 refl))

    counted_counts : Counted st (on_counted st x) 1
    unfolding on_counted
    counted_counts =
        cond_case (λ z. Counted st z 1) (ltb st.len st.size) (λ t. goes _ refl refl (λ (a, b). (omega arith, omega arith)) (λ v h. refl))
        (λ t. cond_case (λ z. Counted st z 1) (eqb x 0) (λ u. goes _ refl refl (λ (a, b). (omega arith, omega arith)) (λ v h. refl)) (λ u. ends 7 refl))

    -- one octet
    pub step_counts : Counted st (scan_step st x) 1
    unfolding scan_step
    step_counts =
        at_phase 7 (value_counts fresh) (λ a. at_phase 5 (name_counts fresh) (λ b. at_phase 4 begin_counts (λ c. at_phase 12 body_counts
        (λ d. at_phase 13 counted_counts (λ e. at_phase 2 word_counts (λ f. at_phase 9 length_counts (λ g. at_phase 8 (value_counts (text_part st.rest))
        (λ h. at_phase 6 (name_counts (text_part st.rest))
        (λ i. at_13 10 (λ p. on_10_counts _ refl refl (λ (a, b). (omega arith, omega arith)) (rw p refl))
        (λ j. at_13 11 (λ p. on_10_counts _ refl refl (λ (a, b). (omega arith, omega arith)) (rw p refl))
        (λ k. at_phase 0 start_counts
        (λ l. at_13 3 (λ p. on_10_counts _ refl refl (λ (a, b). (omega arith, omega arith)) (rw p refl))
        (λ m. at_13 1 (λ p. on_10_counts _ refl refl (λ (a, b). (omega arith, omega arith)) (rw p refl))
        (λ n. record {
          onward = omega arith;
          most = omega arith;
          whole = λ u.
              let known = upto_at goes_on 14 st.phase refl u in
              let z : ◌≡◌ {A = Bool} false true = simp (a, b, c, d, e, f, g, h, i, j, k, l, m, n) at known in
              let y : ◌≡◌ {A = ℕ} 0 1 = cc in absurd (omega arith);
          few = λ q. q;
          same_ends = refl;
          clear = λ v h. h;
        }))))))))))))))
      where
        at_phase : (p : ℕ) {a b : Scan} → Counted st a 1 → (eqb st.phase p ≡ false → Counted st b 1) → Counted st (cond (eqb st.phase p) a b) 1
        at_phase p f g = cond_case (λ z. Counted st z 1) (eqb st.phase p) (λ t. f) g

        at_13 : (p : ℕ) {a b : Scan} → (st.phase ≡ p → Counted st a 1) → (eqb st.phase p ≡ false → Counted st b 1)
            → Counted st (cond (eqb st.phase p) a b) 1
        at_13 p f g = cond_case (λ z. Counted st z 1) (eqb st.phase p) (λ t. f (eqb-true st.phase p t)) g

-- a row of octets
pub scan_counts : (xs : List ℕ) (st : Scan) → Counted st (scan st xs) (length xs)
scan_counts [] st = record { onward = omega arith; most = omega arith; whole = λ h. omega arith; few = λ h. h; same_ends = refl; clear = λ v h. h }
scan_counts (x ∷ xs) st =
    let a = step_counts st x in
    let b = scan_counts xs (scan_step st x) in
    record {
      onward = omega arith;
      most = omega arith;
      whole = λ h. omega (arith, b.whole h, by (dec_lt (scan_step st x).phase 14) h);
      few = λ h. b.few (a.few h);
      same_ends = b.same_ends ∙ a.same_ends;
      clear = λ v h. b.clear (a.same_ends ∙ v) (a.clear v h);
    }
  where
    by : Dec ((scan_step st x).phase < 14) → (scan (scan_step st x) xs).phase < 14 → (scan_step st x).at ≡ st.at + 1
    by (yes h) l = (step_counts st x).whole h
    by (no h) l = absurd (omega (arith, ap (λ z. z.phase) (ended xs (scan_step st x) (omega arith))))
      where
        ended : (ys : List ℕ) (s : Scan) → 14 ≤ s.phase → scan s ys ≡ s
        ended [] s h = refl
        ended (y ∷ ys) s h = ap (λ z. scan z ys) (stays s y h) ∙ ended ys s h

-- one row behind another
pub scan_append : (xs ys : List ℕ) (st : Scan) → scan st (xs ++ ys) ≡ scan (scan st xs) ys
scan_append [] ys st = refl
scan_append (x ∷ xs) ys st = scan_append xs ys (scan_step st x)
