-- A run keeps its state valid, and a valid state's numbers are small. Assumes nothing.
use mathlib.Core.Path.{◌≡◌, refl, sym, ◌∙◌, ap}
use mathlib.Core.Bool.{Bool, true, false, cond, ◌&&◌, ◌||◌, not}
use mathlib.Core.Option.{Option, none, some}
use mathlib.Core.List.{List, [], ◌∷◌, ◌++◌}
use Prim.Native.Nat.{ℕ, zero, suc, ◌+◌, ◌*◌, ◌≤◌, ◌<◌}
use native.Mathlib.Omega.{arith}
use lib.ListN.{length, take, length-append}
use lib.Seq.{length-take-le}
use lib.Dec.{eqb, leb, ltb}
use borrow.Author.Tests.{eqb-true, eqb-false, leb-true, ltb-true}
use Rattle.headers.specs.Rows.{begins}
use Rattle.headers.specs.Text.{missing, led, tails, fresh, back, Into, into, bad, stop, reads}
use Rattle.headers.specs.Numbers.{is_digit, digit_value}
use Rattle.headers.specs.declared.text.Field.TheVariants.{Name as in_name, Value as in_value}
use Rattle.headers.specs.Characters.{text_part, is_begun}
use Rattle.headers.proofs.Characters.{Leaves, leaves_text, begun_back, begun_led, begun_tails}
use Rattle.headers.proofs.Rows.{never as no_test, and_right, cond_case, begins_rest, front_of, first_some}
use Rattle.frames.specs.Grammar.{Command, number, word}
use Rattle.frames.specs.Open.{all}
use Rattle.frames.specs.Parsing.{first}
use Rattle.frames.specs.Refusals.{numbered, faulty}
use Rattle.frames.specs.declared.state.Scan.{Scan}
use Rattle.frames.specs.Scanning.{in_part, on_digit, on_more, style_of, most_of, word_of, number_of, next_command, whole_command, advance, to_phase, in_head, in_line, frame_read, invalid, body_begins, on_10, on_word, on_start, on_name_by, on_name, on_begin, line_read, on_value_by, on_value, grows, on_length_by, on_length, on_body, on_counted, scan_step, nothing_read, Reached, len_max, line_open, outside, Valid}
use Rattle.frames.proofs.EachCommand.{each_le}
use Rattle.frames.proofs.Scanning.{word_number}
use Rattle.frames.proofs.Words.{small}

-- ---- commands as far as they are read

word_long : (c : Command) → length (word c) ≤ 11
word_long = each_le (λ c. length (word c)) 11 refl

pub reached_none : Reached 0 0
reached_none = record { nothing = λ e. refl; something = λ h. absurd (omega arith) }

-- one octet more
pub reached_next : (c k x : ℕ) → Reached c k → eqb (next_command c k x) 0 ≡ false → Reached (next_command c k x) (k + 1) × (k + 1 ≤ 11)
unfolding next_command
reached_next c k x r n = by (first (begins (take k (word_of c) ++ (x ∷ []))) all) refl n
  where
    raw : List ℕ
    raw = take k (word_of c) ++ (x ∷ [])

    inside : (j : ℕ) → k ≡ j → k ≤ length (word_of c)
    inside zero e = omega arith
    inside (suc j) e = (r.something (omega arith)).1

    long : length raw ≡ k + 1
    long = length-append (take k (word_of c)) (x ∷ []) ∙ ap (◌+ 1) (length-take-le k (word_of c) (inside k refl))

    by : (o : Option Command) → first (begins raw) all ≡ o → eqb (number_of o) 0 ≡ false → Reached (number_of o) (k + 1) × (k + 1 ≤ 11)
    by none e q = let z : ◌≡◌ {A = ℕ} 0 1 = cc in absurd (omega arith)
    by (some d) e q =
        let b = first_some (λ c. begins raw (word c)) all d e in
        let (w, split) = begins_rest raw (word d) b in
        let fits : k + 1 ≤ length (word d) = omega (arith, ap length split, length-append raw w, long) in
        let front : take (k + 1) (word_of (number d)) ≡ raw = ap (λ z. take z (word_of (number d))) (sym long) ∙ ap (take (length raw)) (word_number d) ∙ front_of raw (word d) b in (
          record {
            nothing = λ z. absurd (omega arith);
            something = λ z. (omega (arith, eqb-false (number d) 0 q), rw word_number fits, rw front (ap number_of e));
          },
          omega (arith, fits, word_long d),
        )

-- ---- what validity says at a phase

pub record Known (st : Scan) (p : ℕ) : Type 0 where
  pub few : st.lines + line_open p ≤ 32
  pub short : st.len ≤ len_max p
  pub small : st.size ≤ 32768
  pub place : st.at ≤ outside p + 514 * st.lines + st.len

pub known_at : (st : Scan) (p : ℕ) → st.phase ≡ p → Valid st → Known st p
known_at st p e v = record { few = rw e at v.few; short = rw e at v.short; small = v.small; place = rw e at v.place }

-- ---- where an octet leads

-- a phase at which nothing more is kept than the bounds
abbrev ordinary : ℕ → Bool
ordinary p = not (eqb p 0 || eqb p 2 || eqb p 12 || eqb p 13)

module _ (s : Scan) (o : ordinary s.phase ≡ true) where
  never : {A : Type 0} (k : ℕ) → ordinary k ≡ false → s.phase ≡ k → A
  never k f e = let t : ordinary k ≡ true = rw e at o in let z : ◌≡◌ {A = ℕ} 0 1 = cc in absurd (omega arith)

  bounded_valid :
      s.phase ≤ 16 → s.lines + line_open s.phase ≤ 32 → s.len ≤ len_max s.phase → s.size ≤ 32768 → s.at ≤ outside s.phase + 514 * s.lines + s.len
      → (s.phase < 16 → s.code ≡ 0) → (6 < s.phase → s.matched ≡ 0) → (s.sized ≡ false → (s.phase ≡ 9 → ⊥) → s.size ≡ 0) → (s.phase < 4 → s.lines ≡ 0) → ((s.phase ≡ 6 → ⊥) → (s.phase ≡ 8 → ⊥) → s.rest ≡ 0)
      → (eqb s.phase 6 || eqb s.phase 8 ≡ true → is_begun (style_of s.crlf s.command) s.rest ≡ true) → Valid s
  bounded_valid k f h z l c m u n r w =
      record {
        known = k;
        few = f;
        short = h;
        small = z;
        place = l;
        fresh_word = never 0 refl;
        word_so_far = never 2 refl;
        body_so_far = never 12 refl;
        counted_so_far = never 13 refl;
        no_lines = n;
        clean_code = c;
        clean_match = m;
        clean_rest = r;
        under_way = w;
        clean_size = u;
        unsized = never 12 refl;
      }

-- outside a line no character is under way
outside_line : {A : Type 0} (p : ℕ) → line_open p ≡ 0 → eqb p 6 || eqb p 8 ≡ true → A
outside_line {A = A} p f q = by (eqb p 6) refl (eqb p 8) refl q
  where
    by : (a : Bool) → eqb p 6 ≡ a → (b : Bool) → eqb p 8 ≡ b → a || b ≡ true → A
    by true e b g w = absurd (omega (arith, rw (eqb-true p 6 e) at f))
    by false e true g w = absurd (omega (arith, rw (eqb-true p 8 g) at f))
    by false e false g w = no_test w

-- a state that keeps a command and a place alone
bare_valid : (w : Bool) (p c a : ℕ) → p < 16 → line_open p ≡ 0 → a ≤ outside p → (p ≡ 0 → (c ≡ 0) × (a ≡ 0)) → (p ≡ 2 → Reached c a)
    → Valid (record { phase = p; command = c; lines = 0; matched = 0; sized = false; size = 0; len = 0; at = a; code = 0; rest = 0; crlf = w })
bare_valid w p c a k f h n r =
    record {
      known = omega arith;
      few = omega arith;
      short = omega arith;
      small = omega arith;
      place = omega arith;
      fresh_word = n;
      word_so_far = r;
      body_so_far = λ e. omega arith;
      counted_so_far = λ e. omega arith;
      no_lines = λ h. refl;
      clean_code = λ h. refl;
      clean_match = λ h. refl;
      clean_rest = λ a b. refl;
      under_way = λ e. outside_line p f e;
      clean_size = λ e n. refl;
      unsized = λ e. refl;
    }

module _ (st : Scan) where
  -- refused: the octets so far are few enough
  valid_refused : (k : ℕ) → st.at ≤ 49231 → Valid (invalid st k)
  valid_refused k h = bounded_valid (invalid st k) refl (omega arith) (omega arith) (omega arith) (omega arith) (omega arith) (λ h. absurd (omega arith)) (λ h. refl) (λ e n. refl) (λ h. refl) (λ a b. refl) (λ q. no_test q)

  valid_to : (p c : ℕ) → ordinary p ≡ true → p < 16 → line_open p ≡ 0 → st.at + 1 ≤ outside p → Valid (to_phase st p c)
  valid_to p c o k f h = bounded_valid (to_phase st p c) o (omega arith) (omega arith) (omega arith) (omega arith) (omega arith) (λ h. refl) (λ h. refl) (λ e n. refl) (λ h. refl) (λ a b. refl) (λ q. outside_line p f q)

  valid_word : (c : ℕ) → Reached c (st.at + 1) → st.at + 1 ≤ 11 → Valid (to_phase st 2 c)
  valid_word c r h = bare_valid st.crlf 2 c (st.at + 1) (omega arith) refl (omega arith) (λ e. absurd (omega arith)) (λ e. r)

  valid_head : (p n : ℕ) (z : Bool) (s : ℕ) → ordinary p ≡ true → p < 16 → 3 < p → line_open p ≡ 0 → n ≤ 32 → s ≤ 32768 → st.at + 1 ≤ outside p + 514 * n → (z ≡ false → s ≡ 0) → Valid (in_head st p n z s)
  valid_head p n z s o k g f h l w u = bounded_valid (in_head st p n z s) o (omega arith) (omega arith) (omega arith) l (omega arith) (λ h. refl) (λ h. refl) (λ e n. u e) (λ h. absurd (omega arith)) (λ a b. refl) (λ q. outside_line p f q)

  valid_part : (p m s n r : ℕ) → ordinary p ≡ true → p < 16 → 3 < p → st.lines + line_open p ≤ 32 → n ≤ len_max p → s ≤ 32768 → st.at + 1 ≤ outside p + 514 * st.lines + n → (6 < p → m ≡ 0) → (st.sized ≡ false → (p ≡ 9 → ⊥) → s ≡ 0) → ((p ≡ 6 → ⊥) → (p ≡ 8 → ⊥) → r ≡ 0)
      → (eqb p 6 || eqb p 8 ≡ true → is_begun (style_of st.crlf st.command) r ≡ true) → Valid (in_part st p m s n r)
  valid_part p m s n r o k g f h l w c u e d = bounded_valid (in_part st p m s n r) o (omega arith) f h l w (λ h. refl) c u (λ h. absurd (omega arith)) e d

  valid_line : (p m s n : ℕ) → ordinary p ≡ true → p < 16 → 3 < p → st.lines + line_open p ≤ 32 → n ≤ len_max p → s ≤ 32768 → st.at + 1 ≤ outside p + 514 * st.lines + n → (6 < p → m ≡ 0) → (st.sized ≡ false → (p ≡ 9 → ⊥) → s ≡ 0) → eqb p 6 || eqb p 8 ≡ false → Valid (in_line st p m s n)
  valid_line p m s n o k g f h l w c u d = valid_part p m s n 0 o k g f h l w c u (λ a b. refl) (λ q. no_test (sym d ∙ q))

  -- the body, with a length or without
  valid_begins : st.lines ≤ 32 → st.size ≤ 32768 → st.at + 1 ≤ 15 + 514 * st.lines → (st.sized ≡ false → st.size ≡ 0) → Valid (body_begins st)
  valid_begins f l w u = by st.sized refl
    where
      by : (t : Bool) → st.sized ≡ t → Valid (in_head st (cond t 13 12) st.lines st.sized st.size)
      by true e = record { known = omega arith; few = omega arith; short = omega arith; small = l; place = omega arith; fresh_word = λ q. absurd (omega arith); word_so_far = λ q. absurd (omega arith); body_so_far = λ q. absurd (omega arith); counted_so_far = λ q. omega arith; no_lines = λ q. absurd (omega arith); clean_code = λ q. refl; clean_match = λ q. refl; clean_rest = λ a b. refl; under_way = λ q. no_test q; clean_size = λ q n. u q; unsized = λ q. absurd (omega arith) }
      by false e = record { known = omega arith; few = omega arith; short = omega arith; small = l; place = omega arith; fresh_word = λ q. absurd (omega arith); word_so_far = λ q. absurd (omega arith); body_so_far = λ q. omega arith; counted_so_far = λ q. absurd (omega arith); no_lines = λ q. absurd (omega arith); clean_code = λ q. refl; clean_match = λ q. refl; clean_rest = λ a b. refl; under_way = λ q. no_test q; clean_size = λ q n. u q; unsized = λ q. e }

pub most_small : (c : ℕ) → most_of c ≤ 32768
most_small c = cond_case (λ n. n ≤ 32768) (eqb c 8 || eqb c 9 || eqb c 12) (λ t. omega arith) (λ t. omega arith)

-- ---- one octet, by the phase

module _ (st : Scan) (v : Valid st) where
  no_9 : (p : ℕ) → st.phase ≡ p → (p ≡ 9 → ⊥) → st.sized ≡ false → st.size ≡ 0
  no_9 p e n u = v.clean_size u (λ q. n (sym e ∙ q))

  module _ (x : ℕ) where
    valid_10 : (next : Scan) → Valid next → st.at ≤ 49231 → Valid (on_10 st next x)
    valid_10 next n h = cond_case Valid (eqb x 10) (λ t. n) (λ t. valid_refused st _ h)

    valid_on_word : Reached st.command st.at → st.at ≤ 11 → Valid (on_word st x)
    unfolding on_word
    valid_on_word r h =
        cond_case Valid (eqb (next_command st.command st.at x) 0)
        (λ t. cond_case Valid (eqb (whole_command st.command st.at) 0) (λ u. valid_refused st _ (omega arith))
        (λ u. cond_case Valid (eqb x 10) (λ q. valid_to st 4 (whole_command st.command st.at) refl (omega arith) refl (omega arith))
        (λ q. cond_case Valid (eqb x 13 && st.crlf) (λ w. valid_to st 3 (whole_command st.command st.at) refl (omega arith) refl (omega arith)) (λ w. valid_refused st _ (omega arith)))))
        (λ t. let (r', l) = reached_next st.command st.at x r t in valid_word st (next_command st.command st.at x) r' l)

    valid_on_start : st.command ≡ 0 → st.at ≡ 0 → Valid (on_start st x)
    unfolding on_start
    valid_on_start c a =
        cond_case Valid (eqb x 10) (λ t. valid_to st 14 0 refl (omega arith) refl (omega arith))
        (λ t. cond_case Valid (eqb x 13 && st.crlf) (λ u. valid_to st 1 0 refl (omega arith) refl (omega arith)) (λ u. valid_on_word (rw (c, a) reached_none) (omega arith)))

    -- a line is read
    valid_line_read : (z : Bool) (s : ℕ) → st.lines + 1 ≤ 32 → s ≤ 32768 → st.at + 1 ≤ 526 + 514 * st.lines → (z ≡ false → s ≡ 0) → Valid (line_read st x z s)
    valid_line_read z s f l h u =
        cond_case Valid (eqb x 10) (λ t. valid_head st 4 (st.lines + 1) z s refl (omega arith) (omega arith) refl f l (omega arith) u)
        (λ t. cond_case Valid (eqb x 13 && st.crlf) (λ q. valid_head st 10 (st.lines + 1) z s refl (omega arith) (omega arith) refl f l (omega arith) u) (λ q. valid_refused st _ (omega arith)))

    valid_on_name : (j : ℕ) → st.lines + 1 ≤ 32 → st.len ≤ 511 → st.at ≤ 13 + 514 * st.lines + st.len → (st.sized ≡ false → st.size ≡ 0) → Valid (on_name st (text_part j) x)
    unfolding on_name
    valid_on_name j f h l u = by (reads (style_of st.crlf st.command) in_name (text_part j) x) (leaves_text (style_of st.crlf st.command) in_name j x)
      where
        begun : (o r : ℕ) → 0 < o → is_begun (style_of st.crlf st.command) r ≡ true → Valid (cond (leb (st.len + 1 + o + 1) 512) (in_part st 6 (advance st.matched x) st.size (st.len + 1) r) (invalid st 4))
        begun o r owed is =
            cond_case Valid (leb (st.len + 1 + o + 1) 512)
            (λ t. valid_part st 6 (advance st.matched x) st.size (st.len + 1) r refl (omega arith) (omega arith) f (omega (arith, leb-true (st.len + 1 + o + 1) 512 t)) v.small (omega arith) (λ q. absurd (omega arith)) (λ e n. u e) (λ a b. absurd (a refl)) (λ q. is))
            (λ t. valid_refused st 4 (omega arith))

        by : (i : Into) → Leaves (style_of st.crlf st.command) i → Valid (on_name_by st x i)
        by (into fresh) w =
            cond_case Valid (leb (st.len + 1 + 0 + 1) 512)
            (λ t. valid_line st 5 (advance st.matched x) st.size (st.len + 1) refl (omega arith) (omega arith) f (omega (arith, leb-true (st.len + 1 + 0 + 1) 512 t)) v.small (omega arith) (λ q. absurd (omega arith)) (λ e n. u e) refl)
            (λ t. valid_refused st _ (omega arith))
        by (into back) w = begun 1 92 (omega arith) (begun_back (style_of st.crlf st.command) w)
        by (into (led y)) w = begun (missing y) y w (begun_led (style_of st.crlf st.command) y w)
        by (into (tails k)) w = begun k k w.0 (begun_tails (style_of st.crlf st.command) k w.0 w.1)
        by (bad k) w = valid_refused st (numbered (faulty k)) (omega arith)
        by stop w =
            cond_case Valid (eqb x 58)
            (λ t. cond_case Valid (eqb st.len 0) (λ q. valid_refused st _ (omega arith))
            (λ q. cond_case Valid (not st.sized && eqb st.matched 14)
            (λ u'. valid_line st 9 0 0 (st.len + 1) refl (omega arith) (omega arith) f (omega arith) (omega arith) (omega arith) (λ k. refl) (λ e n. refl) refl)
            (λ u'. valid_line st 7 0 st.size (st.len + 1) refl (omega arith) (omega arith) f (omega arith) v.small (omega arith) (λ k. refl) (λ e n. u e) refl)))
            (λ t. valid_refused st _ (omega arith))

    valid_on_value : (j : ℕ) → st.lines + 1 ≤ 32 → st.len ≤ 512 → st.at ≤ 13 + 514 * st.lines + st.len → (st.sized ≡ false → st.size ≡ 0) → Valid (on_value st (text_part j) x)
    unfolding on_value
    valid_on_value j f h l u = by (reads (style_of st.crlf st.command) in_value (text_part j) x) (leaves_text (style_of st.crlf st.command) in_value j x)
      where
        begun : (o r : ℕ) → 0 < o → is_begun (style_of st.crlf st.command) r ≡ true → Valid (cond (leb (st.len + 1 + o) 512) (in_part st 8 0 st.size (st.len + 1) r) (invalid st 4))
        begun o r owed is =
            cond_case Valid (leb (st.len + 1 + o) 512)
            (λ t. valid_part st 8 0 st.size (st.len + 1) r refl (omega arith) (omega arith) f (omega (arith, leb-true (st.len + 1 + o) 512 t)) v.small (omega arith) (λ q. refl) (λ e n. u e) (λ a b. absurd (b refl)) (λ q. is))
            (λ t. valid_refused st 4 (omega arith))

        by : (i : Into) → Leaves (style_of st.crlf st.command) i → Valid (on_value_by st x i)
        by (into fresh) w =
            cond_case Valid (leb (st.len + 1 + 0) 512)
            (λ t. valid_line st 7 0 st.size (st.len + 1) refl (omega arith) (omega arith) f (omega (arith, leb-true (st.len + 1 + 0) 512 t)) v.small (omega arith) (λ q. refl) (λ e n. u e) refl) (λ t. valid_refused st _ (omega arith))
        by (into back) w = begun 1 92 (omega arith) (begun_back (style_of st.crlf st.command) w)
        by (into (led y)) w = begun (missing y) y w (begun_led (style_of st.crlf st.command) y w)
        by (into (tails k)) w = begun k k w.0 (begun_tails (style_of st.crlf st.command) k w.0 w.1)
        by (bad k) w = valid_refused st (numbered (faulty k)) (omega arith)
        by stop w = cond_case Valid (eqb x 58) (λ t. valid_refused st _ (omega arith)) (λ t. valid_line_read st.sized st.size f v.small (omega arith) u)

    valid_on_length : st.lines + 1 ≤ 32 → st.len ≤ 512 → st.at ≤ 13 + 514 * st.lines + st.len → Valid (on_length st x)
    unfolding on_length
    valid_on_length f h l = by (reads (style_of st.crlf st.command) in_value fresh x)
      where
        digit : (k : ℕ) → k ≤ 512 → st.len + 1 ≤ k → Valid (cond (grows st x) (in_line st 9 0 (st.size * 10 + digit_value x) (st.len + 1)) (invalid st 6))
        digit k hk hl =
            cond_case Valid (grows st x)
            (λ t. valid_line st 9 0 (st.size * 10 + digit_value x) (st.len + 1) refl (omega arith) (omega arith) f (omega arith)
            (omega (arith, leb-true (st.size * 10 + digit_value x) (most_of st.command) (and_right (is_digit x) (leb (st.size * 10 + digit_value x) (most_of st.command)) t), most_small st.command)) (omega arith) (λ q. refl) (λ e n. absurd (n refl)) refl)
            (λ t. valid_refused st _ (omega arith))

        owed : (o : ℕ) → Valid (cond (leb (st.len + 1 + o) 512) (on_digit st x) (invalid st 4))
        owed o = cond_case Valid (leb (st.len + 1 + o) 512) (λ t. digit 512 (omega arith) (omega (arith, leb-true (st.len + 1 + o) 512 t))) (λ t. valid_refused st 4 (omega arith))

        by : (i : Into) → Valid (on_length_by st x i)
        by (into fresh) = cond_case Valid (leb (st.len + 1 + 0) 512) (λ t. digit 512 (omega arith) (omega (arith, leb-true (st.len + 1 + 0) 512 t))) (λ t. valid_refused st _ (omega arith))
        by (into back) = owed 1
        by (into (led y)) = owed (missing y)
        by (into (tails k)) = owed k
        by (bad k) = valid_refused st (numbered (faulty k)) (omega arith)
        by stop =
            cond_case Valid (eqb x 58) (λ t. valid_refused st _ (omega arith))
            (λ t. cond_case Valid (eqb st.len 15) (λ q. valid_refused st _ (omega arith)) (λ q. valid_line_read true st.size f v.small (omega arith) (λ e. let z : ◌≡◌ {A = ℕ} 0 1 = cc in absurd (omega arith))))

    valid_on_begin : st.lines ≤ 32 → st.len ≤ 0 → st.at ≤ 13 + 514 * st.lines + st.len → (st.sized ≡ false → st.size ≡ 0) → Valid (on_begin st x)
    unfolding on_begin
    valid_on_begin f h l u =
        cond_case Valid (eqb x 10) (λ t. valid_begins st f v.small (omega arith) u)
        (λ t. cond_case Valid (eqb x 13 && st.crlf) (λ q. valid_head st 11 st.lines st.sized st.size refl (omega arith) (omega arith) refl f v.small (omega arith) u)
        (λ q. cond_case Valid (eqb x 58) (λ w. valid_refused st _ (omega arith))
        (λ w. cond_case Valid (ltb st.lines 32) (λ k. valid_on_name 0 (omega (arith, ltb-true st.lines 32 k)) (omega arith) l u) (λ k. more (reads (style_of st.crlf st.command) in_name fresh x)))))
      where
        more : (i : Into) → Valid (on_more st i)
        more (into q) = valid_refused st _ (omega arith)
        more (bad k) = valid_refused st _ (omega arith)
        more stop = valid_refused st _ (omega arith)

    valid_frame : st.lines ≤ 32 → st.len ≤ 32768 → st.at ≤ 15 + 514 * st.lines + st.len → Valid (frame_read st)
    valid_frame f h l = bounded_valid (frame_read st) refl (omega arith) (omega arith) h (omega arith) (omega arith) (λ q. refl) (λ q. refl) (λ e n. refl) (λ q. absurd (omega arith)) (λ a b. refl) (λ q. no_test q)

    valid_on_body : st.phase ≡ 12 → st.lines ≤ 32 → st.len ≤ 32768 → st.at ≤ 15 + 514 * st.lines + st.len → Valid (on_body st x)
    unfolding on_body
    valid_on_body e f h l =
        cond_case Valid (eqb x 0) (λ t. valid_frame f h l)
        (λ t. cond_case Valid (ltb st.len (most_of st.command))
        (λ q. let more = ltb-true st.len (most_of st.command) q in record { known = omega arith; few = omega arith; short = omega (arith, most_small st.command); small = omega arith; place = omega arith; fresh_word = λ k. absurd (omega arith); word_so_far = λ k. absurd (omega arith); body_so_far = λ k. omega arith; counted_so_far = λ k. absurd (omega arith); no_lines = λ k. absurd (omega arith); clean_code = λ k. refl; clean_match = λ k. refl; clean_rest = λ a b. refl; under_way = λ q. no_test q; clean_size = λ k n. refl; unsized = λ k. v.unsized e })
        (λ q. valid_refused st _ (omega arith)))

    valid_on_counted : st.phase ≡ 13 → st.lines ≤ 32 → st.len ≤ 32768 → st.at ≤ 15 + 514 * st.lines + st.len → Valid (on_counted st x)
    unfolding on_counted
    valid_on_counted e f h l =
        cond_case Valid (ltb st.len st.size)
        (λ q. let more = ltb-true st.len st.size q in record { known = omega arith; few = omega arith; short = omega (arith, v.small); small = v.small; place = omega arith; fresh_word = λ k. absurd (omega arith); word_so_far = λ k. absurd (omega arith); body_so_far = λ k. absurd (omega arith); counted_so_far = λ k. omega arith; no_lines = λ k. absurd (omega arith); clean_code = λ k. refl; clean_match = λ k. refl; clean_rest = λ a b. refl; under_way = λ q. no_test q; clean_size = λ k n. no_9 13 e (λ z. omega arith) k; unsized = λ k. absurd (omega arith) })
        (λ q. cond_case Valid (eqb x 0) (λ t. valid_frame f h l) (λ t. valid_refused st _ (omega arith)))

    -- the octets of any state that goes on are few
    pub valid_step : Valid (scan_step st x)
    unfolding scan_step
    valid_step =
        at_phase 7 _ _ (λ e k. valid_on_value 0 k.few k.short k.place (no_9 7 e (λ z. omega arith)))
        (at_phase 5 _ _ (λ e k. valid_on_name 0 k.few k.short k.place (no_9 5 e (λ z. omega arith)))
        (at_phase 4 _ _ (λ e k. valid_on_begin (omega (arith, k.few)) k.short k.place (no_9 4 e (λ z. omega arith)))
        (at_phase 12 _ _ (λ e k. valid_on_body e (omega (arith, k.few)) k.short k.place)
        (at_phase 13 _ _ (λ e k. valid_on_counted e (omega (arith, k.few)) k.short k.place)
        (at_phase 2 _ _ (λ e k. valid_on_word (v.word_so_far e) (small st.command st.at (v.word_so_far e)).1)
        (at_phase 9 _ _ (λ e k. valid_on_length k.few k.short k.place)
        (at_phase 8 _ _ (λ e k. valid_on_value st.rest k.few (omega (arith, k.short)) k.place (no_9 8 e (λ z. omega arith)))
        (at_phase 6 _ _ (λ e k. valid_on_name st.rest k.few (omega (arith, k.short)) k.place (no_9 6 e (λ z. omega arith)))
        (at_phase 10 _ _ (λ e k. valid_10 _ (valid_head st 4 st.lines st.sized st.size refl (omega arith) (omega arith) refl (omega (arith, k.few)) v.small (omega (arith, k.place, k.short)) (no_9 10 e (λ z. omega arith))) (omega (arith, k.place, k.few, k.short)))
        (at_phase 11 _ _ (λ e k. valid_10 _ (valid_begins st (omega (arith, k.few)) v.small (omega (arith, k.place, k.short)) (no_9 11 e (λ z. omega arith))) (omega (arith, k.place, k.few, k.short)))
        (at_phase 0 _ _ (λ e k. valid_on_start (v.fresh_word e).0 (v.fresh_word e).1)
        (at_phase 3 _ _ (λ e k. valid_10 _ (valid_to st 4 st.command refl (omega arith) refl (omega (arith, k.place, k.short, none 3 e (omega arith)))) (omega (arith, k.place, k.few, k.short)))
        (at_phase 1 _ _ (λ e k. valid_10 _ (valid_to st 14 0 refl (omega arith) refl (omega (arith, k.place, k.short, none 1 e (omega arith)))) (omega (arith, k.place, k.few, k.short))) v)))))))))))))
      where
        none : (p : ℕ) → st.phase ≡ p → p < 4 → st.lines ≡ 0
        none p e h = v.no_lines (rw e h)

        at_phase : (p : ℕ) (a b : Scan) → (st.phase ≡ p → Known st p → Valid a) → Valid b → Valid (cond (eqb st.phase p) a b)
        at_phase p a b f g = cond_case Valid (eqb st.phase p) (λ t. let e = eqb-true st.phase p t in f e (known_at st p e v)) (λ t. g)

-- before the first octet
pub valid_nothing : (w : Bool) → Valid (nothing_read w)
valid_nothing w = bare_valid w 0 0 0 (omega arith) refl (omega arith) (λ e. (refl, refl)) (λ e. absurd (omega arith))
