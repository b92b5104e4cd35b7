-- The tests of a state pass exactly where it is valid, and so at every state that a run leaves. Assumes nothing.
use mathlib.Core.Path.{◌≡◌, refl, sym, ◌∙◌, ap}
use mathlib.Core.Bool.{Bool, true, false, ◌&&◌, ◌||◌, not, and_assoc}
use mathlib.Core.List.{List, [], ◌∷◌}
use Prim.Native.Nat.{ℕ, zero, suc, ◌+◌, ◌*◌, ◌≤◌, ◌<◌}
use native.Mathlib.Omega.{arith}
use lib.ListN.{length, take, get_or}
use lib.Dec.{eqb, leb, ltb}
use borrow.Author.Tests.{leb-true, ltb-true, eqb-true, lt-ltb, le-leb, eq-eqb, not-true}
use Rattle.headers.specs.Rows.{begins}
use Rattle.headers.proofs.Rows.{and_no, and_yes, and_left, and_right}
use Rattle.frames.specs.Open.{all}
use Rattle.frames.specs.Parsing.{first}
use Rattle.headers.specs.Characters.{is_begun}
use Rattle.frames.specs.declared.state.Scan.{Scan}
use Rattle.frames.specs.Scanning.{style_of, most_of, word_of, number_of, scan_step, scan, nothing_read, len_max, line_open, outside, Reached, Valid}
use Rattle.frames.specs.Validity.{leasts, is_reached, is_valid, is_clean}
use Rattle.frames.proofs.Words.{at, short, small}
use Rattle.frames.proofs.Validity.{valid_step, valid_nothing}

-- ---- a test that passes exactly where a fact holds

pub record Decides (b : Bool) (A : Type 0) : Type 0 where
  pub pass : b ≡ true → A
  pub sure : A → b ≡ true

is_le : (m n : ℕ) → Decides (leb m n) (m ≤ n)
is_le m n = record { pass = leb-true m n; sure = le-leb m n }

is_lt : (m n : ℕ) → Decides (ltb m n) (m < n)
is_lt m n = record { pass = ltb-true m n; sure = lt-ltb m n }

is_eq : (m n : ℕ) → Decides (eqb m n) (m ≡ n)
is_eq m n = record { pass = eqb-true m n; sure = eq-eqb m n }

is_off : (t : Bool) → Decides (not t) (t ≡ false)
is_off t = record { pass = not-true t; sure = λ e. rw e }

is_on : (t : Bool) → Decides t (t ≡ true)
is_on t = record { pass = λ e. e; sure = λ e. e }

both : {b d : Bool} {A B : Type 0} → Decides b A → Decides d B → Decides (b && d) (A × B)
both {b} {d} p q =
    record {
      pass = λ h. (p.pass (and_left b d h), q.pass (and_right b d h));
      sure = λ (x, y). rw (p.sure x, q.sure y);
    }

-- unless a mark is set
unless : (t : Bool) {d : Bool} {B : Type 0} → Decides d B → Decides (t || d) (t ≡ false → B)
unless true q = record { pass = λ h e. let z : ◌≡◌ {A = ℕ} 0 1 = cc in absurd (omega arith); sure = λ f. refl }
unless false q = record { pass = λ h e. q.pass h; sure = λ f. q.sure (f refl) }

-- a fact wherever another holds
given : (b : Bool) {d : Bool} {A B : Type 0} → Decides b A → Decides d B → Decides (not b || d) (A → B)
given true p q = record { pass = λ h x. q.pass h; sure = λ f. q.sure (f (p.pass refl)) }
given false p q = record { pass = λ h x. let e = p.sure x in let z : ◌≡◌ {A = ℕ} 0 1 = cc in absurd (omega arith); sure = λ f. refl }

-- a fact wherever another does not hold
otherwise : (b : Bool) {d : Bool} {A B : Type 0} → Decides b A → Decides d B → Decides (b || d) ((A → ⊥) → B)
otherwise true p q = record { pass = λ h n. absurd (n (p.pass refl)); sure = λ f. refl }
otherwise false p q = record { pass = λ h n. q.pass h; sure = λ f. q.sure (f (λ x. let e = p.sure x in let z : ◌≡◌ {A = ℕ} 0 1 = cc in omega arith)) }

unlike : (b : Bool) → not b ≡ false → b ≡ true
unlike true h = refl
unlike false h = sym h

-- a test of two facts that says where one holds without the other
pub met : (a b : Bool) → a && not b ≡ false → not a || b ≡ true
met true b h = rw (unlike b h)
met false b h = refl

-- the same fact in another form
turned : {b : Bool} {A B : Type 0} → Decides b A → (A → B) → (B → A) → Decides b B
turned p f g = record { pass = λ h. f (p.pass h); sure = λ y. p.sure (g y) }

-- ---- which commands and places are reached: computed at each number up to 15 and each place up to 11

-- Reached, by the words
abbrev by_word : ℕ → ℕ → Bool
by_word c zero = eqb c 0
by_word c (suc k) = ltb 0 c && (leb (suc k) (length (word_of c)) && eqb (number_of (first (begins (take (suc k) (word_of c))) all)) c)

by_word_decides : (c k : ℕ) → Decides (by_word c k) (Reached c k)
by_word_decides c zero = turned (is_eq c 0) (λ e. record { nothing = λ z. e; something = λ h. absurd (omega arith) }) (λ r. r.nothing refl)
by_word_decides c (suc k) =
    turned (both (is_lt 0 c) (both (is_le (suc k) (length (word_of c))) (is_eq (number_of (first (begins (take (suc k) (word_of c))) all)) c)))
    (λ (a, (b, e)). record { nothing = λ z. absurd (omega arith); something = λ h. (a, b, e) })
    (λ r. let (a, b, e) = r.something (omega arith) in (a, (b, e)))

-- the numbers say the same
abbrev alike : Bool → Bool → Bool
alike true b = b
alike false b = not b

alike_eq : (a b : Bool) → alike a b ≡ true → a ≡ b
alike_eq true b h = sym h
alike_eq false b h = sym (not-true b h)

agree : (c k : ℕ) → c ≤ 15 → k ≤ 11 → is_reached c k ≡ by_word c k
agree c k h l =
    alike_eq (is_reached c k) (by_word c k) (at (λ d i. alike (is_reached d i) (by_word d i)) refl c k h l)

pub reached_decides : (c k : ℕ) → Decides (is_reached c k) (Reached c k)
reached_decides c k =
    record {
      pass = λ t.
          let (a, (b, l)) = (both (is_le c 15) (both (is_le (get_or leasts c 0) k) (is_le k (length (word_of c))))).pass t in
          (by_word_decides c k).pass (sym (agree c k a (omega (arith, short c a))) ∙ t);
      sure = λ r. let (a, l) = small c k r in agree c k a l ∙ (by_word_decides c k).sure r;
    }

-- ---- which states are valid

pub valid_decides : (st : Scan) → Decides (is_valid st) (Valid st)
unfolding is_valid
valid_decides st =
    let phase = is_eq st.phase in
    let small_numbers =
    both
    (both
    (both (both (is_le st.phase 16) (is_le (st.lines + line_open st.phase) 32)) (is_le st.len (len_max st.phase)))
    (is_le st.size 32768))
    (is_le st.at (outside st.phase + 514 * st.lines + st.len)) in
    let so_far =
    both
    (both
    (both (given _ (phase 0) (both (is_eq st.command 0) (is_eq st.at 0))) (given _ (phase 2) (reached_decides st.command st.at)))
    (given _ (phase 12) (is_le st.len (most_of st.command))))
    (given _ (phase 13) (is_le st.len st.size)) in
    let clean =
    both
    (both
    (both
    (both
    (both (both (given _ (is_lt st.phase 4) (is_eq st.lines 0)) (given _ (is_lt st.phase 16) (is_eq st.code 0))) (given _ (is_lt 6 st.phase) (is_eq st.matched 0)))
    (unless st.sized (otherwise _ (phase 9) (is_eq st.size 0))))
    (given _ (phase 12) (is_off st.sized)))
    (otherwise _ (phase 6) (otherwise _ (phase 8) (is_eq st.rest 0))))
    (given _ (is_on (eqb st.phase 6 || eqb st.phase 8)) (is_on (is_begun (style_of st.crlf st.command) st.rest))) in
    turned (both (both small_numbers so_far) clean)
    (λ ((((((k, f), s), z), p), (((w, r), b), c)), ((((((n, o), m), u), d), q), w')).
    record {
      known = k;
      few = f;
      short = s;
      small = z;
      place = p;
      fresh_word = w;
      word_so_far = r;
      body_so_far = b;
      counted_so_far = c;
      no_lines = n;
      clean_code = o;
      clean_match = m;
      clean_size = u;
      unsized = d;
      clean_rest = q;
      under_way = w';
    })
    (λ v. (
      (
        ((((v.known, v.few), v.short), v.small), v.place),
        (((v.fresh_word, v.word_so_far), v.body_so_far), v.counted_so_far),
      ),
      ((((((v.no_lines, v.clean_code), v.clean_match), v.clean_size), v.unsized), v.clean_rest), v.under_way),
    ))

-- the tests' answer, as the contract has it
pub valid_tested : (st : Scan) (r : Bool) → r ≡ is_valid st → (r ≡ true → Valid st) × (Valid st → r ≡ true)
valid_tested st r e = rw e ((valid_decides st).pass, (valid_decides st).sure)

-- ---- the tests that the code makes

-- how far a character is read, outside one and inside one
module _ (st : Scan) where
  abbrev rest_clean : Bool
  rest_clean =
      (eqb st.phase 6 || (eqb st.phase 8 || eqb st.rest 0))
      && (not (eqb st.phase 6 || eqb st.phase 8) || is_begun (style_of st.crlf st.command) st.rest)

  abbrev others : Bool
  others = (st.sized || (eqb st.phase 9 || eqb st.size 0)) && (not (eqb st.phase 12) || not st.sized)

  clean_is : not (ltb st.phase 4) || eqb st.lines 0 ≡ true → not (ltb st.phase 16) || eqb st.code 0 ≡ true → not (ltb 6 st.phase) || eqb st.matched 0 ≡ true
      → is_clean st ≡ others && rest_clean
  clean_is a b c = rw (a, b, c) (and_assoc ((st.sized || (eqb st.phase 9 || eqb st.size 0)) && (not (eqb st.phase 12) || not st.sized)) (eqb st.phase 6 || (eqb st.phase 8 || eqb st.rest 0)) (not (eqb st.phase 6 || eqb st.phase 8) || is_begun (style_of st.crlf st.command) st.rest))

  pub clean_no : not (ltb st.phase 4) || eqb st.lines 0 ≡ true → not (ltb st.phase 16) || eqb st.code 0 ≡ true → not (ltb 6 st.phase) || eqb st.matched 0 ≡ true
      → rest_clean ≡ false → is_clean st ≡ false
  clean_no a b c h = clean_is a b c ∙ ap (others &&◌) h ∙ and_no others

  pub clean_yes : not (ltb st.phase 4) || eqb st.lines 0 ≡ true → not (ltb st.phase 16) || eqb st.code 0 ≡ true → not (ltb 6 st.phase) || eqb st.matched 0 ≡ true
      → rest_clean ≡ true → is_clean st ≡ others
  clean_yes a b c h = clean_is a b c ∙ ap (others &&◌) h ∙ and_yes others

-- ---- every state that a run leaves passes

valid_run : (st : Scan) (xs : List ℕ) → Valid st → Valid (scan st xs)
valid_run st [] v = v
valid_run st (x ∷ xs) v = valid_run (scan_step st x) xs (valid_step st v x)

pub run_passes : (st : Scan) (xs : List ℕ) → Valid st → is_valid (scan st xs) ≡ true
run_passes st xs v = (valid_decides (scan st xs)).sure (valid_run st xs v)

pub first_run_passes : (w : Bool) (xs : List ℕ) → is_valid (scan (nothing_read w) xs) ≡ true
first_run_passes w xs = run_passes (nothing_read w) xs (valid_nothing w)
