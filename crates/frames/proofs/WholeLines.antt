-- Header lines passed at once: what the octets of a name, its colon, a value and a line end lead to. Assumes nothing.
--     line_begins                                the state where lines are passed is line_at of itself
--     passed_name, passed_value, passed_end      the octets of a line, part by part
use mathlib.Core.Path.{◌≡◌, refl, sym, ◌∙◌, ap, ap₂, subst}
use mathlib.Core.Bool.{Bool, true, false, ◌&&◌, not}
use mathlib.Core.List.{List, [], ◌∷◌}
use mathlib.Core.Logic.{inl, inr}
use lib.Seq.{drop-cons, length-take-le, take-take}
use Prim.Native.Nat.{ℕ, suc, ◌+◌, ◌-◌, ◌≤◌, ◌<◌}
use native.Mathlib.Omega.{arith}
use native.Mathlib.Numerals.{one-add}
use native.Mathlib.Nat.{add-zero, add_assoc}
use lib.ListN.{length, take, drop, get_or, length-drop}
use lib.Dec.{eqb}
use borrow.Author.Tests.{ne_eqb, eqb-true, lt-ltb, not-true}
use Rattle.headers.specs.Stretches.{span, plain_in}
use Rattle.headers.specs.declared.plain.Stops.{Stops}
use Rattle.headers.specs.declared.text.Style.{Style}
use Rattle.headers.specs.declared.text.Field.TheVariants.{Name as in_name, Value as in_value}
use Rattle.frames.specs.declared.state.Scan.{Scan}
use Rattle.frames.specs.Scanning.{style_of, in_head, in_line, on_begin, on_name, on_value, scan_step, Valid, text_stops, skip, Ahead, Passed}
use Rattle.headers.proofs.Stretches.{part_long}
use Rattle.headers.proofs.Rows.{and_left, and_right, and_no}
use Rattle.headers.specs.Text.{fresh, Text}
use Rattle.headers.specs.Rows.{every}
use Rattle.frames.proofs.Gliding.{line_short, skip_zero, span_clears, plain_apart, reads_plain, ahead_by, glides_name, ahead_text}
use Rattle.frames.proofs.Passing.{Gone, passed_none, passed_step, passed_ahead, passed_then}
use Rattle.frames.specs.WholeLines.{in_lines, line_at, Named, Begun}

-- the first octet of a name
module _ (st : Scan) (x : ℕ) (p : plain_in (text_stops (style_of st.crlf st.command) in_name) x ≡ true) where
  begins : st.phase ≡ 4 → st.lines < 32 → scan_step st x ≡ on_name st fresh x
  unfolding scan_step on_begin
  begins e few =
      let (lf, cr, colon) = plain_apart (style_of st.crlf st.command) x p in
      simp (e, lf, cr, colon, lt-ltb st.lines 32 few)

  named_on : st.len ≡ 0 → st.matched ≡ 0 → (x ≡ 99 → ⊥) → on_name st fresh x ≡ in_line st 5 15 st.size 1
  unfolding on_name
  named_on none first other = simp (reads_plain (style_of st.crlf st.command) in_name x p, none, first, ne_eqb x 99 other)

  pub begin_on : st.phase ≡ 4 → st.lines < 32 → st.len ≡ 0 → st.matched ≡ 0 → (x ≡ 99 → ⊥) → scan_step st x ≡ in_line st 5 15 st.size 1
  begin_on e few none first other = begins e few ∙ named_on none first other

-- its colon
pub colon_on : (st : Scan) → st.phase ≡ 5 → st.matched ≡ 15 → 0 < st.len → scan_step st 58 ≡ in_line st 7 0 st.size (st.len + 1)
unfolding scan_step on_name
colon_on st e m some = simp (e, m, ne_eqb st.len 0 (λ z. omega arith), and_no)

-- the end of a line
pub end_on : (st : Scan) → st.phase ≡ 7 → scan_step st 10 ≡ in_head st 4 (st.lines + 1) st.sized st.size
unfolding scan_step on_value
end_on st e = simp e

-- all pass
span_all : (p : ℕ → Bool) (xs : List ℕ) → every p xs ≡ true → span p xs ≡ length xs
unfolding span
span_all p [] h = refl
span_all p (x ∷ xs) h = rw (and_left (p x) (every p xs) h) (ap (1 +◌) (span_all p xs (and_right (p x) (every p xs) h)) ∙ one-add (length xs))

-- a name that a search has passed, up to its colon
pub name_found : (y : Style) {t : Stops} → t ≡ text_stops y in_name → (s : List ℕ) (i e k : ℕ) → e ≤ length s → e ≤ i + 512
    → k ≡ span (plain_in t) (take (e - i) (drop i s)) → (k ≡ 0 → ⊥) → i + k < e → (get_or s i 0 ≡ 99 → ⊥) → get_or s (i + k) 0 ≡ 58
    → Named y s i (k + 1)
name_found y same s i e k within short is some inside other colon =
    let n : k + 1 - 1 ≡ k = omega arith in
    record {
      some = omega (arith, some);
      short = omega arith;
      within = omega arith;
      other = other;
      clear = subst (λ z. every (plain_in (text_stops y in_name)) (take z (drop i s)) ≡ true) (sym n) (span_clears _ s i e k (rw same at is));
      colon = ap (λ z. get_or s (i + z) 0) n ∙ colon;
    }

-- the state that passes to a line begins as it is
pub line_begins : (st : Scan) → Valid st → in_lines st ≡ true → line_at st st.lines st.len 0 ≡ st
line_begins st v h = by (eqb st.phase 4 && eqb st.matched 0) refl ∙ skip_zero st
  where
    by : (t : Bool) → (eqb st.phase 4 && eqb st.matched 0) ≡ t → line_at st st.lines st.len 0 ≡ skip 0 st
    by true e =
        let four = eqb-true st.phase 4 (and_left _ _ e) in
        let m = eqb-true st.matched 0 (and_right (eqb st.phase 4) _ e) in
        let none : st.len ≡ 0 = omega (arith, line_short v four) in
        simp (none, m, four, v.clean_code (omega arith), v.clean_rest (λ q. omega arith) (λ q. omega arith))
    by false e =
        let g : (eqb st.phase 7 && not (eqb st.len 0)) ≡ true = rw e at h in
        let seven = eqb-true st.phase 7 (and_left _ _ g) in
        let some = not-true (eqb st.len 0) (and_right (eqb st.phase 7) _ g) in
        simp (some, add-zero, seven, v.clean_match (omega arith), v.clean_code (omega arith), v.clean_rest (λ q. omega arith) (λ q. omega arith))

module _ (st : Scan) (n k : ℕ) (s : List ℕ) (i : ℕ) where
  -- in a value, where its line has l octets
  in_value_at : ℕ → ℕ → Scan
  in_value_at l a =
      record {
        phase = 7;
        command = st.command;
        lines = n;
        matched = 0;
        sized = st.sized;
        size = st.size;
        len = l;
        at = a;
        code = 0;
        rest = 0;
        crlf = st.crlf;
      }

  -- the octets of a name
  apart : (m : ℕ) → 1 < m → i + m ≤ length s → take (m - 1) (drop i s) ≡ get_or s i 0 ∷ take (m - 2) (drop (i + 1) s)
  apart m some within =
      let one : m - 1 ≡ suc (m - 2) = omega arith in
      let next : suc i ≡ i + 1 = omega arith in
      ap (λ z. take z (drop i s)) one ∙ ap (take (suc (m - 2))) (drop-cons s i 0 (omega arith)) ∙ ap (λ z. get_or s i 0 ∷ take (m - 2) (drop z s)) next

  all_of : (p : ℕ → Bool) (m : ℕ) → 1 < m → i + m ≤ length s → every p (take (m - 2) (drop (i + 1) s)) ≡ true
      → m - 2 ≡ span p (take (i + (m - 1) - (i + 1)) (drop (i + 1) s))
  all_of p m some within h =
      let xs : List ℕ = take (m - 2) (drop (i + 1) s) in
      let same : i + (m - 1) - (i + 1) ≡ m - 2 = omega arith in
      let long : length xs ≡ m - 2 = length-take-le (m - 2) (drop (i + 1) s) (omega (arith, length-drop (i + 1) s)) in
      sym (ap (λ z. span p (take z (drop (i + 1) s))) same ∙ span_all p xs h ∙ long)

  -- a name and its colon
  pub passed_name : {y : Style} {m : ℕ} → y ≡ style_of st.crlf st.command → Valid (line_at st n 0 k) → n < 32 → Named y s i m
      → Passed s i (line_at st n 0 k) (line_at st n m (k + m))
  unfolding in_value_at
  passed_name {y} {m} same v few named =
      let some = named.some in
      let short = named.short in
      let within = named.within in
      let p : ℕ → Bool = plain_in (text_stops y in_name) in
      let x : ℕ = get_or s i 0 in
      let every_one : every p (x ∷ take (m - 2) (drop (i + 1) s)) ≡ true = subst (λ l. every p l ≡ true) (apart m some within) named.clear in
      let st₀ : Scan = line_at st n 0 k in
      let st₁ : Scan = in_line st₀ 5 15 st.size 1 in
      let here : Gone s i st₀ st₀ i = passed_none (omega arith) v in
      let first : Gone s i st₀ st₁ (i + 1) =
      passed_step here (omega arith) (sym (begin_on st₀ x (rw same at (and_left (p x) _ every_one)) refl few refl refl named.other)) refl in
      let rest : Ahead s (i + 1) st₁ (m - 2) =
      ahead_by p 511 st₁ (glides_name st₁ first.0.kept same refl refl refl) s (i + 1) (i + (m - 1)) (m - 2) (omega arith) (omega arith) (omega arith)
      (all_of p m some within (and_right (p x) _ every_one)) in
      let st₂ : Scan = skip (m - 2) st₁ in
      let all_name : Passed s i st₀ st₂ = passed_then first.0 first.1 (passed_ahead rest refl) in
      let colon_at : i + (m - 1) ≡ i + (st₂.at - st₀.at) = omega arith in
      let long : 1 + (m - 2) + 1 ≡ m = omega arith in
      let far : st.at + k + 1 + (m - 2) + 1 ≡ st.at + (k + m) = omega arith in
      let then : scan_step st₂ (get_or s (i + (m - 1)) 0) ≡ in_value_at m (st.at + (k + m)) =
      ap (scan_step st₂) named.colon ∙ colon_on st₂ refl refl (omega arith) ∙ ap₂ in_value_at long far in
      let read : line_at st n m (k + m) ≡ in_value_at m (st.at + (k + m)) = rw (ne_eqb m 0 (λ z. omega arith)) in
      let last : Gone s i st₀ (line_at st n m (k + m)) (i + (m - 1) + 1) =
      passed_step (all_name, colon_at) (omega arith) (read ∙ sym then) (omega arith) in
      last.0

  -- text of a value
  pub passed_value : {y : Style} {m : ℕ} (t : ℕ) → y ≡ style_of st.crlf st.command → Valid (line_at st n m k) → 0 < m → i + t ≤ length s → m + t ≤ 512
      → Text y in_value (take t (drop i s)) → Passed s i (line_at st n m k) (line_at st n (m + t) (k + t))
  passed_value {y} {m} t same v some within short text =
      let in_value_now : (line_at st n m k).phase ≡ 7 = rw (ne_eqb m 0 (λ z. omega arith)) in
      passed_ahead (ahead_text (line_at st n m k) v in_value_now same s i t within short text)
      (simp (ne_eqb m 0 (λ z. omega arith), ne_eqb (m + t) 0 (λ z. omega arith), add_assoc))

  -- the line end
  pub passed_end : {m : ℕ} → Valid (line_at st n m k) → 0 < m → i < length s → get_or s i 0 ≡ 10 → Passed s i (line_at st n m k) (line_at st (n + 1) 0 (k + 1))
  passed_end {m} v some within ten =
      let in_value_now : (line_at st n m k).phase ≡ 7 = rw (ne_eqb m 0 (λ z. omega arith)) in
      let here : Gone s i (line_at st n m k) (line_at st n m k) i = passed_none (omega arith) v in
      let next : Gone s i (line_at st n m k) (line_at st (n + 1) 0 (k + 1)) (i + 1) =
      passed_step here within (simp (ten, end_on (line_at st n m k) in_value_now, add_assoc)) (omega arith) in
      next.0

-- ---- One line after another

module _ {st : Scan} {s : List ℕ} {from i : ℕ} (past : from ≤ i) where
  -- how far the state is
  here : {n l : ℕ} → Passed s from st (line_at st n l (i - from)) → i ≡ from + ((line_at st n l (i - from)).at - st.at)
  here p = omega arith

  -- a state where its line has l octets is in a line of at most 512
  line_short_at : {n l : ℕ} → Passed s from st (line_at st n l (i - from)) → (l ≡ 0 → ⊥) → l ≤ 512
  line_short_at {n} {l} p some =
      let e : (line_at st n l (i - from)).phase ≡ 7 = rw (ne_eqb l 0 some) in
      omega (arith, line_short p.kept e)

  -- up to the value of a line
  pub then_begun : {y : Style} {n l m : ℕ} → y ≡ style_of st.crlf st.command → i ≤ length s
      → Passed s from st (line_at st n l (i - from)) → Begun y s i n l m → (m ≡ 0 → ⊥)
      → (l ≤ m) × (m ≤ 512) × (i + (m - l) ≤ length s) × Passed s from st (line_at st n m (i + (m - l) - from))
  then_begun {y} {n} {l} {m} same inside p (inl e) some =
      let k : i - from ≡ i + (m - l) - from = omega arith in (
        omega arith,
        omega (arith, e, line_short_at p (λ z. some (e ∙ z))),
        omega arith,
        subst (λ z. Passed s from st (line_at st n z (i + (m - l) - from))) (sym e) (subst (λ z. Passed s from st (line_at st n l z)) k p),
      )
  then_begun {y} {n} {l} {m} same inside p (inr (none, few, named)) some =
      let k : i - from + m ≡ i + (m - l) - from = omega arith in
      let p₀ : Passed s from st (line_at st n 0 (i - from)) = subst (λ z. Passed s from st (line_at st n z (i - from))) none p in (
        omega arith,
        named.short,
        omega (arith, named.within),
        passed_then p₀ (here p₀)
            (subst (λ z. Passed s i (line_at st n 0 (i - from)) (line_at st n m z)) k (passed_name st n (i - from) s i same p₀.kept few named)),
      )

  -- on through text of the value, up to e
  pub then_value : {y : Style} {n m : ℕ} (e k : ℕ) → y ≡ style_of st.crlf st.command → Passed s from st (line_at st n m (i - from)) → (m ≡ 0 → ⊥)
      → i ≤ e → e ≤ length s → m ≤ 512 → e ≤ i + (512 - m) → k ≤ length (take (e - i) (drop i s)) → Text y in_value (take k (take (e - i) (drop i s)))
      → (i + k ≤ length s) × Passed s from st (line_at st n (m + k) (i + k - from))
  then_value {y} {n} {m} e k same p some low high short room within text =
      let long = part_long s i e low high in
      let far : i - from + k ≡ i + k - from = omega arith in
      let t : Text y in_value (take k (drop i s)) = subst (Text y in_value) (take-take k (e - i) (drop i s) (omega arith)) text in (
        omega arith,
        passed_then p (here p)
            (subst (λ z. Passed s i (line_at st n m (i - from)) (line_at st n (m + k) z)) far
            (passed_value st n (i - from) s i k same p.kept (omega (arith, some)) (omega arith) (omega arith) t)),
      )

  -- on through octet 10, which ends the line
  pub then_end : {n m : ℕ} → Passed s from st (line_at st n m (i - from)) → (m ≡ 0 → ⊥) → i < length s → get_or s i 0 ≡ 10
      → Passed s from st (line_at st (n + 1) 0 (i + 1 - from))
  then_end {n} {m} p some inside ten =
      let far : i - from + 1 ≡ i + 1 - from = omega arith in
      passed_then p (here p)
      (subst (λ z. Passed s i (line_at st n m (i - from)) (line_at st (n + 1) 0 z)) far
      (passed_end st n (i - from) s i p.kept (omega (arith, some)) inside ten))
