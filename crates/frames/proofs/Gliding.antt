-- Plain stretches at once: the states that pass octets unchanged but for their counts.
-- Assumes nothing.
use mathlib.Core.Path.{◌≡◌, refl, sym, ◌∙◌, ap, ap₂, subst}
use mathlib.Core.Bool.{Bool, true, false, cond, ◌&&◌, ◌||◌, not, and_comm}
use mathlib.Core.List.{List, [], ◌∷◌, ◌++◌}
use Prim.Native.Nat.{ℕ, ◌+◌, ◌-◌, ◌≤◌, ◌<◌}
use native.Mathlib.Numerals.{one-add}
use native.Mathlib.Nat.{add-zero, add_assoc}
use native.Mathlib.Omega.{arith}
use lib.Dec.{eqb, leb}
use lib.ListN.{length, get_or, take, drop, take-append-drop, length-take, length-drop}
use lib.Seq.{drop-append-le, drop-drop, take-take, length-take-le}
use borrow.Author.Tests.{le-leb, leb-true, lt-ltb, not-true, eqb-true}
use Rattle.headers.specs.Rows.{every}
use Rattle.headers.specs.Text.{divides, ascii, Part, fresh, back, led, tails, owes, into, reads, plain, stops, opens, is_letter, itself, escape, Text, none, more}
use Rattle.headers.specs.Characters.{part_number, text_part}
use Rattle.headers.specs.Lines.{line_max}
use Rattle.headers.specs.declared.text.Style.{Style}
use Rattle.headers.specs.declared.text.Field.{Field}
use Rattle.headers.specs.declared.text.Field.TheVariants.{Name as in_name, Value as in_value}
use Rattle.headers.proofs.Stretches.{part_long, span_le, span_clear}
use Rattle.headers.proofs.Reading.{Feeds, text_feeds}
use Rattle.headers.proofs.Characters.{Goes, goes_text, text_then}
use Rattle.headers.proofs.Rows.{cond_case, and_left, and_right, and_no, and_yes, or_false_left, or_false_right}
use Rattle.frames.specs.declared.state.Scan.{Scan}
use Rattle.headers.specs.declared.plain.Stops.{Stops}
use Rattle.headers.specs.Stretches.{span, plain_in}
use Rattle.frames.specs.Scanning.{style_of, most_of, value_phase, on_value_by, on_value, on_name, on_body, on_counted, scan_step, scan, len_max, Valid, text_stops, not_zero, skip, Ahead}
use Rattle.frames.proofs.Validity.{most_small}

-- ---- Numbers of a state fit

pub line_short : {st : Scan} {p : ℕ} → Valid st → st.phase ≡ p → st.len ≤ len_max p
line_short v e = rw e at v.short

-- ---- States that pass octets unchanged but for their counts

-- st passes octets that pass p while its line or body is no longer than room
pub record Glides (p : ℕ → Bool) (room : ℕ) (st : Scan) : Type 0 where
  pub passes : (k x : ℕ) → st.len + k < room → p x ≡ true → scan_step (skip k st) x ≡ skip (k + 1) st
  pub stays : (k : ℕ) → st.len + k ≤ room → Valid (skip k st)

pub skip_zero : (st : Scan) → skip 0 st ≡ st
skip_zero st = simp add-zero

module _ (p : ℕ → Bool) (room : ℕ) (st : Scan) (g : Glides p room st) where
  glide : (k : ℕ) (xs ys : List ℕ) → st.len + k + length xs ≤ room
      → scan (skip k st) (xs ++ ys) ≡ scan (skip (k + span p xs) st) (drop (span p xs) xs ++ ys)
  unfolding span
  glide k [] ys h = sym (ap (λ n. scan (skip n st) ys) (add-zero k))
  glide k (x ∷ xs) ys h =
      cond_case (λ n. scan (skip k st) (x ∷ (xs ++ ys)) ≡ scan (skip (k + n) st) (drop n (x ∷ xs) ++ ys)) (p x)
      (λ t. ap (λ z. scan z (xs ++ ys)) (g.passes k x (omega arith) t)
      ∙ glide (k + 1) xs ys (omega arith)
      ∙ ap (λ n. scan (skip n st) (drop (span p xs) xs ++ ys)) (add_assoc k 1 (span p xs))
      ∙ ap (λ n. scan (skip (k + (1 + span p xs)) st) (drop n (x ∷ xs) ++ ys)) (sym (one-add (span p xs))))
      (λ t. sym (ap (λ n. scan (skip n st) (x ∷ (xs ++ ys))) (add-zero k)))

  pub ahead_by : (l : List ℕ) (i e k : ℕ) → i ≤ e → e ≤ length l → st.len + (e - i) ≤ room → k ≡ span p (take (e - i) (drop i l)) → Ahead l i st k
  ahead_by l i e k ie el fits is =
      let xs : List ℕ = take (e - i) (drop i l) in
      let ys : List ℕ = drop (e - i) (drop i l) in
      let long : length xs ≡ e - i = part_long l i e ie el in
      let short : k ≤ length xs = omega (arith, span_le p xs) in
      let first : 0 + span p xs ≡ k = omega arith in
      record {
        within = omega arith;
        kept = g.stays k (omega arith);
        same_end =
            ap (λ z. scan z (drop i l)) (sym (skip_zero st))
            ∙ ap (scan (skip 0 st)) (sym (take-append-drop (e - i) (drop i l)))
            ∙ glide 0 xs ys (omega arith)
            ∙ ap (λ n. scan (skip n st) (drop (span p xs) xs ++ ys)) first
            ∙ ap (λ n. scan (skip k st) (drop n xs ++ ys)) (sym is)
            ∙ ap (scan (skip k st)) (sym (drop-append-le k xs ys short) ∙ ap (drop k) (take-append-drop (e - i) (drop i l)) ∙ drop-drop k i l);
      }

-- an octet that ends a stretch only where a flag says so
flagged : (c : Bool) (k x : ℕ) → eqb x (cond c k 10) ≡ false → eqb x k && c ≡ false
flagged true k x h = and_yes (eqb x k) ∙ h
flagged false k x h = and_no (eqb x k)

-- what an octet that is itself in a name is not
pub plain_apart : (s : Style) (x : ℕ) → plain_in (text_stops s in_name) x ≡ true → (eqb x 10 ≡ false) × (eqb x 13 && s.crlf ≡ false) × (eqb x 58 ≡ false)
plain_apart s x k =
    let cr : ℕ = cond s.crlf 13 10 in
    let back : ℕ = cond s.escapes 92 10 in
    let h = or_false_left (eqb x 10 || eqb x cr || eqb x 58) (eqb x back) (not-true _ (and_left _ (leb x 127) k)) in
    let ends = or_false_left (eqb x 10 || eqb x cr) (eqb x 58) h in (
      or_false_left (eqb x 10) (eqb x cr) ends,
      flagged s.crlf 13 x (or_false_right (eqb x 10) (eqb x cr) ends),
      or_false_right (eqb x 10 || eqb x cr) (eqb x 58) h,
    )

-- an octet that is itself in header text
plain_octet : (s : Style) (f : Field) (x : ℕ) → plain_in (text_stops s f) x ≡ true → (plain s f x ≡ true) × (ascii x ≡ true)
plain_octet s f x k =
    let cr : ℕ = cond s.crlf 13 10 in
    let colon : ℕ = cond (divides s f) 58 10 in
    let back : ℕ = cond s.escapes 92 10 in
    let h = not-true _ (and_left _ (leb x 127) k) in
    let h₁ = or_false_left (eqb x 10 || eqb x cr || eqb x colon) (eqb x back) h in
    let h₂ = or_false_left (eqb x 10 || eqb x cr) (eqb x colon) h₁ in
    let r = flagged s.crlf 13 x (or_false_right (eqb x 10) (eqb x cr) h₂) in
    let c = flagged (divides s f) 58 x (or_false_right (eqb x 10 || eqb x cr) (eqb x colon) h₁) in
    let b = and_comm s.escapes (eqb x 92) ∙ flagged s.escapes 92 x (or_false_right (eqb x 10 || eqb x cr || eqb x colon) (eqb x back) h) in (
      simp (or_false_left (eqb x 10) (eqb x cr) h₂, r, c, b),
      lt-ltb x 128 (omega (arith, leb-true x 127 (and_right (not (eqb x 10 || eqb x cr || eqb x colon || eqb x back)) (leb x 127) k))),
    )

pub reads_plain : (s : Style) (f : Field) (x : ℕ) → plain_in (text_stops s f) x ≡ true → reads s f fresh x ≡ into fresh
reads_plain s f x k =
    let (p, a) = plain_octet s f x k in
    rw (not-true (stops s f x) (and_left (not (stops s f x)) (not (opens s x)) p), not-true (opens s x) (and_right (not (stops s f x)) (not (opens s x)) p), a)

span_any : (xs : List ℕ) → span (λ x. true) xs ≡ length xs
unfolding span
span_any [] = refl
span_any (x ∷ xs) = omega (arith, span_any xs)

module _ (st : Scan) (v : Valid st) where
  valid_on : (k : ℕ) → 2 < st.phase → st.len + k ≤ len_max st.phase → (st.phase ≡ 12 → st.len + k ≤ most_of st.command)
      → (st.phase ≡ 13 → st.len + k ≤ st.size) → Valid (skip k st)
  valid_on k far short body counted =
      record {
        known = v.known;
        few = v.few;
        short = short;
        small = v.small;
        place = omega arith;
        fresh_word = λ e. absurd (omega arith);
        word_so_far = λ e. absurd (omega arith);
        body_so_far = body;
        counted_so_far = counted;
        clean_code = v.clean_code;
        clean_match = v.clean_match;
        clean_rest = v.clean_rest;
        under_way = v.under_way;
        clean_size = v.clean_size;
        no_lines = v.no_lines;
        unsized = v.unsized;
      }

  -- in a value
  glides_value : {y : Style} → y ≡ style_of st.crlf st.command → st.phase ≡ 7 → Glides (plain_in (text_stops y in_value)) 512 st
  unfolding scan_step on_value
  glides_value same e =
      record {
        passes = λ k x h t.
            simp (e, reads_plain (style_of st.crlf st.command) in_value x (rw same at t), le-leb (st.len + (k + 1)) line_max (omega arith), v.clean_match (omega arith), v.clean_rest (λ q. omega arith) (λ q. omega arith), v.clean_code (omega arith), add_assoc);
        stays = λ k h. valid_on k (omega arith) (rw e h) (λ e'. absurd (omega arith)) (λ e'. absurd (omega arith));
      }

  -- in a name that is not content-length
  pub glides_name : {y : Style} {t : Stops} → y ≡ style_of st.crlf st.command → t ≡ text_stops y in_name → st.phase ≡ 5 → st.matched ≡ 15 → Glides (plain_in t) 511 st
  unfolding scan_step on_name
  glides_name same ends e m =
      record {
        passes = λ k x h t.
            simp (e, m, reads_plain (style_of st.crlf st.command) in_name x (rw (ends, same) at t), le-leb (st.len + (k + 2)) line_max (omega arith), v.clean_rest (λ q. omega arith) (λ q. omega arith), v.clean_code (omega arith), add_assoc);
        stays = λ k h. valid_on k (omega arith) (rw e h) (λ e'. absurd (omega arith)) (λ e'. absurd (omega arith));
      }

  -- in a body without a length
  pub glides_body : st.phase ≡ 12 → Glides not_zero (most_of st.command) st
  unfolding scan_step on_body
  glides_body e =
      record {
        passes = λ k x h t.
            simp (
              e,
              not-true (eqb x 0) t,
              lt-ltb (st.len + k) (most_of st.command) h,
              v.clean_match (omega arith),
              v.clean_rest (λ q. omega arith) (λ q. omega arith),
              v.clean_code (omega arith),
              v.clean_size (v.unsized e) (λ e'. omega arith),
              add_assoc,
            );
        stays = λ k h. valid_on k (omega arith) (rw e (omega (arith, most_small st.command))) (λ e'. h) (λ e'. absurd (omega arith));
      }

  -- in a body with one
  pub glides_counted : st.phase ≡ 13 → Glides (λ x. true) st.size st
  unfolding scan_step on_counted
  glides_counted e =
      record {
        passes = λ k x h t. simp (e, lt-ltb (st.len + k) st.size h, v.clean_match (omega arith), v.clean_rest (λ q. omega arith) (λ q. omega arith), v.clean_code (omega arith), add_assoc);
        stays = λ k h. valid_on k (omega arith) (rw e (omega arith)) (λ e'. absurd (omega arith)) (λ e'. h);
      }

  -- any octets of it
  pub ahead_counted : st.phase ≡ 13 → (l : List ℕ) (i e : ℕ) → i ≤ e → e ≤ length l → st.len + (e - i) ≤ st.size → Ahead l i st (e - i)
  ahead_counted ph l i e ie el fits =
      ahead_by (λ x. true) st.size st (glides_counted ph) l i e (e - i) ie el fits
      (sym (span_any (take (e - i) (drop i l)) ∙ part_long l i e ie el))

-- ---- Text of a value at once: each octet leads on, inside its characters too

-- the state k octets on, in a character that is read as far as p
abbrev value_at : Scan → ℕ → Part → Scan
value_at st k p =
    record {
      phase = value_phase p;
      command = st.command;
      lines = st.lines;
      matched = st.matched;
      sized = st.sized;
      size = st.size;
      len = st.len + k;
      at = st.at + k;
      code = st.code;
      rest = part_number p;
      crlf = st.crlf;
    }

module _ (st : Scan) (v : Valid st) (e : st.phase ≡ 7) where
  leads : (k : ℕ) (p q : Part) (x : ℕ) → st.len + k + 1 + owes q ≤ 512 → on_value_by (value_at st k p) x (into q) ≡ value_at st (k + 1) q
  leads k p q x fits = simp (le-leb (st.len + (k + (1 + owes q))) line_max (omega arith), v.clean_match (omega arith), v.clean_code (omega arith), add_assoc)

  -- one octet
  value_on : (k : ℕ) (p q : Part) (x : ℕ) → text_part (part_number p) ≡ p → reads (style_of st.crlf st.command) in_value p x ≡ into q → st.len + k + 1 + owes q ≤ 512
      → scan_step (value_at st k p) x ≡ value_at st (k + 1) q
  unfolding scan_step on_value
  value_on k fresh q x same h fits = ap (on_value_by (value_at st k fresh) x) h ∙ leads k fresh q x fits
  value_on k back q x same h fits = ap (on_value_by (value_at st k back) x) h ∙ leads k back q x fits
  value_on k (led y) q x same h fits =
      ap (λ z. on_value_by (value_at st k (led y)) x (reads (style_of st.crlf st.command) in_value z x)) same ∙ ap (on_value_by (value_at st k (led y)) x) h ∙ leads k (led y) q x fits
  value_on k (tails j) q x same h fits =
      ap (λ z. on_value_by (value_at st k (tails j)) x (reads (style_of st.crlf st.command) in_value z x)) same ∙ ap (on_value_by (value_at st k (tails j)) x) h ∙ leads k (tails j) q x fits

  -- a row of them that ends a character
  value_through : (k : ℕ) (p : Part) (xs ys : List ℕ) → text_part (part_number p) ≡ p → Feeds (style_of st.crlf st.command) in_value p xs fresh → st.len + k + length xs ≤ 512
      → scan (value_at st k p) (xs ++ ys) ≡ scan (value_at st (k + length xs) fresh) ys
  value_through k p [] ys same fed fits = ap (λ q. scan (value_at st k q) ys) fed ∙ ap (λ n. scan (value_at st n fresh) ys) (sym (add-zero k))
  value_through k p (x ∷ xs) ys same (q, h, owed, fed) fits =
      let next : text_part (part_number q) ≡ q = (subst Goes (ap (λ z. reads (style_of st.crlf st.command) in_value z x) same ∙ h) (goes_text (style_of st.crlf st.command) in_value (part_number p) x)).1 in
      ap (λ z. scan z (xs ++ ys)) (value_on k p q x same h (omega (arith, owed)))
      ∙ value_through (k + 1) q xs ys next fed (omega arith)
      ∙ ap (λ n. scan (value_at st n fresh) ys) (add_assoc k 1 (length xs) ∙ ap (k +◌) (one-add (length xs)))

  at_last : (k : ℕ) → value_at st k fresh ≡ skip k st
  at_last k = simp (e, v.clean_rest (λ q. omega arith) (λ q. omega arith))

  at_first : value_at st 0 fresh ≡ st
  at_first = at_last 0 ∙ skip_zero st

  pub ahead_text : {y : Style} → y ≡ style_of st.crlf st.command → (l : List ℕ) (i k : ℕ) → i + k ≤ length l → st.len + k ≤ 512 → Text y in_value (take k (drop i l)) → Ahead l i st k
  ahead_text same l i k within fits t =
      let xs : List ℕ = take k (drop i l) in
      let long : length xs ≡ k = length-take-le k (drop i l) (omega (arith, length-drop i l)) in
      let fed = text_feeds (style_of st.crlf st.command) in_value (subst (λ s. Text s in_value xs) same t) in
      record {
        within = within;
        kept = valid_on st v k (omega arith) (rw e (omega arith)) (λ e'. absurd (omega arith)) (λ e'. absurd (omega arith));
        same_end =
            ap₂ scan (sym at_first) (sym (take-append-drop k (drop i l)))
            ∙ value_through 0 fresh xs (drop k (drop i l)) refl fed (omega (arith, long))
            ∙ ap (λ n. scan (value_at st n fresh) (drop k (drop i l))) (let z : 0 + length xs ≡ k = omega (arith, long) in z)
            ∙ ap₂ scan (at_last k) (drop-drop k i l);
      }

-- plain octets are text
plain_text : (s : Style) (f : Field) (xs : List ℕ) → every (plain_in (text_stops s f)) xs ≡ true → Text s f xs
plain_text s f [] h = none
plain_text s f (x ∷ xs) h =
    let k = and_left (plain_in (text_stops s f) x) _ h in
    let (p, a) = plain_octet s f x k in
    more (itself p a) (plain_text s f xs (and_right (plain_in (text_stops s f) x) _ h))

-- as many as a search passes
pub span_clears : (p : ℕ → Bool) (l : List ℕ) (i e k : ℕ) → k ≡ span p (take (e - i) (drop i l)) → every p (take k (drop i l)) ≡ true
span_clears p l i e k is =
    let xs : List ℕ = take (e - i) (drop i l) in
    let all : every p (take k xs) ≡ true = subst (λ m. every p (take m xs) ≡ true) (sym is) (span_clear p p (λ x h. h) xs) in
    let short : k ≤ e - i = omega (arith, is, span_le p xs, length-take (e - i) (drop i l)) in
    subst (λ z. every p z ≡ true) (take-take k (e - i) (drop i l) short) all

pub span_text : (s : Style) (f : Field) {t : Stops} → t ≡ text_stops s f → (l : List ℕ) (i e k : ℕ) → k ≡ span (plain_in t) (take (e - i) (drop i l)) → Text s f (take k (drop i l))
span_text s f same l i e k is = plain_text s f (take k (drop i l)) (span_clears (plain_in (text_stops s f)) l i e k (rw same at is))

-- the same from the front
pub front_text : (s : Style) (f : Field) {t : Stops} → t ≡ text_stops s f → (l : List ℕ) (k : ℕ) → k ≡ span (plain_in t) l → Text s f (take k l)
front_text s f same l k is =
    let p : ℕ → Bool = plain_in (text_stops s f) in
    let n : k ≡ span p l = rw same at is in
    plain_text s f (take k l) (subst (λ m. every p (take m l) ≡ true) (sym n) (span_clear p p (λ x h. h) l))

-- text from i to j, then characters, then octets that a search passes
pub text_on : (s : Style) (f : Field) {t : Stops} → t ≡ text_stops s f → (l : List ℕ) (i j e k m : ℕ) → i ≤ j → k ≤ e - j → Text s f (take (j - i) (drop i l))
    → Text s f (take k (take (e - j) (drop j l))) → m ≡ span (plain_in t) (take (e - (j + k)) (drop (j + k) l)) → Text s f (take (j + k + m - i) (drop i l))
text_on s f same l i j e k m ij ke first next is =
    let d : ℕ = j - i in
    let at : i + d ≡ j = omega arith in
    let at₂ : i + (d + k) ≡ j + k = omega arith in
    let all : d + k + m ≡ j + k + m - i = omega arith in
    let here : Text s f (take k (drop (i + d) l)) = subst (λ n. Text s f (take k (drop n l))) (sym at) (subst (Text s f) (take-take k (e - j) (drop j l) ke) next) in
    let after : Text s f (take m (drop (i + (d + k)) l)) = subst (λ n. Text s f (take m (drop n l))) (sym at₂) (span_text s f same l (j + k) e m is) in
    subst (λ n. Text s f (take n (drop i l))) all (text_then s f l i (d + k) m (text_then s f l i d k first here) after)

-- the same from the front
pub text_more : (s : Style) (f : Field) {t : Stops} → t ≡ text_stops s f → (l : List ℕ) (j k m : ℕ) → k ≤ length l - j → Text s f (take j l)
    → Text s f (take k (take (length l - j) (drop j l))) → m ≡ span (plain_in t) (take (length l - (j + k)) (drop (j + k) l)) → Text s f (take (j + k + m) l)
text_more s f same l j k m ke first next is =
    let before : j ≡ j - 0 = omega arith in
    let all : j + k + m - 0 ≡ j + k + m = omega arith in
    subst (λ n. Text s f (take n l)) all
    (text_on s f same l 0 j (length l) k m (omega arith) ke (subst (λ n. Text s f (take n l)) before first) next is)

-- a whole escape
pub escape_text : (s : Style) (xs : List ℕ) → 2 ≤ length xs → opens s (get_or xs 0 0) ≡ true → is_letter s (get_or xs 1 0) ≡ true → Text s in_value (take 2 xs)
escape_text s [] h o l = absurd (omega arith)
escape_text s (x ∷ []) h o l = absurd (omega arith)
escape_text s (x ∷ y ∷ ys) h o l =
    let e : x ≡ 92 = eqb-true x 92 (and_right s.escapes (eqb x 92) o) in
    subst (λ z. Text s in_value (z ∷ y ∷ [])) (sym e) (more (escape {x = y} (and_left s.escapes (eqb x 92) o) l) none)
