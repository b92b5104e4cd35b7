-- Parsing in numbers gives the same replies. Assumes nothing.
use mathlib.Core.Path.{◌≡◌, refl, sym, ◌∙◌, ap}
use mathlib.Core.Bool.{Bool, true, false, cond, ◌&&◌, not}
use mathlib.Core.Option.{Option, none, some}
use mathlib.Core.List.{List, [], ◌∷◌, ◌++◌}
use Prim.Native.Nat.{ℕ, zero, suc, ◌+◌, ◌-◌}
use native.Mathlib.Omega.{arith}
use native.Mathlib.Nat.{add-zero, add_assoc}
use lib.ListN.{length, take, get_or, length-append}
use lib.Dec.{eqb, leb, ltb, eqb-suc-zero, eqb-zero-suc, eqb-suc-suc}
use borrow.Author.Tests.{ne_eqb, eq-eqb, leb-true, ltb-false, lt-ltb, le-ltb}
use Rattle.headers.proofs.Reading.{missing_high, missing_few}
use Rattle.headers.specs.declared.text.Style.{Style}
use Rattle.headers.specs.declared.text.Field.{Field}
use Rattle.headers.specs.Rows.{same, every, begins, empty}
use Rattle.headers.specs.Characters.{part_number, text_part}
use Rattle.headers.specs.Text.{Part, fresh, back, led, tails, Raw, owes, Into, into, bad, stop, reads}
use Rattle.headers.specs.Numbers.{is_digit, decimal}
use Rattle.headers.specs.Lines.{content_length}
use Rattle.headers.specs.declared.text.Field.TheVariants.{Name as in_name, Value as in_value}
use Rattle.headers.proofs.Rows.{and_left, and_right, same_eq, cond_case, every_right, every_last, empty_eqb, begins_snoc, begins_front, front_of, first_some}
use Rattle.headers.proofs.Decimals.{decimal_none, decimal_snoc}
use Rattle.frames.specs.Machine.{Next, go, done, refuse, Run, run, going, finished, stopped, after}
use Rattle.frames.specs.Grammar.{crlf, Shaped, Command, number, word, style, most, Head, Tree, heart_beat, frame, octets, declared, head, end}
use Rattle.frames.specs.declared.version.Version.{Version}
use Rattle.frames.specs.Open.{Open, start, heart_beat_13, command, command_13, begin, name, value, line_13, blank_13, body, all, opened, entry, unseen, watched, partial_amount, so_far, Ok, NameOk, ValueOk}
use Rattle.frames.specs.Replies.{Reply, told}
use Rattle.frames.specs.Replies as reply
use Rattle.frames.specs.Parsing.{first, word_end, word_next, at_word, at_start, name_next, at_name, at_begin, one_more, value_next, at_value, body_next, at_body, step, answer, parsed}
use Rattle.frames.specs.declared.state.Scan.{Scan}
use Rattle.frames.specs.Scanning.{number_of, word_of, next_command, whole_command, advance, name_phase, value_phase, on_more, on_word, on_start, on_name_by, on_name, on_begin, on_value_by, on_value, on_length_by, on_length, on_body, on_counted, scan_step, scan, nothing_read, scan_reply, invalid}
use Rattle.frames.proofs.Sound.{sound, declared_append}
use Rattle.frames.proofs.EachCommand.{each_same}
use Rattle.frames.proofs.Reach.{finds}
use Rattle.frames.proofs.Recognizing.{exact_run}
use Rattle.frames.proofs.Recognizer.{After, Says}

-- ---- what a state of numbers shows of an open tree of n octets

abbrev sized_of : Option (List ℕ) → Bool
sized_of none = false
sized_of (some v) = true

abbrev size_of : Option (List ℕ) → ℕ
size_of none = 0
size_of (some v) = decimal 0 v

-- octets of content-length, or 15
unfoldable matched_of : List ℕ → ℕ
matched_of raw = cond (begins raw content_length) (length raw) 15

-- ---- commands

pub word_number : (c : Command) → word_of (number c) ≡ word c
word_number = each_same (λ c. word_of (number c)) word refl

pub some_number : (c : Command) → eqb (number c) 0 ≡ false
some_number = each_same (λ c. eqb (number c) 0) (λ c. false) refl

-- the octets of a command that stand read, from the command's number and how many they are
word_read : (ver : Version) (raw : List ℕ) → Ok ver (command raw) → take (length raw) (word_of (number_of (first (begins raw) all))) ≡ raw
word_read ver raw (c, w, e, ne) =
    let (d, k) = finds (begins raw) c (rw e (begins_front raw w)) in
    rw (k, word_number) (front_of raw (word d) (first_some (λ c. begins raw (word c)) all d k))

-- ---- names against content-length

matched_snoc : (raw : List ℕ) (x : ℕ) → matched_of (raw ++ (x ∷ [])) ≡ advance (matched_of raw) x
unfolding matched_of
matched_snoc raw x = rw (begins_snoc, length-append) (by (begins raw content_length) (ltb (length raw) 14) (eqb x (get_or content_length (length raw) 0)) refl refl)
  where
    by : (t u v : Bool) → ltb (length raw) 14 ≡ u → eqb x (get_or content_length (length raw) 0) ≡ v → cond (t && (u && v)) (length raw + 1) 15 ≡ advance (cond t (length raw) 15) x
    by true u v e f = rw (e, f)
    by false u v e f = refl

begins_same : (p r : List ℕ) → same r p ≡ begins r p && eqb (length r) (length p)
begins_same [] [] = refl
begins_same (y ∷ p) [] = sym (eqb-zero-suc (length p))
begins_same [] (z ∷ r) = refl
begins_same (y ∷ p) (z ∷ r) = by (eqb z y) (begins_same p r)
  where
    by : (t : Bool) → same r p ≡ begins r p && eqb (length r) (length p) → t && same r p ≡ (t && begins r p) && eqb (suc (length r)) (suc (length p))
    by true ih = rw eqb-suc-suc ih
    by false ih = refl

matched_same : (raw : List ℕ) → same raw content_length ≡ eqb (matched_of raw) 14
unfolding matched_of
matched_same raw = begins_same content_length raw ∙ by (begins raw content_length)
  where
    by : (t : Bool) → t && eqb (length raw) 14 ≡ eqb (cond t (length raw) 15) 14
    by true = refl
    by false = refl

matched_none : matched_of [] ≡ 0
unfolding matched_of
matched_none = refl

unseen_sized : (d : Option (List ℕ)) → unseen d ≡ not (sized_of d)
unseen_sized none = refl
unseen_sized (some v) = refl

-- ---- one line more

sized_opened : (d : Option (List ℕ)) (t : Bool) (v : List ℕ) → sized_of (cond (unseen d) (cond t (some v) none) d) ≡ cond (unseen d && t) true (sized_of d)
sized_opened none true v = refl
sized_opened none false v = refl
sized_opened (some u) t v = refl

size_opened : (d : Option (List ℕ)) (t : Bool) (v : List ℕ) → size_of (cond (unseen d) (cond t (some v) none) d) ≡ cond (unseen d && t) (decimal 0 v) (size_of d)
size_opened none true v = refl
size_opened none false v = refl
size_opened (some u) t v = refl

-- ---- one octet

module _ (ver : Version) where
  abbrev shown_in : ℕ → Head → ℕ → ℕ → ℕ → ℕ → ℕ → Scan
  shown_in p h m s l n r = record { phase = p; command = number h.command; lines = length h.entries; matched = m; sized = sized_of (declared h.entries); size = s; len = l; at = n; code = 0; rest = r; crlf = crlf ver }

  abbrev shown : ℕ → Head → ℕ → ℕ → ℕ → ℕ → Scan
  shown p h m s l n = shown_in p h m s l n 0

  abbrev headed : ℕ → Head → ℕ → Scan
  headed p h n = shown p h 0 (size_of (declared h.entries)) 0 n

  abbrev bare : ℕ → ℕ → ℕ → Scan
  bare p c n = record { phase = p; command = c; lines = 0; matched = 0; sized = false; size = 0; len = 0; at = n; code = 0; rest = 0; crlf = crlf ver }

  abbrev view : ℕ → Open → Scan
  view n start = bare 0 0 n
  view n heart_beat_13 = bare 1 0 n
  view n (command raw) = bare 2 (number_of (first (begins raw) all)) n
  view n (command_13 c) = bare 3 (number c) n
  view n (begin h) = headed 4 h n
  view n (name h raw p) = shown_in (name_phase p) h (matched_of raw) (size_of (declared h.entries)) (length raw) n (part_number p)
  view n (value h m raw p) =
      cond (watched h m) (shown 9 h 0 (decimal 0 raw) (length m + 1 + length raw) n)
      (shown_in (value_phase p) h 0 (size_of (declared h.entries)) (length m + 1 + length raw) n (part_number p))
  view n (line_13 h m v) = headed 10 (opened h (entry m v true)) n
  view n (blank_13 h) = headed 11 h n
  view n (body h e b) = shown (cond (sized_of (declared h.entries)) 13 12) h 0 (size_of (declared h.entries)) (length b) n

  abbrev view_tree : ℕ → Tree → Scan
  view_tree n (heart_beat e) = bare 14 0 n
  view_tree n (frame h e b) = record { phase = 15; command = number h.command; lines = length h.entries; matched = 0; sized = false; size = 0; len = length b; at = n; code = 0; rest = 0; crlf = crlf ver }

  -- what one octet does after n octets
  abbrev seen : ℕ → Next Open Tree → Scan
  seen n (go s) = view (n + 1) s
  seen n (done t) = view_tree (n + 1) t
  seen n (refuse k) = record { phase = 16; command = 0; lines = 0; matched = 0; sized = false; size = 0; len = 0; at = n; code = k; rest = 0; crlf = crlf ver }

  seen_cond : (n : ℕ) (t : Bool) (a b : Next Open Tree) → seen n (cond t a b) ≡ cond t (seen n a) (seen n b)
  seen_cond n true a b = refl
  seen_cond n false a b = refl

  headed_opened : (p n : ℕ) (h : Head) (m v : List ℕ) (e : Bool)
      → headed p (opened h (entry m v e)) n
      ≡ record { phase = p; command = number h.command; lines = length h.entries + 1; matched = 0; sized = cond (watched h m) true (sized_of (declared h.entries)); size = cond (watched h m) (decimal 0 v) (size_of (declared h.entries)); len = 0; at = n; code = 0; rest = 0; crlf = crlf ver }
  headed_opened p n h m v e = rw (length-append, declared_append, sized_opened, size_opened)

  show_word : (raw : List ℕ) (x n c : ℕ) → take n (word_of c) ≡ raw → on_word (bare 2 c n) x ≡ seen n (at_word ver raw x)
  unfolding on_word next_command whole_command at_word
  show_word raw x n c e = rw e (longer (first (begins (raw ++ (x ∷ []))) all) refl)
    where
      ended : (o : Option Command) → cond (eqb (number_of o) 0) (invalid (bare 2 c n) 1) (cond (eqb x 10) (bare 4 (number_of o) (n + 1)) (cond (eqb x 13 && crlf ver) (bare 3 (number_of o) (n + 1)) (invalid (bare 2 c n) 1))) ≡ seen n (word_end ver o x)
      ended none = refl
      ended (some d) = rw (some_number d) (sym (seen_cond n (eqb x 10) _ _ ∙ ap (cond (eqb x 10) (bare 4 (number d) (n + 1))) (seen_cond n (eqb x 13 && crlf ver) _ _)))

      longer : (o : Option Command) → first (begins (raw ++ (x ∷ []))) all ≡ o
          → cond (eqb (number_of o) 0) (cond (eqb (number_of (first (same raw) all)) 0) (invalid (bare 2 c n) 1) (cond (eqb x 10) (bare 4 (number_of (first (same raw) all)) (n + 1)) (cond (eqb x 13 && crlf ver) (bare 3 (number_of (first (same raw) all)) (n + 1)) (invalid (bare 2 c n) 1)))) (bare 2 (number_of o) (n + 1))
          ≡ seen n (word_next ver o raw x)
      longer none k = ended (first (same raw) all)
      longer (some d) k = rw (some_number d, k)

  show_start : (x : ℕ) → on_start (bare 0 0 0) x ≡ seen 0 (at_start ver x)
  unfolding on_start at_start on_word
  show_start x = simp seen_cond (ap (λ z. cond (eqb x 10) (bare 14 0 1) (cond (eqb x 13 && crlf ver) (bare 1 0 1) z)) (show_word [] x 0 0 refl))

  show_name : (h : Head) (raw : List ℕ) (p q : Part) (x n : ℕ) → on_name (view n (name h raw q)) p x ≡ seen n (at_name ver h raw p x)
  unfolding on_name at_name
  show_name h raw p q x n = by (reads (style ver h.command) in_name p x)
    where
      started : cond (not (sized_of (declared h.entries)) && eqb (matched_of raw) 14) (shown 9 h 0 0 (length raw + 1) (n + 1)) (shown 7 h 0 (size_of (declared h.entries)) (length raw + 1) (n + 1)) ≡ view (n + 1) (value h raw [] fresh)
      started = rw (← unseen_sized, ← matched_same, decimal_none, add-zero)

      by : (i : Into) → on_name_by (view n (name h raw q)) x i ≡ seen n (name_next h raw x i)
      by (into r) = simp (seen_cond, matched_snoc, length-append)
      by (bad k) = refl
      by stop = simp (seen_cond, empty_eqb, ← started)

  show_begin : (h : Head) (x n : ℕ) → on_begin (headed 4 h n) x ≡ seen n (at_begin ver h x)
  unfolding on_begin at_begin on_name matched_of
  show_begin h x n = simp (seen_cond, ← show_name h [] fresh fresh x n, more_shown (reads (style ver h.command) in_name fresh x))
    where
      more_shown : (i : Into) → on_more (headed 4 h n) i ≡ seen n (one_more i)
      more_shown (into q) = refl
      more_shown (bad k) = refl
      more_shown stop = refl

  -- a value that declares no length
  show_value : (h : Head) (m raw : List ℕ) (p : Part) (x n : ℕ) → watched h m ≡ false
      → on_value (shown_in (value_phase p) h 0 (size_of (declared h.entries)) (length m + 1 + length raw) n (part_number p)) p x ≡ seen n (at_value ver h m raw p x)
  unfolding on_value at_value
  show_value h m raw p x n w = by (reads (style ver h.command) in_value p x)
    where
      longer : (r : Part) → length m + 1 + (length raw + 1) + owes r ≡ length m + 1 + length raw + 1 + owes r
      longer r = omega arith

      by : (i : Into) → on_value_by (shown_in (value_phase p) h 0 (size_of (declared h.entries)) (length m + 1 + length raw) n (part_number p)) x i ≡ seen n (value_next ver h m raw x i)
      by (into r) = simp (w, seen_cond, longer, length-append, ← add_assoc)
      by (bad k) = refl
      by stop = simp (w, seen_cond, headed_opened)

  -- the first content-length
  show_length : (h : Head) (m raw : List ℕ) (x n : ℕ) → watched h m ≡ true → partial_amount (most h.command) raw ≡ true
      → on_length (shown 9 h 0 (decimal 0 raw) (length m + 1 + length raw) n) x ≡ seen n (at_value ver h m raw fresh x)
  unfolding on_length at_value
  show_length h m raw x n w a = by (reads (style ver h.command) in_value fresh x)
    where
      digits : every is_digit raw ≡ true
      digits = and_left (every is_digit raw) (leb (decimal 0 raw) (most h.command)) a

      longer : (r : Part) → length m + 1 + (length raw + 1) + owes r ≡ length m + 1 + length raw + 1 + owes r
      longer r = omega arith

      named : length m ≡ 14
      named = ap length (same_eq m content_length (and_right (unseen (declared h.entries)) (same m content_length) w))

      no_digit : empty raw ≡ eqb (length m + 1 + length raw) 15
      no_digit = empty_eqb raw ∙ by_length (length raw)
        where
          by_length : (k : ℕ) → eqb k 0 ≡ eqb (length m + 1 + k) 15
          by_length zero = sym (eq-eqb (length m + 1 + 0) 15 (omega (arith, named)))
          by_length (suc k) = eqb-suc-zero k ∙ sym (ne_eqb (length m + 1 + suc k) 15 (λ e. omega (arith, named)))

      turned : (t : Bool) (b c : Scan) → cond (not t) b c ≡ cond t c b
      turned true b c = refl
      turned false b c = refl

      by : (i : Into) → on_length_by (shown 9 h 0 (decimal 0 raw) (length m + 1 + length raw) n) x i ≡ seen n (value_next ver h m raw x i)
      by (into r) = simp (w, seen_cond, every_last is_digit raw x digits, turned, longer, length-append, decimal_snoc, ← add_assoc)
      by (bad k) = refl
      by stop = simp (w, seen_cond, no_digit, headed_opened)

  show_body : (h : Head) (e : Bool) (b : List ℕ) (x n : ℕ) → scan_step (view n (body h e b)) x ≡ seen n (at_body h e b x)
  unfolding scan_step on_body on_counted at_body
  show_body h e b x n = by (declared h.entries) refl
    where
      by : (d : Option (List ℕ)) → declared h.entries ≡ d → scan_step (view n (body h e b)) x ≡ seen n (body_next (most h.command) (declared h.entries) h e b x)
      by none k = simp (k, seen_cond, length-append)
      by (some v) k = simp (k, seen_cond, length-append)

  -- while a length is read no character is begun
  digits_end : (raw front pend : List ℕ) → every is_digit raw ≡ true → raw ≡ front ++ pend → every is_digit pend ≡ true
  digits_end raw front pend d e = every_right is_digit front pend (rw e at d)

  no_part : (h : Head) (m raw : List ℕ) (p : Part) → ValueOk ver h m raw p → watched h m ≡ true → p ≡ fresh
  no_part h m raw p ok w = by p ok.text (and_left (every is_digit raw) (leb (decimal 0 raw) (most h.command)) (ok.len w))
    where
      by : (p : Part) → Raw (style ver h.command) in_value raw p → every is_digit raw ≡ true → p ≡ fresh
      by fresh r d = refl
      by back r d =
          let last : every is_digit (92 ∷ []) ≡ true = rw r.part.1 at (digits_end raw r.front r.pend d r.whole) in
          let z : ◌≡◌ {A = ℕ} 0 1 = cc in
          absurd (omega arith)
      by (led y) r d =
          let last : every is_digit (y ∷ []) ≡ true = rw r.part.1 at (digits_end raw r.front r.pend d r.whole) in
          let low = leb-true y 57 (and_right (leb 48 y) (leb y 57) (and_left (is_digit y) true last)) in
          absurd (omega (arith, ltb-false y 128 (missing_high y r.part.0)))
      by (tails k) r d =
          let c = r.part in
          let last : every is_digit (c.first ∷ c.next ∷ c.rest) ≡ true = rw c.whole at (digits_end raw r.front r.pend d r.whole) in
          let low = leb-true c.first 57 (and_right (leb 48 c.first) (leb c.first 57) (and_left (is_digit c.first) _ last)) in
          absurd (omega (arith, ltb-false c.first 128 (missing_high c.first (omega (arith, c.long)))))

  -- how far a character is read, read back off its number
  part_back : {s : Style} {f : Field} {raw : List ℕ} (p : Part) → Raw s f raw p → (p ≡ fresh → ⊥) → text_part (part_number p) ≡ p
  part_back fresh r n = absurd (n refl)
  part_back back r n = refl
  part_back (led y) r n = let h = ltb-false y 128 (missing_high y r.part.0) in rw (ne_eqb y 92 (omega arith), ne_eqb y 0 (omega arith), le-ltb y 3 (omega arith))
  part_back (tails k) r n =
      let c = r.part in
      let few = missing_few c.first in
      rw (ne_eqb k 92 (omega (arith, c.long)), ne_eqb k 0 (λ e. omega (arith, c.some_left)), lt-ltb k 3 (omega (arith, c.long)))

  show_in_name : (h : Head) (raw : List ℕ) (p : Part) (x n : ℕ) → NameOk ver h raw p → scan_step (view n (name h raw p)) x ≡ seen n (at_name ver h raw p x)
  unfolding scan_step
  show_in_name h raw fresh x n ok = show_name h raw fresh fresh x n
  show_in_name h raw back x n ok = show_name h raw back back x n
  show_in_name h raw (led y) x n ok = rw (part_back (led y) ok.text (λ e. let z : ◌≡◌ {A = ℕ} 0 1 = cc in omega arith)) (show_name h raw (led y) (led y) x n)
  show_in_name h raw (tails k) x n ok = rw (part_back (tails k) ok.text (λ e. let z : ◌≡◌ {A = ℕ} 0 1 = cc in omega arith)) (show_name h raw (tails k) (tails k) x n)

  show_in_value : (h : Head) (m raw : List ℕ) (p : Part) (x n : ℕ) → ValueOk ver h m raw p → scan_step (view n (value h m raw p)) x ≡ seen n (at_value ver h m raw p x)
  unfolding scan_step
  show_in_value h m raw p x n ok = by p ok (watched h m) refl
    where
      by : (p : Part) → ValueOk ver h m raw p → (t : Bool) → watched h m ≡ t → scan_step (view n (value h m raw p)) x ≡ seen n (at_value ver h m raw p x)
      by fresh ok true w = rw w (show_length h m raw x n w (ok.len w))
      by fresh ok false w = rw w (show_value h m raw fresh x n w)
      by back ok true w = let e = no_part h m raw back ok w in let z : ◌≡◌ {A = ℕ} 0 1 = cc in absurd (omega arith)
      by back ok false w = rw w (show_value h m raw back x n w)
      by (led y) ok true w = let e = no_part h m raw (led y) ok w in let z : ◌≡◌ {A = ℕ} 0 1 = cc in absurd (omega arith)
      by (led y) ok false w = rw (w, part_back (led y) ok.text (λ e. let z : ◌≡◌ {A = ℕ} 0 1 = cc in omega arith)) (show_value h m raw (led y) x n w)
      by (tails k) ok true w = let e = no_part h m raw (tails k) ok w in let z : ◌≡◌ {A = ℕ} 0 1 = cc in absurd (omega arith)
      by (tails k) ok false w = rw (w, part_back (tails k) ok.text (λ e. let z : ◌≡◌ {A = ℕ} 0 1 = cc in omega arith)) (show_value h m raw (tails k) x n w)

  shows : (s : Open) (x n : ℕ) → Ok ver s → n ≡ length (so_far s) → scan_step (view n s) x ≡ seen n (step ver s x)
  unfolding scan_step
  shows start x n ok e = rw e (show_start x)
  shows heart_beat_13 x n ok e = simp seen_cond
  shows (command raw) x n ok e = show_word raw x n _ (rw e (word_read ver raw ok))
  shows (command_13 c) x n ok e = simp seen_cond
  shows (begin h) x n ok e = show_begin h x n
  shows (name h raw p) x n ok e = show_in_name h raw p x n ok
  shows (value h m raw p) x n ok e = show_in_value h m raw p x n ok
  shows (line_13 h m v) x n ok e = simp seen_cond
  shows (blank_13 h) x n ok e = simp seen_cond
  shows (body h e b) x n ok q = show_body h e b x n

  -- ---- a row of octets

  stays : (st : Scan) → ((x : ℕ) → scan_step st x ≡ st) → (xs : List ℕ) → scan st xs ≡ st
  stays st h [] = refl
  stays st h (x ∷ xs) = rw h (stays st h xs)

  -- what is told of a tree of u octets
  abbrev tell : ℕ → Tree → Reply
  tell u (heart_beat e) = reply.Complete 1 u 0 0 0 0
  tell u (frame h e b) = reply.Complete 2 u (number h.command) (length h.entries) (u - 1 - length b) (length b)

  -- what a run over xs comes to, after n octets
  abbrev comes : ℕ → List ℕ → Run Open Tree → Reply
  comes n xs (going s) = reply.Incomplete
  comes n xs (finished t rest) = tell (n + length xs - length rest) t
  comes n xs (stopped k rest) = reply.Invalid k (n + length xs - length rest)

  comes_more : (n x : ℕ) (xs : List ℕ) (r : Run Open Tree) → comes (n + 1) xs r ≡ comes n (x ∷ xs) r
  comes_more n x xs (going s) = refl
  comes_more n x xs (finished t rest) = ap (λ u. tell u t) (omega arith)
  comes_more n x xs (stopped k rest) = ap (reply.Invalid k) (omega arith)

  open_reply : (n : ℕ) (s : Open) → scan_reply (view n s) ≡ reply.Incomplete
  open_reply n start = refl
  open_reply n heart_beat_13 = refl
  open_reply n (command raw) = refl
  open_reply n (command_13 c) = refl
  open_reply n (begin h) = refl
  open_reply n (name h raw fresh) = refl
  open_reply n (name h raw back) = refl
  open_reply n (name h raw (led y)) = refl
  open_reply n (name h raw (tails k)) = refl
  open_reply n (value h m raw p) = cond_case (λ st. scan_reply st ≡ reply.Incomplete) (watched h m) (λ t. refl) (λ t. in_value p)
    where
      in_value : (p : Part) → scan_reply (shown_in (value_phase p) h 0 (size_of (declared h.entries)) (length m + 1 + length raw) n (part_number p)) ≡ reply.Incomplete
      in_value fresh = refl
      in_value back = refl
      in_value (led y) = refl
      in_value (tails k) = refl
  open_reply n (line_13 h m v) = refl
  open_reply n (blank_13 h) = refl
  open_reply n (body h e b) = cond_case (λ p. scan_reply (shown p h 0 (size_of (declared h.entries)) (length b) n) ≡ reply.Incomplete) (sized_of (declared h.entries)) (λ t. refl) (λ t. refl)

  tree_reply : (n : ℕ) (t : Tree) (xs : List ℕ) → scan_reply (scan (view_tree n t) xs) ≡ tell n t
  unfolding scan_step
  tree_reply n (heart_beat e) xs = rw (stays (view_tree n (heart_beat e)) (λ x. refl) xs)
  tree_reply n (frame h e b) xs = rw (stays (view_tree n (frame h e b)) (λ x. refl) xs)

  scans : (xs : List ℕ) (s : Open) (n : ℕ) → Ok ver s → n ≡ length (so_far s) → scan_reply (scan (view n s) xs) ≡ comes n xs (run (step ver) s xs)
  unfolding scan_step
  scans [] s n ok e = open_reply n s
  scans (x ∷ xs) s n ok e = ap (λ st. scan_reply (scan st xs)) (shows s x n ok e) ∙ by (step ver s x) (sound ver s x ok) (λ s'. scans xs s' (n + 1))
    where
      by : (k : Next Open Tree) → After octets (Shaped ver) so_far (Ok ver) (so_far s) x k
          → ((s' : Open) → Ok ver s' → n + 1 ≡ length (so_far s') → scan_reply (scan (view (n + 1) s') xs) ≡ comes (n + 1) xs (run (step ver) s' xs))
          → scan_reply (scan (seen n k) xs) ≡ comes n (x ∷ xs) (after k x xs (λ s'. run (step ver) s' xs))
      by (go s') (ok', f) ih = ih s' ok' (rw (f, length-append, e)) ∙ comes_more n x xs (run (step ver) s' xs)
      by (done t) a ih = tree_reply (n + 1) t xs ∙ ap (λ u. tell u t) (omega arith)
      by (refuse k) a ih = rw (stays (seen n (refuse k)) (λ y. refl) xs) (ap (reply.Invalid k) (omega arith))

  told_tell : (xs : List ℕ) (t : Tree) (rest : List ℕ) → octets t ++ rest ≡ xs → told t ≡ tell (0 + length xs - length rest) t
  told_tell xs t rest h = by t (omega (arith, ap length (sym h) ∙ length-append (octets t) rest))
    where
      by : (q : Tree) → 0 + length xs - length rest ≡ length (octets q) → told q ≡ tell (0 + length xs - length rest) q
      by (heart_beat e) l = rw l
      by (frame h e b) l =
          let z : length (octets (frame h e b)) ≡ length (head h) + (length (end e) + (length b + 1)) = simp length-append in
          let at : length (head h ++ end e) ≡ length (octets (frame h e b)) - 1 - length b = omega (arith, length-append (head h) (end e)) in
          rw (l, at)

  -- the same reply
  pub scanned : (xs : List ℕ) → scan_reply (scan (nothing_read (crlf ver)) xs) ≡ parsed ver xs
  unfolding parsed
  scanned xs = scans xs start 0 tt refl ∙ by (run (step ver) start xs) (exact_run ver xs)
    where
      by : (r : Run Open Tree) → Says octets (Shaped ver) xs r → comes 0 xs r ≡ answer xs r
      by (going s) h = refl
      by (finished t rest) h = sym (told_tell xs t rest h.front.1)
      by (stopped k rest) h = ap (reply.Invalid k) (omega arith)
