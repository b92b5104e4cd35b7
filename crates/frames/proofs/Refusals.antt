-- The parser refuses an octet exactly if a row of the table fits, and with the number that the table gives. Assumes nothing.
use mathlib.Core.Path.{◌≡◌, refl, sym, ◌∙◌}
use mathlib.Core.Logic.{◌≢◌}
use mathlib.Core.Bool.{Bool, true, false, cond, ◌&&◌, ◌||◌, not}
use mathlib.Core.Option.{Option, none, some}
use mathlib.Core.List.{List, [], ◌∷◌, ◌++◌}
use Prim.Native.Nat.{ℕ, ◌+◌, ◌≤◌, ◌<◌}
use native.Mathlib.Omega.{arith}
use lib.ListN.{length}
use lib.Dec.{eqb, leb, ltb}
use borrow.Author.Tests.{eqb-true, leb-true, leb-false, ltb-true, ltb-false, le-leb, lt-leb, lt-ltb, le-ltb}
use Rattle.headers.specs.Rows.{same, every, any, begins, empty}
use Rattle.headers.proofs.Rows.{cond_case, and_left, and_right, and_no, and_yes, or_yes, every_last, empty_not, or_false_left, or_false_right}
use Rattle.headers.specs.Text.{divides, Part, fresh, owes, Into, into, bad, stop, reads, of_utf8, of_escape, fault, owing}
use Rattle.headers.specs.declared.text.Style.{Style}
use Rattle.headers.specs.declared.text.Field.TheVariants.{Name as in_name, Value as in_value}
use Rattle.headers.specs.Numbers.{is_digit, decimal}
use Rattle.headers.proofs.Reading.{Says, reads_says, owes_few}
use Rattle.headers.specs.Lines.{line_max}
use Rattle.frames.specs.Machine.{Next, go, done, refuse}
use Rattle.frames.specs.Grammar.{crlf, Command, number, word, style, most, Head, Tree, heart_beat, frame, lines_max, declared, LengthOk, HeadOk}
use Rattle.frames.specs.declared.version.Version.{Version}
use Rattle.frames.specs.Parsing.{first, word_end, word_next, at_word, at_start, name_next, at_name, at_begin, one_more, value_next, at_value, body_next, step}
use Rattle.frames.specs.Parsing as P
use Rattle.frames.specs.Refusals.{Reason, no_command, no_10, not_utf8, long_line, many_lines, bad_length, past_body, some_command, ends, spoils, used_up, fits, number_of, refusal}
use Rattle.frames.specs.Open.{Open, start, heart_beat_13, command, command_13, begin, name, value, line_13, blank_13, body, all, opened, new, entry, watched, partial_amount, Ok, NameOk, ValueOk, BodyPart}

-- the number with which a step refuses
abbrev pub refuses : Next Open Tree → Option ℕ
refuses (go s) = none
refuses (done r) = none
refuses (refuse k) = some k

-- Commands
or_either : (b s t u : Bool) → s || (t && u) ≡ true → (b || s) || ((b || t) && u) ≡ true
or_either true s t u h = refl
or_either false s t u h = h

begins_some : (xs : List ℕ) (x : ℕ) → begins (xs ++ (x ∷ [])) [] ≡ false
begins_some [] x = refl
begins_some (u ∷ xs) x = refl

begins_snoc : (xs w : List ℕ) (x y : ℕ) → begins (xs ++ (x ∷ [])) (w ++ (y ∷ [])) ≡ begins (xs ++ (x ∷ [])) w || (same xs w && eqb x y)
begins_snoc [] [] x y = and_yes (eqb x y)
begins_snoc [] (z ∷ w) x y = by (eqb x z)
  where
    by : (t : Bool) → t && true ≡ t && true || false
    by true = refl
    by false = refl
begins_snoc (u ∷ xs) [] x y = by (eqb u y)
  where
    by : (t : Bool) → t && begins (xs ++ (x ∷ [])) [] ≡ false
    by true = begins_some xs x
    by false = refl
begins_snoc (u ∷ xs) (z ∷ w) x y = by (eqb u z) (begins_snoc xs w x y)
  where
    by : (t : Bool) → begins (xs ++ (x ∷ [])) (w ++ (y ∷ [])) ≡ begins (xs ++ (x ∷ [])) w || (same xs w && eqb x y) → t && begins (xs ++ (x ∷ [])) (w ++ (y ∷ [])) ≡ t && begins (xs ++ (x ∷ [])) w || t && same xs w && eqb x y
    by true ih = ih
    by false ih = refl

-- where f finds a command and g holds of what f finds, g holds of some
first_any : (f : List ℕ → Bool) (g : Command → Bool) (cs : List Command) (c : Command) → ((d : Command) → f (word d) ≡ true → g d ≡ true) → first f cs ≡ some c → any g cs ≡ true
first_any f g [] c h e = let z : ◌≡◌ {A = ℕ} 0 1 = cc in absurd (omega arith)
first_any f g (d ∷ cs) c h e = by (f (word d)) refl e (first_any f g cs c h)
  where
    by : (t : Bool) → f (word d) ≡ t → cond t (some d) (first f cs) ≡ some c → (first f cs ≡ some c → any g cs ≡ true) → g d || any g cs ≡ true
    by true k e' ih = rw (h d k)
    by false k e' ih = rw (ih e') (or_yes (g d))

-- where neither f₁ nor f₂ finds one, and g fails where both do, g holds of none
none_any : (f₁ f₂ : List ℕ → Bool) (g : Command → Bool) (cs : List Command) → ((d : Command) → f₁ (word d) ≡ false → f₂ (word d) ≡ false → g d ≡ false) → first f₁ cs ≡ none → first f₂ cs ≡ none → any g cs ≡ false
none_any f₁ f₂ g [] h e₁ e₂ = refl
none_any f₁ f₂ g (d ∷ cs) h e₁ e₂ = by (f₁ (word d)) (f₂ (word d)) refl refl e₁ e₂ (none_any f₁ f₂ g cs h)
  where
    by : (t u : Bool) → f₁ (word d) ≡ t → f₂ (word d) ≡ u → cond t (some d) (first f₁ cs) ≡ none → cond u (some d) (first f₂ cs) ≡ none → (first f₁ cs ≡ none → first f₂ cs ≡ none → any g cs ≡ false) → g d || any g cs ≡ false
    by true u k l a b ih = let z : ◌≡◌ {A = ℕ} 0 1 = cc in absurd (omega arith)
    by false true k l a b ih = let z : ◌≡◌ {A = ℕ} 0 1 = cc in absurd (omega arith)
    by false false k l a b ih = rw (h d k l) (ih a b)

word_refuses : (ver : Version) (raw : List ℕ) (x : ℕ) → refuses (at_word ver raw x) ≡ cond (some_command (crlf ver) (raw ++ (x ∷ []))) none (some 1)
unfolding at_word some_command
word_refuses ver raw x = longer (first (begins (raw ++ (x ∷ []))) all) refl
  where
    w : Bool
    w = crlf ver

    g : Command → Bool
    g c = begins (raw ++ (x ∷ [])) (word c ++ (10 ∷ [])) || (begins (raw ++ (x ∷ [])) (word c ++ (13 ∷ [])) && w)

    long : (d : Command) → begins (raw ++ (x ∷ [])) (word d) ≡ true → g d ≡ true
    long d k = simp (begins_snoc, k)

    whole : ends w x ≡ true → (d : Command) → same raw (word d) ≡ true → g d ≡ true
    whole k d l = simp (begins_snoc, l) (or_either (begins (raw ++ (x ∷ [])) (word d)) (eqb x 10) (eqb x 13) w k)

    neither : (d : Command) → begins (raw ++ (x ∷ [])) (word d) ≡ false → same raw (word d) ≡ false → g d ≡ false
    neither d k l = simp (begins_snoc, k, l)

    on : eqb x 10 ≡ false → eqb x 13 && w ≡ false → (d : Command) → begins (raw ++ (x ∷ [])) (word d) ≡ false → begins (raw ++ (x ∷ [])) (word d) ≡ false → g d ≡ false
    on a b d k l = simp (begins_snoc, k, a) (neither_13 (same raw (word d)) (eqb x 13) w b)
      where
        neither_13 : (s t u : Bool) → t && u ≡ false → (s && false) || ((s && t) && u) ≡ false
        neither_13 true t u h = h
        neither_13 false t u h = refl

    R : Next Open Tree → Type 0
    R n = refuses n ≡ cond (any g all) none (some 1)

    ended : (o : Option Command) → first (begins (raw ++ (x ∷ []))) all ≡ none → first (same raw) all ≡ o → R (word_end ver o x)
    ended none e k = rw (none_any (begins (raw ++ (x ∷ []))) (same raw) g all neither e k)
    ended (some c) e k =
        cond_case R (eqb x 10) (λ t. rw (first_any (same raw) g all c (whole (rw t)) k))
        (λ f. cond_case R (eqb x 13 && w) (λ t. rw (first_any (same raw) g all c (whole (rw (f, t))) k))
        (λ f'. rw (none_any (begins (raw ++ (x ∷ []))) (begins (raw ++ (x ∷ []))) g all (on f f') e e)))

    longer : (o : Option Command) → first (begins (raw ++ (x ∷ []))) all ≡ o → R (word_next ver o raw x)
    longer none e = ended (first (same raw) all) e refl
    longer (some c) e = rw (first_any (begins (raw ++ (x ∷ []))) g all c long e)

-- rows 1 and 2
row_1 : (t : Bool) → cond t none (some 1) ≡ number_of (cond (not t && true) (some no_command) none)
row_1 true = refl
row_1 false = refl

row_2 : (t : Bool) (n : Next Open Tree) → refuses n ≡ none → refuses (cond t n (refuse 2)) ≡ number_of (cond (not t) (some no_10) none)
row_2 true n h = h
row_2 false n h = refl

ltb_leb : (a b : ℕ) → ltb a b ≡ not (leb b a)
ltb_leb a b = by (leb b a) refl
  where
    by : (t : Bool) → leb b a ≡ t → ltb a b ≡ not t
    by true t = le-ltb a b (leb-true b a t)
    by false t = lt-ltb a b (leb-false b a t)

leb_ltb : (a b : ℕ) → leb a b ≡ not (ltb b a)
leb_ltb a b = by (ltb b a) refl
  where
    by : (t : Bool) → ltb b a ≡ t → leb a b ≡ not t
    by true t = lt-leb a b (ltb-true b a t)
    by false t = le-leb a b (ltb-false b a t)

-- row 4: a sum that is too long, counted in two ways
row_4 : (a b : ℕ) → a ≡ b → (n : Next Open Tree) (o : Option Reason) → refuses n ≡ number_of o → refuses (cond (leb a line_max) n (refuse 4)) ≡ number_of (cond (ltb line_max b) (some long_line) o)
row_4 a b e n o h = by (leb a line_max) refl
  where
    by : (t : Bool) → leb a line_max ≡ t → refuses (cond t n (refuse 4)) ≡ number_of (cond (ltb line_max b) (some long_line) o)
    by true t = rw (le-ltb line_max b (omega (arith, leb-true a line_max t))) h
    by false t = rw (lt-ltb line_max b (omega (arith, leb-false a line_max t)))

-- row 6: at a line end, and at any other octet
row_6 : (w e : Bool) (n : Next Open Tree) → refuses n ≡ none → refuses (cond (w && e) (refuse 6) n) ≡ number_of (cond (w && (e || false)) (some bad_length) none)
row_6 true true n h = refl
row_6 true false n h = h
row_6 false e n h = h

row_6_on : (w : Bool) (s : Open) → refuses (cond w (refuse 6) (go s)) ≡ number_of (cond w (some bad_length) none)
row_6_on true s = refl
row_6_on false s = refl

spoiled : (cr w : Bool) (m : ℕ) (raw : List ℕ) (x : ℕ) → ends cr x ≡ false → (w ≡ true → partial_amount m raw ≡ true) → w && not (partial_amount m (raw ++ (x ∷ []))) ≡ w && spoils cr m raw x
spoiled cr false m raw x e h = refl
spoiled cr true m raw x e h =
    rw (every_last is_digit raw x (and_left (every is_digit raw) (leb (decimal 0 raw) m) (h refl)), e)
    (by (is_digit x) (leb (decimal 0 (raw ++ (x ∷ []))) m) (ltb m (decimal 0 (raw ++ (x ∷ [])))) (ltb_leb m (decimal 0 (raw ++ (x ∷ [])))))
  where
    by : (d a b : Bool) → b ≡ not a → not (d && a) ≡ not (d || false) || (false && empty raw) || (d && b)
    by true true b h = sym h
    by true false b h = sym h
    by false a b h = refl

-- row 7
row_7 : (t : Bool) (d : Option (List ℕ)) (h : Head) (e : Bool) (b : List ℕ) (x : ℕ) → LengthOk (cond t 32768 0) d → BodyPart (cond t 32768 0) d b → refuses (body_next (cond t 32768 0) d h e b x) ≡ number_of (cond (not (eqb x 0) && (eqb (cond t 32768 0) 0 || leb 32768 (length b) || used_up d b)) (some past_body) none)
row_7 t none h e b x ok part = by t (eqb x 0)
  where
    by : (t z : Bool) → refuses (cond z (done (frame h e b)) (cond (ltb (length b) (cond t 32768 0)) (go (body h e (b ++ (x ∷ [])))) (refuse 7))) ≡ number_of (cond (not z && (eqb (cond t 32768 0) 0 || leb 32768 (length b) || false)) (some past_body) none)
    by t true = refl
    by true false = rw (leb_ltb 32768 (length b)) (or (ltb (length b) 32768))
      where
        or : (u : Bool) → refuses (cond u (go (body h e (b ++ (x ∷ [])))) (refuse 7)) ≡ number_of (cond (not u || false) (some past_body) none)
        or true = refl
        or false = refl
    by false false = rw (le-ltb (length b) 0 (omega arith))
row_7 t (some v) h e b x ok part = by (ltb (length b) (decimal 0 v)) (eqb x 0) refl
  where
    under : (t : Bool) → decimal 0 v ≤ cond t 32768 0 → length b < decimal 0 v → eqb (cond t 32768 0) 0 || leb 32768 (length b) ≡ false
    under true a l = lt-leb 32768 (length b) (omega arith)
    under false a l = absurd (omega arith)

    by : (u z : Bool) → ltb (length b) (decimal 0 v) ≡ u → refuses (cond u (go (body h e (b ++ (x ∷ [])))) (cond z (done (frame h e b)) (refuse 7))) ≡ number_of (cond (not z && (eqb (cond t 32768 0) 0 || leb 32768 (length b) || leb (decimal 0 v) (length b))) (some past_body) none)
    by true true k = refl
    by false true k = refl
    by true false k = rw (under t ok.small (ltb-true _ _ k), leb_ltb (decimal 0 v) (length b), k)
    by false false k = rw (leb_ltb (decimal 0 v) (length b), k, or_yes)

no_stops : (a b c : Bool) → a || b || c ≡ false → (a ≡ false) × (b ≡ false) × (c ≡ false)
no_stops a b c h =
    let k = or_false_left (a || b) c h in
    (or_false_left a b k, or_false_right a b k, or_false_right (a || b) c h)

no_stop : (a b c : Bool) → a ≡ false → b ≡ false → c ≡ false → a || b || c ≡ true → ⊥
no_stop a b c e f g h = let k : ◌≡◌ {A = Bool} false true = simp (e, f, g) at h in let z : ◌≡◌ {A = ℕ} 0 1 = cc in omega arith

-- The states
module _ (ver : Version) where
  abbrev Told : Open → ℕ → Next Open Tree → Type 0
  Told s x n = refuses n ≡ refusal ver s x

  told_start : (x : ℕ) → Told start x (at_start ver x)
  unfolding at_start refusal fits
  told_start x =
      cond_case (Told start x) (eqb x 10) (λ t. simp (t, and_no))
      (λ f. cond_case (Told start x) (eqb x 13 && crlf ver) (λ t. simp (f, t, and_no))
      (λ g. word_refuses ver [] x ∙ simp (f, g) (row_1 (some_command (crlf ver) (x ∷ [])))))

  told_word : (raw : List ℕ) (x : ℕ) → raw ≢ [] → Told (command raw) x (at_word ver raw x)
  unfolding refusal fits
  told_word raw x ne = word_refuses ver raw x ∙ rw (empty_not raw ne) (row_1 (some_command (crlf ver) (raw ++ (x ∷ []))))

  told_name : (h : Head) (raw : List ℕ) (p : Part) (x : ℕ) → NameOk ver h raw p → Told (name h raw p) x (at_name ver h raw p x)
  unfolding at_name refusal fits
  told_name h raw p x ok = by (reads (style ver h.command) in_name p x) (reads_says (style ver h.command) in_name p x)
    where
      em : empty raw ≡ false
      em = empty_not raw ok.named

      ended : (a b c : Bool) → eqb x 10 ≡ a → eqb x 13 && crlf ver ≡ b → eqb x 58 ≡ c → Says (style ver h.command) in_name p x stop → Told (name h raw p) x (name_next h raw x stop)
      ended true b c e f g ((nu, nf), ow, st) = let k : eqb x 58 ≡ false = rw (eqb-true x 10 e) in simp (nu, nf, k, e, em)
      ended false true c e f g ((nu, nf), ow, st) = let k : eqb x 58 ≡ false = rw (eqb-true x 13 (and_left (eqb x 13) (crlf ver) f)) in simp (nu, nf, k, e, f, em)
      ended false false true e f g ((nu, nf), ow, st) = simp (nu, nf, e, f, g, em, ow, le-ltb line_max (length raw + 0 + 1 + 0) (omega (arith, ok.fits)))
      ended false false false e f g (nf, ow, st) = absurd (no_stop (eqb x 10) (eqb x 13 && crlf ver) (eqb x 58 && true) e f (rw g) st)

      by : (i : Into) → Says (style ver h.command) in_name p x i → Told (name h raw p) x (name_next h raw x i)
      by (into q) ((nu, nf), ow, ns) =
          let (e, f, k) = no_stops (eqb x 10) (eqb x 13 && crlf ver) (eqb x 58 && true) ns in
          let g : eqb x 58 ≡ false = sym (and_yes (eqb x 58)) ∙ k in
          simp (nu, nf, e, f, g, em, ow) (row_4 (length raw + 1 + owes q + 1) (length raw + 0 + 1 + (1 + owes q)) (omega arith) (go (name h (raw ++ (x ∷ [])) q)) none refl)
      by (bad of_utf8) u = rw u
      by (bad of_escape) (nu, u) = rw (nu, u)
      by stop u = ended (eqb x 10) (eqb x 13 && crlf ver) (eqb x 58) refl refl refl u

  told_begin : (h : Head) (x : ℕ) → Told (begin h) x (at_begin ver h x)
  unfolding at_begin at_name refusal fits
  told_begin h x = by (eqb x 10) (eqb x 13 && crlf ver) (eqb x 58) refl refl refl
    where
      y : Style
      y = style ver h.command

      on : (i : Into) (u : Bool) → reads y in_name fresh x ≡ i → Says y in_name fresh x i → eqb x 10 ≡ false → eqb x 13 && crlf ver ≡ false → eqb x 58 ≡ false → leb lines_max (length h.entries) ≡ not u
          → refuses (cond u (name_next h [] x i) (one_more i))
          ≡ number_of (cond (fault y in_name fresh x of_utf8) (some not_utf8) (cond (ltb line_max (1 + (1 + owing y in_name fresh x))) (some long_line) (cond (leb lines_max (length h.entries)) (some many_lines) none)))
      on (into q) true r ((nu, nf), ow, ns) e f g k = rw (nu, ow, k) (row_4 (0 + 1 + owes q + 1) (1 + (1 + owes q)) (omega arith) (go (name h (x ∷ []) q)) none refl)
      on (into q) false r ((nu, nf), ow, ns) e f g k = rw (nu, ow, k, le-ltb line_max (1 + (1 + owes q)) (omega (arith, owes_few y in_name q x r)))
      on (bad of_utf8) true r w e f g k = rw w
      on (bad of_utf8) false r w e f g k = rw w
      on (bad of_escape) u r (nu, w) e f g k = let z : ◌≡◌ {A = ℕ} 0 1 = cc in absurd (omega arith)
      on stop u r (nf, ow, st) e f g k = absurd (no_stop (eqb x 10) (eqb x 13 && crlf ver) (eqb x 58 && true) e f (rw g) st)

      by : (a b c : Bool) → eqb x 10 ≡ a → eqb x 13 && crlf ver ≡ b → eqb x 58 ≡ c → Told (begin h) x (at_begin ver h x)
      by true b c e f g = rw (eqb-true x 10 e)
      by false true c e f g = simp (eqb-true x 13 (and_left (eqb x 13) (crlf ver) f), and_right (eqb x 13) (crlf ver) f)
      by false false true e f g = rw (eqb-true x 58 g)
      by false false false e f g =
          simp (e, f, g)
          (simp (e, f, g) at (on (reads y in_name fresh x) (ltb (length h.entries) lines_max) refl (reads_says y in_name fresh x) e f g (leb_ltb lines_max (length h.entries))))

  told_value : (h : Head) (n raw : List ℕ) (p : Part) (x : ℕ) → ValueOk ver h n raw p → Told (value h n raw p) x (at_value ver h n raw p x)
  unfolding at_value refusal fits
  told_value h n raw p x ok = by (reads (style ver h.command) in_value p x) (reads_says (style ver h.command) in_value p x)
    where
      w : ends (crlf ver) x ≡ false → watched h n && not (partial_amount (most h.command) (raw ++ (x ∷ []))) ≡ watched h n && spoils (crlf ver) (most h.command) raw x
      w e = spoiled (crlf ver) (watched h n) (most h.command) raw x e ok.len

      on : (q : Part) (w : Bool) → watched h n && not (partial_amount (most h.command) (raw ++ (x ∷ []))) ≡ w → refuses (value_next ver h n raw x (into q)) ≡ number_of (cond (ltb line_max (length n + (1 + length raw) + 1 + (0 + owes q))) (some long_line) (cond w (some bad_length) none))
      on q w k = rw k (row_4 (length n + 1 + (length raw + 1) + owes q) (length n + (1 + length raw) + 1 + (0 + owes q)) (omega arith) (cond w (refuse 6) (go (value h n (raw ++ (x ∷ [])) q))) (cond w (some bad_length) none) (row_6_on w _))

      ended : (a b c : Bool) → eqb x 10 ≡ a → eqb x 13 && crlf ver ≡ b → eqb x 58 ≡ c → Says (style ver h.command) in_value p x stop → Told (value h n raw p) x (value_next ver h n raw x stop)
      ended true b c e f g ((nu, nf), ow, st) =
          let k : eqb x 58 ≡ false = rw (eqb-true x 10 e) in
          let d : is_digit x ≡ false = rw (eqb-true x 10 e) in
          simp (nu, nf, k, e, d) (row_6 (watched h n) (empty raw) (go (begin (opened h (entry n raw false)))) refl)
      ended false true c e f g ((nu, nf), ow, st) =
          let k : eqb x 58 ≡ false = rw (eqb-true x 13 (and_left (eqb x 13) (crlf ver) f)) in
          let d : is_digit x ≡ false = rw (eqb-true x 13 (and_left (eqb x 13) (crlf ver) f)) in
          simp (nu, nf, k, e, f, d) (row_6 (watched h n) (empty raw) (go (line_13 h n raw)) refl)
      ended false false true e f g ((nu, nf), ow, st) = let d : divides (style ver h.command) in_value ≡ true = simp (e, f, g) at st in simp (nu, nf, g) (rw d)
      ended false false false e f g (nf, ow, st) = absurd (no_stop (eqb x 10) (eqb x 13 && crlf ver) (eqb x 58 && divides (style ver h.command) in_value) e f (rw g) st)

      by : (i : Into) → Says (style ver h.command) in_value p x i → Told (value h n raw p) x (value_next ver h n raw x i)
      by (into q) ((nu, nf), ow, ns) =
          let (e, f, g) = no_stops (eqb x 10) (eqb x 13 && crlf ver) (eqb x 58 && divides (style ver h.command) in_value) ns in
          simp (nu, nf, e, f, g, ow) (on q _ (simp (e, f) at (w (rw (e, f)))))
      by (bad of_utf8) u = rw u
      by (bad of_escape) (nu, u) = rw (nu, u)
      by stop u = ended (eqb x 10) (eqb x 13 && crlf ver) (eqb x 58) refl refl refl u

  told_body : (h : Head) (e : Bool) (b : List ℕ) (x : ℕ) → HeadOk ver h → BodyPart (most h.command) (declared h.entries) b → Told (body h e b) x (P.at_body h e b x)
  unfolding P.at_body refusal fits
  told_body h e b x ok part = row_7 (eqb (number h.command) 8 || eqb (number h.command) 9 || eqb (number h.command) 12) (declared h.entries) h e b x ok.len part

  pub table : (s : Open) (x : ℕ) → Ok ver s → Told s x (step ver s x)
  unfolding refusal fits
  table start x ok = told_start x
  table heart_beat_13 x ok = row_2 (eqb x 10) (done (heart_beat true)) refl
  table (command raw) x ok = told_word raw x ok.3
  table (command_13 c) x ok = row_2 (eqb x 10) (go (begin (new c true))) refl
  table (begin h) x ok = told_begin h x
  table (name h raw p) x ok = told_name h raw p x ok
  table (value h n raw p) x ok = told_value h n raw p x ok
  table (line_13 h n v) x ok = row_2 (eqb x 10) (go (begin (opened h (entry n v true)))) refl
  table (blank_13 h) x ok = row_2 (eqb x 10) (go (body h true [])) refl
  table (body h e b) x ok = told_body h e b x ok.0 ok.1
