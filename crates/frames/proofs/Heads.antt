-- The parts of a head, read off its octets, are those of the parse tree. Assumes nothing.
--     front_lines_of, behind_word_of, frame_lines    the lines that are read off a frame
--     decoded_no_longer                              its lines, decoded, are no longer than raw
--     head_short, block_long                         its entries, decoded, have records, and how long these are
--     decoded_finds                                  looking a name up among the records
use mathlib.Core.Path.{◌≡◌, refl, sym, ◌∙◌, ap, ap₂}
use mathlib.Core.Bool.{Bool, true, false, cond, ◌&&◌, ◌||◌, not}
use mathlib.Core.Logic.{◌⊎◌, inl, inr, ⊎_elim}
use mathlib.Core.List.{List, [], ◌∷◌, ◌++◌, append_assoc}
use Prim.Native.Nat.{ℕ, suc, ◌+◌, ◌*◌, ◌≤◌, ◌<◌}
use native.Mathlib.Omega.{arith}
use lib.ListN.{length, get_or, length-map, take, drop}
use lib.Seq.{take-append_seam, drop-append_seam, drop-append-add}
use Rattle.headers.proofs.Reading.{each_half, missing_high, missing_top, second_high, second_top, tail_high, tail_top}
use lib.Dec.{eqb}
use borrow.Author.Tests.{ltb-true, ltb-false, le-leb, ne_eqb, not-true}
use Rattle.headers.specs.Rows.{every, All}
use Rattle.headers.specs.Text.{divides, stops, opens, is_letter, missing, tail, second, ascii, Character, itself, escape, wide, Text, none, more}
use Rattle.headers.specs.Block.{Entry, image, Short}
use Rattle.headers.specs.Lines.{line_max, line_length}
use Rattle.headers.specs.Answers.{find_answer}
use Rattle.headers.specs.declared.text.Style.{Style}
use Rattle.headers.specs.declared.text.Field.{Field}
use Rattle.headers.specs.declared.text.Field.TheVariants.{Name as in_name}
use Rattle.headers.proofs.Rows.{and_left, and_right, and_yes, or_false_left, or_false_right, every_append}
use Rattle.headers.proofs.Coding.{decode_short}
use Rattle.headers.proofs.Blocks.{length_image}
use Rattle.headers.proofs.Finding.{Finds, find_finds}
use Rattle.frames.specs.Grammar.{crlf, EndOk, Command, word, style, end, Line, line, lines, LineOk, Head, HeadOk, frame, octets, Valid}
use Rattle.frames.specs.declared.version.Version.{Version}
use Rattle.headers.specs.Stretches.{span, plain_in}
use Rattle.frames.specs.Layout.{line_cr, line_stops, stop_span, behind_end, front_name, behind_colon, front_value, at_end, behind_line, front_line, front_lines, behind_word}
use Rattle.frames.specs.Decoding.{line_entry, line_entries, NoLonger, head_entries}
use Rattle.frames.proofs.EachCommand.{each_test}

-- ---- How far a test holds from the front

span_to : (p : ℕ → Bool) (xs : List ℕ) (y : ℕ) (ys : List ℕ) → every p xs ≡ true → p y ≡ false → span p (xs ++ (y ∷ ys)) ≡ length xs
unfolding span
span_to p [] y ys h k = rw k
span_to p (x ∷ xs) y ys h k = rw (and_left (p x) (every p xs) h) (omega (arith, span_to p xs y ys (and_right (p x) (every p xs) h) k))

-- the octets before a line end, which has a 13 if w, and before c too
abbrev run_on : Bool → ℕ → ℕ → Bool
run_on w c x = plain_in (line_stops (line_cr w) c) x

run_of : (w : Bool) (c x : ℕ) → x ≤ 255 → eqb x 10 ≡ false → eqb x 13 && w ≡ false → eqb x c ≡ false → run_on w c x ≡ true
run_of w c x l lf cr k = simp (lf, other w cr, k, le-leb x 255 l)
  where
    other : (w : Bool) → eqb x 13 && w ≡ false → eqb x (cond w 13 10) ≡ false
    other true h = sym (and_yes (eqb x 13)) ∙ h
    other false h = lf

-- a character of more than one octet has none of them
high_runs : (w : Bool) (c x : ℕ) → c ≤ 127 → ascii x ≡ false → x ≤ 255 → run_on w c x ≡ true
high_runs w c x m h u =
    let l : 128 ≤ x = ltb-false x 128 h in
    run_of w c x u (ne_eqb x 10 (omega arith)) (rw (ne_eqb x 13 (omega arith))) (ne_eqb x c (λ e. omega (arith, e)))

wide_runs : (w : Bool) (c x y : ℕ) (t : List ℕ) → c ≤ 127 → missing x ≡ suc (length t) → second x y ≡ true → every tail t ≡ true → every (run_on w c) (x ∷ y ∷ t) ≡ true
wide_runs w c x y t m e h k =
    let some : 0 < missing x = omega arith in
    rw (high_runs w c x m (missing_high x some) (omega (arith, missing_top x some)), high_runs w c y m (second_high x y h) (omega (arith, second_top x y h))) (each t k)
  where
    each : (t : List ℕ) → every tail t ≡ true → every (run_on w c) t ≡ true
    each [] k = refl
    each (z ∷ t) k =
        let here = and_left (tail z) (every tail t) k in
        rw (high_runs w c z m (tail_high z here) (omega (arith, tail_top z here))) (each t (and_right (tail z) (every tail t) k))

-- an escape has none of them
escape_runs : (s : Style) (c x : ℕ) → (c ≡ 10) ⊎ (c ≡ 58) → is_letter s x ≡ true → every (run_on s.crlf c) (92 ∷ x ∷ []) ≡ true
escape_runs s c x which h =
    each_half (λ k. k.letter) (λ s y. every (run_on s.crlf c) (92 ∷ y ∷ []) ≡ true)
    (λ e. ⊎_elim (λ q. rw q (refl, (refl, (refl, (refl, tt))))) (λ q. rw q (refl, (refl, (refl, (refl, tt))))) which)
    (λ e. ⊎_elim (λ q. rw q (refl, (refl, (refl, tt)))) (λ q. rw q (refl, (refl, (refl, tt)))) which) s x h

-- raw text has no raw 10, nor a 13 that begins a line end; a name has no colon, and no escape has one
character_runs : {s : Style} {f : Field} {u : List ℕ} → Character s f u → every (run_on s.crlf 10) u ≡ true
character_runs {s} {f} (itself {x = x} h a) =
    let no_stop = not-true (stops s f x) (and_left (not (stops s f x)) (not (opens s x)) h) in
    let no_end = or_false_left (eqb x 10 || (eqb x 13 && s.crlf)) (eqb x 58 && divides s f) no_stop in
    let lf = or_false_left (eqb x 10) (eqb x 13 && s.crlf) no_end in
    rw (run_of s.crlf 10 x (omega (arith, ltb-true x 128 a)) lf (or_false_right (eqb x 10) (eqb x 13 && s.crlf) no_end) lf)
character_runs {s} (escape {x = x} e h) = escape_runs s 10 x (inl refl) h
character_runs {s} (wide {x = x} {y = y} {t = t} e h k) = wide_runs s.crlf 10 x y t (omega arith) e h k

name_runs : {s : Style} {u : List ℕ} → Character s in_name u → every (run_on s.crlf 58) u ≡ true
name_runs {s} (itself {x = x} h a) =
    let no_stop = not-true (stops s in_name x) (and_left (not (stops s in_name x)) (not (opens s x)) h) in
    let no_end = or_false_left (eqb x 10 || (eqb x 13 && s.crlf)) (eqb x 58 && true) no_stop in
    let no_colon = sym (and_yes (eqb x 58)) ∙ or_false_right (eqb x 10 || (eqb x 13 && s.crlf)) (eqb x 58 && true) no_stop in
    let lf = or_false_left (eqb x 10) (eqb x 13 && s.crlf) no_end in
    rw (run_of s.crlf 58 x (omega (arith, ltb-true x 128 a)) lf (or_false_right (eqb x 10) (eqb x 13 && s.crlf) no_end) no_colon)
name_runs {s} (escape {x = x} e h) = escape_runs s 58 x (inr refl) h
name_runs {s} (wide {x = x} {y = y} {t = t} e h k) = wide_runs s.crlf 58 x y t (omega arith) e h k

text_runs : {s : Style} {f : Field} {xs : List ℕ} (p : ℕ → Bool) → ((u : List ℕ) → Character s f u → every p u ≡ true) → Text s f xs → every p xs ≡ true
text_runs p each none = refl
text_runs p each (more {u = u} {xs = xs} h t) = every_append p u xs (each u h) (text_runs p each t)

-- ---- The parts at the front

-- octets up to the first 10, 13 that begins a line end, or colon
module _ (w : Bool) (xs : List ℕ) (y : ℕ) (ys : List ℕ) (colon : ℕ) (runs : every (run_on w colon) xs ≡ true) (stop : run_on w colon y ≡ false) where
  stops_at : stop_span (line_cr w) colon (xs ++ (y ∷ ys)) ≡ length xs
  stops_at = span_to (run_on w colon) xs y ys runs stop

  name_at : take (stop_span (line_cr w) colon (xs ++ (y ∷ ys))) (xs ++ (y ∷ ys)) ≡ xs
  name_at = rw stops_at (take-append_seam xs (y ∷ ys))

  end_at : drop (stop_span (line_cr w) colon (xs ++ (y ∷ ys))) (xs ++ (y ∷ ys)) ≡ y ∷ ys
  end_at = rw stops_at (drop-append_seam xs (y ∷ ys))

  colon_at : drop (stop_span (line_cr w) colon (xs ++ (y ∷ ys)) + 1) (xs ++ (y ∷ ys)) ≡ ys
  colon_at = rw stops_at (drop-append-add xs (y ∷ ys) 1)

-- the same up to a line end
module _ (w : Bool) (xs : List ℕ) (runs : every (run_on w 10) xs ≡ true) (rest : List ℕ) where
  at_13 : w ≡ true → run_on w 10 13 ≡ false
  at_13 h = rw h

  name_ended : (e : Bool) → EndOk w e → take (stop_span (line_cr w) 10 (xs ++ (end e ++ rest))) (xs ++ (end e ++ rest)) ≡ xs
  name_ended true ok = name_at w xs 13 (10 ∷ rest) 10 runs (at_13 (ok refl))
  name_ended false ok = name_at w xs 10 rest 10 runs refl

  end_ended : (e : Bool) → EndOk w e → at_end (line_cr w) (xs ++ (end e ++ rest)) ≡ end e ++ rest
  end_ended true ok = end_at w xs 13 (10 ∷ rest) 10 runs (at_13 (ok refl))
  end_ended false ok = end_at w xs 10 rest 10 runs refl

end_read : (e : Bool) (rest : List ℕ) → eqb (get_or (end e ++ rest) 0 0) 13 ≡ e
end_read true rest = refl
end_read false rest = refl

end_behind : (e : Bool) (rest : List ℕ) → behind_end (end e ++ rest) ≡ rest
end_behind true rest = refl
end_behind false rest = refl

-- ---- Lines

colon_stops : (w : Bool) → run_on w 58 58 ≡ false
colon_stops true = refl
colon_stops false = refl

module _ (s : Style) where
  front_line_of : (l : Line) (rest : List ℕ) → LineOk s l → (front_line (line_cr s.crlf) (line l ++ rest) ≡ l) × (behind_line (line_cr s.crlf) (line l ++ rest) ≡ rest)
  front_line_of l rest ok =
      let w = s.crlf in
      let cr = line_cr w in
      let xs = line l ++ rest in
      let n = text_runs (run_on w 58) (λ u. name_runs) ok.name_text in
      let v = text_runs (run_on w 10) (λ u. character_runs) ok.value_text in
      let tail = l.value ++ (end l.cr ++ rest) in
      let apart : xs ≡ l.name ++ (58 ∷ tail) = simp append_assoc in
      let name : front_name cr xs ≡ l.name = ap (front_name cr) apart ∙ name_at w l.name 58 tail 58 n (colon_stops w) in
      let colon : behind_colon cr xs ≡ tail = ap (behind_colon cr) apart ∙ colon_at w l.name 58 tail 58 n (colon_stops w) in
      let value : front_value cr xs ≡ l.value = ap (λ z. take (stop_span cr 10 z) z) colon ∙ name_ended w l.value v rest l.cr ok.ended in
      let at : at_end cr (behind_colon cr xs) ≡ end l.cr ++ rest = ap (at_end cr) colon ∙ end_ended w l.value v rest l.cr ok.ended in
      let same : (front_line cr xs).cr ≡ l.cr = ap (λ z. eqb (get_or z 0 0) 13) at ∙ end_read l.cr rest in
      (λ i. record { name = name i; value = value i; cr = same i }, ap behind_end at ∙ end_behind l.cr rest)

  pub front_lines_of : (ls : List Line) (rest : List ℕ) → All (LineOk s) ls → front_lines (line_cr s.crlf) (length ls) (lines ls ++ rest) ≡ ls
  unfolding front_lines
  front_lines_of [] rest h = refl
  front_lines_of (l ∷ ls) rest (ok, oks) =
      let (here, on) = front_line_of l (lines ls ++ rest) ok in
      rw (append_assoc (line l) (lines ls) rest) (ap₂ (◌∷◌) here (ap (front_lines (line_cr s.crlf) (length ls)) on ∙ front_lines_of ls rest oks))

-- a command's word has none of them either
word_runs : (w : Bool) (c : Command) → every (run_on w 10) (word c) ≡ true
word_runs true = each_test (λ c. every (run_on true 10) (word c)) refl
word_runs false = each_test (λ c. every (run_on false 10) (word c)) refl

module _ (h : Head) (e : Bool) (b : List ℕ) where
  pub behind_word_of : (w : Bool) → EndOk w h.cr → behind_word (line_cr w) (octets (frame h e b)) ≡ lines h.entries ++ (end e ++ (b ++ (0 ∷ [])))
  behind_word_of w ok =
      let rest = lines h.entries ++ (end e ++ (b ++ (0 ∷ []))) in
      let apart : octets (frame h e b) ≡ word h.command ++ (end h.cr ++ rest) = simp append_assoc in
      ap (behind_word (line_cr w)) apart ∙ ap behind_end (end_ended w (word h.command) (word_runs w h.command) rest h.cr ok) ∙ end_behind h.cr rest

  pub frame_lines : (ver : Version) → Valid ver (frame h e b) → front_lines (line_cr (crlf ver)) (length h.entries) (behind_word (line_cr (crlf ver)) (octets (frame h e b))) ≡ h.entries
  frame_lines ver v =
      ap (front_lines (line_cr (crlf ver)) (length h.entries)) (behind_word_of (crlf ver) v.0.0.ended)
      ∙ front_lines_of (style ver h.command) h.entries _ v.0.0.each

-- ---- The entries

-- the line of an entry, not raw, is no longer than a line may be
abbrev Fits : Entry → Type 0
Fits e = line_length e ≤ line_max

-- a decoded line is no longer than its raw one
lines_no_longer : (s : Style) (ls : List Line) → All (LineOk s) ls → All (NoLonger s) ls
lines_no_longer s [] h = tt
lines_no_longer s (l ∷ ls) (ok, oks) =
    let short : line_length (line_entry s l) ≤ length l.name + 1 + length l.value = omega (arith, decode_short s l.name, decode_short s l.value) in
    ((short, omega (arith, short, ok.fits)), lines_no_longer s ls oks)

lines_fit : (s : Style) (ls : List Line) → All (NoLonger s) ls → All Fits (line_entries s ls)
lines_fit s [] h = tt
lines_fit s (l ∷ ls) (no_longer, rest) = (no_longer.1, lines_fit s ls rest)

fit_short : (es : List Entry) → All Fits es → All Short es
fit_short [] h = tt
fit_short (e ∷ es) (fit, fits) = (record { name_fits = omega arith; value_fits = omega arith }, fit_short es fits)

-- a record has 6 octets and those of name and value
fit_image : (es : List Entry) → All Fits es → length (image es) ≤ 517 * length es
fit_image [] h = omega arith
fit_image (e ∷ es) (fit, fits) = omega (arith, length_image e es, fit_image es fits)

-- C-22: of every line of a valid parse tree, whatever the version, the decoded name, colon and value have at most as many octets as the
-- raw ones, so at most 512. A heart-beat has no line.
head_no_longer : (ver : Version) (h : Head) → HeadOk ver h → All (NoLonger (style ver h.command)) h.entries
head_no_longer ver h ok = lines_no_longer (style ver h.command) h.entries ok.each

pub decoded_no_longer : (ver : Version) (h : Head) (e : Bool) (b : List ℕ) → Valid ver (frame h e b) → All (NoLonger (style ver h.command)) h.entries
decoded_no_longer ver h e b v = head_no_longer ver h v.0.0

module _ (ver : Version) (h : Head) (ok : HeadOk ver h) where
  head_fits : All Fits (head_entries ver h)
  head_fits = lines_fit (style ver h.command) h.entries (head_no_longer ver h ok)

  pub head_short : All Short (head_entries ver h)
  head_short = fit_short (head_entries ver h) head_fits

  -- the longest block has 16,544 octets
  pub block_long : length (image (head_entries ver h)) ≤ 16544
  block_long = omega (arith, fit_image (head_entries ver h) head_fits, length-map h.entries (line_entry (style ver h.command)), ok.few)

  -- looking a name up gives the first entry of that name of the tree, decoded, or says none
  pub decoded_finds : (name : List ℕ) → Finds (image (head_entries ver h)) name (head_entries ver h) (find_answer (image (head_entries ver h)) name)
  decoded_finds name = find_finds (image (head_entries ver h)) name (head_entries ver h) (record { laid_out = refl; short = head_short })
