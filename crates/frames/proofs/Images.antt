-- What an accepted encode writes is one item, and decodes to what was written. Assumes nothing.
use Rattle.frames.proofs.Sound.{alone}
--     image_tree, image_octets           the parse tree of what is written
--     Accepted, accepted_checks          what holds where no check fails
--     Encoded, encoded_call              the same of a call, with its command and its entries
--     zero_any                           whether a body holds octet 0
--     adds_counted                       counted, the length line is added as document 01 has it
--     image_valid                        the tree is valid
--     image_octets_small                 what is written from octets is octets
--     image_entries                      it decodes to the entries of the block and the added one, and nothing else
--     image_reading, image_told          it is read as this tree, and what is told of it
use mathlib.Core.Path.{◌≡◌, refl, sym, ◌∙◌, ap, ap₂}
use mathlib.Core.Bool.{Bool, true, false, cond, ◌&&◌, ◌||◌, not}
use mathlib.Core.Option
use mathlib.Core.Option.{Option, none, some}
use mathlib.Core.List.{List, [], ◌∷◌, ◌++◌, map, append_assoc}
use Prim.Native.Nat.{ℕ, zero, suc, ◌+◌, ◌≤◌}
use native.Mathlib.Omega.{arith}
use lib.ListN.{length, length-append, length-map}
use lib.Dec.{eqb, eqb-zero-suc, eqb-suc-zero}
use borrow.Author.Tests.{eqb-true, leb-true, ltb-false, lt-ltb, not-true, not-false}
use Rattle.headers.specs.Rows.{empty, every, any, All, is_octet}
use Rattle.headers.specs.Text.{Text, reads_whole}
use Rattle.headers.specs.Escapes.{decode, encode, escaped, encode_octet, letter_of}
use Rattle.headers.specs.Numbers.{is_digit, decimal, Amount, is_amount, amount, shortest}
use Rattle.headers.specs.Block.{Entry, record_head, entry_record, image, entries}
use Rattle.headers.specs.Lines.{line_max, entry_of, raw_line, written_line, can_stand, can_write, content_length}
use Rattle.headers.specs.Answers.{Answer, accepted, refused}
use Rattle.headers.specs.declared.text.Style.{Style}
use Rattle.headers.specs.declared.text.Field.{Field}
use Rattle.headers.specs.declared.text.Field.TheVariants.{Name as in_name, Value as in_value}
use Rattle.headers.proofs.Rows.{cond_case, and_left, and_right, and_no, and_yes, or_yes, or_false_left, not_empty, cons_some, every_left, every_right, every_append, every_snoc, every_also}
use Rattle.headers.proofs.Coding.{decode_encode, encode_decode, encode_text, decode_bare, bare, content_length_bare}
use Rattle.headers.proofs.Reading.{table_is, each_half, digits_text, is_text_text}
use Rattle.headers.proofs.Numerals.{size_least}
use Rattle.headers.proofs.Decimals.{digit_range, digit_apart, shortest_digits, length_shortest, amount_record, amount_shortest}
use Rattle.headers.proofs.LaidOut.{entries_block}
use Rattle.headers.proofs.Settling.{raw_long}
use Rattle.frames.specs.Grammar.{Command, number, word, style, most, lines_max, body_max, end, Line, lines, LineOk, declared, LengthOk, BodyOk, Head, head, Tree, frame, octets, Shaped, Valid}
use Rattle.frames.specs.declared.version.Version.{Version}
use Rattle.frames.specs.Open.{entry}
use Rattle.frames.specs.Replies.{told, Complete}
use Rattle.frames.specs.Decoding.{line_entries, head_entries, Reading}
use Rattle.frames.specs.Encoding.{Call, command_of, is_length, first_length, adds_length, length_entry, added_entry, written_entries, written_lines, frame_image, says_length, settle_frame, encode_by, encode_answer, encode_image}
use Rattle.frames.proofs.EachCommand.{each_le, word_octets}
use Rattle.frames.proofs.Named.{declared_decoded, declared_named}

-- ## The parse tree of what is written

-- the raw line of an entry
abbrev pub raw_of : Style → Entry → Line
raw_of s e = entry (encode s e.name) (encode s e.value) false

abbrev pub image_head : Version → Command → List Entry → List ℕ → Bool → Head
image_head ver c es body counted = record { command = c; cr = false; entries = map (raw_of (style ver c)) (written_entries es body counted) }

abbrev pub image_tree : Version → Command → List Entry → List ℕ → Bool → Tree
image_tree ver c es body counted = frame (image_head ver c es body counted) false body

lines_written : (s : Style) (es : List Entry) → lines (map (raw_of s) es) ≡ written_lines s es
lines_written s [] = refl
lines_written s (e ∷ es) = ap (written_line s e ++◌) (lines_written s es)

pub image_octets : (ver : Version) (c : Command) (es : List Entry) (body : List ℕ) (counted : Bool) → octets (image_tree ver c es body counted) ≡ frame_image ver c es body counted
image_octets ver c es body counted =
    let s = style ver c in
    let rest : List ℕ = 10 ∷ (body ++ (0 ∷ [])) in
    append_assoc (word c) (10 ∷ lines (map (raw_of s) (written_entries es body counted))) rest
    ∙ ap (λ z. word c ++ (10 ∷ (z ++ rest))) (lines_written s (written_entries es body counted))

-- ## What is accepted

pub record Accepted (ver : Version) (c : Command) (es : List Entry) (body : List ℕ) (counted : Bool) : Type 0 where
  pub few : length (written_entries es body counted) ≤ lines_max
  pub each : every (can_write (style ver c)) es ≡ true
  pub body_fits : length body ≤ most c
  pub says : says_length (length body) (first_length es) ≡ true

-- a check that is passed
passes : (t : Bool) (k : ℕ) (a : Answer) (values : List ℕ) → cond t (refused k) a ≡ accepted values → (t ≡ false) × (a ≡ accepted values)
passes true k a values e = let z : ◌≡◌ {A = ℕ} 0 1 = cc in absurd (omega arith)
passes false k a values e = (refl, e)

same_values : (given values : List ℕ) → accepted given ≡ accepted values → values ≡ given
same_values given values e = cc

pub accepted_checks : (ver : Version) (c : Command) (es : List Entry) (body : List ℕ) (counted : Bool) (room : ℕ) (values : List ℕ) → settle_frame ver c es body counted room ≡ accepted values
    → Accepted ver c es body counted × (values ≡ length (frame_image ver c es body counted) ∷ []) × (length (frame_image ver c es body counted) ≤ room)
accepted_checks ver c es body counted room values e =
    let (few, e₁) = passes _ _ _ _ e in
    let (each, e₂) = passes _ _ _ _ e₁ in
    let (body_fits, e₃) = passes _ _ _ _ e₂ in
    let (says, e₄) = passes _ _ _ _ e₃ in
    let (fits, e₅) = passes _ _ _ _ e₄ in
    (record { few = ltb-false _ _ few; each = not-false _ each; body_fits = ltb-false _ _ body_fits; says = not-false _ says }, same_values _ _ e₅, ltb-false _ _ fits)

-- a call that is accepted
pub record Encoded (ver : Version) (k : Call) (room : ℕ) (values : List ℕ) : Type 0 where
  pub command : Command
  pub all_entries : List Entry
  pub command_is : command_of k.command ≡ some command
  pub entries_are : entries k.block ≡ some all_entries
  pub checks : Accepted ver command all_entries k.body k.counted
  pub image_is : encode_image ver k ≡ frame_image ver command all_entries k.body k.counted
  pub values_are : values ≡ length (encode_image ver k) ∷ []
  pub fits : length (encode_image ver k) ≤ room

pub encoded_call : (ver : Version) (k : Call) (room : ℕ) (values : List ℕ) → encode_answer ver k room ≡ accepted values → Encoded ver k room values
unfolding encode_answer encode_image
encoded_call ver k room values = by (command_of k.command) refl (entries k.block) refl
  where
    by : (o : Option Command) → command_of k.command ≡ o → (p : Option (List Entry)) → entries k.block ≡ p
        → encode_by ver o p k.body k.counted room ≡ accepted values → Encoded ver k room values
    by none q p r e = let z : ◌≡◌ {A = ℕ} 0 1 = cc in absurd (omega arith)
    by (some c) q none r e = let z : ◌≡◌ {A = ℕ} 0 1 = cc in absurd (omega arith)
    by (some c) q (some es) r e =
        let (checks, v, f) = accepted_checks ver c es k.body k.counted room values e in
        record { command = c; all_entries = es; command_is = q; entries_are = r; checks = checks; image_is = rw (q, r); values_are = rw (q, r) v; fits = rw (q, r) f }

-- ## Lines

-- the added line: content-length and the shortest decimal
abbrev pub length_line : List ℕ → Line
length_line body = entry content_length (shortest (length body)) false

-- no escape concerns its name or its value: they are written as they are
digit_bare : (s : Style) (x : ℕ) → is_digit x ≡ true → bare s x ≡ true
digit_bare s x h =
    let (lo, hi) = digit_range x h in
    let (lf, cr, colon, slash) = digit_apart x lo hi in
    simp (table_is (λ k. k.octet) s x, lf, cr, colon, slash, and_no)

pub decode_digits : (s : Style) (v : List ℕ) → every is_digit v ≡ true → decode s v ≡ v
decode_digits s v h = decode_bare s v (every_also is_digit (bare s) (digit_bare s) v h)

encode_kept : {s : Style} {f : Field} {v : List ℕ} → Text s f v → decode s v ≡ v → encode s v ≡ v
encode_kept {s} t e = ap (encode s) (sym e) ∙ encode_decode t

encode_digits : (s : Style) (v : List ℕ) → every is_digit v ≡ true → encode s v ≡ v
encode_digits s v h = encode_kept (digits_text s in_value v h) (decode_digits s v h)

name_is_text : (s : Style) → Text s in_name content_length
unfolding reads_whole
name_is_text s = is_text_text s in_name content_length (simp and_no)

pub raw_length : (s : Style) (body : List ℕ) → raw_of s (length_entry body) ≡ length_line body
raw_length s body =
    ap₂ (λ n v. entry n v false) (encode_kept (name_is_text s) (decode_bare s content_length (content_length_bare s)))
    (encode_digits s (shortest (length body)) (shortest_digits (length body)))

length_line_ok : (s : Style) (body : List ℕ) → length body ≤ body_max → LineOk s (length_line body)
length_line_ok s body h =
    record {
      ended = λ q. let z : ◌≡◌ {A = ℕ} 0 1 = cc in absurd (omega arith);
      named = cons_some _ _;
      name_text = name_is_text s;
      value_text = digits_text s in_value _ (shortest_digits (length body));
      fits = omega (arith, length_shortest (length body), size_least 4 (length body) (omega arith));
    }

-- an entry that can be written is a line
line_ok : (s : Style) (e : Entry) → can_write s e ≡ true → LineOk s (raw_of s e)
unfolding decode
line_ok s e h =
    let named = not-true (empty e.name) (and_left _ _ h) in
    let rest = and_right (not (empty e.name)) _ h in
    let rest₂ = and_right (can_stand s in_name e.name) _ rest in
    record {
      ended = λ q. let z : ◌≡◌ {A = ℕ} 0 1 = cc in absurd (omega arith);
      named = λ q. not_empty e.name named (sym (decode_encode s e.name) ∙ ap (decode s) q);
      name_text = encode_text s in_name e.name (and_left _ _ rest);
      value_text = encode_text s in_value e.value (and_left _ _ rest₂);
      fits = omega (arith, raw_long s e, leb-true (length (raw_line s e)) line_max (and_right (can_stand s in_value e.value) _ rest₂));
    }

-- the lines of entries, before others
lines_ok : (s : Style) (es fs : List Entry) → every (can_write s) es ≡ true → All (LineOk s) (map (raw_of s) fs) → All (LineOk s) (map (raw_of s) (es ++ fs))
lines_ok s [] fs h k = k
lines_ok s (e ∷ es) fs h k = (line_ok s e (and_left _ _ h), lines_ok s es fs (and_right (can_write s e) _ h) k)

-- ## The length

-- a row holds octet 0 exactly if not each of its octets is another
pub zero_any : (xs : List ℕ) → any (eqb 0) xs ≡ not (every (λ x. not (eqb x 0)) xs)
zero_any [] = refl
zero_any (zero ∷ xs) = refl
zero_any (suc x ∷ xs) = rw (eqb-zero-suc x, eqb-suc-zero x) (zero_any xs)

no_zero : (xs : List ℕ) → any (eqb 0) xs ≡ false → every (λ x. not (eqb x 0)) xs ≡ true
no_zero xs h = not-false _ (sym (zero_any xs) ∙ h)

-- counted, the line is that of document 01: "If the body is not empty and no entry is named content-length"
pub adds_counted : (es : List Entry) (body : List ℕ) → adds_length es body true ≡ not (empty body) && not (any is_length es)
adds_counted es [] = and_no (not (any is_length es))
adds_counted es (x ∷ body) = rw or_yes (and_yes (not (any is_length es)))

-- what the first content-length says of a body; where there is none, the body holds no octet 0
abbrev Sized : List ℕ → Option (List ℕ) → Type 0
Sized body none = every (λ x. not (eqb x 0)) body ≡ true
Sized body (some v) = Amount (length body) v × (decimal 0 v ≡ length body)

says_sized : (body v : List ℕ) → says_length (length body) (some v) ≡ true → Sized body (some v)
unfolding amount
says_sized body v h =
    let n = length body in
    amount_record n n v (rw (and_left (is_amount n v) _ h) (ap some (eqb-true _ _ (and_right (is_amount n v) _ h))))

written_sized : (es : List Entry) (body : List ℕ) (counted : Bool) → says_length (length body) (first_length es) ≡ true → Sized body (first_length (written_entries es body counted))
written_sized [] body counted h =
    let n = length body in
    cond_case (λ fs. Sized body (first_length fs)) (adds_length [] body counted) (λ t. amount_record n n (shortest n) (amount_shortest n n (omega arith)))
    (λ t. no_zero body (or_false_left (any (eqb 0) body) _ t))
written_sized (e ∷ es) body counted h = by (is_length e) h (written_sized es body counted)
  where
    by : (t : Bool) → says_length (length body) (cond t (some e.value) (first_length es)) ≡ true
        → (says_length (length body) (first_length es) ≡ true → Sized body (first_length (written_entries es body counted)))
        → Sized body (cond t (some e.value) (first_length (es ++ cond (not (t || any is_length es) && (any (eqb 0) body || (counted && not (empty body)))) (length_entry body ∷ []) [])))
    by true h go = says_sized body e.value h
    by false h go = go h

sized_ok : (s : Style) (m : ℕ) (body : List ℕ) (o : Option (List ℕ)) → length body ≤ m → Sized body o → LengthOk m (Option.map (encode s) o) × BodyOk m (Option.map (encode s) o) body
sized_ok s m body none h k = (tt, (h, k))
sized_ok s m body (some v) h (a, e) =
    rw (encode_digits s v a.digits) (record { some_digit = a.some_digit; digits = a.digits; small = omega arith }, sym e)

-- the length that the lines declare is the one that the entries say
declared_raw : (s : Style) (es : List Entry) → declared_decoded s (map (raw_of s) es) ≡ Option.map (encode s) (first_length es)
declared_raw s [] = refl
declared_raw s (e ∷ es) = rw (decode_encode s e.name) (by (is_length e) (declared_raw s es))
  where
    by : (t : Bool) → declared_decoded s (map (raw_of s) es) ≡ Option.map (encode s) (first_length es)
        → cond t (some (encode s e.value)) (declared_decoded s (map (raw_of s) es)) ≡ Option.map (encode s) (cond t (some e.value) (first_length es))
    by true ih = refl
    by false ih = ih

-- ## What is written is one item

most_small : (c : Command) → most c ≤ body_max
most_small = each_le most body_max refl

module _ (ver : Version) (c : Command) (es : List Entry) (body : List ℕ) (counted : Bool) (ok : Accepted ver c es body counted) where
  image_lines : All (LineOk (style ver c)) (image_head ver c es body counted).entries
  image_lines =
      let s = style ver c in
      lines_ok s es (added_entry es body counted) ok.each
      (cond_case (λ fs. All (LineOk s) (map (raw_of s) fs)) (adds_length es body counted)
      (λ t. (rw (raw_length s body) (length_line_ok s body (omega (arith, ok.body_fits, most_small c))), tt)) (λ t. tt))

  image_shaped : Shaped ver (image_tree ver c es body counted)
  image_shaped =
      let s = style ver c in
      let ws = written_entries es body counted in
      let is : declared (map (raw_of s) ws) ≡ Option.map (encode s) (first_length ws) = sym (declared_named s (map (raw_of s) ws) image_lines) ∙ declared_raw s ws in
      let (len, fits) = sized_ok s (most c) body (first_length ws) ok.body_fits (written_sized es body counted ok.says) in
      (record { ended = alone ver; each = image_lines; few = omega (arith, length-map ws (raw_of s), ok.few); len = rw is len }, rw is fits, alone ver)

  pub image_valid : every is_octet (frame_image ver c es body counted) ≡ true → Valid ver (image_tree ver c es body counted)
  image_valid o = (image_shaped, rw (image_octets ver c es body counted) o)

-- ## What is written from octets is octets

letter_small : (s : Style) (x : ℕ) → escaped s x ≡ true → is_octet (letter_of s x) ≡ true
letter_small s x h =
    each_half (λ k. k.octet) (λ s y. is_octet (letter_of s y) ≡ true)
    (λ e. (refl, (refl, (refl, (refl, tt))))) (λ e. (refl, (refl, (refl, tt)))) s x (and_right s.escapes _ h)

encode_small : (s : Style) (xs : List ℕ) → every is_octet xs ≡ true → every is_octet (encode s xs) ≡ true
unfolding encode
encode_small s [] h = refl
encode_small s (x ∷ xs) h =
    every_append is_octet (encode_octet s x) (encode s xs)
    (cond_case (λ u. every is_octet u ≡ true) (escaped s x) (λ k. rw (letter_small s x k)) (λ k. rw (and_left (is_octet x) _ h)))
    (encode_small s xs (and_right (is_octet x) _ h))

line_small : (s : Style) (e : Entry) → every is_octet e.name ≡ true → every is_octet e.value ≡ true → every is_octet (written_line s e) ≡ true
line_small s e n v = every_append is_octet (encode s e.name) _ (encode_small s e.name n) (every_snoc is_octet (encode s e.value) 10 (encode_small s e.value v) refl)

-- the lines of the entries of a block, before others
lines_small : (s : Style) (es fs : List Entry) → every is_octet (image es) ≡ true → every is_octet (written_lines s fs) ≡ true → every is_octet (written_lines s (es ++ fs)) ≡ true
lines_small s [] fs h k = k
lines_small s (e ∷ es) fs h k =
    let both = every_right is_octet (record_head (length e.name) (length e.value)) _ (every_left is_octet (entry_record e) (image es) h) in
    every_append is_octet (written_line s e) _ (line_small s e (every_left is_octet e.name e.value both) (every_right is_octet e.name e.value both))
    (lines_small s es fs (every_right is_octet (entry_record e) (image es) h) k)

digits_small : (v : List ℕ) → every is_digit v ≡ true → every is_octet v ≡ true
digits_small = every_also is_digit is_octet (λ x h. lt-ltb x 256 (omega (arith, digit_range x h)))

added_small : (s : Style) (es : List Entry) (body : List ℕ) (counted : Bool) → every is_octet (written_lines s (added_entry es body counted)) ≡ true
added_small s es body counted =
    let one = line_small s (length_entry body) refl (digits_small (shortest (length body)) (shortest_digits (length body))) in
    cond_case (λ fs. every is_octet (written_lines s fs) ≡ true) (adds_length es body counted) (λ t. every_append is_octet (written_line s (length_entry body)) [] one refl) (λ t. refl)

module _ (ver : Version) (c : Command) (es : List Entry) where
  pub image_octets_small : (block body : List ℕ) (counted : Bool) → every is_octet block ≡ true → every is_octet body ≡ true → entries block ≡ some es → every is_octet (frame_image ver c es body counted) ≡ true
  image_octets_small block body counted o b e =
      let s = style ver c in
      every_append is_octet (word c) _ (word_octets c)
      (every_append is_octet (written_lines s (written_entries es body counted)) _
      (lines_small s es (added_entry es body counted) (rw (entries_block block es o e).laid_out o)
      (added_small s es body counted))
      (every_snoc is_octet body 0 b refl))

-- ## What it is read as

entries_again : (s : Style) (es : List Entry) → line_entries s (map (raw_of s) es) ≡ es
entries_again s [] = refl
entries_again s (e ∷ es) = ap₂ (◌∷◌) (ap₂ entry_of (decode_encode s e.name) (decode_encode s e.value)) (entries_again s es)

module _ (ver : Version) (c : Command) (es : List Entry) (body : List ℕ) (counted : Bool) where
  -- it decodes to the entries of the block and the added one, and nothing else
  pub image_entries : head_entries ver (image_head ver c es body counted) ≡ written_entries es body counted
  image_entries = entries_again (style ver c) (written_entries es body counted)

  pub image_reading : Accepted ver c es body counted → every is_octet (frame_image ver c es body counted) ≡ true → Reading ver (frame_image ver c es body counted) (some (image_tree ver c es body counted))
  image_reading ok o = (image_valid ver c es body counted ok o, image_octets ver c es body counted)

  -- what is told of it: the body starts behind the word, the lines and two line ends
  pub image_told : told (image_tree ver c es body counted) ≡ Complete 2 (length (frame_image ver c es body counted)) (number c) (length (written_entries es body counted)) (length (word c) + length (written_lines (style ver c) (written_entries es body counted)) + 2) (length body)
  image_told =
      let ws = written_entries es body counted in
      let start : length (head (image_head ver c es body counted) ++ end false) ≡ length (word c) + length (written_lines (style ver c) ws) + 2 =
      simp length-append (omega (arith, ap length (lines_written (style ver c) ws))) in
      let used = ap length (image_octets ver c es body counted) in
      let headers = length-map ws (raw_of (style ver c)) in
      λ i. Complete 2 (used i) (number c) (headers i) (start i) (length body)

-- the same of a call that is accepted
pub encoded_reading : (ver : Version) (k : Call) (room : ℕ) (values : List ℕ) (x : Encoded ver k room values) → every is_octet k.block ≡ true → every is_octet k.body ≡ true
    → Reading ver (encode_image ver k) (some (image_tree ver x.command x.all_entries k.body k.counted))
encoded_reading ver k room values x o b =
    rw x.image_is
    (image_reading ver x.command x.all_entries k.body k.counted x.checks
    (image_octets_small ver x.command x.all_entries k.block k.body k.counted o b x.entries_are))
