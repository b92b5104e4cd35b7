-- A frame that was read and is encoded again. Assumes nothing.
--     rewrite_answer             of the checks only 52 and 56 can fail
--     rewrite_refused_only       52 only where 32 lines were read and one is added
--     adds_none                  not counted, none is added: the body holds octet 0 only where a content-length is
--     rewrite_refused_default    so then only 56 is given
--     rewrite_image              written are the names, values and body that were read, with line ends of octet 10, and the added line
--     rewrite_reading            which is what it is read as again
--     decode_again, decode_same  its entries are those that were read, and the added one
--     decode_default             not counted, they are those that were read
use mathlib.Core.Path.{◌≡◌, refl, sym, ◌∙◌, ap, ap₂, subst}
use mathlib.Core.Logic.{◌⊎◌, inl, inr, ⊎_map, ⊎_elim}
use mathlib.Core.Bool.{Bool, true, false, cond, ◌&&◌, not}
use mathlib.Core.Option
use mathlib.Core.Option.{Option, none, some}
use mathlib.Core.List.{List, [], ◌∷◌, ◌++◌, map, map-append, append-nil}
use Prim.Native.Nat.{ℕ, ◌≤◌, ◌<◌}
use native.Mathlib.Omega.{arith}
use lib.ListN.{length, length-append, length-map}
use lib.Dec.{ltb}
use borrow.Author.Tests.{le-leb, le-ltb, ltb-true, eq-eqb}
use Rattle.headers.specs.Rows.{same, every, any, All, is_octet}
use Rattle.headers.specs.Text.{none, escape_table, opens, is_letter}
use Rattle.headers.specs.Escapes.{decode, encode, meaning}
use Rattle.headers.specs.Numbers.{decimal}
use Rattle.headers.specs.Block.{Entry, Short, two_octets, record_head, entry_record, image, entries}
use Rattle.headers.specs.Lines.{can_write, content_length}
use Rattle.headers.specs.Answers.{Answer, accepted, refused, settle}
use Rattle.headers.specs.declared.text.Style.{Style}
use Rattle.headers.proofs.Rows.{cond_case, and_left, and_right, and_no, empty_not, every_left, every_right, every_append, any_key}
use Rattle.headers.proofs.Coding.{encode_decode, decode_short, text_writable}
use Rattle.headers.proofs.Numerals.{numeral_octets}
use Rattle.headers.proofs.FirstValues.{any_value}
use Rattle.headers.proofs.LaidOut.{entries_image}
use Rattle.headers.proofs.Settling.{raw_long, can}
use Rattle.frames.specs.Grammar.{Command, number, word, style, lines_max, most, end, Line, line, lines, LineOk, declared, LengthOk, BodyOk, Head, head, Tree, frame, octets, Valid}
use Rattle.frames.specs.declared.version.Version.{Version}
use Rattle.frames.specs.Open.{entry}
use Rattle.frames.specs.Decoding.{line_entry, line_entries, head_entries, Reading}
use Rattle.frames.specs.Encoding.{Call, command_of, is_length, first_length, adds_length, length_entry, added_entry, written_entries, frame_image, says_length, settle_frame, encode_answer, encode_image}
use Rattle.frames.proofs.EachCommand.{each_same}
use Rattle.frames.proofs.Named.{declared_decoded, declared_named}
use Rattle.frames.proofs.Images.{zero_any, raw_of, image_head, image_octets, length_line, raw_length, decode_digits, accepted_checks, image_valid, image_octets_small, image_entries}

-- the call that encodes a frame's head and body again, counted or not
abbrev pub call_of : Version → Head → List ℕ → Bool → Call
call_of ver h b counted = record { command = number h.command; block = image (head_entries ver h); body = b; counted = counted }

-- ## The number of a command is that command's

command_again : (c : Command) → command_of (number c) ≡ some c
command_again = each_same (λ c. command_of (number c)) some refl

-- ## The entries of valid lines

entry_can : (s : Style) (l : Line) → LineOk s l → can_write s (line_entry s l) ≡ true
unfolding encode
entry_can s l ok =
    let n = encode_decode ok.name_text in
    let v = encode_decode ok.value_text in
    can s (line_entry s l) (empty_not (decode s l.name) (λ q. ok.named (sym n ∙ ap (encode s) q))) (text_writable ok.name_text) (text_writable ok.value_text)
    (omega (arith, raw_long s (line_entry s l), ap length n, ap length v, ok.fits))

entry_short : (s : Style) (l : Line) → LineOk s l → Short (line_entry s l)
entry_short s l ok = record { name_fits = omega (arith, decode_short s l.name, ok.fits); value_fits = omega (arith, decode_short s l.value, ok.fits) }

entries_can : (s : Style) (ls : List Line) → All (LineOk s) ls → (every (can_write s) (line_entries s ls) ≡ true) × All Short (line_entries s ls)
entries_can s [] h = (refl, tt)
entries_can s (l ∷ ls) (ok, oks) =
    let (c, short) = entries_can s ls oks in
    (rw (entry_can s l ok) c, (entry_short s l ok, short))

-- the length that the entries say is the one that the lines declare
first_decoded : (s : Style) (ls : List Line) → first_length (line_entries s ls) ≡ Option.map (decode s) (declared_decoded s ls)
first_decoded s [] = refl
first_decoded s (l ∷ ls) = by (same (decode s l.name) content_length) (first_decoded s ls)
  where
    by : (t : Bool) → first_length (line_entries s ls) ≡ Option.map (decode s) (declared_decoded s ls)
        → cond t (some (decode s l.value)) (first_length (line_entries s ls)) ≡ Option.map (decode s) (cond t (some l.value) (declared_decoded s ls))
    by true ih = refl
    by false ih = ih

body_says : (s : Style) (m : ℕ) (d : Option (List ℕ)) (b : List ℕ) → LengthOk m d → BodyOk m d b → (length b ≤ m) × (says_length (length b) (Option.map (decode s) d) ≡ true)
body_says s m none b l h = (h.0, refl)
body_says s m (some v) b l h =
    let n = decimal 0 v in
    (omega (arith, l.small), rw (decode_digits s v l.digits, empty_not v l.some_digit, l.digits, h, le-leb n n (omega arith), eq-eqb n n refl))

-- not counted, a line is added only where no entry says a length and the body holds octet 0: never where a frame was read
none_added : (s : Style) (m : ℕ) (es : List Entry) (d : Option (List ℕ)) (b : List ℕ) → first_length es ≡ Option.map (decode s) d → BodyOk m d b → adds_length es b false ≡ false
none_added s m es none b f h = rw (zero_any b, h.1) (and_no (not (any is_length es)))
none_added s m es (some v) b f h = rw (any_value content_length es (decode s v) f)

-- ## What is decoded of octets is octets

meaning_small : (s : Style) (x : ℕ) → is_letter s x ≡ true → is_octet (meaning s x) ≡ true
meaning_small s x h = by s.escapes s.crlf h
  where
    by : (e c : Bool) → is_letter (record { escapes = e; crlf = c }) x ≡ true → is_octet (meaning (record { escapes = e; crlf = c }) x) ≡ true
    by e true h = any_key (λ e. e.letter) (λ y. is_octet (meaning (record { escapes = e; crlf = true }) y) ≡ true) x (escape_table (record { escapes = e; crlf = true })) (refl, (refl, (refl, (refl, tt)))) h
    by e false h = any_key (λ e. e.letter) (λ y. is_octet (meaning (record { escapes = e; crlf = false }) y) ≡ true) x (escape_table (record { escapes = e; crlf = false })) (refl, (refl, (refl, tt))) h

decode_small : (s : Style) (xs : List ℕ) → every is_octet xs ≡ true → every is_octet (decode s xs) ≡ true
unfolding decode
decode_small s [] h = refl
decode_small s (x ∷ []) h = h
decode_small s (x ∷ y ∷ ys) h =
    let more = and_right (is_octet x) _ h in
    cond_case (λ u. every is_octet u ≡ true) (opens s x && is_letter s y) {a = meaning s y ∷ decode s ys} {b = x ∷ decode s (y ∷ ys)}
    (λ k. rw (meaning_small s y (and_right (opens s x) _ k)) (decode_small s ys (and_right (is_octet y) _ more)))
    (λ k. rw (and_left (is_octet x) _ h) (decode_small s (y ∷ ys) more))

record_small : (e : Entry) → every is_octet e.name ≡ true → every is_octet e.value ≡ true → every is_octet (entry_record e) ≡ true
record_small e n v =
    let lengths = every_append is_octet (two_octets (length e.name)) (two_octets (length e.value)) (numeral_octets 2 (length e.name)) (numeral_octets 2 (length e.value)) in
    every_append is_octet (record_head (length e.name) (length e.value)) (e.name ++ e.value) lengths (every_append is_octet e.name e.value n v)

block_small : (s : Style) (ls : List Line) → every is_octet (lines ls) ≡ true → every is_octet (image (line_entries s ls)) ≡ true
block_small s [] h = refl
block_small s (l ∷ ls) h =
    let one = every_left is_octet (line l) (lines ls) h in
    let value = every_left is_octet l.value (end l.cr) (every_right is_octet l.name (58 ∷ (l.value ++ end l.cr)) one) in
    every_append is_octet (entry_record (line_entry s l)) _ (record_small (line_entry s l) (decode_small s l.name (every_left is_octet l.name _ one)) (decode_small s l.value value))
    (block_small s ls (every_right is_octet (line l) (lines ls) h))

-- ## The answer

-- only the added line can be one too many
one_more : (es : List Entry) (body : List ℕ) (counted : Bool) → length es ≤ lines_max → lines_max < length (written_entries es body counted)
    → (length es ≡ lines_max) × (adds_length es body counted ≡ true)
one_more es body counted h = by (adds_length es body counted) refl
  where
    by : (t : Bool) → adds_length es body counted ≡ t → lines_max < length (es ++ cond t (length_entry body ∷ []) [])
        → (length es ≡ lines_max) × (adds_length es body counted ≡ true)
    by true e k = (omega (arith, length-append es (length_entry body ∷ [])), e)
    by false e k = absurd (omega (arith, length-append {A = Entry} es []))

one_of_two : (t u : Bool) (i j : ℕ) (values : List ℕ) (n : ℕ) → cond t (refused i) (cond u (refused j) (accepted values)) ≡ refused n → ((n ≡ i) × (t ≡ true)) ⊎ ((n ≡ j) × (u ≡ true))
one_of_two true u i j values n e = inl ((cc), refl)
one_of_two false true i j values n e = inr ((cc), refl)
one_of_two false false i j values n e = let z : ◌≡◌ {A = ℕ} 0 1 = cc in absurd (omega arith)

-- the answer by the two checks that are left
abbrev pub many_or_small : Version → Command → List Entry → List ℕ → Bool → ℕ → Answer
many_or_small ver c es b counted room =
    settle
    (record { fails = ltb lines_max (length (written_entries es b counted)); number = 52 } ∷
    record { fails = ltb room (length (frame_image ver c es b counted)); number = 56 } ∷
    [])
    (length (frame_image ver c es b counted) ∷ [])

-- ## What is written: the frame with line ends of octet 10, and the added line

abbrev pub with_10 : Line → Line
with_10 l = entry l.name l.value false

abbrev pub added_line : List Entry → List ℕ → Bool → List Line
added_line es b counted = cond (adds_length es b counted) (length_line b ∷ []) []

abbrev pub rewritten_head : Version → Head → List ℕ → Bool → Head
rewritten_head ver h b counted = record { command = h.command; cr = false; entries = map with_10 h.entries ++ added_line (head_entries ver h) b counted }

abbrev pub rewritten : Version → Head → List ℕ → Bool → Tree
rewritten ver h b counted = frame (rewritten_head ver h b counted) false b

raw_again : (s : Style) (ls : List Line) → All (LineOk s) ls → map (raw_of s) (line_entries s ls) ≡ map with_10 ls
raw_again s [] h = refl
raw_again s (l ∷ ls) (ok, oks) =
    ap₂ (◌∷◌) (ap₂ (λ n v. entry n v false) (encode_decode ok.name_text) (encode_decode ok.value_text)) (raw_again s ls oks)

added_raw : (s : Style) (b : List ℕ) (t : Bool) → map (raw_of s) (cond t (length_entry b ∷ []) []) ≡ cond t (length_line b ∷ []) []
added_raw s b true = ap (◌∷ []) (raw_length s b)
added_raw s b false = refl

module _ (ver : Version) (h : Head) (e : Bool) (b : List ℕ) (v : Valid ver (frame h e b)) where
  call_entries : entries (image (head_entries ver h)) ≡ some (head_entries ver h)
  call_entries = entries_image (head_entries ver h) (entries_can (style ver h.command) h.entries v.0.0.each).1

  -- the length that its entries say is the one that its lines declare
  first_said : first_length (head_entries ver h) ≡ Option.map (decode (style ver h.command)) (declared h.entries)
  first_said =
      let s = style ver h.command in
      first_decoded s h.entries ∙ ap (Option.map (decode s)) (declared_named s h.entries v.0.0.each)

  -- not counted, no line is added: the body holds octet 0 only where a content-length is
  pub adds_none : adds_length (head_entries ver h) b false ≡ false
  adds_none = none_added (style ver h.command) (most h.command) (head_entries ver h) (declared h.entries) b first_said v.0.1

module _ (ver : Version) (h : Head) (e : Bool) (b : List ℕ) (v : Valid ver (frame h e b)) (counted : Bool) where
  call_settles : (room : ℕ) → encode_answer ver (call_of ver h b counted) room ≡ settle_frame ver h.command (head_entries ver h) b counted room
  unfolding encode_answer
  call_settles room = rw (command_again h.command, call_entries ver h e b v)

  call_image : encode_image ver (call_of ver h b counted) ≡ frame_image ver h.command (head_entries ver h) b counted
  unfolding encode_image
  call_image = rw (command_again h.command, call_entries ver h e b v)

  pub rewrite_answer : (room : ℕ) → encode_answer ver (call_of ver h b counted) room ≡ many_or_small ver h.command (head_entries ver h) b counted room
  rewrite_answer room =
      let s = style ver h.command in
      let (fits, says) = body_says s (most h.command) (declared h.entries) b v.0.0.len v.0.1 in
      call_settles room ∙ rw ((entries_can s h.entries v.0.0.each).0, le-ltb (most h.command) (length b) fits, first_said ver h e b v, says)

  pub rewrite_refused_only : (room n : ℕ) → encode_answer ver (call_of ver h b counted) room ≡ refused n
      → ((n ≡ 52) × (length h.entries ≡ lines_max) × (adds_length (head_entries ver h) b counted ≡ true)) ⊎ ((n ≡ 56) × (room < length (encode_image ver (call_of ver h b counted))))
  rewrite_refused_only room n r =
      let es = head_entries ver h in
      let long : length es ≡ length h.entries = length-map h.entries (line_entry (style ver h.command)) in
      ⊎_map
      (λ w. let (full, adds) = one_more es b counted (omega (arith, v.0.0.few)) (ltb-true lines_max (length (written_entries es b counted)) w.1) in (w.0, sym long ∙ full, adds))
      (λ w. (w.0, rw call_image (ltb-true room (length (frame_image ver h.command es b counted)) w.1)))
      (one_of_two _ _ 52 56 _ n (sym (rewrite_answer room) ∙ r))

  -- the head of what is written
  rewrite_head : image_head ver h.command (head_entries ver h) b counted ≡ rewritten_head ver h b counted
  rewrite_head =
      let s = style ver h.command in
      let es = head_entries ver h in
      ap (λ ls. record { command = h.command; cr = false; entries = ls })
      (map-append (raw_of s) es (added_entry es b counted) ∙ ap₂ (◌++◌) (raw_again s h.entries v.0.0.each) (added_raw s b (adds_length es b counted)))

  pub rewrite_image : encode_image ver (call_of ver h b counted) ≡ octets (rewritten ver h b counted)
  rewrite_image =
      call_image ∙ sym (image_octets ver h.command (head_entries ver h) b counted) ∙ ap (λ k. octets (frame k false b)) rewrite_head

  -- its entries are those that were read, and the added one
  pub decode_again : head_entries ver (rewritten_head ver h b counted) ≡ head_entries ver h ++ added_entry (head_entries ver h) b counted
  decode_again = ap (head_entries ver) (sym rewrite_head) ∙ image_entries ver h.command (head_entries ver h) b counted

  pub decode_same : adds_length (head_entries ver h) b counted ≡ false → head_entries ver (rewritten_head ver h b counted) ≡ head_entries ver h
  decode_same n = decode_again ∙ rw n (append-nil (head_entries ver h))

  -- its block is octets
  pub call_small : every is_octet (call_of ver h b counted).block ≡ true
  call_small =
      let front = every_left is_octet (head h) _ v.1 in
      block_small (style ver h.command) h.entries (every_right is_octet (end h.cr) _ (every_right is_octet (word h.command) _ front))

  -- what is written is read as the tree of rewrite-image
  pub rewrite_reading : (room : ℕ) (values : List ℕ) → encode_answer ver (call_of ver h b counted) room ≡ accepted values → Reading ver (encode_image ver (call_of ver h b counted)) (some (rewritten ver h b counted))
  rewrite_reading room values r =
      let es = head_entries ver h in
      let (ok, _, _) = accepted_checks ver h.command es b counted room values (sym (call_settles room) ∙ r) in
      let body = every_left is_octet b _ (every_right is_octet (end e) _ (every_right is_octet (head h) _ v.1)) in
      let small = image_octets_small ver h.command es (image es) b counted call_small body (call_entries ver h e b v) in
      (subst (λ k. Valid ver (frame k false b)) rewrite_head (image_valid ver h.command es b counted ok small), sym rewrite_image)

module _ (ver : Version) (h : Head) (e : Bool) (b : List ℕ) (v : Valid ver (frame h e b)) where
  pub rewrite_refused_default : (room n : ℕ) → encode_answer ver (call_of ver h b false) room ≡ refused n → (n ≡ 56) × (room < length (encode_image ver (call_of ver h b false)))
  rewrite_refused_default room n r =
      ⊎_elim (λ w. let k = adds_none ver h e b v in let z : ◌≡◌ {A = ℕ} 0 1 = cc in absurd (omega arith)) (λ w. w) (rewrite_refused_only ver h e b v false room n r)

  pub decode_default : head_entries ver (rewritten_head ver h b false) ≡ head_entries ver h
  decode_default = decode_same ver h e b v false (adds_none ver h e b v)
