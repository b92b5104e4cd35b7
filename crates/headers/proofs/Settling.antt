-- Answers settled by checks in order: laws. Assumes nothing.
--     all_pass, all_accepted  accepted exactly where every check passes
--     refusal, acceptance     what a buffer call owes at its end, from the answer alone
--     kept_..                 a record of which octets are taken as they are
--     written_..               a record that is written says the lengths of its entry
--     decoded_.., length_.., encoded_.., line_.., decimal_..   which answer the checks of a call settle on
use mathlib.Core.Path.{◌≡◌, refl, sym, ap, ap₂, ◌∙◌}
use mathlib.Core.Bool.{Bool, true, false, cond, ◌&&◌, ◌||◌, not}
use mathlib.Core.Option.{some}
use mathlib.Core.List.{List, [], ◌∷◌, ◌++◌}
use Prim.Native.Nat.{ℕ, zero, suc, ◌+◌, ◌≤◌, ◌<◌, ◌-◌}
use native.Mathlib.Omega.{arith}
use lib.ListN.{length, take, drop, length-append, take-append-drop, length-drop, drop_of_length-le}
use lib.Seq.{take_all}
use lib.Dec.{eqb, leb, ltb, eqb-suc-zero}
use borrow.Author.Tests.{leb-true, leb-false, le-leb, lt-leb, ltb-true, lt-ltb, le-ltb}
use Rattle.headers.specs.Rows.{empty, every, All}
use Rattle.headers.specs.Text.{divides, stops, is_utf8}
use Rattle.headers.specs.Escapes.{decode, encode, escaped, writable}
use Rattle.headers.specs.Numbers.{shortest}
use Rattle.headers.specs.Block.{Entry, entry_record, Short, is_short, entries}
use Rattle.headers.specs.Stretches.{not_back, kept, unescaped}
use Rattle.headers.specs.Lines.{entry_of, decoded_entry, raw_line, written_line, can_stand, can_write}
use Rattle.headers.specs.Answers.{Answer, accepted, refused, Check, settle, left_in, written_record, lacks_room, decoded_answer, writable_answer, length_answer, encoded_answer, line_answer, decimal_answer}
use Rattle.headers.specs.declared.text.Style.{Style}
use Rattle.headers.specs.declared.text.Field.{Field}
use Rattle.headers.specs.declared.text.Field.TheVariants.{Name, Value}
use Rattle.headers.proofs.Rows.{and_left, and_right, and_no, refuted, every_right, every_append, every_also}
use Rattle.headers.proofs.Reading.{table_is}
use Rattle.headers.proofs.Coding.{kept_clear, decode_off, encode_long, encode_append}
use Rattle.headers.proofs.Blocks.{length_record}
use Rattle.headers.proofs.LaidOut.{entries_record}

-- ---- checks in order

-- a check passes
abbrev pub Passes : Check → Type 0
Passes c = c.fails ≡ false

accepted_refused : (v : List ℕ) (k : ℕ) → accepted v ≡ refused k → ⊥
accepted_refused v k e = let z : ◌≡◌ {A = ℕ} 0 1 = cc in omega arith

-- where the answer is accepted, every check passes
pub all_pass : (cs : List Check) (v w : List ℕ) → settle cs v ≡ accepted w → All Passes cs
all_pass [] v w e = tt
all_pass (c ∷ cs) v w e =
    by c.fails refl e (all_pass cs v w)
  where
    by : (t : Bool) → c.fails ≡ t → cond t (refused c.number) (settle cs v) ≡ accepted w → (settle cs v ≡ accepted w → All Passes cs)
        → Passes c × All Passes cs
    by true f h go = absurd (accepted_refused w c.number (sym h))
    by false f h go = (f, go h)

-- where every check passes, the answer is accepted
pub all_accepted : (cs : List Check) (v : List ℕ) → All Passes cs → settle cs v ≡ accepted v
all_accepted [] v p = refl
all_accepted (c ∷ cs) v p = ap (λ t. cond t (refused c.number) (settle cs v)) p.0 ∙ all_accepted cs v p.1

-- ---- what a call leaves in a buffer

-- refused: the buffer is as before
pub refusal : (A : Answer) (k : ℕ) (R d : List ℕ) → A ≡ refused k → (refused k ≡ A) × (d ≡ left_in A R d)
refusal A k R d e = rw e (refl, refl)

-- accepted: the buffer holds what is written, and the rest as before
pub acceptance : (A : Answer) (values R d after : List ℕ) → A ≡ accepted values → after ≡ R ++ drop (length R) d → (accepted values ≡ A) × (after ≡ left_in A R d)
acceptance A values R d after e w = rw e (refl, w)

-- what an answer that is a length or 53 says
pub told_refused : (can : Bool) (n k : ℕ) → refused k ≡ writable_answer can n → can ≡ false
told_refused true n k h = absurd (let z : ◌≡◌ {A = ℕ} 0 1 = cc in omega arith)
told_refused false n k h = refl

pub told_accepted : (can : Bool) (n m : ℕ) → accepted (m ∷ []) ≡ writable_answer can n → (can ≡ true) × (m ≡ n)
told_accepted true n m h = (refl, cc)
told_accepted false n m h = absurd (let z : ◌≡◌ {A = ℕ} 0 1 = cc in omega arith)

-- ---- one raw line of an entry

module _ (s : Style) (e : Entry) where
  pub raw_long : length (raw_line s e) ≡ length (encode s e.name) + 1 + length (encode s e.value)
  raw_long = simp length-append (omega arith)

  pub written_long : length (written_line s e) ≡ length (raw_line s e) + 1
  written_long = simp length-append (omega arith)

  pub line_long : length (written_line s e) ≡ length (encode s e.name) + 1 + length (encode s e.value) + 1
  line_long = written_long ∙ ap (◌+ 1) raw_long

  pub no_name : empty e.name ≡ true → can_write s e ≡ false
  no_name h = rw h

  pub no_name_text : can_stand s Name e.name ≡ false → can_write s e ≡ false
  no_name_text h = simp (h, and_no)

  pub no_value_text : can_stand s Value e.value ≡ false → can_write s e ≡ false
  no_value_text h = simp (h, and_no)

  pub no_room : 512 < length (raw_line s e) → can_write s e ≡ false
  no_room h = simp (lt-leb (length (raw_line s e)) 512 h, and_no)

  -- not even where nothing is escaped
  pub no_room_plain : 511 < length e.name + length e.value → can_write s e ≡ false
  no_room_plain h = no_room (omega (arith, raw_long, encode_long s e.name, encode_long s e.value))

  pub can : empty e.name ≡ false → can_stand s Name e.name ≡ true → can_stand s Value e.value ≡ true → length (raw_line s e) ≤ 512 → can_write s e ≡ true
  can a b c h = simp (a, b, c, le-leb (length (raw_line s e)) 512 h)

  pub length_no : can_write s e ≡ false → length_answer s e ≡ refused 53
  unfolding length_answer
  length_no h = rw h

  pub length_yes : can_write s e ≡ true → length_answer s e ≡ accepted (length (raw_line s e) ∷ [])
  unfolding length_answer
  length_yes h = rw h

  -- what the length's answer says of the entry
  pub length_refused : (k : ℕ) → refused k ≡ length_answer s e → can_write s e ≡ false
  unfolding length_answer
  length_refused k h = told_refused (can_write s e) (length (raw_line s e)) k h

  pub length_accepted : (n : ℕ) → accepted (n ∷ []) ≡ length_answer s e → (can_write s e ≡ true) × (n ≡ length (raw_line s e))
  unfolding length_answer
  length_accepted n h = told_accepted (can_write s e) (length (raw_line s e)) n h

  pub line_no : (room : ℕ) → can_write s e ≡ false → line_answer s room e ≡ refused 53
  unfolding line_answer
  line_no room h = rw h

  -- an entry that can be written is refused only as any entry is
  pub line_as : (room : ℕ) → can_write s e ≡ true → line_answer s room e ≡ encoded_answer s room e
  unfolding line_answer encoded_answer
  line_as room h = rw h

  pub encoded_short : (room : ℕ) → room < length (written_line s e) → encoded_answer s room e ≡ refused 56
  unfolding encoded_answer
  encoded_short room l = rw (lt-ltb room (length (written_line s e)) l)

  pub encoded_yes : (room : ℕ) → length (written_line s e) ≤ room → encoded_answer s room e ≡ accepted (length (written_line s e) ∷ [])
  unfolding encoded_answer
  encoded_yes room l = rw (le-ltb room (length (written_line s e)) l)

-- ---- a name of k octets, and the value behind it in the same text

abbrev pub divided : ℕ → List ℕ → Entry
divided k xs = entry_of (take k xs) (drop k xs)

pub divided_empty : (k : ℕ) (xs : List ℕ) → empty (take k xs) ≡ eqb k 0 || eqb (length xs) 0
divided_empty zero xs = refl
divided_empty (suc k) [] = rw (eqb-suc-zero k)
divided_empty (suc k) (x ∷ xs) = rw (eqb-suc-zero k, eqb-suc-zero (length xs))

pub divided_plain : (k : ℕ) (xs : List ℕ) → length (take k xs) + length (drop k xs) ≡ length xs
divided_plain k xs = simp length-append at (ap length (take-append-drop k xs))

-- ---- a text: each octet can be written, and it is UTF-8

module _ (s : Style) (f : Field) (xs : List ℕ) (n : ℕ) where
  pub stand_octets : every (writable s f) xs ≡ false → refused 53 ≡ writable_answer (can_stand s f xs) n
  stand_octets h = rw h

  pub stand_utf8 : is_utf8 xs ≡ false → refused 53 ≡ writable_answer (can_stand s f xs) n
  stand_utf8 h = let z : can_stand s f xs ≡ false = simp (h, and_no) in rw z

  pub stand_yes : (m : ℕ) → every (writable s f) xs ≡ true → is_utf8 xs ≡ true → m ≡ n → accepted (m ∷ []) ≡ writable_answer (can_stand s f xs) n
  stand_yes m h u e = rw (h, u, e)

-- the part of a row up to a place, or to its end
pub take_place : (a e : ℕ) (xs : List ℕ) → (a ≤ length xs → e ≡ a) → (length xs < a → e ≡ length xs) → take e xs ≡ take a xs
take_place a e xs inside past = by (leb a (length xs)) refl
  where
    by : (t : Bool) → leb a (length xs) ≡ t → take e xs ≡ take a xs
    by true t = ap (λ n. take n xs) (inside (leb-true a (length xs) t))
    by false t = let l = leb-false a (length xs) t in take_all e xs (omega (arith, past l)) ∙ sym (take_all a xs (omega arith))

-- and the part after it
pub drop_place : (k e : ℕ) (xs : List ℕ) → (k ≤ length xs → e ≡ k) → (length xs < k → e ≡ length xs) → take (length xs - e) (drop e xs) ≡ drop k xs
drop_place k e xs inside past = take_all (length xs - e) (drop e xs) (omega (arith, length-drop e xs)) ∙ by (leb k (length xs)) refl
  where
    by : (t : Bool) → leb k (length xs) ≡ t → drop e xs ≡ drop k xs
    by true t = ap (λ m. drop m xs) (inside (leb-true k (length xs) t))
    by false t =
        let l = leb-false k (length xs) t in
        let p = past l in
        drop_of_length-le xs {i = e} (omega arith) ∙ sym (drop_of_length-le xs {i = k} (omega arith))

-- what can be written, by whether there are escapes: each stop has one. Octets 10, 58 and 92 are escaped, and 13 where it is a stop.
pub writable_is : (s : Style) (f : Field) (x : ℕ) → s.escapes || not (stops s f x) ≡ writable s f x
writable_is s f x =
    rw (table_is (λ k. k.octet) s x) (by s.escapes (eqb x 13 && s.crlf) (eqb x 10) (eqb x 58) (eqb x 92) (divides s f))
  where
    by : (e cr lf colon back d : Bool) → e || not (lf || cr || (colon && d)) ≡ e && (cr || (lf || (colon || (back || false)))) || not (lf || cr || (colon && d))
    by false cr lf colon back d = refl
    by true true lf colon back d = refl
    by true false true colon back d = refl
    by true false false true back d = refl
    by true false false false true d = refl
    by true false false false false d = refl

-- where there are escapes any octet can be written
pub all_writable : (s : Style) (f : Field) → s.escapes ≡ true → (xs : List ℕ) → every (writable s f) xs ≡ true
all_writable s f e [] = refl
all_writable s f e (x ∷ xs) = rw (sym (writable_is s f x) ∙ ap (λ b. b || not (stops s f x)) e) (all_writable s f e xs)

-- what can be written in a name can be in a value
name_value : (s : Style) (x : ℕ) → writable s Name x ≡ true → writable s Value x ≡ true
name_value s x h = by (escaped s x) (eqb x 10 || (eqb x 13 && s.crlf)) (eqb x 58) s.escapes h
  where
    by : (e a c d : Bool) → e || not (a || (c && true)) ≡ true → e || not (a || (c && d)) ≡ true
    by true a c d k = refl
    by false true c d k = k
    by false false true true k = k
    by false false true false k = refl
    by false false false d k = refl

module _ (s : Style) (k : ℕ) (xs : List ℕ) where
  pub divided_long : length (raw_line s (divided k xs)) ≡ length (encode s xs) + 1
  divided_long =
      let whole = sym (encode_append s (take k xs) (drop k xs)) ∙ ap (encode s) (take-append-drop k xs) in
      omega (arith, raw_long s (divided k xs), simp length-append at (ap length whole))

  -- a name takes no more than a value
  pub divided_octet : every (writable s Value) xs ≡ false → can_write s (divided k xs) ≡ false
  divided_octet h =
      refuted (can_write s (divided k xs))
      (λ w.
      let texts = and_right (not (empty (take k xs))) _ w in
      let name = and_left (every (writable s Name) (take k xs)) _ (and_left (can_stand s Name (take k xs)) _ texts) in
      let value = and_left (every (writable s Value) (drop k xs)) _ (and_left (can_stand s Value (drop k xs)) _ (and_right (can_stand s Name (take k xs)) _ texts)) in
      let whole : every (writable s Value) (take k xs ++ drop k xs) ≡ true =
      every_append (writable s Value) (take k xs) (drop k xs) (every_also (writable s Name) (writable s Value) (name_value s) (take k xs) name) value in
      let all : every (writable s Value) xs ≡ true = rw take-append-drop at whole in
      let z : ◌≡◌ {A = ℕ} 0 1 = cc in omega arith)

  pub divided_name : every (writable s Name) (take k xs) ≡ false → can_write s (divided k xs) ≡ false
  divided_name h = no_name_text s (divided k xs) (rw h refl)

  -- each is UTF-8 by itself
  pub divided_utf8 : is_utf8 (take k xs) && is_utf8 (drop k xs) ≡ false → can_write s (divided k xs) ≡ false
  divided_utf8 h = by (is_utf8 (take k xs)) refl
    where
      by : (t : Bool) → is_utf8 (take k xs) ≡ t → can_write s (divided k xs) ≡ false
      by false e = no_name_text s (divided k xs) (ap (every (writable s Name) (take k xs) &&◌) e ∙ and_no (every (writable s Name) (take k xs)))
      by true e =
          let v : is_utf8 (drop k xs) ≡ false = rw e at h in
          no_value_text s (divided k xs) (ap (every (writable s Value) (drop k xs) &&◌) v ∙ and_no (every (writable s Value) (drop k xs)))

  pub divided_can : empty (take k xs) ≡ false → every (writable s Value) xs ≡ true → every (writable s Name) (take k xs) ≡ true
      → is_utf8 (take k xs) && is_utf8 (drop k xs) ≡ true → length (encode s xs) ≤ 511 → can_write s (divided k xs) ≡ true
  divided_can named h n u fits =
      let whole : every (writable s Value) (take k xs ++ drop k xs) ≡ true = rw take-append-drop h in
      can s (divided k xs) named
      (rw (n, and_left (is_utf8 (take k xs)) (is_utf8 (drop k xs)) u) refl)
      (rw (every_right (writable s Value) (take k xs) (drop k xs) whole, and_right (is_utf8 (take k xs)) (is_utf8 (drop k xs)) u) refl)
      (omega (arith, divided_long))

-- ---- one record

-- a name and a value of which octets without a backslash are taken as they are: their record is that of the decoded text
module _ (s : Style) (i j : ℕ) (name value : List ℕ) (n : every not_back (take i name) ≡ true) (v : every not_back (take j value) ≡ true) where
  kept_entry : decoded_entry unescaped (kept i s name) (kept j s value) ≡ decoded_entry s name value
  kept_entry = ap₂ entry_of (decode_off unescaped refl (kept i s name) ∙ kept_clear s i name n) (decode_off unescaped refl (kept j s value) ∙ kept_clear s j value v)

  pub kept_record : written_record unescaped (kept i s name) (kept j s value) ≡ written_record s name value
  kept_record = ap entry_record kept_entry

  pub kept_answer : (room : ℕ) → decoded_answer unescaped room (kept i s name) (kept j s value) ≡ decoded_answer s room name value
  unfolding decoded_answer
  kept_answer room =
      ap (λ e. settle (record { fails = lacks_room room e; number = 21 } ∷ []) (length (entry_record e) ∷ [])) kept_entry

module _ (s : Style) (name value : List ℕ) where
  pub record_long : length (written_record s name value) ≡ 6 + length (decode s name) + length (decode s value)
  record_long = length_record (decoded_entry s name value)

-- an entry whose lengths a record can say
pub short_is : (e : Entry) → Short e → is_short e ≡ true
short_is e h = rw (lt-ltb (length e.name) 65536 h.name_fits, lt-ltb (length e.value) 65536 h.value_fits) refl

pub is_short_short : (e : Entry) → is_short e ≡ true → Short e
is_short_short e h =
    record {
      name_fits = ltb-true (length e.name) 65536 (and_left _ _ h);
      value_fits = ltb-true (length e.value) 65536 (and_right (ltb (length e.name) 65536) _ h);
    }

module _ (s : Style) (room : ℕ) (name value : List ℕ) where
  pub decoded_short : room < 6 + length (decode s name) + length (decode s value) → decoded_answer s room name value ≡ refused 21
  unfolding decoded_answer
  decoded_short h = rw (lt-ltb room (length (written_record s name value)) (omega (arith, record_long s name value)))

  module _ (fits : 6 + length (decode s name) + length (decode s value) ≤ room) where
    enough : ltb room (length (written_record s name value)) ≡ false
    enough = le-ltb room (length (written_record s name value)) (omega (arith, record_long s name value))

    pub decoded_over : is_short (decoded_entry s name value) ≡ false → decoded_answer s room name value ≡ refused 21
    unfolding decoded_answer
    decoded_over h = rw (enough, h)

    pub decoded_yes : is_short (decoded_entry s name value) ≡ true → decoded_answer s room name value ≡ accepted (length (written_record s name value) ∷ [])
    unfolding decoded_answer
    decoded_yes h = rw (enough, h)

  -- what is written has a record: both of its lengths are those that the record says
  pub written_short : {values : List ℕ} → decoded_answer s room name value ≡ accepted values → Short (decoded_entry s name value)
  unfolding decoded_answer
  written_short {values} e = by (ltb room (length (written_record s name value))) (is_short (decoded_entry s name value)) refl e
    where
      by : (a b : Bool) → is_short (decoded_entry s name value) ≡ b
          → cond (a || not b) (refused 21) (accepted (length (written_record s name value) ∷ [])) ≡ accepted values → Short (decoded_entry s name value)
      by true b h k = let z : ◌≡◌ {A = ℕ} 0 1 = cc in absurd (omega arith)
      by false false h k = let z : ◌≡◌ {A = ℕ} 0 1 = cc in absurd (omega arith)
      by false true h k = is_short_short (decoded_entry s name value) h

  -- so it reads back as that one entry
  pub written_entry : {values : List ℕ} → decoded_answer s room name value ≡ accepted values
      → entries (written_record s name value) ≡ some (decoded_entry s name value ∷ [])
  written_entry e = entries_record (decoded_entry s name value) (written_short e)

-- ---- a decimal that has room

pub decimal_room : (room n : ℕ) → length (shortest n) ≤ room → decimal_answer room n ≡ accepted (length (shortest n) ∷ [])
unfolding decimal_answer
decimal_room room n h = rw (le-ltb room (length (shortest n)) h)

pub decimal_length : (room n k : ℕ) → length (shortest n) ≤ room → accepted (k ∷ []) ≡ decimal_answer room n → k ≡ length (shortest n)
decimal_length room n k h e = let a = e ∙ decimal_room room n h in cc

pub decimal_never : (room n k : ℕ) → length (shortest n) ≤ room → refused k ≡ decimal_answer room n → ⊥
decimal_never room n k h e = let a = e ∙ decimal_room room n h in let z : ◌≡◌ {A = ℕ} 0 1 = cc in omega arith

-- what write_decimal leaves then
pub decimal_put : (d after : List ℕ) (n : ℕ) → length (shortest n) ≤ length d → after ≡ left_in (decimal_answer (length d) n) (shortest n) d
    → after ≡ shortest n ++ drop (length (shortest n)) d
decimal_put d after n h w = w ∙ ap (λ z. left_in z (shortest n) d) (decimal_room (length d) n h)
