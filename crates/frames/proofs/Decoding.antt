-- Decoding, line by line: the places of a line's parts, what is left to decode behind it, and what decode replies. Assumes nothing.
--     on_drop, stop_place, line_cut                the places that the code computes
--     back_..                                      one search for the end of a text and for a backslash in it
--     Parted, entries_left, left_all, left_none    the entries of the lines that are left to decode
--     Adds, adds                                   what the next line adds to the measure
--     Written, Asked, asked                        its record, written into the part of the block that is left
--     not_complete, few_lines                      what decode learns from parse
--     decodes_none, Settled, settled               what decode replies, and what it leaves in the block
use mathlib.Core.Path.{◌≡◌, refl, sym, ◌∙◌, ap, ap₂, subst}
use mathlib.Core.Bool.{Bool, true, false, ◌&&◌, ◌||◌, not}
use mathlib.Core.Logic.{◌⊎◌, inl, inr, ⊎_elim}
use mathlib.Core.Option.{Option, none, some}
use mathlib.Core.List.{List, [], ◌∷◌, ◌++◌}
use Prim.Native.Nat.{ℕ, suc, ◌+◌, ◌-◌, ◌≤◌, ◌<◌, min}
use native.Mathlib.Omega.{arith}
use lib.ListN.{length, take, drop, get_or, length-append, length-take, length-drop, drop_of_length-le}
use lib.Seq.{take-take, drop-drop, get_or-drop, get_or-take, length-take-le}
use lib.Dec.{eqb, leb, ltb}
use borrow.Author.Tests.{not-true, not-false, eqb-true, eqb-false, leb-true, leb-false, ltb-true, ltb-false, lt-ltb, le-ltb, ne_eqb}
use borrow.Rule.Slice.PartMut.{mid_of, put_mid}
use Rattle.headers.specs.Rows.{every, All}
use Rattle.headers.specs.Escapes.{decode}
use Rattle.headers.specs.Block.{Entry, image, Short}
use Rattle.headers.specs.Lines.{decoded_entry}
use Rattle.headers.specs.Answers.{Answer, accepted, refused, left_in, written_record, decoded_answer, record_says}
use Rattle.headers.specs.declared.octets.TooShort.{TooShort}
use Rattle.headers.specs.declared.text.Style.{Style}
use Rattle.headers.proofs.Rows.{and_left, and_right, and_no, and_yes, or_false_left, or_false_right}
use Rattle.headers.proofs.Put.{put_length, put_more, put_kept}
use Rattle.headers.proofs.Settling.{refusal, acceptance, short_is, decoded_yes}
use Rattle.headers.proofs.Answers.{record_once}
use Rattle.headers.proofs.Coding.{decode_short}
use Rattle.headers.proofs.Blocks.{length_image}
use Rattle.frames.specs.declared.layout.LineAt.{LineAt}
use Rattle.std.specs.Prelude as option
use Rattle.std.specs.Prelude.{Some, None, Result, Ok, Err}
use Rattle.frames.specs.declared.parse.Frame.{Frame}
use Rattle.frames.specs.declared.parse.Item.{Item}
use Rattle.frames.specs.declared.parse.Refusal.{Refusal}
use Rattle.frames.specs.Grammar.{crlf, style as style_in, frame, octets}
use Rattle.frames.specs.declared.version.Version.{Version}
use Rattle.frames.specs.Layout.{line_cr, line_stops, stop_span, behind_end, front_name, behind_colon, front_value, at_end, behind_line, front_lines, behind_word, back_stops}
use Rattle.frames.specs.Decoding.{line_entries, decode_answer, head_entries, Decodes}
use Rattle.frames.specs.Answers.{parsed_says}
use Rattle.headers.specs.Stretches.{span, plain_in, not_back, Stretch, calm}
use Rattle.frames.specs.Scanning.{style_of}
use Rattle.headers.proofs.Stretches.{span_le, span_rest, span_inside, span_clear, span_ends, span_stop, span_end}
use Rattle.frames.proofs.Heads.{frame_lines, head_short, block_long}
use Rattle.frames.proofs.Readings.{Other, OneFrame, NoFrame}

-- ---- Places

-- k places on, or at the end
pub on_drop : (xs : List ℕ) (i k r : ℕ) → r ≡ min (i + k) (length xs) → drop r xs ≡ drop k (drop i xs)
on_drop xs i k r e = by (leb (i + k) (length xs)) refl ∙ sym (drop-drop k i xs)
  where
    by : (t : Bool) → leb (i + k) (length xs) ≡ t → drop r xs ≡ drop (i + k) xs
    by true t = let far : r ≡ i + k = omega (arith, leb-true (i + k) (length xs) t) in ap (λ n. drop n xs) far
    by false t =
        let past = leb-false (i + k) (length xs) t in
        drop_of_length-le xs {i = r} (omega (arith, past)) ∙ sym (drop_of_length-le xs {i = i + k} (omega arith))

-- the first 10, cr or colon from i on
pub stop_place : (cr : ℕ) (colon : ℕ) (xs : List ℕ) (i k : ℕ) → i ≤ length xs → k ≡ stop_span cr colon (take (length xs - i) (drop i xs))
    → (i + k ≡ i + stop_span cr colon (drop i xs)) × (i + k ≤ length xs)
stop_place cr colon xs i k h e = span_rest (plain_in (line_stops cr colon)) xs i h e

-- the stretch of a text of n octets at the front of a row
text_stretch : (xs : List ℕ) (n k : ℕ) → k ≤ n → n ≤ length xs → every not_back (take k xs) ≡ true → (k ≡ n) ⊎ (get_or xs k 0 ≡ 92) → Stretch (take n xs) k
text_stretch xs n k kn nl clear ends =
    let long : length (take n xs) ≡ n = length-take-le n xs nl in
    record {
      within = omega (arith, long);
      clear = subst (λ z. every not_back z ≡ true) (sym (take-take k n xs kn)) clear;
      ends = by (ltb k n) refl ends;
    }
  where
    by : (t : Bool) → ltb k n ≡ t → (k ≡ n) ⊎ (get_or xs k 0 ≡ 92) → (k ≡ length (take n xs)) ⊎ (get_or (take n xs) k 0 ≡ 92)
    by false l w = inl (omega (arith, ltb-false k n l, length-take-le n xs nl))
    by true l (inl e) = absurd (omega (arith, ltb-true k n l, e))
    by true l (inr e) = inr (get_or-take n xs k 0 (ltb-true k n l) ∙ e)

-- the octet that ends text beside 10 is below 14
pub line_cr_low : (w : Bool) → line_cr w < 14
line_cr_low true = omega arith
line_cr_low false = omega arith

-- the octets before a backslash too
module _ (cr : ℕ) (colon : ℕ) where
  abbrev pub strict : ℕ → Bool
  strict x = plain_in (back_stops cr colon) x

  abbrev pub loose : ℕ → Bool
  loose x = plain_in (line_stops cr colon) x

  -- calm octets are none of these
  pub calm_strict : cr < 14 → (colon < 14) ⊎ (colon ≡ 58) → (x : ℕ) → calm 255 x ≡ true → strict x ≡ true
  calm_strict low kind x k =
      let d = and_left (leb 14 x && leb x 255 && not (eqb x 58)) (not (eqb x 92)) k in
      let b = and_left (leb 14 x && leb x 255) (not (eqb x 58)) d in
      let calm_low = leb-true 14 x (and_left (leb 14 x) (leb x 255) b) in
      let n58 = not-true (eqb x 58) (and_right (leb 14 x && leb x 255) (not (eqb x 58)) d) in
      let n92 = not-true (eqb x 92) (and_right (leb 14 x && leb x 255 && not (eqb x 58)) (not (eqb x 92)) k) in
      let apart : eqb x colon ≡ false =
      ⊎_elim (λ l. ne_eqb x colon (λ z. absurd (omega arith))) (λ e. ne_eqb x colon (λ z. eqb-false x 58 n58 (z ∙ e))) kind in
      rw (
        ne_eqb x 10 (λ z. absurd (omega arith)),
        ne_eqb x cr (λ z. absurd (omega arith)),
        apart,
        n92,
        and_right (leb 14 x) (leb x 255) b,
      )

  strict_loose : (x : ℕ) → strict x ≡ true → loose x ≡ true
  strict_loose x h =
      let others = or_false_left (eqb x 10 || eqb x cr || eqb x colon) (eqb x 92) (not-true _ (and_left _ (leb x 255) h)) in
      let ends = or_false_left (eqb x 10 || eqb x cr) (eqb x colon) others in
      rw (ap (◌|| eqb x 10) others ∙ or_false_left (eqb x 10) (eqb x cr) ends, and_right (not (eqb x 10 || eqb x cr || eqb x colon || eqb x 92)) (leb x 255) h) refl

  strict_clear : (x : ℕ) → strict x ≡ true → not_back x ≡ true
  strict_clear x h = rw (or_false_right (eqb x 10 || eqb x cr || eqb x colon) (eqb x 92) (not-true _ (and_left _ (leb x 255) h))) refl

  -- an octet that ends the search and is no backslash ends the text
  loose_end : (x : ℕ) → strict x ≡ false → (x ≡ 92 → ⊥) → loose x ≡ false
  loose_end x h n = by (eqb x 10 || eqb x cr || eqb x colon) (leb x 255) h
    where
      by : (t u : Bool) → not (t || eqb x 92) && u ≡ false → not (t || eqb x 10) && u ≡ false
      by true u e = refl
      by false false e = and_no (not (false || eqb x 10))
      by false true e = absurd (n (eqb-true x 92 (not-false _ (sym (and_yes (not (false || eqb x 92))) ∙ e))))

  module _ (xs : List ℕ) (i k : ℕ) (h : i ≤ length xs) (e : k ≡ span strict (take (length xs - i) (drop i xs))) where
    found : (i + k ≡ i + span strict (drop i xs)) × (i + k ≤ length xs)
    found = span_rest strict xs i h e

    is : span strict (drop i xs) ≡ k
    is = omega (arith, found.0)

    pub back_inside : i + k ≤ length xs
    back_inside = found.1

    pub back_clear : every not_back (take k (drop i xs)) ≡ true
    back_clear = subst (λ n. every not_back (take n (drop i xs)) ≡ true) is (span_clear strict not_back strict_clear (drop i xs))

    -- the end of the text, searched for from there
    pub back_more : i + k + stop_span cr colon (drop (i + k) xs) ≡ i + stop_span cr colon (drop i xs)
    back_more =
        let there : drop (span strict (drop i xs)) (drop i xs) ≡ drop (i + k) xs = drop-drop (span strict (drop i xs)) i xs ∙ ap (λ n. drop n xs) (sym found.0) in
        omega (arith, is, span_inside strict loose strict_loose (drop i xs), ap (span loose) there)

    pub back_past : length xs ≤ i + k → i + k ≡ i + stop_span cr colon (drop i xs)
    back_past l = span_end loose xs (i + k) l ∙ back_more

    pub back_none : i + k < length xs → (get_or xs (i + k) 0 ≡ 92 → ⊥) → i + k ≡ i + stop_span cr colon (drop i xs)
    back_none l n =
        let at : get_or (drop i xs) (span strict (drop i xs)) 0 ≡ get_or xs (i + k) 0 = ap (λ m. get_or (drop i xs) m 0) is ∙ get_or-drop i xs k 0 in
        let ends : strict (get_or xs (i + k) 0) ≡ false =
        ⊎_elim (λ w. absurd (omega (arith, w, is, length-drop i xs, l))) (λ w. ap strict (sym at) ∙ w) (span_ends strict (drop i xs)) in
        span_stop loose xs (i + k) l (loose_end (get_or xs (i + k) 0) ends n) ∙ back_more

    text_inside : k ≤ stop_span cr colon (drop i xs)
    text_inside = omega (arith, back_more)

    -- what is passed is the stretch of the text
    pub back_stretch : (i + k ≡ i + stop_span cr colon (drop i xs)) ⊎ (get_or xs (i + k) 0 ≡ 92) → Stretch (take (stop_span cr colon (drop i xs)) (drop i xs)) k
    back_stretch q =
        text_stretch (drop i xs) (stop_span cr colon (drop i xs)) k text_inside (span_le loose (drop i xs)) back_clear
        (⊎_elim (λ e. inl (omega (arith, e))) (λ e. inr (get_or-drop i xs k 0 ∙ e)) q)

-- up to the first 10, cr or colon, and from it on
module _ (cr : ℕ) (stop : ℕ) (xs : List ℕ) (i r : ℕ) (is : r ≡ i + stop_span cr stop (drop i xs)) where
  cut_name : take (r - i) (drop i xs) ≡ take (stop_span cr stop (drop i xs)) (drop i xs)
  cut_name = let wide : r - i ≡ stop_span cr stop (drop i xs) = omega arith in ap (λ n. take n (drop i xs)) wide

  pub cut_end : drop r xs ≡ drop (stop_span cr stop (drop i xs)) (drop i xs)
  cut_end = ap (λ n. drop n xs) is ∙ sym (drop-drop (stop_span cr stop (drop i xs)) i xs)

-- the parts of the line at i
pub line_cut : (cr : ℕ) (xs : List ℕ) (i colon value end next : ℕ) → colon ≡ i + stop_span cr 58 (drop i xs) → drop value xs ≡ drop 1 (drop colon xs)
    → end ≡ value + stop_span cr 10 (drop value xs) → drop next xs ≡ behind_end (drop end xs)
    → (take (colon - i) (drop i xs) ≡ front_name cr (drop i xs))
    × (take (end - value) (drop value xs) ≡ front_value cr (drop i xs))
    × (drop next xs ≡ behind_line cr (drop i xs))
    × (drop value xs ≡ behind_colon cr (drop i xs))
line_cut cr xs i colon value end next first on second behind =
    let past : drop value xs ≡ behind_colon cr (drop i xs) = on ∙ ap (drop 1) (cut_end cr 58 xs i colon first) ∙ drop-drop 1 (stop_span cr 58 (drop i xs)) (drop i xs) in
    (cut_name cr 58 xs i colon first, cut_name cr 10 xs value end second ∙ ap (λ z. take (stop_span cr 10 z) z) past, behind ∙ ap behind_end (cut_end cr 10 xs value end second ∙ ap (at_end cr) past), past)

-- ---- The lines that are left

-- l has the parts of the line at i
abbrev pub Parted : ℕ → List ℕ → ℕ → LineAt → Type 0
Parted cr xs i l =
    ((i ≤ l.colon) × (l.colon ≤ l.value) × (l.value ≤ l.end) × (l.end ≤ l.next) × (l.next ≤ length xs))
    × (take (l.colon - i) (drop i xs) ≡ front_name cr (drop i xs))
    × (take (l.end - l.value) (drop l.value xs) ≡ front_value cr (drop i xs))
    × (drop l.next xs ≡ behind_line cr (drop i xs))
    × Stretch (front_name cr (drop i xs)) l.known.name
    × Stretch (front_value cr (drop i xs)) l.known.value

module _ (cr : ℕ) (style : Style) (xs : List ℕ) (n : ℕ) where
  -- their entries, where i of n lines are passed and the next is at a place
  abbrev pub entries_left : ℕ → ℕ → List Entry
  entries_left i at = line_entries style (front_lines cr (n - i) (drop at xs))

  pub left_all : (at : ℕ) → entries_left 0 at ≡ line_entries style (front_lines cr n (drop at xs))
  left_all at = let all : n - 0 ≡ n = omega arith in ap (λ m. line_entries style (front_lines cr m (drop at xs))) all

  pub left_none : (i at : ℕ) → n ≤ i → entries_left i at ≡ []
  unfolding front_lines
  left_none i at h = let none : n - i ≡ 0 = omega arith in ap (λ m. line_entries style (front_lines cr m (drop at xs))) none

  -- the line at a place, of which name and value have a and b octets decoded, and the lines behind it
  pub record Adds (i at next a b : ℕ) : Type 0 where
    pub octets : length (image (entries_left i at)) ≡ 6 + a + b + length (image (entries_left (i + 1) next))
    pub few : at + a + b ≤ next

  -- its record, of k octets, is written behind the first used of d, which makes e of it
  pub record Written (i at next : ℕ) (d e : List ℕ) (used k : ℕ) : Type 0 where
    pub fewer : k + length (image (entries_left (i + 1) next)) ≡ length (image (entries_left i at))
    pub same_long : length e ≡ length d
    pub further : (whole : List ℕ) → take used d ++ image (entries_left i at) ≡ whole → take (used + k) e ++ image (entries_left (i + 1) next) ≡ whole
    pub kept : (d₀ : List ℕ) → drop used d ≡ drop used d₀ → drop (used + k) e ≡ drop (used + k) d₀

  -- a callee that is given that part of d answers r and leaves after in it
  pub record Asked (i at next : ℕ) (d after : List ℕ) (used : ℕ) (r : Result ℕ TooShort) : Type 0 where
    pub accepts : (k : ℕ) × (r ≡ Ok k)
    pub writes : (k : ℕ) → r ≡ Ok k → Written i at next d (put_mid used (length d - used) d after) used k
    pub rest_short : All Short (entries_left (i + 1) next)

  module _ (i at : ℕ) (l : LineAt) (more : i < n) (p : Parted cr xs at l) where
    -- name and value of the next line, raw, and its record
    abbrev raw_name : List ℕ
    raw_name = take (l.colon - at) (drop at xs)

    abbrev raw_value : List ℕ
    raw_value = take (l.end - l.value) (drop l.value xs)

    abbrev next_record : List ℕ
    next_record = written_record style raw_name raw_value

    left_next : entries_left i at ≡ decoded_entry style raw_name raw_value ∷ entries_left (i + 1) l.next
    unfolding front_lines
    left_next =
        let fewer : n - i ≡ suc (n - (i + 1)) = omega arith in
        ap (λ m. line_entries style (front_lines cr m (drop at xs))) fewer
        ∙ ap₂ (◌∷◌) (ap₂ (decoded_entry style) (sym p.1) (sym p.2)) (ap (λ ys. line_entries style (front_lines cr (n - (i + 1)) ys)) (sym p.3))

    pub adds : (a b : ℕ) → a ≡ length (decode style raw_name) → b ≡ length (decode style raw_value) → Adds i at l.next a b
    adds a b name_long value_long =
        record {
          octets = omega (arith, ap (λ es. length (image es)) left_next, length_image (decoded_entry style raw_name raw_value) (entries_left (i + 1) l.next));
          few =
              omega (arith, decode_short style raw_name, decode_short style raw_value, length-take (l.colon - at) (drop at xs), length-take (l.end - l.value) (drop l.value xs), p.0);
        }

    -- where every line that is left has a record, and the part of d that is left has room for all their records
    module _ (d after : List ℕ) (used : ℕ) (r : Result ℕ TooShort) (ok : All Short (entries_left i at)) (fits : used + length (image (entries_left i at)) ≤ length d)
        (says : record_says r ≡ decoded_answer style (length (mid_of used (length d - used) d)) raw_name raw_value)
        (leaves : after ≡ left_in (decoded_answer style (length (mid_of used (length d - used) d)) raw_name raw_value) next_record (mid_of used (length d - used) d)) where
      sum : Adds i at l.next (length (decode style raw_name)) (length (decode style raw_value))
      sum = adds _ _ refl refl

      apart : Short (decoded_entry style raw_name raw_value) × All Short (entries_left (i + 1) l.next)
      apart = subst (All Short) left_next ok

      accepted_so : decoded_answer style (length (mid_of used (length d - used) d)) raw_name raw_value ≡ accepted (length next_record ∷ [])
      accepted_so =
          decoded_yes style (length (mid_of used (length d - used) d)) raw_name raw_value
          (omega (arith, sum.octets, length-take (length d - used) (drop used d), length-drop used d))
          (short_is (decoded_entry style raw_name raw_value) apart.0)

      its_length : r ≡ Ok (length next_record)
      its_length = record_once r (Ok (length next_record)) (says ∙ accepted_so)

      module _ (k : ℕ) (e : r ≡ Ok k) where
        took : length next_record ≡ k
        took = cc its_length

        wrote : after ≡ next_record ++ drop k (mid_of used (length d - used) d)
        wrote =
            leaves
            ∙ ap (λ A. left_in A next_record (mid_of used (length d - used) d)) accepted_so
            ∙ ap (λ m. next_record ++ drop m (mid_of used (length d - used) d)) took

        less : k + length (image (entries_left (i + 1) l.next)) ≡ length (image (entries_left i at))
        less =
            let rest : List ℕ = image (entries_left (i + 1) l.next) in
            sym (ap (λ es. length (image es)) left_next ∙ length-append next_record rest ∙ ap (◌+ length rest) took)

        room : used + k ≤ length d
        room = omega (arith, less)

        written : Written i at l.next d (put_mid used (length d - used) d after) used k
        written =
            record {
              fewer = less;
              same_long = put_length used k d after next_record took room wrote;
              further = λ whole w. put_more used k d after next_record took room wrote _ _ w (ap image left_next);
              kept = λ d₀ h. put_kept used k d after next_record took room wrote d₀ h;
            }

      pub asked : Asked i at l.next d after used r
      asked = record { accepts = (length next_record, its_length); writes = written; rest_short = apart.1 }

-- ---- What decode replies

-- an answer of parse that tells of no frame
pub not_complete : (m : ℕ) (p : Result (option.Option Item) Refusal) → ((f : Frame) → p ≡ Ok (Some (Item.Frame f)) → ⊥) → Other m (parsed_says p)
not_complete m (Ok (Some (Item.HeartBeat n))) h = λ e. refl
not_complete m (Ok (Some (Item.Frame f))) h = absurd (h f refl)
not_complete m (Ok None) h = tt
not_complete m (Err r) h = tt

module _ (room : ℕ) where
  answer_none : (o : Option (List Entry)) → o ≡ none → decode_answer room o ≡ refused 20
  unfolding decode_answer
  answer_none o e = rw e

  module _ (es : List Entry) where
    answer_short : room < length (image es) → decode_answer room (some es) ≡ refused 21
    unfolding decode_answer
    answer_short h = rw (lt-ltb room (length (image es)) h)

    answer_yes : length (image es) ≤ room → decode_answer room (some es) ≡ accepted (length (image es) ∷ [])
    unfolding decode_answer
    answer_yes h = rw (le-ltb room (length (image es)) h)

pub decodes_none : (ver : Version) {xs : List ℕ} (before : List ℕ) → NoFrame ver xs → Decodes ver xs before (refused 20) before
decodes_none ver before f =
    let (answered, written) = refusal _ 20 _ before (answer_none (length before) _ f.no_entries) in
    record { tree = f.tree; reading = f.reading; answered = answered; written = written }

-- the replies to a frame whose entries are es, which were measured
pub record Settled (ver : Version) (xs before : List ℕ) (es : List Entry) (total : ℕ) : Type 0 where
  pub room : total ≤ length before → length (image es) ≤ length before
  pub short : length before < total → Decodes ver xs before (refused 21) before
  pub whole : total ≤ length before → (after : List ℕ) → after ≡ image es ++ drop (length (image es)) before → Decodes ver xs before (accepted (total ∷ [])) after

module _ (ver : Version) {xs : List ℕ} {c n s l : ℕ} (f : OneFrame ver xs c n s l) where
  pub few_lines : n ≤ 32
  few_lines = omega (arith, f.headers_are, f.valid.0.0.few)

  -- the code has the style of the frame's command, and where its lines begin
  module _ (cr : ℕ) (style : Style) (from : ℕ) (cr_is : cr ≡ line_cr (crlf ver)) (style_is : style ≡ style_of (crlf ver) c) (from_is : drop from xs ≡ behind_word cr xs) where
    abbrev es : List Entry
    es = line_entries style (front_lines cr n (drop from xs))

    entries_are : es ≡ head_entries ver f.h
    entries_are =
        let all = style_in ver f.h.command in
        ap (λ z. line_entries z (front_lines cr n (drop from xs))) (style_is ∙ ap (style_of (crlf ver)) f.command_is)
        ∙ ap₂ (λ k ys. line_entries all (front_lines cr k ys)) f.headers_are (from_is ∙ ap (behind_word cr) (sym f.whole))
        ∙ ap (λ z. line_entries all (front_lines z (length f.h.entries) (behind_word z (octets (frame f.h f.e f.b))))) cr_is
        ∙ ap (line_entries all) (frame_lines f.h f.e f.b ver f.valid)

    -- no line of a frame is longer decoded than raw, so each has a record
    pub each_short : All Short es
    each_short = subst (All Short) (sym entries_are) (head_short ver f.h f.valid.0.0)

    module _ (before : List ℕ) where
      decodes : (A : Answer) (after : List ℕ) → (A ≡ decode_answer (length before) (some es)) × (after ≡ left_in (decode_answer (length before) (some es)) (image es) before)
          → Decodes ver xs before A after
      decodes A after h =
          let (answered, written) = rw entries_are at h in
          record { tree = some (frame f.h f.e f.b); reading = (f.valid, f.whole); answered = answered; written = written }

      -- a block of 16,544 octets has room for any
      pub ample : 16544 ≤ length before → length (image es) ≤ length before
      ample h = omega (arith, ap (λ z. length (image z)) entries_are, block_long ver f.h f.valid.0.0)

      pub settled : (total : ℕ) → total ≡ length (image es) → Settled ver xs before es total
      settled total total_is =
          record {
            room = λ h. omega arith;
            short = λ h. decodes _ before (refusal _ 21 _ before (answer_short (length before) es (omega arith)));
            whole = λ h after w. rw total_is (decodes _ after (acceptance _ _ _ before after (answer_yes (length before) es (omega arith)) w));
          }
