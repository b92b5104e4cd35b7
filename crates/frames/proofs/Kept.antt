-- What C keeps reads back: the record in its octets, and the answer in its number. Assumes nothing.
--     record_back    the octets of a record that calls from a fresh parser leave
--     zeros_fresh, record_follows, told_follows    so the octets that C keeps are the parser
--     answer_back, stopped_back, own_back    the number of an answer that such a parser gives: a reply, a repeated refusal, 70 and 71
use mathlib.Core.Path.{◌≡◌, refl, sym, ◌∙◌, subst}
use mathlib.Core.Bool.{Bool, true, false, cond, ◌&&◌, ◌||◌, not}
use mathlib.Core.List.{List, ◌++◌}
use Prim.Native.Nat.{ℕ, ◌+◌, ◌-◌, ◌*◌, ◌/◌, ◌%◌, ◌<◌, ◌≤◌}
use native.Mathlib.Omega.{arith}
use lib.ListN.{length, replicate, length-append}
use lib.Dec.{eqb, leb, ltb}
use borrow.Author.Tests.{leb-true, ltb-true, ltb-false, lt-ltb}
use Rattle.headers.specs.Rows.{every, is_octet}
use Rattle.headers.proofs.Rows.{and_right}
use Rattle.frames.specs.declared.state.Scan.{Scan}
use Rattle.frames.specs.Grammar.{number, end, head, Tree, heart_beat, frame, octets, Shaped}
use Rattle.frames.specs.declared.version.Version.{Version}
use Rattle.frames.specs.Replies.{Reply, Complete, Incomplete, Invalid, told}
use Rattle.frames.specs.Scanning.{nothing_read, scan, scan_reply}
use Rattle.frames.specs.Validity.{is_valid}
use Rattle.frames.specs.Exactness.{Exact, Claims}
use Rattle.frames.specs.Streams.{replied, reach, refused, is_number, fits_version, is_resumable, feed_answer, feed_state, is_taken, tell_state}
use Rattle.frames.specs.Records.{mark, record_of, is_record, read_record, record_left, told_record, packed_taken, packed_feed, unpacked_feed}
use Rattle.frames.specs.Parsing.{parsed}
use Rattle.frames.specs.Refusals.{Reason, numbered, no_command, no_10, not_utf8, wrong_escape, nameless, second_colon, no_colon, long_line, many_lines, bad_length, past_body}
use Rattle.frames.proofs.EachCommand.{number_small}
use Rattle.frames.proofs.Sizes.{tree_short}
use Rattle.frames.proofs.Exact.{exact}
use Rattle.frames.proofs.Feeding.{Stands, within, fed_answer, so_far_octets}
use Rattle.frames.proofs.Bounds.{bounded}
use Rattle.frames.proofs.Resuming.{resumed, number_range, gives_short, gives_invalid}
use Rattle.frames.proofs.Repeating.{Stopped, repeats, Left, left_call, left_told, left_resumable, left_few}
use Rattle.frames.proofs.Telling.{not_taken}

-- ---- the record

-- numbers that fit their octets
record Fits (st : Scan) : Type 0 where
  command_fits : st.command < 256
  lines_fit : st.lines < 256
  matched_fits : st.matched < 256
  code_fits : st.code < 256
  size_fits : st.size < 65536
  len_fits : st.len < 65536
  at_fits : st.at < 65536

back : (st : Scan) → Fits st → read_record (record_of st) ≡ st
unfolding read_record is_record record_of
back st f =
    let two : (n : ℕ) → n < 65536 → n / 256 % 256 * 256 + n % 256 ≡ n = λ n h. omega arith in
    let one : (n : ℕ) → n < 256 → n % 256 ≡ n = λ n h. omega arith in
    rw (marked st.sized, marked (not st.crlf)) (rw (one st.command f.command_fits, one st.lines f.lines_fit, one st.matched f.matched_fits, one st.code f.code_fits, two st.size f.size_fits, two st.len f.len_fits, two st.at f.at_fits, set st.sized, unset st.crlf) refl)
  where
    marked : (b : Bool) → leb (mark b) 1 ≡ true
    marked true = refl
    marked false = refl

    set : (b : Bool) → eqb (mark b) 1 ≡ b
    set true = refl
    set false = refl

    unset : (b : Bool) → eqb (mark (not b)) 0 ≡ b
    unset true = refl
    unset false = refl

-- the number of a valid record
code_small : (st : Scan) → is_resumable st ≡ true → st.code < 70
unfolding is_resumable
code_small st h = by (ltb st.phase 14) refl (and_right (fits_version st) _ (and_right (leb st.at 49227) _ (and_right (is_valid st) _ h)))
  where
    by : (t : Bool) → ltb st.phase 14 ≡ t → t || (eqb st.phase 16 && is_number st.code) ≡ true → st.code < 70
    by true e k = omega (arith, (resumed st h).0.clean_code (omega (arith, ltb-true st.phase 14 e)))
    by false e k = omega (arith, leb-true st.code 11 (and_right (leb 1 st.code) (leb st.code 11) (number_range st.code ∙ and_right (eqb st.phase 16) (is_number st.code) k)))

-- ---- the answer

module _ (n : ℕ) (few : n < 65536) where
  beat_back : (u : ℕ) → unpacked_feed (packed_taken (Complete 1 u 0 0 0 0) n) ≡ replied (Complete 1 u 0 0 0 0) n
  beat_back u =
      let t : (1 + 4 * (n + 65536 * u)) % 4 ≡ 1 = omega arith in
      let q : (1 + 4 * (n + 65536 * u)) / 4 ≡ n + 65536 * u = omega arith in
      let q₁ : (n + 65536 * u) / 65536 ≡ u = omega arith in
      let r₁ : (n + 65536 * u) % 65536 ≡ n = omega arith in
      rw (t, q, q₁, r₁)

  more_back : unpacked_feed (packed_taken Incomplete n) ≡ replied Incomplete n
  more_back =
      let t : (4 * n) % 4 ≡ 0 = omega arith in
      let q : (4 * n) / 4 ≡ n = omega arith in
      rw (t, q)

  frame_back : (c h i l : ℕ) → c < 16 → h < 64 → i < 65536
      → unpacked_feed (packed_taken (Complete 2 (i + l + 1) c h i l) n) ≡ replied (Complete 2 (i + l + 1) c h i l) n
  frame_back c h i l hc hh hi =
      let a₃ = i + 65536 * l in
      let a₂ = h + 64 * a₃ in
      let a₁ = c % 16 + 16 * a₂ in
      let a₀ = n + 65536 * a₁ in
      let t : (2 + 4 * a₀) % 4 ≡ 2 = omega arith in
      let q : (2 + 4 * a₀) / 4 ≡ a₀ = omega arith in
      let q₀ : a₀ / 65536 ≡ a₁ = omega arith in
      let r₀ : a₀ % 65536 ≡ n = omega arith in
      let q₁ : a₁ / 16 ≡ a₂ = omega arith in
      let r₁ : a₁ % 16 ≡ c = omega arith in
      let q₂ : a₂ / 64 ≡ a₃ = omega arith in
      let r₂ : a₂ % 64 ≡ h = omega arith in
      let q₃ : a₃ / 65536 ≡ l = omega arith in
      let r₃ : a₃ % 65536 ≡ i = omega arith in
      rw (t, q, q₀, r₀, q₁, r₁, q₂, r₂, q₃, r₃)

  refusal_back : (k m : ℕ) → k < 70 → unpacked_feed (packed_taken (Invalid k m) n) ≡ replied (Invalid k m) n
  refusal_back k m hk =
      let a₁ = k % 256 + 256 * m in
      let a₀ = n + 65536 * a₁ in
      let t : (3 + 4 * a₀) % 4 ≡ 3 = omega arith in
      let q : (3 + 4 * a₀) / 4 ≡ a₀ = omega arith in
      let q₀ : a₀ / 65536 ≡ a₁ = omega arith in
      let r₀ : a₀ % 65536 ≡ n = omega arith in
      let q₁ : a₁ / 256 ≡ m = omega arith in
      let r₁ : a₁ % 256 ≡ k = omega arith in
      rw (t, q, q₀, r₀, q₁, r₁, lt-ltb k 70 hk)

reason_small : (r : Reason) → numbered r < 70
reason_small = elim [ no_command ↦ omega arith | no_10 ↦ omega arith | not_utf8 ↦ omega arith | wrong_escape ↦ omega arith | nameless ↦ omega arith | second_colon ↦ omega arith | no_colon ↦ omega arith | long_line ↦ omega arith | many_lines ↦ omega arith | bad_length ↦ omega arith | past_body ↦ omega arith ]

module _ (ver : Version) where
  tree_back : (n : ℕ) → n < 65536 → (t : Tree) → Shaped ver t → unpacked_feed (packed_taken (told t) n) ≡ replied (told t) n
  tree_back n few (heart_beat e) ok = beat_back n few (length (end e))
  tree_back n few (frame h e b) ok =
      let at = length (head h ++ end e) in
      let whole : at + length b + 1 ≡ length (octets (frame h e b)) = simp length-append (omega arith) in
      let long = tree_short ver (frame h e b) ok in
      subst (λ u. unpacked_feed (packed_taken (Complete 2 u (number h.command) (length h.entries) at (length b)) n) ≡ replied (Complete 2 u (number h.command) (length h.entries) at (length b)) n) whole
      (frame_back n few (number h.command) (length h.entries) at (length b) (omega (arith, number_small h.command)) (omega (arith, ok.0.few)) (omega arith))

  -- an exact reply, with the octets taken
  reply_back : (zs : List ℕ) (r : Reply) → Exact ver zs r → (n : ℕ) → n < 65536 → unpacked_feed (packed_feed (replied r n)) ≡ replied r n
  reply_back zs r x n few = by r x.claims
    where
      by : (r : Reply) → Claims ver zs r → unpacked_feed (packed_feed (replied r n)) ≡ replied r n
      by (Complete k u c h s l) (t, rest, b, e, one, not) = subst (λ z. unpacked_feed (packed_feed (replied z n)) ≡ replied z n) e (tree_back n few t b.0.0)
      by Incomplete c = more_back n few
      by (Invalid k m) (l, z, none) = refusal_back n few k m (subst (λ y. y < 70) z.first.number (reason_small z.first.reason))

  -- what such a parser answers reads back
  pub answer_back : {st : Scan} {buffer xs : List ℕ} (s : Stands ver st buffer xs) (piece : List ℕ) → every is_octet piece ≡ true
      → unpacked_feed (packed_feed (feed_answer st buffer piece)) ≡ feed_answer st buffer piece
  answer_back {st} {buffer} {xs} s piece o =
      let so_far = xs ++ piece in
      let (a, b, c) = within ver s piece o in
      subst (λ z. unpacked_feed (packed_feed z) ≡ z) (sym (fed_answer ver s piece o))
      (reply_back so_far (parsed ver so_far) (exact ver so_far (so_far_octets ver s piece o)) (reach (parsed ver so_far) (length so_far) - length xs) (omega arith))

  -- so do the repeated refusal of a stopped parser, and 70 and 71
  pub stopped_back : {st : Scan} {k n : ℕ} → Stopped st k n → (buffer piece : List ℕ) → 49228 ≤ length buffer
      → unpacked_feed (packed_feed (feed_answer st buffer piece)) ≡ feed_answer st buffer piece
  stopped_back {st} {k} {n} s buffer piece long =
      subst (λ z. unpacked_feed (packed_feed z) ≡ z) (sym (repeats s buffer piece long).0)
      (refusal_back 0 (omega arith) k n (omega (arith, code_small st s.resumes, s.number)))

  pub own_back : (unpacked_feed (packed_feed (refused 70)) ≡ refused 70) × (unpacked_feed (packed_feed (refused 71)) ≡ refused 71)
  own_back = (refl, refl)

pub record_back : {st : Scan} → Left st → read_record (record_of st) ≡ st
record_back {st} l =
    let r = left_resumable l in
    let (v, few) = resumed st r in
    let b = bounded st v in
    let (m, c) = left_few l in
    back st (record { command_fits = omega arith; lines_fit = omega arith; matched_fits = omega arith; code_fits = omega (arith, code_small st r); size_fits = omega arith; len_fits = omega arith; at_fits = omega arith })

-- sixteen octets 0 are a fresh parser, and the octets handed back as they were left are the parser that was left
pub zeros_fresh : read_record (replicate 16 0) ≡ nothing_read true
unfolding read_record is_record
zeros_fresh = refl

pub record_follows : {st : Scan} → Left st → (octets_kept buffer piece : List ℕ) → every is_octet piece ≡ true → read_record octets_kept ≡ st
    → read_record (record_left (feed_answer st buffer piece) (feed_state st buffer piece) octets_kept) ≡ feed_state st buffer piece
unfolding feed_answer
record_follows {st} l kept buffer piece o e = by (ltb (length buffer) 49228) refl (is_resumable st) refl
  where
    by : (t : Bool) → ltb (length buffer) 49228 ≡ t → (u : Bool) → is_resumable st ≡ u
        → read_record (record_left (cond (ltb (length buffer) 49228) (refused 70) (cond (is_resumable st) (replied (scan_reply (scan st piece)) ((scan st piece).at - st.at)) (refused 71))) (feed_state st buffer piece) kept) ≡ feed_state st buffer piece
    by true p u q = rw p (e ∙ (gives_short st buffer piece (ltb-true (length buffer) 49228 p)).1)
    by false p false q = rw (p, q) (e ∙ (gives_invalid st buffer piece (ltb-false (length buffer) 49228 p) q).1)
    by false p true q = rw (p, q) (record_back (left_call l buffer piece o))

-- the same where a version is told
pub told_follows : {st : Scan} → Left st → (octets_kept : List ℕ) (ver : Version) → read_record octets_kept ≡ st
    → read_record (told_record ver octets_kept) ≡ tell_state ver st
unfolding told_record
told_follows {st} l kept ver e = rw e (by (is_taken st) refl)
  where
    by : (t : Bool) → is_taken st ≡ t → read_record (cond t (record_of (tell_state ver st)) kept) ≡ tell_state ver st
    by true h = record_back (left_told l ver)
    by false h = e ∙ sym (not_taken ver st h)
