-- The rule for a record, by the code's tests; and what it leaves to a call. Assumes nothing.
use mathlib.Core.Path.{◌≡◌, refl, sym, ◌∙◌, ap}
use mathlib.Core.Bool.{Bool, true, false, cond, ◌&&◌, ◌||◌, not, true≢false}
use mathlib.Core.List.{List}
use Prim.Native.Nat.{ℕ, ◌-◌, ◌≤◌, ◌<◌, min}
use native.Mathlib.Omega.{arith}
use native.Mathlib.Decide.{dec_lt}
use lib.ListN.{length}
use lib.Seq.{paste}
use lib.Dec.{eqb, leb, ltb}
use borrow.Author.Tests.{ne_eqb, leb-true, not-true, lt-ltb, le-ltb, lt-leb}
use Rattle.headers.proofs.Rows.{and_left, and_right, and_no, refuted}
use Rattle.frames.specs.declared.state.Scan.{Scan}
use Rattle.frames.specs.Scanning.{Valid, scan, scan_reply, nothing_read}
use Rattle.frames.specs.Validity.{is_valid}
use Rattle.frames.specs.Streams.{replied, refused, is_number, after_cr, fits_version, is_resumable, is_whole, feed_answer, feed_state, feed_buffer}
use Rattle.frames.proofs.Upto.{upto_at}
use Rattle.frames.proofs.Checks.{valid_decides}

-- ---- the numbers of the table are those from 1 to 11

alike : (a b : Bool) → cond b a (not a) ≡ true → a ≡ b
alike a true h = h
alike a false h = not-true a h

pub number_range : (k : ℕ) → leb 1 k && leb k 11 ≡ is_number k
number_range k = by (dec_lt k 12)
  where
    by : Dec (k < 12) → leb 1 k && leb k 11 ≡ is_number k
    by (yes h) = alike (leb 1 k && leb k 11) (is_number k) (upto_at (λ i. cond (is_number i) (leb 1 i && leb i 11) (not (leb 1 i && leb i 11))) 12 k refl h)
    by (no h) =
        simp
        (refuted (leb k 11) (λ t. omega (arith, leb-true k 11 t)), and_no, ne_eqb k 1 (λ e. omega arith), ne_eqb k 2 (λ e. omega arith), ne_eqb k 3 (λ e. omega arith), ne_eqb k 4 (λ e. omega arith), ne_eqb k 5 (λ e. omega arith), ne_eqb k 6 (λ e. omega arith), ne_eqb k 7 (λ e. omega arith), ne_eqb k 8 (λ e. omega arith), ne_eqb k 9 (λ e. omega arith), ne_eqb k 10 (λ e. omega arith), ne_eqb k 11 (λ e. omega arith))

-- ---- a state that passes

module _ (st : Scan) where
  -- a test that passes exactly where the state is valid is the test for it
  pub valid_test : (t : Bool) → (t ≡ true → Valid st) × (Valid st → t ≡ true) → t ≡ is_valid st
  valid_test true (f, g) = sym ((valid_decides st).sure (f refl))
  valid_test false (f, g) = sym (refuted (is_valid st) (λ e. let q = g ((valid_decides st).pass e) in let z : ◌≡◌ {A = ℕ} 0 1 = cc in omega arith))

  pub resumed : is_resumable st ≡ true → Valid st × (st.at ≤ 49227)
  unfolding is_resumable
  resumed h =
      let rest = leb st.at 49227 && (fits_version st && (ltb st.phase 14 || (eqb st.phase 16 && is_number st.code))) in
      ((valid_decides st).pass (and_left (is_valid st) rest h), leb-true st.at 49227 (and_left (leb st.at 49227) _ (and_right (is_valid st) rest h)))

  -- "2 is never given in 1.1": a state of 1.1 that is after a 13 that begins a line end, or refused there, does not pass
  pub resumed_fits : st.crlf ≡ false → is_resumable st ≡ true → after_cr st ≡ false
  unfolding is_resumable
  resumed_fits old h =
      let fits : fits_version st ≡ true = and_left (fits_version st) _ (and_right (leb st.at 49227) _ (and_right (is_valid st) _ h)) in
      not-true (after_cr st) (ap (λ w. w || not (after_cr st)) (sym old) ∙ fits)

  pub refuses_version : st.crlf ≡ false → after_cr st ≡ true → is_resumable st ≡ false
  refuses_version old h = refuted (is_resumable st) (λ e. true≢false (sym h ∙ resumed_fits old e))

  -- "at least a count held over 49,227 and a refusal number the judge lacks"
  pub refuses_count : 49227 < st.at → is_resumable st ≡ false
  unfolding is_resumable
  refuses_count h = rw (lt-leb st.at 49227 h) (and_no (is_valid st))

  pub refuses_number : st.phase ≡ 16 → is_number st.code ≡ false → is_resumable st ≡ false
  unfolding is_resumable
  refuses_number e h = simp (h, le-ltb st.phase 14 (omega arith), and_no)

  -- ---- what a call gives, by its checks

  module _ (buffer piece : List ℕ) where
    pub gives_short : length buffer < 49228 → (refused 70 ≡ feed_answer st buffer piece) × (st ≡ feed_state st buffer piece) × (buffer ≡ feed_buffer st buffer piece)
    unfolding feed_answer feed_state feed_buffer
    gives_short h = let e = lt-ltb (length buffer) 49228 h in (rw e refl, rw e refl, rw e refl)

    module _ (h : 49228 ≤ length buffer) where
      long_enough : ltb (length buffer) 49228 ≡ false
      long_enough = le-ltb (length buffer) 49228 h

      pub gives_invalid : is_resumable st ≡ false → (refused 71 ≡ feed_answer st buffer piece) × (st ≡ feed_state st buffer piece) × (buffer ≡ feed_buffer st buffer piece)
      unfolding feed_answer feed_state feed_buffer
      gives_invalid e = (rw (long_enough, e) refl, rw (long_enough, e) refl, rw (long_enough, e) refl)

      pub gives_reply : is_resumable st ≡ true → (next : Scan) → next ≡ scan st piece →
          (replied (scan_reply next) (next.at - st.at) ≡ feed_answer st buffer piece)
          × (cond (is_whole next) (nothing_read st.crlf) next ≡ feed_state st buffer piece)
          × (paste buffer st.at piece (min (next.at - st.at) (length buffer - st.at)) ≡ feed_buffer st buffer piece)
      unfolding feed_answer feed_state feed_buffer
      gives_reply e next n = (rw (long_enough, e, n) refl, rw (long_enough, e, n) refl, rw (long_enough, e, n) refl)
