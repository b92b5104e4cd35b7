-- Line ends in version 1.1, which have no 13 (document 02, C-18). Assumes nothing.
--     first_fits       a run leaves only states that its version can have
--     never_2          "2 is never given in 1.1": by parsing,
--     feeds_never_2    and by a stream parser, whatever record it is given
use mathlib.Core.Path.{◌≡◌, refl, ◌∙◌}
use mathlib.Core.Logic.{◌≢◌}
use mathlib.Core.Bool.{Bool, true, false, cond}
use mathlib.Core.List.{List}
use Prim.Native.Nat.{ℕ, ◌-◌}
use native.Mathlib.Omega.{arith}
use lib.ListN.{length}
use lib.Dec.{eqb, ltb}
use borrow.Author.Tests.{eqb-false}
use Rattle.headers.proofs.Rows.{cond_case, or_false_right}
use Rattle.frames.specs.declared.state.Scan.{Scan}
use Rattle.frames.specs.Grammar.{v1_1}
use Rattle.frames.specs.Replies.{Reply, Invalid}
use Rattle.frames.specs.Parsing.{parsed}
use Rattle.frames.specs.Scanning.{scan, nothing_read, scan_reply}
use Rattle.frames.specs.Streams.{replied, refused, cr_phase, after_cr, fits_version, is_resumable, feed_answer}
use Rattle.frames.proofs.Scanning.{scanned}
use Rattle.frames.proofs.Counting.{scan_counts}
use Rattle.frames.proofs.Resuming.{resumed_fits}

pub first_fits : (w : Bool) (xs : List ℕ) → fits_version (scan (nothing_read w) xs) ≡ true
first_fits true xs = rw (scan_counts xs (nothing_read true)).same_ends refl
first_fits false xs = rw ((scan_counts xs (nothing_read false)).clear refl refl, (scan_counts xs (nothing_read false)).same_ends) refl

-- ---- "2 is never given in 1.1"

-- the number that such a state replies
not_2 : (st : Scan) → after_cr st ≡ false → (k n : ℕ) → scan_reply st ≡ Invalid k n → k ≢ 2
not_2 st h k n e two = eqb-false st.code 2 (or_false_right (cr_phase st.phase) (eqb st.code 2) h) (omega (arith, by e))
  where
    Says : Reply → Type 0
    Says r = r ≡ Invalid k n → k ≡ st.code

    by : Says (scan_reply st)
    by =
        cond_case Says (eqb st.phase 14) (λ t e. let z : ◌≡◌ {A = ℕ} 0 1 = cc in absurd (omega arith))
        (λ t. cond_case Says (eqb st.phase 15) (λ u e. let z : ◌≡◌ {A = ℕ} 0 1 = cc in absurd (omega arith))
        (λ u. cond_case Says (eqb st.phase 16) (λ v e. cc) (λ v e. let z : ◌≡◌ {A = ℕ} 0 1 = cc in absurd (omega arith))))

pub never_2 : (xs : List ℕ) (k n : ℕ) → parsed v1_1 xs ≡ Invalid k n → k ≢ 2
never_2 xs k n e = not_2 (scan (nothing_read false) xs) ((scan_counts xs (nothing_read false)).clear refl refl) k n (scanned v1_1 xs ∙ e)

pub feeds_never_2 : (st : Scan) → st.crlf ≡ false → (buffer piece : List ℕ) (k n taken : ℕ)
    → feed_answer st buffer piece ≡ replied (Invalid k n) taken → k ≢ 2
unfolding feed_answer
feeds_never_2 st old buffer piece k n taken = by (ltb (length buffer) 49228) (is_resumable st) refl
  where
    by : (t u : Bool) → is_resumable st ≡ u
        → cond t (refused 70) (cond u (replied (scan_reply (scan st piece)) ((scan st piece).at - st.at)) (refused 71)) ≡ replied (Invalid k n) taken
        → k ≢ 2
    by true u h e = let z : ◌≡◌ {A = ℕ} 0 1 = cc in absurd (omega arith)
    by false false h e = let z : ◌≡◌ {A = ℕ} 0 1 = cc in absurd (omega arith)
    by false true h e = not_2 (scan st piece) ((scan_counts piece st).clear old (resumed_fits st old h)) k n cc
