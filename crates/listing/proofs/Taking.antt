-- What the stream parser takes of a piece: a law. Assumes nothing.
use mathlib.Core.Path.{◌≡◌}
use mathlib.Core.Bool.{Bool, true, false, cond}
use mathlib.Core.List.{List}
use Prim.Native.Nat.{ℕ, ◌-◌, ◌≤◌}
use native.Mathlib.Omega.{arith}
use lib.ListN.{length}
use lib.Dec.{ltb}
use Rattle.frames.specs.declared.state.Scan.{Scan}
use Rattle.frames.specs.Replies.{Reply}
use Rattle.frames.specs.Scanning.{scan, scan_reply}
use Rattle.frames.specs.Streams.{replied, refused, is_resumable, feed_answer}
use Rattle.frames.proofs.Counting.{scan_counts}

-- no more octets than the piece has
pub taken_within : (st : Scan) (buffer piece : List ℕ) (r : Reply) (n : ℕ) → replied r n ≡ feed_answer st buffer piece → n ≤ length piece
unfolding feed_answer
taken_within st buffer piece r n h = by (ltb (length buffer) 49228) (is_resumable st) h
  where
    by : (t u : Bool) → replied r n ≡ cond t (refused 70) (cond u (replied (scan_reply (scan st piece)) ((scan st piece).at - st.at)) (refused 71))
        → n ≤ length piece
    by true u k = let z : ◌≡◌ {A = ℕ} 0 1 = cc in absurd (omega arith)
    by false false k = let z : ◌≡◌ {A = ℕ} 0 1 = cc in absurd (omega arith)
    by false true k = let took : n ≡ (scan st piece).at - st.at = cc in omega (arith, (scan_counts piece st).most)
