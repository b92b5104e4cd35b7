use mathlib.Core.Path.{◌≡◌}
use mathlib.Core.Bool.{true}
use Prim.Native.Nat.{◌≤◌}
use lib.ListN.{length, drop}
use Rattle.headers.specs.Block.{entries, listed}
use Rattle.headers.specs.Answers.{is_block}
use Rattle.frames.proofs.Sums.{Summing}
use Rattle.frames.proofs.encode.sum.Given as goal

abbrev pub invariant-loop-count : goal.invariant-loop-count
invariant-loop-count l = (l.at ≤ length l.block) × (is_block (drop l.at l.block) ≡ true) × Summing l.style (listed (entries l.block)) (listed (entries (drop l.at l.block))) l.count l.good l.total
