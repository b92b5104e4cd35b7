use mathlib.Core.Path.{◌≡◌}
use Prim.Native.Nat.{◌-◌, ◌≤◌}
use lib.ListN.{length, drop}
use Rattle.headers.specs.Block.{entries}
use Rattle.headers.specs.Answers.{count_from}
use Rattle.headers.proofs.Finding.{plus}
use Rattle.headers.proofs.block.count_from.Given as goal

abbrev pub invariant-loop-l : goal.invariant-loop-l
invariant-loop-l l = (l.count ≤ l.i) × (count_from l.name l.at (entries (drop l.at l.block)) ≡ plus l.count (count_from l.name l.i (entries (drop l.i l.block))))

abbrev pub decreases-loop-l : goal.decreases-loop-l
decreases-loop-l l = length l.block - l.i
