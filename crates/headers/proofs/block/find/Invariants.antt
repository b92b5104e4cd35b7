use mathlib.Core.Path.{◌≡◌}
use Prim.Native.Nat.{◌-◌, ◌≤◌}
use lib.ListN.{length, drop}
use Rattle.headers.specs.Block.{entries}
use Rattle.headers.specs.Answers.{find_answer, find_from}
use Rattle.headers.proofs.block.find.Given as goal

abbrev pub invariant-loop-l : goal.invariant-loop-l
invariant-loop-l l = (l.i ≤ length l.block) × (find_answer l.block l.name ≡ find_from l.name l.i (entries (drop l.i l.block)))

abbrev pub decreases-loop-l : goal.decreases-loop-l
decreases-loop-l l = length l.block - l.i
