use mathlib.Core.Path.{◌≡◌}
use Prim.Native.Nat.{◌-◌}
use lib.ListN.{length, drop}
use Rattle.headers.specs.Answers.{is_block}
use Rattle.headers.proofs.block.check_from.Given as goal

abbrev pub invariant-loop-l : goal.invariant-loop-l
invariant-loop-l l = is_block (drop l.at l.block) ≡ is_block (drop l.i l.block)

abbrev pub decreases-loop-l : goal.decreases-loop-l
decreases-loop-l l = length l.block - l.i
