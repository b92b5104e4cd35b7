use Prim.Native.Nat.{◌-◌}
use lib.ListN.{length}
use Rattle.frames.proofs.Putting.{Lines}
use Rattle.frames.proofs.put.put_lines.Given as goal

abbrev pub invariant-loop-l : goal.invariant-loop-l
invariant-loop-l l = Lines l.style l.block l.initial.d l.d l.used l.at

abbrev pub decreases-loop-l : goal.decreases-loop-l
decreases-loop-l l = length l.block - l.at
