use Rattle.std.proofs.Common.{◌-◌, length}
use Rattle.sessions.proofs.Noting.{Walked}
use Rattle.sessions.proofs.notes.note.Given as goal

abbrev pub invariant-loop-l : goal.invariant-loop-l
invariant-loop-l l = Walked l.block l.notes l.i

abbrev pub decreases-loop-l : goal.decreases-loop-l
decreases-loop-l l = length l.block - l.i
