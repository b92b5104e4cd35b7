use Rattle.stores.proofs.Marking.{Marking}
use Rattle.stores.proofs.keys.are_apart.Given as goal

abbrev pub invariant-loop-i : goal.invariant-loop-i
invariant-loop-i l = Marking l.keys l.lens l.marks l.i
