use Rattle.stores.proofs.Compacting.{Stands}
use Rattle.stores.proofs.compaction.keep_each.Given as goal

abbrev pub invariant-loop-i : goal.invariant-loop-i
invariant-loop-i l = Stands l.range l.width l.store l.places l.initial.out l.out l.i l.end
