use Rattle.stores.proofs.Keying.{Keyed}
use Rattle.stores.proofs.keys.put_each.Given as goal

abbrev pub invariant-loop-k : goal.invariant-loop-k
invariant-loop-k l = Keyed l.store l.lens l.initial.d l.d l.k
