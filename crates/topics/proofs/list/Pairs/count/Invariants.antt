use Prim.Native.Nat.{◌*◌}
use Rattle.topics.proofs.Places.{Tallied}
use Rattle.topics.proofs.list.Pairs.count.Given as goal

abbrev pub invariant-loop-k : goal.invariant-loop-k
invariant-loop-k l = Tallied l.column l.number l.self.octets.now (l.k * 8) l.n
