use Prim.Native.Nat.{◌*◌}
use Rattle.topics.specs.Waiting.{entries_of}
use Rattle.topics.proofs.Checking.{CheckedTo}
use Rattle.topics.proofs.plan.Waiting.check_pairs.Given as goal

abbrev pub invariant-loop-k : goal.invariant-loop-k
invariant-loop-k l = CheckedTo (entries_of l.self.messages) (entries_of l.self.subscriptions) l.plan.octets.now (l.k * 8) l.k
