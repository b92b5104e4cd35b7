use Prim.Native.Nat.{◌-◌}
use lib.ListN.{length}
use Rattle.topics.proofs.Validity.{ReadTo}
use Rattle.topics.proofs.list.Records.is_ascending.Given as goal

abbrev pub invariant-loop-r : goal.invariant-loop-r
invariant-loop-r l = ReadTo l.self.width l.self.octets.now l.at l.above l.ascending

abbrev pub decreases-loop-r : goal.decreases-loop-r
decreases-loop-r l = length l.self.octets.now - l.at
