use Prim.Native.Nat.{◌-◌, ◌*◌}
use mathlib.Core.Path.{◌≡◌}
use lib.ListN.{drop}
use Rattle.registry.specs.Records.{parts}
use Rattle.registry.specs.Tests.{are_apart}
use Rattle.registry.proofs.rows.Table.is_distinct.Given as goal

abbrev pub invariant-loop-k : goal.invariant-loop-k
invariant-loop-k l = are_apart (parts l.self.size l.self.count l.self.octets.now) ≡ are_apart (parts l.self.size (l.self.count - l.k) (drop (l.k * l.self.size) l.self.octets.now))
