use Prim.Native.Nat.{◌-◌, ◌*◌}
use mathlib.Core.Path.{◌≡◌}
use lib.ListN.{drop}
use Rattle.headers.specs.Rows.{any}
use Rattle.registry.specs.Records.{parts}
use Rattle.registry.specs.Tests.{begins_with}
use Rattle.registry.proofs.rows.Table.lists.Given as goal

abbrev pub invariant-loop-k : goal.invariant-loop-k
invariant-loop-k l = any (begins_with l.field) (parts l.self.size (l.self.count - l.from) (drop (l.from * l.self.size) l.self.octets.now)) ≡ any (begins_with l.field) (parts l.self.size (l.self.count - l.k) (drop (l.k * l.self.size) l.self.octets.now))
