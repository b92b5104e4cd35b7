use Prim.Native.Nat.{◌-◌, ◌*◌}
use mathlib.Core.Path.{◌≡◌}
use lib.ListN.{drop}
use Rattle.stores.specs.Searches.{first_from}
use Rattle.registry.specs.Records.{parts}
use Rattle.registry.specs.Tests.{is_named}
use Rattle.registry.proofs.rows.Table.find.Given as goal

abbrev pub invariant-loop-k : goal.invariant-loop-k
invariant-loop-k l = first_from (is_named l.name) 0 (parts l.self.size l.self.count l.self.octets.now) ≡ first_from (is_named l.name) l.k (parts l.self.size (l.self.count - l.k) (drop (l.k * l.self.size) l.self.octets.now))
