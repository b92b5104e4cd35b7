use Prim.Native.Nat.{ℕ, ◌-◌, ◌*◌}
use mathlib.Core.Path.{◌≡◌}
use mathlib.Core.Bool.{Bool}
use mathlib.Core.List.{List}
use lib.ListN.{length, drop}
use Rattle.headers.specs.Rows.{every}
use Rattle.registry.specs.Records.{parts}
use Rattle.registry.proofs.rows.Table.all.Given as goal

abbrev pub invariant-loop-k : goal.invariant-loop-k
invariant-loop-k g l = (p : List ℕ → Bool) → ((row : _) (r : Bool) → length row.now ≡ l.self.size → goal.F-post g l.test row r → r ≡ p row.now) → every p (parts l.self.size l.self.count l.self.octets.now) ≡ every p (parts l.self.size (l.self.count - l.k) (drop (l.k * l.self.size) l.self.octets.now))
