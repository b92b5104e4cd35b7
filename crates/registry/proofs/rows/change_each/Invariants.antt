use Prim.Native.Nat.{ℕ}
use mathlib.Core.Path.{◌≡◌}
use mathlib.Core.List.{List}
use lib.ListN.{length}
use Rattle.registry.proofs.Changing.{Walked}
use Rattle.registry.proofs.rows.change_each.Given as goal

abbrev pub invariant-loop-k : goal.invariant-loop-k
invariant-loop-k g l = (f : List ℕ → List ℕ) → ((row left : _) → length row.now ≡ l.size → goal.F-post g l.change row tt left → (left.now ≡ f row.now) × (length (f row.now) ≡ l.size)) → Walked f l.size l.count l.initial.rows l.rows l.k
