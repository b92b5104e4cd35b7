use mathlib.Core.Path.{◌≡◌}
use mathlib.Core.Bool.{◌||◌}
use lib.Dec.{eqb}
use lib.ListN.{drop}
use Rattle.headers.specs.Rows.{any}
use Rattle.stores.proofs.keys.has_key.Given as goal

abbrev pub invariant-loop-x : goal.invariant-loop-x
invariant-loop-x l = l.found || any (λ x. eqb x l.key) (drop l.x-index l.keys) ≡ any (λ x. eqb x l.key) l.keys
