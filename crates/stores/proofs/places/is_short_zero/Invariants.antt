use mathlib.Core.Path.{◌≡◌}
use mathlib.Core.Bool.{◌&&◌}
use Prim.Native.Nat.{◌-◌}
use lib.ListN.{drop}
use Rattle.stores.specs.Places.{is_zero}
use Rattle.stores.proofs.places.is_short_zero.Given as goal

abbrev pub invariant-loop-x : goal.invariant-loop-x
invariant-loop-x l =
    record {
      same_place : l.j ≡ l.x-index;
      left : is_zero (drop l.n l.s) ≡ l.zero && is_zero (drop (l.n - l.j) (drop l.j l.s));
    }
