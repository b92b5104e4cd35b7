use mathlib.Core.Bool.{Bool}
use Prim.Native.Nat.{ℕ, ◌-◌}
use lib.ListN.{length}
use Rattle.topics.specs.Waiting.{IsTest}
use Rattle.topics.proofs.Places.{Passed}
use Rattle.topics.proofs.list.ValidList.first.Given as goal

abbrev pub invariant-loop-r : goal.invariant-loop-r
invariant-loop-r g l = (f : ℕ → Bool) → IsTest (goal.F-post g l.test) f → Passed l.self.list.width l.self.list.octets.now (λ e. f e.number) l.at

abbrev pub decreases-loop-r : goal.decreases-loop-r
decreases-loop-r g l = length l.self.list.octets.now - l.at
