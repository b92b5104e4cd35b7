-- `sum`: each octet adds at most 255.
use Prim.Native.Nat.{◌*◌, ◌≤◌}
use Rattle.feed_calls.proofs.sum.Given as goal

abbrev pub invariant-loop-x : goal.invariant-loop-x
invariant-loop-x l = l.total ≤ 255 * l.x-index
