use Prim.Native.Nat.{◌≤◌}
use lib.ListN.{length}
use Rattle.headers.proofs.Coding.{Counted}
use Rattle.headers.proofs.text.encoded_length.Given as goal

abbrev pub invariant-loop-x : goal.invariant-loop-x
invariant-loop-x l = (l.x-index ≤ length l.text) × Counted l.style l.text l.x-index l.n
