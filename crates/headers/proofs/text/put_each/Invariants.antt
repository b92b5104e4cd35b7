use Prim.Native.Nat.{◌≤◌}
use lib.ListN.{length, drop}
use Rattle.headers.specs.Escapes.{encode}
use Rattle.headers.proofs.Put.{Partly}
use Rattle.headers.proofs.text.put_each.Given as goal

abbrev pub invariant-loop-x : goal.invariant-loop-x
invariant-loop-x l = (l.x-index ≤ length l.text) × Partly (encode l.style l.text) (encode l.style (drop l.x-index l.text)) l.initial.d l.d l.n
