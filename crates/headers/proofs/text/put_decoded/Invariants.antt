use Prim.Native.Nat.{◌≤◌, ◌-◌}
use lib.ListN.{length, drop}
use Rattle.headers.specs.Escapes.{decode}
use Rattle.headers.proofs.Put.{Partly}
use Rattle.headers.proofs.text.put_decoded.Given as goal

abbrev pub invariant-loop-style : goal.invariant-loop-style
invariant-loop-style l = (l.i ≤ length l.raw) × Partly (decode l.style l.raw) (decode l.style (drop l.i l.raw)) l.initial.d l.d l.n

abbrev pub decreases-loop-style : goal.decreases-loop-style
decreases-loop-style l = length l.raw - l.i
