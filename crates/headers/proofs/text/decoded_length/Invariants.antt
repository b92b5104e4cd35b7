use mathlib.Core.Path.{◌≡◌}
use Prim.Native.Nat.{◌+◌, ◌≤◌, ◌-◌}
use lib.ListN.{length, drop}
use Rattle.headers.specs.Escapes.{decode}
use Rattle.headers.proofs.text.decoded_length.Given as goal

abbrev pub invariant-loop-i : goal.invariant-loop-i
invariant-loop-i l = (l.i ≤ length l.raw) × (l.n ≤ l.i) × (l.n + length (decode l.style (drop l.i l.raw)) ≡ length (decode l.style l.raw))

abbrev pub decreases-loop-i : goal.decreases-loop-i
decreases-loop-i l = length l.raw - l.i
