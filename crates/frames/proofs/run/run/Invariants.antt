use Prim.Native.Nat.{◌≤◌, ◌-◌}
use lib.ListN.{length, drop}
use mathlib.Core.Path.{◌≡◌}
use Rattle.frames.specs.Scanning.{Valid, scan}
use Rattle.frames.proofs.run.run.Given as goal

abbrev pub invariant-loop-i : goal.invariant-loop-i
invariant-loop-i l = (l.i ≤ length l.s) × Valid l.st.0 × (scan l.st.0 (drop l.i l.s) ≡ scan l.fn.begin (drop l.from l.s))

abbrev pub decreases-loop-i : goal.decreases-loop-i
decreases-loop-i l = length l.s - l.i
