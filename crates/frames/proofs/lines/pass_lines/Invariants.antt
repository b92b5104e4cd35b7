use Prim.Native.Nat.{◌-◌, ◌≤◌}
use lib.ListN.{length}
use Rattle.frames.specs.Scanning.{Passed}
use Rattle.frames.specs.WholeLines.{line_at}
use Rattle.frames.proofs.lines.pass_lines.Given as goal

abbrev pub invariant-loop-i : goal.invariant-loop-i
invariant-loop-i l = (l.from ≤ l.i) × (l.i ≤ length l.s) × Passed l.s l.from l.st.scan (line_at l.st.scan l.lines l.len (l.i - l.from))

abbrev pub decreases-loop-i : goal.decreases-loop-i
decreases-loop-i l = length l.s - l.i
