use Prim.Native.Nat.{◌≤◌, ◌-◌}
use lib.ListN.{length, take}
use Rattle.headers.specs.Text.{Text}
use Rattle.headers.specs.declared.text.Field.TheVariants.{Value as in_value}
use Rattle.frames.proofs.ahead.value_text.Given as goal

abbrev pub invariant-loop-j : goal.invariant-loop-j
invariant-loop-j l = (l.j ≤ length l.s) × Text l.style in_value (take l.j l.s)

abbrev pub decreases-loop-j : goal.decreases-loop-j
decreases-loop-j l = length l.s - l.j
