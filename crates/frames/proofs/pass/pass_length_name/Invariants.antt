use Rattle.frames.proofs.Passing.{Gone}
use Prim.Native.Nat.{◌≤◌, ◌-◌, ◌+◌}
use mathlib.Core.Path.{◌≡◌}
use Rattle.frames.proofs.pass.pass_length_name.Given as goal

abbrev pub invariant-loop-x : goal.invariant-loop-x
invariant-loop-x l =
    Gone l.s l.from l.initial.st.0 l.st.0 (l.from + l.x-index) × (l.st.0.phase ≡ 5) × (l.st.0.matched + (l.e - (l.from + l.x-index)) ≤ 14) × (l.st.0.len + (l.e - (l.from + l.x-index)) ≤ 511)
