-- `scan::step_line` meets its contract: the phase picks the step.
use native.Mathlib.Omega.{arith}
use mathlib.Core.Path.{◌≡◌}
use Rattle.frames.specs.Scanning.{scan_step}
use Rattle.frames.proofs.scan.step_line.Goals as goal

pub returns-in-7 : goal.returns-in-7
unfolding scan_step
returns-in-7 c = simp (c.on_value.ensures, c.in-7.is)

pub returns-in-9 : goal.returns-in-9
unfolding scan_step
returns-in-9 c = simp (c.on_length.ensures, c.in-9.is)

pub returns-in-8 : goal.returns-in-8
unfolding scan_step
returns-in-8 c = simp (c.on_part.ensures, c.in-8.is)

pub returns-in-6 : goal.returns-in-6
unfolding scan_step
returns-in-6 c = simp (c.on_part-in-6.ensures, c.in-6.is)

pub returns-in_default : goal.returns-in_default
unfolding scan_step
returns-in_default c = let five : c.args.st.scan.phase ≡ 5 = omega arith in simp (c.on_name.ensures, five)
