-- `scan::step_word` meets its contract: the phase picks the step.
use mathlib.Core.Path.{◌≡◌}
use Rattle.frames.specs.Scanning.{scan_step}
use native.Mathlib.Omega.{arith}
use Rattle.frames.proofs.scan.step_word.Goals as goal

pub returns-in-3 : goal.returns-in-3
unfolding scan_step
returns-in-3 c = simp (c.on_10.ensures, c.to_phase.ensures, c.in-3.is)

pub returns-in-1 : goal.returns-in-1
unfolding scan_step
returns-in-1 c = simp (c.on_10-in-1.ensures, c.to_phase-in-1.ensures, c.in-1.is)

pub returns-in_default : goal.returns-in_default
unfolding scan_step
returns-in_default c = let two : c.args.st.scan.phase ≡ 2 = omega arith in simp (c.on_word.ensures, two)
