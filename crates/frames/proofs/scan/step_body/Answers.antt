-- `scan::step_body` meets its contract: the phase picks the step.
use Rattle.frames.proofs.Bounds.{stays}
use mathlib.Core.Path.{sym}
use Rattle.frames.specs.Scanning.{scan_step}
use native.Mathlib.Omega.{arith}
use Rattle.frames.proofs.scan.step_body.Goals as goal

pub returns-in-12 : goal.returns-in-12
unfolding scan_step
returns-in-12 c = simp (c.on_body.ensures, c.in-12.is)

pub returns-in-13 : goal.returns-in-13
unfolding scan_step
returns-in-13 c = simp (c.on_counted.ensures, c.in-13.is)

pub returns-in-10 : goal.returns-in-10
unfolding scan_step
returns-in-10 c = simp (c.on_10.ensures, c.in_head-next.ensures, c.in-10.is)

pub returns-in-11 : goal.returns-in-11
unfolding scan_step
returns-in-11 c = simp (c.on_10-in-11.ensures, c.body_begins.ensures, c.in-11.is)

pub returns-in_default : goal.returns-in_default
returns-in_default c = sym (stays _ _ (omega arith))
