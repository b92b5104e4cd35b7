-- `scan::step` meets its contract: a step leaves a valid state.
use mathlib.Core.Path.{sym, subst}
use Rattle.frames.specs.Scanning.{Valid}
use Rattle.frames.proofs.Validity.{valid_step}
use Rattle.frames.proofs.scan.step.Goals as goal

pub invariant_of-result : goal.invariant_of-result
invariant_of-result c = record { valid = subst Valid (sym c.next_scan-scan.ensures) (valid_step c.args.st.scan c.args.st.valid c.args.x) }
