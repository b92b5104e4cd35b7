-- `run::run` meets its contract: octets are passed, then one is a step.
use lib.ListN.{drop}
use mathlib.Core.Path.{sym, ◌∙◌}
use Rattle.frames.proofs.Running.{scan_ended}
use Rattle.frames.proofs.run.run.Goals as goal

pub returns-then-st-gt-IN_COUNTED : goal.returns-then-st-gt-IN_COUNTED
returns-then-st-gt-IN_COUNTED c =
    let l = c.loop-i in
    (sym (scan_ended (drop l.i c.args.s.now) l.st.0 c.if-st-gt-IN_COUNTED.true) ∙ l.invariant.2, l.invariant.1)
