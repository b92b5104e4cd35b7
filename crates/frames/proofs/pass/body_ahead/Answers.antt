-- `pass::body_ahead` meets its contract: a body glides as far as its length, or up to an octet 0.
use native.Mathlib.Omega.{arith}
use mathlib.Core.Path.{◌≡◌}
use Rattle.frames.specs.Scanning.{not_zero}
use Rattle.frames.proofs.Gliding.{ahead_by, glides_body, ahead_counted}
use Rattle.frames.proofs.pass.body_ahead.Goals as goal

pub returns-then-st-eq-IN_COUNTED : goal.returns-then-st-eq-IN_COUNTED
returns-then-st-eq-IN_COUNTED c =
    let ph = c.if-st-eq-IN_COUNTED.true in
    let h = c.args.st.valid.counted_so_far ph in
    ahead_counted c.args.st.scan c.args.st.valid ph _ _ _ (omega arith) (omega arith) (omega arith)

pub returns : goal.returns
returns c =
    let ph : c.args.st.scan.phase ≡ 12 = omega arith in
    let h = c.args.st.valid.body_so_far ph in
    ahead_by not_zero _ c.args.st.scan (glides_body c.args.st.scan c.args.st.valid ph) _ _ c.upto-2.result _ (omega arith) (omega arith) (omega arith) c.body_span.ensures
