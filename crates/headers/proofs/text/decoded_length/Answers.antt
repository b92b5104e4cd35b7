-- `text::decoded_length` meets its contract: what is counted and what is left to decode make the whole.
use mathlib.Core.Path.{ap}
use native.Mathlib.Omega.{arith}
use lib.ListN.{length, drop}
use Rattle.headers.proofs.Coding.{decode_step, decode_end, width_fits, width_some}
use Rattle.headers.proofs.text.decoded_length.Goals as goal

pub loop-i-preserved : goal.loop-i-preserved
loop-i-preserved c = let l = c.loop-i in
    let a = c.args in
    let t = c.loop-i-test.true in
    let s = a.style in
    let xs = a.raw.now in
    rw c.decoded_at-width.ensures.1 (
      width_fits s xs l.i t,
      omega (arith, (width_some s (drop l.i xs)).0),
      omega (arith, ap length (decode_step s xs l.i t), l.invariant.2),
    )

pub returns : goal.returns
returns c = let a = c.args in
    omega (arith, ap length (decode_end a.style a.raw.now c.loop-i.i c.loop-i-test.false), c.loop-i.invariant.2)
