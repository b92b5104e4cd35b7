-- `decode::HeadLines::measure` meets its contract: what is counted and what is left to decode make the whole. Each line adds no more than its
-- octets and 6, so the sum does not overflow.
use Prim.Native.Nat.{◌≤◌, ◌+◌}
use native.Mathlib.Omega.{arith}
use lib.ListN.{length}
use mathlib.Core.Path.{ap}
use Rattle.headers.specs.Block.{image}
use Rattle.frames.proofs.Decoding.{left_none, Adds, adds}
use Rattle.frames.proofs.decode.HeadLines.measure.Goals as goal

-- what the next line adds
added : (c : goal.After-decoded_length-b) → let h = c.loop-i in
    let a = c.args.self.now in
    Adds a.cr a.style a.frame.now a.count h.i h.at c.line_at-l.result.next
    c.decoded_length-a.result c.decoded_length-b.result
added c =
    let h = c.loop-i in
    let a = c.args.self.now in
    adds a.cr a.style a.frame.now a.count h.i h.at c.line_at-l.result c.loop-i-test.true c.line_at-l.ensures
    _ _ c.decoded_length-a.ensures c.decoded_length-b.ensures

small : (c : goal.After-decoded_length-b) → c.loop-i.total + 6 + c.decoded_length-a.result + c.decoded_length-b.result ≤ 192 + length c.args.self.now.frame.now
small c = omega (arith, (added c).few, c.line_at-l.ensures.0, c.loop-i.invariant, c.requires)

pub overflow_add-total-in-loop-i : goal.overflow_add-total-in-loop-i
overflow_add-total-in-loop-i c = omega (arith, small c)

pub overflow_add-total-in-loop-i-2 : goal.overflow_add-total-in-loop-i-2
overflow_add-total-in-loop-i-2 c = omega (arith, small c)

pub loop-i-preserved : goal.loop-i-preserved
loop-i-preserved c =
    let h = c.loop-i in
    let sum = added c in
    (c.line_at-l.ensures.0.4, omega (arith, sum.few, h.invariant.1), omega (arith, sum.octets, h.invariant.2))

pub returns : goal.returns
returns c =
    let h = c.loop-i in
    let a = c.args.self.now in
    let none = left_none a.cr a.style a.frame.now a.count h.i h.at c.loop-i-test.false in
    omega (arith, ap (λ es. length (image es)) none, h.invariant.2)
