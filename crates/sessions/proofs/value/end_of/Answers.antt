-- `value::end_of` meets its contract: the octets passed, and those before the next such octet, are those before the first.
use Rattle.std.proofs.Common.{arith}
use Rattle.headers.proofs.Parts.{until_more, until_stop, until_end}
use Rattle.sessions.proofs.value.end_of.Goals as goal

pub returns-then-value-i : goal.returns-then-value-i
returns-then-value-i c =
    let l = c.loop-i in
    let a = c.args in
    (omega (arith, l.invariant, until_stop a.octet a.value.now l.i c.loop-i-test.true c.if-value-i.true), omega (arith, c.loop-i-test.true))

pub loop-i-preserved : goal.loop-i-preserved
loop-i-preserved c =
    let l = c.loop-i in
    let a = c.args in
    omega (arith, l.invariant, until_more a.octet a.value.now l.i c.loop-i-test.true c.if-value-i.false)

pub returns : goal.returns
returns c =
    let a = c.args in
    (omega (arith, c.loop-i.invariant, until_end a.octet a.value.now c.loop-i.i c.loop-i-test.false), omega arith)
