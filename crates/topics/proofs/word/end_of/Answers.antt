-- `word::end_of` meets its contract: the octets passed, and those before the next point, are those before the first.
use native.Mathlib.Omega.{arith}
use Rattle.headers.proofs.Parts.{until_more, until_stop, until_end}
use Rattle.topics.proofs.word.end_of.Goals as goal

pub returns-then-text-i-eq-POINT : goal.returns-then-text-i-eq-POINT
returns-then-text-i-eq-POINT c =
    let l = c.loop-i in
    (omega (arith, until_stop 46 c.args.text.now l.i (omega arith) c.if-text-i-eq-POINT.true), omega arith)

pub loop-i-preserved : goal.loop-i-preserved
loop-i-preserved c =
    let l = c.loop-i in
    omega (arith, until_more 46 c.args.text.now l.i (omega arith) c.if-text-i-eq-POINT.false)

pub returns : goal.returns
returns c = (omega (arith, until_end 46 c.args.text.now c.loop-i.i (omega arith)), omega arith)
