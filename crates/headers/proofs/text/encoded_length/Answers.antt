-- `text::encoded_length` meets its contract: what is counted and what is left to encode make the whole.
use mathlib.Core.Path.{◌∙◌}
use native.Mathlib.Omega.{arith}
use Rattle.headers.proofs.Coding.{count_more, count_all}
use Rattle.headers.proofs.text.encoded_length.Goals as goal

pub loop-x-preserved : goal.loop-x-preserved
loop-x-preserved c = let l = c.loop-x in
    let a = c.args in
    (omega arith, count_more a.style a.text.now l.x-index l.n _ c.loop-x-test.true (c.from-n.ensures ∙ c.encoded_width.ensures) l.invariant.1)

pub returns : goal.returns
returns c = let a = c.args in
    count_all a.style a.text.now c.loop-x.x-index c.loop-x.n c.loop-x-test.false c.loop-x.invariant.1
