-- `line::measure_each` meets its contract: what is left of the tests, and what is left to encode.
use mathlib.Core.Path.{◌≡◌, refl, sym, ◌∙◌}
use native.Mathlib.Omega.{arith}
use lib.Dec.{ltb}
use Rattle.headers.specs.Text.{ascii}
use Rattle.headers.proofs.Rows.{every_step, every_end}
use Rattle.headers.proofs.Stretches.{every_more, every_done}
use Rattle.headers.proofs.Coding.{count_none, count_more, count_all}
use Rattle.headers.proofs.line.measure_each.Goals as goal

pub loop-x-init : goal.loop-x-init
loop-x-init c = let a = c.args in
    (omega arith, refl, count_none a.style a.text.now, refl)

pub returns-then-not-can_write : goal.returns-then-not-can_write
returns-then-not-can_write c =
    let off = sym c.can_write.ensures ∙ c.if-not-can_write.true in (
      sym (c.loop-x.invariant.1 ∙ every_step _ _ _ c.loop-x-test.true ∙ simp off),
      tt,
    )

pub overflow_add-n : goal.overflow_add-n
overflow_add-n c = let l = c.loop-x in
    let a = c.args in
    omega (arith, (count_more a.style a.text.now l.x-index l.n _ c.loop-x-test.true c.encoded_width-n.ensures l.invariant.2).0)

pub loop-x-preserved : goal.loop-x-preserved
loop-x-preserved c = let l = c.loop-x in
    let a = c.args in
    let on = sym c.can_write.ensures ∙ c.if-not-can_write.false in
    let t = c.loop-x-test.true in (
      omega arith,
      l.invariant.1 ∙ every_step _ _ _ t ∙ simp on,
      count_more a.style a.text.now l.x-index l.n _ t c.encoded_width-n.ensures l.invariant.2,
      rw c.larger-most.ensures (every_more ascii a.text.now l.x-index (ltb l.most 128) t ∙ l.invariant.3),
    )

pub returns : goal.returns
returns c = let a = c.args in
    let l = c.loop-x in
    let n : c.from.result ≡ l.n = omega arith in (
      sym (l.invariant.1 ∙ every_end _ _ _ c.loop-x-test.false),
      (
        n ∙ count_all a.style a.text.now l.x-index l.n c.loop-x-test.false l.invariant.2,
        sym (every_done ascii a.text.now l.x-index (ltb l.most 128) c.loop-x-test.false) ∙ l.invariant.3,
      ),
    )
