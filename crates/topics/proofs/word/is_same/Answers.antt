-- `word::is_same` meets its contract: the words are the same exactly if what is left of them from i on is.
use borrow.Author.Tests.{eq-eqb, ne_eqb}
use mathlib.Core.Path.{sym, ◌∙◌}
use native.Mathlib.Omega.{arith}
use Rattle.headers.proofs.Rows.{same_step, same_other, same_end}
use Rattle.topics.proofs.word.is_same.Goals as goal

pub returns-then-a-b : goal.returns-then-a-b
returns-then-a-b c = sym (same_other c.args.a.now c.args.b.now c.if-a-b.true)

pub returns-then-a-i : goal.returns-then-a-i
returns-then-a-i c =
    let l = c.loop-i in
    let a = c.args in
    sym (l.invariant ∙ same_step a.a.now a.b.now l.i (omega arith) (omega arith) ∙ simp (ne_eqb _ _ c.if-a-i.true))

pub loop-i-preserved : goal.loop-i-preserved
loop-i-preserved c =
    let l = c.loop-i in
    let a = c.args in
    l.invariant ∙ same_step a.a.now a.b.now l.i (omega arith) (omega arith) ∙ simp (eq-eqb _ _ c.if-a-i.false)

pub returns : goal.returns
returns c =
    let a = c.args in
    sym (c.loop-i.invariant ∙ same_end a.a.now a.b.now c.loop-i.i (omega arith) (omega arith))
