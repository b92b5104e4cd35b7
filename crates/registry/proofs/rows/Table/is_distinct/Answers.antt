-- `rows::Table::is_distinct` meets its contract. What is left of the test from row k on.
use mathlib.Core.Path.{sym, ap, ◌∙◌}
use mathlib.Core.Bool.{true, false}
use Rattle.registry.specs.Tests.{are_apart}
use Rattle.registry.proofs.Walking.{parts_end, apart_free, apart_next}
use Rattle.registry.proofs.rows.Table.is_distinct.Goals as goal

pub returns-then-lists : goal.returns-then-lists
returns-then-lists c =
    let t = c.args.self.now in
    sym (c.loop-k.invariant
    ∙ apart_next t.laid c.loop-k-test.true t.wide c.if-self-at-eq0.false true (sym c.if-lists.true ∙ c.lists.ensures))

pub loop-k-preserved : goal.loop-k-preserved
loop-k-preserved c =
    let t = c.args.self.now in
    c.loop-k.invariant
    ∙ apart_next t.laid c.loop-k-test.true t.wide c.if-self-at-eq0.false false (sym c.if-lists.false ∙ c.lists.ensures)

pub loop-k-preserved-then-self-at-eq0 : goal.loop-k-preserved-then-self-at-eq0
loop-k-preserved-then-self-at-eq0 c =
    c.loop-k.invariant ∙ apart_free c.args.self.now.laid c.loop-k-test.true c.if-self-at-eq0.true

pub returns : goal.returns
unfolding are_apart
returns c =
    let l = c.loop-k in
    sym (l.invariant ∙ ap are_apart (parts_end c.args.self.now.laid c.loop-k-test.false))
