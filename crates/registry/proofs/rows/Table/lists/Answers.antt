-- `rows::Table::lists` meets its contract. What is left of the search from row k on.
use mathlib.Core.Path.{sym, ◌∙◌}
use mathlib.Core.Bool.{true, false}
use Rattle.registry.proofs.Walking.{listed_next}
use Rattle.registry.proofs.rows.Table.lists.Goals as goal

pub returns-then-is_same : goal.returns-then-is_same
returns-then-is_same c =
    let t = c.args.self.now in
    sym (c.loop-k.invariant
    ∙ listed_next t.laid c.loop-k-test.true t.wide c.args.field.now true
    (sym c.if-is_same.true ∙ c.is_same.ensures))

pub loop-k-preserved : goal.loop-k-preserved
loop-k-preserved c =
    let t = c.args.self.now in
    c.loop-k.invariant
    ∙ listed_next t.laid c.loop-k-test.true t.wide c.args.field.now false
    (sym c.if-is_same.false ∙ c.is_same.ensures)
