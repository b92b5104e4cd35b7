-- `rows::Table::all` meets its contract. What is left of the test from row k on.
use mathlib.Core.Path.{sym, ◌∙◌}
use mathlib.Core.Bool.{true, false}
use Rattle.registry.proofs.Walking.{row_long, each_next}
use Rattle.registry.proofs.rows.Table.all.Goals as goal

pub returns-then-not-test : goal.returns-then-not-test
returns-then-not-test g c =
    let t = c.args.self.now in
    record {
      says = λ p h.
          sym (c.loop-k.invariant p h
          ∙ each_next t.laid c.loop-k-test.true p false
          (sym c.if-not-test.true ∙ h _ c.test.result (row_long t.laid c.loop-k-test.true) c.test.ensures));
    }

pub loop-k-preserved : goal.loop-k-preserved
loop-k-preserved g c =
    let t = c.args.self.now in
    λ p h.
    c.loop-k.invariant p h
    ∙ each_next t.laid c.loop-k-test.true p true
    (sym c.if-not-test.false ∙ h _ c.test.result (row_long t.laid c.loop-k-test.true) c.test.ensures)
