-- `rows::Table::find` meets its contract. What is left of the search from row k on.
use mathlib.Core.Path.{sym, ap, ◌∙◌}
use Rattle.stores.specs.Searches.{first_from}
use Rattle.stores.proofs.Searching.{first_hit, first_miss, first_end}
use Rattle.registry.proofs.Walking.{parts_end, parts_at}
use Rattle.registry.proofs.rows.Table.find.Goals as goal

pub returns-then-is_named : goal.returns-then-is_named
returns-then-is_named c =
    sym (c.loop-k.invariant ∙ ap (first_from _ _) (parts_at c.args.self.now.laid c.loop-k-test.true)
    ∙ first_hit _ _ _ _ (sym c.is_named.ensures ∙ c.if-is_named.true))

pub loop-k-preserved : goal.loop-k-preserved
loop-k-preserved c =
    c.loop-k.invariant ∙ ap (first_from _ _) (parts_at c.args.self.now.laid c.loop-k-test.true)
    ∙ first_miss _ _ _ _ (sym c.is_named.ensures ∙ c.if-is_named.false)

pub returns : goal.returns
returns c =
    let l = c.loop-k in
    sym (l.invariant ∙ ap (first_from _ _) (parts_end c.args.self.now.laid c.loop-k-test.false) ∙ first_end _ l.k)
