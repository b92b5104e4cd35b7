-- `run/held_slot` meets its contract. By whether the session is the same.
use mathlib.Core.Path.{sym, ap, ◌∙◌}
use Rattle.registry.specs.Steps.{when_held}
use Rattle.registry.specs.Tests.{row_of}
use Rattle.registry.proofs.Publishing.{row_part}
use Rattle.registry.proofs.run.held_slot.Goals as goal

pub returns-then-is_of : goal.returns-then-is_of
returns-then-is_of c =
    sym (ap (when_held c.args.k)
    (sym (ap (row_of c.args.session) (row_part c.args.k c.args.rows.now)) ∙ sym c.is_of.ensures ∙ c.if-is_of.true))

pub returns-else-is_of : goal.returns-else-is_of
returns-else-is_of c =
    sym (ap (when_held c.args.k)
    (sym (ap (row_of c.args.session) (row_part c.args.k c.args.rows.now)) ∙ sym c.is_of.ensures ∙ c.if-is_of.false))
