-- `valid::is_valid` meets its contract: the tests pass exactly where the state is valid.
use mathlib.Core.Path.{sym, ◌∙◌}
use Rattle.frames.specs.Validity.{is_valid}
use Rattle.frames.proofs.Checks.{valid_tested}
use Rattle.frames.proofs.valid.is_valid.Goals as goal

pub returns-then-not-is_so_far : goal.returns-then-not-is_so_far
unfolding is_valid
returns-then-not-is_so_far c =
    valid_tested c.args.st _ (rw (sym c.is_small.ensures ∙ c.if-not-is_small.false, sym c.is_so_far.ensures ∙ c.if-not-is_so_far.true))

pub returns : goal.returns
unfolding is_valid
returns c =
    valid_tested c.args.st _
    (rw (sym c.is_small.ensures ∙ c.if-not-is_small.false, sym c.is_so_far.ensures ∙ c.if-not-is_so_far.false) c.is_clean.ensures)
