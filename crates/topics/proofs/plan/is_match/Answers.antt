-- `plan::is_match` meets its contract.
use mathlib.Core.Path.{◌∙◌}
use Rattle.topics.proofs.Checking.{match_told}
use Rattle.topics.proofs.plan.is_match.Goals as goal

pub returns : goal.returns
returns c =
    c.unwrap_or.ensures
    ∙ match_told c.args.destination.now c.args.pattern.now c.requires.0 c.requires.1 c.matches.result c.matches.ensures
