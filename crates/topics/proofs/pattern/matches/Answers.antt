-- `pattern::matches` meets its contract.
use mathlib.Core.Path.{sym, ◌∙◌, ap}
use Rattle.std.specs.Prelude.{is_some}
use Rattle.topics.proofs.Words.{bad_name, bad_pattern, answered}
use Rattle.topics.proofs.pattern.matches.Goals as goal

pub returns-in_default : goal.returns-in_default
returns-in_default c = sym (bad_name c.args.name.now c.args.pattern.now (sym c.places.ensures.formed ∙ ap is_some c.in_default.is))

pub returns-in_default-places : goal.returns-in_default-places
returns-in_default-places c =
    sym (bad_pattern c.args.name.now c.args.pattern.now (sym c.places.ensures.formed ∙ ap is_some c.in-Some.is)
    (sym c.places-2.ensures.formed ∙ ap is_some c.in_default-places.is))

pub returns : goal.returns
returns c =
    sym (answered c.args.name.now c.args.pattern.now (sym c.places.ensures.formed ∙ ap is_some c.in-Some.is)
    (sym c.places-2.ensures.formed ∙ ap is_some c.in-Some-places.is) c.match_row.result (sym c.match_row.ensures))
