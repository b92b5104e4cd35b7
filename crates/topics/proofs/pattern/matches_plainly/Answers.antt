-- `pattern::matches_plainly` meets its contract.
use mathlib.Core.Path.{sym, ◌∙◌, ap₂}
use Rattle.headers.proofs.Parts.{parts_all}
use Rattle.topics.specs.Topics.{matches as matching}
use Rattle.topics.proofs.Words.{well_short, bad_name, bad_pattern, answered}
use Rattle.topics.proofs.pattern.matches_plainly.Goals as goal

pub returns-then-not-is_well_formed : goal.returns-then-not-is_well_formed
returns-then-not-is_well_formed c = sym (bad_name c.args.name.now c.args.pattern.now (sym c.is_well_formed.ensures ∙ c.if-not-is_well_formed.true))

pub returns-then-not-is_well_formed-2 : goal.returns-then-not-is_well_formed-2
returns-then-not-is_well_formed-2 c =
    sym (bad_pattern c.args.name.now c.args.pattern.now (sym c.is_well_formed.ensures ∙ c.if-not-is_well_formed.false) (sym c.is_well_formed-2.ensures ∙ c.if-not-is_well_formed-2.true))

pub match_rest-requires : goal.match_rest-requires
match_rest-requires c =
    (well_short c.args.pattern.now (sym c.is_well_formed-2.ensures ∙ c.if-not-is_well_formed-2.false), well_short c.args.name.now (sym c.is_well_formed.ensures ∙ c.if-not-is_well_formed.false))

pub returns : goal.returns
returns c =
    let a = c.args in
    sym (answered a.name.now a.pattern.now (sym c.is_well_formed.ensures ∙ c.if-not-is_well_formed.false) (sym c.is_well_formed-2.ensures ∙ c.if-not-is_well_formed-2.false) c.match_rest.result
    (sym (c.match_rest.ensures ∙ ap₂ matching (parts_all 46 a.pattern.now) (parts_all 46 a.name.now))))
