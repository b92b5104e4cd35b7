-- `step::settle_ids` meets its contract: the place of the first id, or the lower of the two refusals.
use Rattle.std.proofs.Common.{sym, ap, ◌∙◌, subst}
use Rattle.headers.specs.Block.{entries, listed}
use Rattle.std.proofs.lemmas.Result.{err_from_is_err_and}
use Rattle.sessions.specs.Headers.{namings_by}
use Rattle.sessions.specs.Steps.{SettlesUse, use_named}
use Rattle.sessions.proofs.Uses.{both_place, both_refused, both_accepted}
use Rattle.sessions.proofs.step.settle_ids.Goals as goal

pub returns-in_err-place : goal.returns-in_err-place
returns-in_err-place c =
    let p = err_from_is_err_and c.from_residual.result c.from_residual.ensures.1 in
    λ s lent spoken-is.
    let a = c.args in
    let es = listed (entries a.block.now) in
    let names = c.namings_of-namings in
    let are = names.ensures.are ∙ ap (λ v. namings_by v a.command) (sym spoken-is) in
    rw (p.1, p.2) (both_refused s names.result es a.command are c.settle_naming-settled.result c.settle_naming-other.result
    (c.settle_naming-settled.ensures s lent) (c.settle_naming-other.ensures s lent) _ (sym c.both.ensures ∙ c.in_err-place.was))

pub returns : goal.returns
returns c =
    λ s lent spoken-is.
    let a = c.args in
    let es = listed (entries a.block.now) in
    let names = c.namings_of-namings in
    let are = names.ensures.are ∙ ap (λ v. namings_by v a.command) (sym spoken-is) in
    let x = c.settle_naming-settled.result in
    let y = c.settle_naming-other.result in
    let one = c.settle_naming-settled.ensures s lent in
    let two = c.settle_naming-other.ensures s lent in
    let done = sym c.both.ensures ∙ c.in_ok-place.was in
    record {
      first_settled = subst (SettlesUse s (use_named names.result.first es)) (both_place x y _ done) one;
      accepts = both_accepted s names.result es a.command are x y one two _ done names.ensures.second_stays;
    }
