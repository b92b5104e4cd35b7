-- `session::Session::settle` meets its contract: the version picks the header of the label. Assumes nothing.
use Rattle.std.proofs.Common.{◌≡◌, ℕ, ap, ◌∙◌, arith, subst}
use Rattle.std.proofs.lemmas.Result.{err_from_is_err_and}
use mathlib.Core.Option.{none, some}
use Rattle.headers.specs.Block.{entries, listed}
use Rattle.sessions.specs.Headers.{value_of, label_header}
use Rattle.sessions.specs.Calls.{place_named, may_name}
use Rattle.sessions.specs.declared.command.Header.TheVariants.{Subscription}
use Rattle.sessions.specs.Notes.{Locates}
use Rattle.sessions.proofs.Asking.{some_by, none_by}
use Rattle.sessions.proofs.Locating.{value_there}
use Rattle.sessions.proofs.Deciding.{label_as}
use Rattle.sessions.proofs.session.Session.settle.Goals as goal

pub returns-in_err-l : goal.returns-in_err-l
returns-in_err-l c =
    let es = listed (entries c.args.block.now) in
    let p = err_from_is_err_and c.from_residual.result c.from_residual.ensures.1 in
    let n = none_by _ _ c.ok_or.ensures.value c.in_err-l.was in
    let located = subst (Locates c.args.block.now c.label_header-header.result) n.0 c.locate.ensures in
    rw (p.1, p.2, n.1) (λ l h.
    absurd (let q : none ≡ some l = located.first ∙ ap (λ z. value_of z es) (c.label_header-header.ensures ∙ ap label_header c.chosen-version.ensures) ∙ h in
    let z : ◌≡◌ {A = ℕ} 0 1 = cc in omega arith))

pub returns : goal.returns
returns c =
    let a = c.args in
    let es = listed (entries a.block.now) in
    let version = c.chosen-version.ensures in
    let located = subst (Locates a.block.now c.label_header-header.result) (some_by _ _ c.ok_or.ensures.value c.in_ok-l.was) c.locate.ensures in
    λ l h. label_as a.self c.settle_label.result
    (c.acknowledged-place.ensures ∙ ap (λ v. may_name v (place_named a.self (value_of Subscription es))) version)
    (value_there located l (ap (λ z. value_of z es) (c.label_header-header.ensures ∙ ap label_header version) ∙ h))
    c.settle_label.ensures
