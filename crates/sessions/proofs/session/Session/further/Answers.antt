-- `session::Session::further` meets its contract, by the command. Assumes nothing.
use Rattle.std.proofs.Common.{sym, refl, ap, ◌∙◌, ne_eqb}
use Rattle.std.proofs.lemmas.Result.{err_from_is_err_and}
use Rattle.headers.specs.Block.{entries, listed}
use Rattle.sessions.specs.Reads.{mode_says}
use Rattle.sessions.proofs.Steps.{dropping_has}
use Rattle.sessions.proofs.Asking.{some_by, none_by}
use Rattle.sessions.proofs.Locating.{located_there}
use Rattle.sessions.proofs.Deciding.{looks_mode_unknown, looks_mode, looks_dropped, looks_label, looks_none}
use Rattle.sessions.proofs.session.Session.further.Goals as goal

pub returns-then-command-eq-SUBSCRIBE : goal.returns-then-command-eq-SUBSCRIBE
returns-then-command-eq-SUBSCRIBE c =
    let a = c.args in
    looks_mode a.self a.command (listed (entries a.block.now)) c.if-command-eq-SUBSCRIBE.true _ _
    (sym c.mode_asked.ensures ∙ ap mode_says (some_by _ _ c.ok_or.ensures.value c.in_ok-mode.was)) c.keep_mode.ensures

pub returns-in_err-mode : goal.returns-in_err-mode
returns-in_err-mode c =
    let a = c.args in
    let p = err_from_is_err_and c.from_residual.result c.from_residual.ensures.1 in
    let n = none_by _ _ c.ok_or.ensures.value c.in_err-mode.was in
    rw (p.1, p.2, n.1) (looks_mode_unknown a.self a.command (listed (entries a.block.now)) c.if-command-eq-SUBSCRIBE.true
    (sym c.mode_asked.ensures ∙ ap mode_says n.0))

pub returns-in_default : goal.returns-in_default
returns-in_default c =
    let a = c.args in
    let es = listed (entries a.block.now) in
    absurd (located_there c.in_default.ensures refl (dropping_has a.self a.command es c.requires.2 c.if-command-eq-UNSUBSCRIBE.true))

pub returns-then-command-eq-UNSUBSCRIBE : goal.returns-then-command-eq-UNSUBSCRIBE
returns-then-command-eq-UNSUBSCRIBE c =
    let a = c.args in
    looks_dropped a.self a.command (listed (entries a.block.now)) c.if-command-eq-UNSUBSCRIBE.true _ _ (sym c.in-Some.ensures.first)
    c.drop_deliveries.ensures

pub returns-then-settles : goal.returns-then-settles
returns-then-settles c =
    let a = c.args in
    looks_label a.self a.command (listed (entries a.block.now)) (ne_eqb _ _ c.if-command-eq-SUBSCRIBE.false) (ne_eqb _ _ c.if-command-eq-UNSUBSCRIBE.false)
    (sym c.settles.ensures ∙ c.if-settles.true) c.requires.2 c.settle.result c.settle.ensures

pub returns : goal.returns
returns c =
    let a = c.args in
    looks_none a.self a.command (listed (entries a.block.now)) (ne_eqb _ _ c.if-command-eq-SUBSCRIBE.false) (ne_eqb _ _ c.if-command-eq-UNSUBSCRIBE.false)
    (sym c.settles.ensures ∙ c.if-settles.false)
