-- `session::Session::act` meets its contract: the phase, the opening frame, DISCONNECT, or a frame that may name ids and a delivery.
use Rattle.std.proofs.Common.{◌≡◌, sym, refl, ◌∙◌, ne_eqb}
use Rattle.std.proofs.lemmas.Result.{err_from_is_err_and}
use Rattle.headers.specs.Block.{entries, listed}
use Rattle.sessions.specs.Calls.{lacks_needed}
use Rattle.sessions.specs.declared.refusals.Refusal.{Refusal}
use Rattle.sessions.proofs.Steps.{phase_refuses, phase_passes, lacks_spoken, gives_closed, entries_opening, entries_disconnect, entries_naming}
use Rattle.sessions.proofs.Deciding.{decides_closing}
use Rattle.sessions.proofs.session.Session.act.Goals as goal
use Rattle.sessions.proofs.session.Session.act.Goals.{After-lacks_needed}

pub returns-in_err-check_phase : goal.returns-in_err-check_phase
returns-in_err-check_phase c =
    let p = err_from_is_err_and c.from_residual.result c.from_residual.ensures.1 in
    rw (p.1, p.2) (decides_closing _ (λ time. phase_refuses _ _ _ _ _ c.in_err-check_phase.ensures refl))

-- whether a header that it needs is missing
lacks : (c : After-lacks_needed) → c.lacks_needed.result ≡ lacks_needed c.args.self c.args.command (listed (entries c.args.block.now))
lacks c =
    lacks_spoken c.args.self c.args.command (listed (entries c.args.block.now)) c.chosen-version.ensures (c.lacks_needed.ensures c.args.block.now c.requires.1)

pub returns-then-lacks_needed : goal.returns-then-lacks_needed
returns-then-lacks_needed c =
    decides_closing Refusal.Missing
    (λ time. phase_passes _ _ _ _ c.in_ok-check_phase.ensures
    (gives_closed _ Refusal.Missing _ (sym (lacks (goal.at.returns-then-lacks_needed c).After-lacks_needed) ∙ c.if-lacks_needed.true) refl refl))

pub returns-then-opens : goal.returns-then-opens
returns-then-opens c =
    let a = c.args in
    let block = a.block.now in
    let has = sym (lacks (goal.at.returns-then-opens c).After-lacks_needed) ∙ c.if-lacks_needed.false in
    let done = c.«open».ensures in
    record {
      gives = λ time. phase_passes _ _ _ _ c.in_ok-check_phase.ensures
          (entries_opening a.self a.command (listed (entries block)) time _ c.acceptance-acceptance.result
          (c.acceptance-acceptance.ensures block c.requires.1) has (sym c.opens.ensures ∙ c.if-opens.true)
          (done.gives time));
      applies = done.applies;
    }

pub returns-then-command-eq-DISCONNECT : goal.returns-then-command-eq-DISCONNECT
returns-then-command-eq-DISCONNECT c =
    let a = c.args in
    let block = a.block.now in
    record {
      gives = λ time. phase_passes _ _ _ _ c.in_ok-check_phase.ensures
          (entries_disconnect a.self a.command (listed (entries block)) time _ c.acceptance-acceptance.result
          (c.acceptance-acceptance.ensures block c.requires.1) c.if-command-eq-DISCONNECT.true refl);
      applies = tt;
    }

pub use_ids-requires : goal.use_ids-requires
use_ids-requires c =
    (c.requires.0, c.requires.1, c.requires.2, sym (lacks (goal.at.use_ids-requires c).After-lacks_needed) ∙ c.if-lacks_needed.false)

pub returns : goal.returns
returns c =
    let a = c.args in
    let block = a.block.now in
    let has = sym (lacks (goal.at.returns c).After-lacks_needed) ∙ c.if-lacks_needed.false in
    let done = c.use_ids.ensures in
    record {
      gives = λ time. phase_passes _ _ _ _ c.in_ok-check_phase.ensures
          (entries_naming a.self a.command (listed (entries block)) time _ c.acceptance-acceptance.result
          (c.acceptance-acceptance.ensures block c.requires.1) has (sym c.opens.ensures ∙ c.if-opens.false) (ne_eqb _ _ c.if-command-eq-DISCONNECT.false) (done.gives time));
      applies = done.applies;
    }
