-- `session::Session::use_ids` meets its contract: the refusal of the ids, 49 or 60, or what is put and what becomes of the rest.
use Rattle.std.proofs.Common.{ℕ, List, [], ap, subst, rules}
use Rattle.std.proofs.lemmas.Result.{err_from_is_err_and}
use Rattle.headers.specs.Block.{entries, listed}
use Rattle.sessions.specs.Headers.{put_before, changed_id}
use Rattle.sessions.specs.Sessions.{Sized}
use Rattle.sessions.specs.Calls.{id_effect}
use Rattle.sessions.specs.Steps.{use_named}
use Rattle.sessions.specs.Changes.{NamesIds, NamesPlace, step_of}
use Rattle.sessions.specs.declared.session.Session.{Session}
use Rattle.sessions.specs.declared.step.Named.{Named}
use Rattle.sessions.proofs.Deciding.{decides_as, uses_closed, uses_refused_later, uses_done}
use Rattle.sessions.proofs.session.Session.use_ids.Goals as goal
use Rattle.sessions.proofs.session.Session.use_ids.Goals.{After-further}

pub returns-in_err-named : goal.returns-in_err-named
returns-in_err-named c =
    let a = c.args in
    let p = err_from_is_err_and c.from_residual.result c.from_residual.ensures.1 in
    rw (p.1, p.2) (uses_closed a.self a.command a.block.now a.acceptance _
    (subst (NamesIds a.self a.command (listed (entries a.block.now))) c.in_err-named.was c.requires.2 a.acceptance))

-- the ids that were accepted
names : (c : After-further) → NamesPlace c.args.self c.args.command (listed (entries c.args.block.now)) c.in_ok-named.named
names c = subst (NamesIds c.args.self c.args.command (listed (entries c.args.block.now))) c.in_ok-named.was c.requires.2

-- the session that they leave
abbrev left : Session → Named → List ℕ → Session
left s named block = id_effect s (changed_id (put_before (use_named named.first (listed (entries block))) []))

pub returns-in_err-further : goal.returns-in_err-further
returns-in_err-further c =
    let a = c.args in
    let p = err_from_is_err_and c.from_residual-in_err-further.result c.from_residual-in_err-further.ensures.1 in
    rw (p.1, p.2) (uses_refused_later a.self a.command a.block.now a.acceptance (left a.self c.in_ok-named.named a.block.now)
    ((names (goal.at.returns-in_err-further c).After-further).accepts a.acceptance) _ c.in_err-further.ensures)

-- the sizes of its arrays
sized : (c : goal.After-use_of) → Sized c.args.self
sized c =
    record {
      subscriptions = record { ids_long = search rules; lens_long = search rules; modes_long = search rules };
      transactions = record { ids_long = search rules; lens_long = search rules };
    }

pub returns : goal.returns
returns c =
    let a = c.args in
    let n = names (goal.at.returns c).After-further in
    let (e, fits) = c.put_of-put.ensures a.self (sized c) c.requires.0 n.first_settled in
    decides_as (ap (step_of a.acceptance) c.use_of.ensures)
    (uses_done a.self a.command a.block.now a.acceptance (left a.self c.in_ok-named.named a.block.now) (n.accepts a.acceptance) c.put_of-put.result
    c.in_ok-further.further e fits c.in_ok-further.ensures)
