-- `session::Session::acknowledged` meets its contract: in 1.1 the place of the id that is located. Assumes nothing.
use Rattle.std.proofs.Common.{ap, ◌∙◌}
use Rattle.sessions.specs.Calls.{place_named, may_name}
use Rattle.sessions.proofs.session.Session.acknowledged.Goals as goal

pub returns-in_err-l-in-V11 : goal.returns-in_err-l-in-V11
returns-in_err-l-in-V11 c =
    let a = c.args in
    rw c.from_residual.ensures (ap (λ o. may_name a.version (place_named a.self o)) c.in_err-l-in-V11.ensures.first)

pub returns-in_ok-l-in-V11 : goal.returns-in_ok-l-in-V11
returns-in_ok-l-in-V11 c =
    let a = c.args in
    ap (may_name a.version) c.find_subscription.ensures
    ∙ ap (λ o. may_name a.version (place_named a.self o)) c.in_ok-l-in-V11.ensures.first
