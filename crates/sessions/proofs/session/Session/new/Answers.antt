-- `session::Session::new` meets its contract.
use Rattle.sessions.proofs.Steps.{making_refused, making_made}
use Rattle.sessions.proofs.session.Session.new.Goals as goal

pub returns-then-sends-wants : goal.returns-then-sends-wants
returns-then-sends-wants c = making_refused c.args.sends c.args.wants
    c.args.offered _ (rw c.may_offer.ensures at c.if-sends-wants.true)
    (rw c.fresh.ensures at c.closed.ensures)

pub returns : goal.returns
returns c = making_made c.args.sends c.args.wants c.args.offered _
    (rw c.may_offer.ensures at c.if-sends-wants.false) c.fresh-2.ensures
