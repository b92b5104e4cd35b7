-- `session::Session::check` meets its contract: the numbers, the ids and the deliveries.
use Rattle.sessions.proofs.Validating.{whole_valid}
use Rattle.sessions.proofs.session.Session.check.Goals as goal

pub returns : goal.returns
returns c =
    whole_valid c.args.self.now _ _ _
    c.has_valid_numbers-numbers.ensures
    c.has_valid_ids-ids.ensures
    c.is_valid-deliveries.ensures
