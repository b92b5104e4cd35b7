-- `locate::client_versions` meets its contract: what is located is read.
use Rattle.std.proofs.Common.{ap, ◌∙◌}
use Rattle.sessions.specs.Calls.{versions_of}
use Rattle.sessions.proofs.locate.client_versions.Goals as goal

pub returns-in_err-l : goal.returns-in_err-l
returns-in_err-l c = rw c.from_residual.ensures (ap versions_of c.in_err-l.ensures.first)

pub returns : goal.returns
returns c = c.read_versions.ensures ∙ ap versions_of c.in_ok-l.ensures.first
