-- `locate::client_heart_beats` meets its contract: what is located is read.
use Rattle.std.proofs.Common.{ap, ◌∙◌}
use Rattle.sessions.specs.Calls.{heart_beats_of}
use Rattle.sessions.proofs.locate.client_heart_beats.Goals as goal

pub returns-in_default : goal.returns-in_default
returns-in_default c = ap heart_beats_of c.in_default.ensures.first

pub returns : goal.returns
returns c = c.read_heart_beats.ensures ∙ ap heart_beats_of c.in-Some.ensures.first
