-- `parts::are_valid_modes` meets its contract: each is known, and those of free places are auto.
use Rattle.std.proofs.Common.{◌&&◌, ap₂}
use Rattle.sessions.specs.Deliveries.{valid_modes}
use Rattle.sessions.proofs.parts.are_valid_modes.Goals as goal

pub returns : goal.returns
unfolding valid_modes
returns c = ap₂ (◌&&◌) c.are_known.ensures c.are_idle.ensures
