use Rattle.std.proofs.Common.{◌≡◌, ◌&&◌, drop}
use Rattle.sessions.specs.Deliveries.{known_modes}
use Rattle.sessions.proofs.parts.are_known.Given as goal

abbrev pub invariant-loop-mode : goal.invariant-loop-mode
invariant-loop-mode l = known_modes l.modes ≡ l.known && known_modes (drop l.mode-index l.modes)
