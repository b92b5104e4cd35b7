use Rattle.std.proofs.Common.{◌≡◌, ◌&&◌, drop}
use Rattle.sessions.specs.Deliveries.{idle_modes}
use Rattle.sessions.proofs.parts.are_idle.Given as goal

abbrev pub invariant-loop-i : goal.invariant-loop-i
invariant-loop-i l = idle_modes l.lens l.modes ≡ l.idle && idle_modes (drop l.i l.lens) (drop l.i l.modes)
