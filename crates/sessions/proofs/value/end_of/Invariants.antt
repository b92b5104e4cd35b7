use Rattle.std.proofs.Common.{◌≡◌, ◌+◌, drop}
use Rattle.headers.specs.Parts.{until}
use Rattle.sessions.proofs.value.end_of.Given as goal

abbrev pub invariant-loop-i : goal.invariant-loop-i
invariant-loop-i l = l.i + until l.octet (drop l.i l.value) ≡ l.from + until l.octet (drop l.from l.value)
