use Rattle.std.proofs.Common.{◌≡◌, ◌-◌, ◌≤◌, length, drop}
use Rattle.headers.specs.Parts.{split}
use Rattle.sessions.specs.Values.{versions}
use Rattle.sessions.proofs.Values.{versions_from}
use Rattle.sessions.proofs.value.read_versions.Given as goal

abbrev pub invariant-loop-flags : goal.invariant-loop-flags
invariant-loop-flags l = (l.at ≤ length l.value) × (versions l.value ≡ versions_from l.flags (split 44 (drop l.at l.value)))

abbrev pub decreases-loop-flags : goal.decreases-loop-flags
decreases-loop-flags l = length l.value - l.at
