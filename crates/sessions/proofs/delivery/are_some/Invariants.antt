use Rattle.std.proofs.Common.{◌≡◌, ◌&&◌, drop}
use Rattle.sessions.specs.Deliveries.{some_lengths}
use Rattle.sessions.proofs.delivery.are_some.Given as goal

abbrev pub invariant-loop-len : goal.invariant-loop-len
invariant-loop-len l = some_lengths l.lens ≡ l.some && some_lengths (drop l.len-index l.lens)
