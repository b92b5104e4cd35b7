use mathlib.Core.Path.{◌≡◌}
use lib.ListN.{take}
use Rattle.headers.specs.Numbers.{evaluate}
use Rattle.topics.proofs.list.value.Given as goal

abbrev pub invariant-loop-x : goal.invariant-loop-x
invariant-loop-x l = l.n ≡ evaluate 256 0 (take l.x-index l.octets)
