use mathlib.Core.Path.{◌≡◌}
use Prim.Native.Nat.{◌+◌}
use lib.ListN.{drop}
use Rattle.headers.specs.Parts.{until}
use Rattle.topics.proofs.word.end_of.Given as goal

abbrev pub invariant-loop-i : goal.invariant-loop-i
invariant-loop-i l = l.i + until 46 (drop l.i l.text) ≡ l.from + until 46 (drop l.from l.text)
