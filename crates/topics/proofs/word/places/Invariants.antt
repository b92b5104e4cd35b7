use Prim.Native.Nat.{◌≤◌}
use lib.ListN.{length}
use Rattle.topics.proofs.Words.{Noted}
use Rattle.topics.proofs.word.places.Given as goal

abbrev pub invariant-loop-count : goal.invariant-loop-count
invariant-loop-count l = record { noted : Noted l.text l.at l.count l.starts; more : l.at ≤ length l.text }
