use Rattle.topics.proofs.Filling.{Hashed}
use Rattle.topics.proofs.pattern.put_hash.Given as goal

abbrev pub invariant-loop-j : goal.invariant-loop-j
invariant-loop-j l = Hashed l.n l.initial.row l.row l.j
