use Rattle.topics.specs.Topics.{words}
use Rattle.topics.proofs.Filling.{Worded}
use Rattle.topics.proofs.pattern.put_word.Given as goal

abbrev pub invariant-loop-j : goal.invariant-loop-j
invariant-loop-j l = Worded l.word (words l.name.text.now) l.initial.row l.row l.j
