-- `word::next_word` meets its contract.
use Rattle.topics.proofs.Words.{steps}
use Rattle.topics.proofs.word.next_word.Goals as goal

pub returns : goal.returns
returns c =
    steps c.args.text.now c.args.at c.end_of.result c.requires.0 c.end_of.ensures.0
