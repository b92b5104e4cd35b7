-- `word::letter` meets its contract: each letter is computed from the word's number.
use Rattle.frames.proofs.Words.{letter_at}
use Rattle.frames.proofs.word.letter.Goals as goal

pub returns : goal.returns
returns c = rw c.letters.ensures (letter_at _ _ c.requires.0 c.requires.1)
