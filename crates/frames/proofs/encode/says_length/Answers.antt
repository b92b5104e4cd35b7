-- `encode::says_length` meets its contract.
use mathlib.Core.Path.{sym, ◌∙◌, ap}
use Rattle.headers.specs.Answers.{read_says}
use Rattle.frames.proofs.Writing.{says_some, says_none}
use Rattle.frames.proofs.encode.says_length.Goals as goal

pub returns-in-Some : goal.returns-in-Some
returns-in-Some c = says_some _ _ _ (ap read_says (sym c.in-Some.is) ∙ c.read_decimal.ensures)

pub returns-in-None : goal.returns-in-None
returns-in-None c = says_none _ _ (ap read_says (sym c.in-None.is) ∙ c.read_decimal.ensures)
