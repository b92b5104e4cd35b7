-- `line::is_known_utf8` meets its contract.
use mathlib.Core.Path.{sym, ◌∙◌}
use Rattle.headers.proofs.Characters.{ascii_utf8}
use Rattle.headers.proofs.line.is_known_utf8.Goals as goal

pub returns-then-low : goal.returns-then-low
returns-then-low c =
    sym (ascii_utf8 c.args.text.now (sym c.requires ∙ c.if-low.true))
