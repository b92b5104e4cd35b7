-- `text::decoded_at` meets its contract.
use mathlib.Core.Path.{sym, ◌∙◌}
use Rattle.headers.proofs.Coding.{escape_room}
use Rattle.headers.proofs.text.decoded_at.Goals as goal

pub bounds-raw-i : goal.bounds-raw-i
bounds-raw-i c = escape_room _ _ _ c.requires (sym c.escape_at.ensures ∙ c.if-escape_at.true)
