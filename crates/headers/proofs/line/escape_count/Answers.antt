-- `line::escape_count` meets its contract.
use mathlib.Core.Path.{◌≡◌, refl, ap, ◌∙◌}
use mathlib.Core.Bool.{Bool, true, false, cond, ◌&&◌}
use mir.Val.{bool_byte}
use Rattle.headers.proofs.line.escape_count.Goals as goal

one_where : (t : Bool) → bool_byte t ≡ cond t 1 0
one_where true = refl
one_where false = refl

pub returns : goal.returns
returns c = c.from.ensures ∙ ap bool_byte (ap (◌&& c.args.counts) c.has_escape.ensures) ∙ one_where _
