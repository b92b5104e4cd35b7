use mathlib.Core.Path.{◌≡◌}
use lib.ListN.{length, drop}
use Rattle.topics.specs.Topics.{words}
use Rattle.topics.specs.Rows.{Row}
use Rattle.topics.proofs.pattern.match_row.Given as goal

abbrev pub invariant-loop-j : goal.invariant-loop-j
invariant-loop-j l = record { long : length l.row ≡ 33; row : Row (drop l.j (words l.pattern.text.now)) (words l.name.text.now) l.row }
