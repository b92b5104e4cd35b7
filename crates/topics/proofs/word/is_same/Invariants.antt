use mathlib.Core.Path.{◌≡◌}
use lib.ListN.{drop}
use Rattle.headers.specs.Rows.{same}
use Rattle.topics.proofs.word.is_same.Given as goal

abbrev pub invariant-loop-i : goal.invariant-loop-i
invariant-loop-i l = same l.a l.b ≡ same (drop l.i l.a) (drop l.i l.b)
