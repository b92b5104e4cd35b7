-- The measure is the sum of the words that remain of the pattern and of the name.
use Prim.Native.Nat.{◌+◌}
use lib.ListN.{length}
use Rattle.headers.specs.Parts.{parts_from}
use Rattle.topics.proofs.pattern.+match_rest.Given as goal

abbrev pub decreases-match_rest : goal.decreases-match_rest
decreases-match_rest l = length (parts_from 46 l.pattern.now l.p) + length (parts_from 46 l.name.now l.n)
