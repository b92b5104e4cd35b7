-- `put_digits` meets its contract. The loop's invariant: the first i digits of m and d from i on are all that is to be in d at
-- the end, and d has kept its length. Assumes nothing.
use native.Mathlib.Omega.{arith}
use mathlib.Core.Path.{◌∙◌}
use lib.ListN.{length-set}
use Rattle.headers.proofs.Decimals.{put_digit, put_none}
use Rattle.headers.proofs.decimal.put_digits.Goals as goal

pub loop-i-preserved : goal.loop-i-preserved
loop-i-preserved c =
    (simp length-set (omega arith), simp length-set c.loop-i.invariant.1, put_digit _ _ _ _ (omega arith) (omega arith) ∙ c.loop-i.invariant.2)

pub returns : goal.returns
returns c = put_none _ _ _ (omega arith) ∙ c.loop-i.invariant.2
