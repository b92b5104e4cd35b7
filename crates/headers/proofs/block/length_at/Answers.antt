-- length_at meets its contract: each octet is below 256, so the number in two is below 65536.
use native.Mathlib.Omega.{arith}
use Rattle.headers.specs.Numbers.{evaluate}
use Rattle.headers.proofs.block.length_at.Goals as goal

pub returns : goal.returns
unfolding evaluate
returns c = omega arith
