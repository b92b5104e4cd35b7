-- `pattern::put_hash` meets its contract: the entries from j on are filled.
use Prim.Native.Nat.{◌+◌, ◌-◌}
use native.Mathlib.Omega.{arith}
use mathlib.Core.Path.{◌≡◌, subst}
use Rattle.topics.proofs.Filling.{Hashed, hash_start, hash_fill}
use Rattle.topics.proofs.pattern.put_hash.Goals as goal

pub loop-j-init : goal.loop-j-init
loop-j-init c = hash_start _ _ (omega arith)

pub loop-j-preserved : goal.loop-j-preserved
loop-j-preserved c =
    let l = c.loop-j in
    let next : l.j ≡ l.j - 1 + 1 = omega arith in
    hash_fill c.args.n c.args.row.now l.row (l.j - 1) c.requires (subst (Hashed c.args.n c.args.row.now l.row) next l.invariant)
