-- `octets::put_rest` meets its contract: block after block, and the last one at the end.
use Prim.Native.Nat.{◌+◌, ◌*◌}
use native.Mathlib.Omega.{arith}
use lib.ListN.{length}
use Rattle.headers.proofs.Copying.{upto_block, upto_end, upto_long, block_next, block_fits, blocks_end}
use Rattle.headers.proofs.octets.put_rest.Goals as goal

pub loop-k-preserved : goal.loop-k-preserved
loop-k-preserved g c =
    let l = c.loop-k in
    let a = c.args in
    let w = g.row.N in
    let next = block_next a.from l.k w in
    let fits = block_fits a.from l.k w (length a.s.now) c.requires.0 c.loop-k-test.true in
    let u = upto_block w a.d.now a.at a.s.now c.requires.2 l.d _ (a.from + l.k * w) (a.from + (l.k + 1) * w) l.invariant.1 fits c.put_block.ensures (omega arith) (omega arith) in
    (upto_long w a.d.now a.at a.s.now c.requires.2 _ _ u, u)

pub returns : goal.returns
returns g c =
    let l = c.loop-k in
    let a = c.args in
    let w = g.row.N in
    upto_end w a.d.now a.at a.s.now c.requires.2 l.d _ (a.from + l.k * w) l.invariant.1 c.requires.1
    (blocks_end a.from l.k w (length a.s.now) c.requires.0 l.auto.k-end c.loop-k-test.false) c.put_block-2.ensures
