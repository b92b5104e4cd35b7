-- `compaction::keep_each` meets its contract: the rows passed that stay are written, the others are left to write.
use Rattle.stores.proofs.Compacting.{stands_first, stands_done, stands_fits, stands_next}
use Rattle.stores.proofs.compaction.keep_each.Goals as goal

pub loop-i-init : goal.loop-i-init
loop-i-init c = stands_first _ _ _ _ _ c.requires

pub keep_row-end-requires : goal.keep_row-end-requires
keep_row-end-requires c =
    stands_fits c.loop-i.invariant c.requires.store_long c.loop-i-test.true _ c.stays-stay.ensures

pub loop-i-preserved : goal.loop-i-preserved
loop-i-preserved c =
    let long = c.requires.store_long in
    let stays = c.stays-stay in
    stands_next c.loop-i.invariant long c.loop-i-test.true _ stays.ensures _ _ c.keep_row-end.ensures

pub returns : goal.returns
returns c = stands_done _ _ _ _ _ _ _ _ c.loop-i.invariant c.loop-i-test.false
