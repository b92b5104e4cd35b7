-- `keys::put_each` meets its contract: the keys of the places passed are written, the others are left to write.
use Rattle.stores.proofs.Keying.{keyed_first, keyed_next, keyed_put}
use Rattle.stores.proofs.keys.put_each.Goals as goal

pub loop-k-init : goal.loop-k-init
loop-k-init c = keyed_first _ _ _ c.requires.1

pub loop-k-preserved : goal.loop-k-preserved
loop-k-preserved c =
    keyed_next c.loop-k.invariant c.requires.0 c.loop-k-test.true _ c.key.ensures

pub returns : goal.returns
returns c =
    let a = c.args in
    keyed_put a.store.now a.lens.now a.d.now _ _ c.loop-k.invariant c.loop-k-test.false
