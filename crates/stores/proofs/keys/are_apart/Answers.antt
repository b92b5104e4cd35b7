-- `keys::are_apart` meets its contract: the places passed, from the last on, are marked and apart.
use mathlib.Core.Path.{refl}
use Rattle.stores.proofs.Marking.{marking_none, marking_clash, marking_next}
use Rattle.stores.proofs.keys.are_apart.Goals as goal

pub loop-i-init : goal.loop-i-init
loop-i-init c = marking_none _ _

pub returns-then-clashes : goal.returns-then-clashes
returns-then-clashes c =
    marking_clash c.loop-i.invariant c.loop-i-test.true _ _ _ c.octet_at-len.ensures refl
    c.clashes.ensures c.if-clashes.true

pub loop-i-preserved : goal.loop-i-preserved
loop-i-preserved c =
    marking_next c.loop-i.invariant c.loop-i-test.true _ _ _ c.octet_at-len.ensures refl
    c.clashes.ensures c.if-clashes.false _ c.slot.ensures.0 c.slot.ensures.1
