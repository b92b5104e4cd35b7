-- `rows::change_each` meets its contract. Each row changed up to row k.
use native.Mathlib.Omega.{arith}
use mathlib.Core.Path.{ap, ◌∙◌}
use lib.ListN.{length, length-take, length-drop}
use Rattle.registry.proofs.Walking.{row_room}
use Rattle.registry.proofs.Changing.{walked_next}
use Rattle.registry.proofs.rows.change_each.Goals as goal

pub loop-k-preserved : goal.loop-k-preserved
loop-k-preserved g c =
    λ f h.
    let room = row_room c.requires.laid c.loop-k-test.true in
    let (is, long) = h _ _ (simp (length-take, length-drop) (omega (arith, room, c.loop-k.auto.rows))) c.change.ensures in
    walked_next c.requires.laid (c.loop-k.invariant f h) c.loop-k-test.true c.change.new.arg2 is (ap length is ∙ long)
