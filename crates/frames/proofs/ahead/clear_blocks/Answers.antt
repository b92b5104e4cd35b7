-- `ahead::clear_blocks` meets its contract: the blocks passed are within the span.
use Rattle.headers.specs.Stretches.{span}
use Rattle.frames.specs.Scanning.{not_zero}
use Rattle.headers.proofs.Stretches.{span_block}
use Rattle.frames.proofs.Parts.{block_ends}
use Prim.Native.Nat.{◌+◌, ◌-◌, ◌*◌}
use native.Mathlib.Nat.{add-mul, one-mul}
use native.Mathlib.Omega.{arith}
use lib.ListN.{length, drop}
use mathlib.Core.Path.{◌≡◌, sym, ◌∙◌, ap}
use Rattle.frames.proofs.ahead.clear_blocks.Goals as goal

pub loop-k-preserved : goal.loop-k-preserved
loop-k-preserved g c =
    let s = c.args.s.now in
    let k = c.loop-k.k in
    let size = g.row.SIZE in
    let at = c.args.from + k * size in
    let ends = block_ends (length s - c.args.from) size k c.loop-k-test.true in
    let next : c.args.from + (k + 1) * size ≡ at + size = omega (arith, add-mul k 1 size, one-mul size) in
    ap (λ i. i + span not_zero (drop i s)) next
    ∙ span_block not_zero s at (at + size) (omega arith) (omega (arith, ends)) (sym c.is_clear_block.ensures ∙ c.if-not-is_clear_block.false) ∙ c.loop-k.invariant
