-- `ahead::far_span` meets its contract: the blocks passed are within the span, and so is the last.
use Rattle.frames.specs.Scanning.{not_zero}
use Rattle.headers.proofs.Stretches.{span_tail, span_end}
use native.Mathlib.Omega.{arith}
use lib.ListN.{length}
use mathlib.Core.Path.{sym, ◌∙◌}
use Rattle.frames.proofs.ahead.far_span.Goals as goal

pub returns-then-is_clear_block : goal.returns-then-is_clear_block
returns-then-is_clear_block g c =
    let s = c.args.s.now in
    let r = c.clear_blocks-far in (
      omega arith,
      sym (span_end not_zero s (length s) (omega arith))
          ∙ sym (span_tail not_zero s r.result _ c.if-last-far.true r.ensures.0 (sym c.is_clear_block.ensures ∙ c.if-is_clear_block.true))
          ∙ r.ensures.1
          ∙ omega arith,
    )
