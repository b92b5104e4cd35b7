-- `layout::stop_at` meets its contract: a span of what stands from a place on.
use Rattle.frames.proofs.Decoding.{stop_place}
use native.Mathlib.Omega.{arith}
use Rattle.frames.proofs.layout.stop_at.Goals as goal

pub overflow_add-result : goal.overflow_add-result
overflow_add-result c = omega (arith, stop_place c.args.cr c.args.colon c.args.s.now c.args.i _ c.requires c.plain_span.ensures)

pub returns : goal.returns
returns c = stop_place c.args.cr c.args.colon c.args.s.now c.args.i _ c.requires c.plain_span.ensures
