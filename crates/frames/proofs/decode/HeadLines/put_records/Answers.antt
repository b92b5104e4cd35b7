-- `decode::HeadLines::put_records` meets its contract: what is written and what is left to decode make the whole, and there is room for it.
use native.Mathlib.Omega.{arith}
use mathlib.Core.Path.{◌∙◌, ap}
use Rattle.std.specs.Prelude.{is_ok}
use Rattle.headers.specs.Block.{image}
use Rattle.headers.proofs.Put.{put_whole_done}
use Rattle.frames.proofs.Decoding.{left_none, Asked, asked}
use Rattle.frames.proofs.decode.HeadLines.put_records.Goals as goal

-- there is room for what is left, so its next record is accepted
pub unwrap-k-requires : goal.unwrap-k-requires
unwrap-k-requires c =
    let h = c.loop-i in
    let a = c.args.self.now in
    let t = asked a.cr a.style a.frame.now a.count h.i h.at c.line_at-l.result c.loop-i-test.true c.line_at-l.ensures
    h.block c.write_line_record.new.d h.used c.write_line_record.result
    h.invariant.3 (omega (arith, h.invariant, c.requires.1)) c.write_line_record.ensures.0 c.write_line_record.ensures.1 in
    ap is_ok t.accepts.1

turn : (c : goal.After-unwrap-k) → let h = c.loop-i in
    let a = c.args.self.now in
    Asked a.cr a.style a.frame.now a.count h.i h.at c.line_at-l.result.next
    h.block c.write_line_record.new.d h.used c.write_line_record.result
turn c =
    let h = c.loop-i in
    let a = c.args.self.now in
    asked a.cr a.style a.frame.now a.count h.i h.at c.line_at-l.result c.loop-i-test.true c.line_at-l.ensures
    h.block c.write_line_record.new.d h.used c.write_line_record.result
    h.invariant.3 (omega (arith, h.invariant, c.requires.1)) c.write_line_record.ensures.0 c.write_line_record.ensures.1

pub overflow_add-used : goal.overflow_add-used
overflow_add-used c =
    let h = c.loop-i in
    omega (arith, ((turn c).writes _ c.unwrap-k.ensures).fewer, h.invariant, c.requires.1)

pub loop-i-preserved : goal.loop-i-preserved
loop-i-preserved c =
    let h = c.loop-i in
    let t = (turn c).writes _ c.unwrap-k.ensures in
    (t.same_long ∙ h.invariant.0, c.line_at-l.ensures.0.4, omega (arith, t.fewer, h.invariant.2), (turn c).rest_short, t.further _ h.invariant.4, t.kept _ h.invariant.5)

pub returns : goal.returns
returns c =
    let h = c.loop-i in
    let a = c.args.self.now in
    let none = left_none a.cr a.style a.frame.now a.count h.i h.at c.loop-i-test.false in
    put_whole_done h.used h.block c.args.block.now _ _ h.invariant.4 h.invariant.2 (ap image none) h.invariant.5
