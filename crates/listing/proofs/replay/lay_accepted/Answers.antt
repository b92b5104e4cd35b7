-- `replay::lay_accepted` meets its contract: one part behind another.
use native.Mathlib.Omega.{arith}
use Rattle.headers.specs.Rows.{octets_of}
use Rattle.listing.proofs.Laying.{lays_row, lays_then}
use Rattle.listing.proofs.replay.lay_accepted.Goals as goal

pub returns : goal.returns
returns c =
    let word = lays_row 8 (octets_of "accepted") c.args.lines.now c.lay_word.new.self c.lay_word.ensures (omega arith) (omega arith) in
    let receipt = lays_then 8 8 16 c.args.lines.now c.lay_word.new.self c.lay_receipt.new.lines word c.lay_receipt.ensures (omega arith) in
    let overwritten = lays_then 16 76 92 c.args.lines.now c.lay_receipt.new.lines c.lay_overwritten-2.new.lines receipt c.lay_overwritten-2.ensures (omega arith) in
    lays_then 92 106 198 c.args.lines.now c.lay_overwritten-2.new.lines c.lay_opened.new.lines overwritten c.lay_opened.ensures (omega arith)
