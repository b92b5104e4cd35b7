-- `line::measure` meets its contract: where there are escapes, any octet can be written.
use mathlib.Core.Path.{sym}
use borrow.Author.Tests.{not-false}
use Rattle.headers.proofs.Rows.{or_false_left}
use Rattle.headers.proofs.Settling.{all_writable}
use Rattle.headers.proofs.line.measure.Goals as goal

pub returns-then-text-lt32 : goal.returns-then-text-lt32
returns-then-text-lt32 c =
    let a = c.args in
    let e = c.measure_short.ensures in
    (sym (all_writable a.style a.field (not-false _ (or_false_left _ _ c.if-style-text.false)) a.text.now), (e.0, e.1))

pub returns : goal.returns
returns c =
    let a = c.args in
    let e = c.measure_blocks.ensures in
    (sym (all_writable a.style a.field (not-false _ (or_false_left _ _ c.if-style-text.false)) a.text.now), (e.0, e.1))
