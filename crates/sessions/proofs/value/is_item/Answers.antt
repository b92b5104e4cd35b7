-- `value::is_item` meets its contract: its parts are those before and behind the first point.
use Rattle.std.proofs.Common.{sym, ◌∙◌}
use Rattle.sessions.proofs.Values.{item_none, item_front, item_behind}
use Rattle.sessions.proofs.value.is_item.Goals as goal

pub returns-then-item-point : goal.returns-then-item-point
returns-then-item-point c =
    let e = c.end_of-point in
    sym (item_none c.args.item.now e.result e.ensures.0 c.if-item-point.true)

pub returns-then-not-is_digits : goal.returns-then-not-is_digits
returns-then-not-is_digits c =
    let e = c.end_of-point in
    sym (item_front c.args.item.now e.result e.ensures.0 c.if-item-point.false
    (sym c.is_digits.ensures ∙ c.if-not-is_digits.true))

pub returns : goal.returns
returns c =
    let e = c.end_of-point in
    c.is_digits-2.ensures
    ∙ sym (item_behind c.args.item.now e.result e.ensures.0 c.if-item-point.false
    (sym c.is_digits.ensures ∙ c.if-not-is_digits.false))
