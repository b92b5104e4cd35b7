-- `text/is_text` meets its contract.
use native.Mathlib.Omega.{arith}
use lib.ListN.{get_or-eq_default}
use Rattle.registry.proofs.Texts.{field_none, field_free, field_over, field_rest}
use Rattle.registry.proofs.text.is_text.Goals as goal

pub returns-then-field-eq0 : goal.returns-then-field-eq0
returns-then-field-eq0 c = field_none c.args.field.now (get_or-eq_default c.args.field.now 0 (omega arith))

pub returns-then-len-eq0 : goal.returns-then-len-eq0
returns-then-len-eq0 c = field_free c.args.field.now c.from-len.result c.from-len.ensures c.if-len-eq0.true

pub returns-then-field-len : goal.returns-then-field-len
returns-then-field-len c =
    field_over c.args.field.now c.from-len.result c.from-len.ensures c.if-len-eq0.false c.if-field-len.true

pub returns : goal.returns
returns c =
    field_rest c.args.field.now c.from-len.result c.from-len.ensures c.if-len-eq0.false
    c.if-field-len.false c.is_zero_from.result c.is_zero_from.ensures
