-- `port/is_port` meets its contract. A free slot, or both texts.
use mathlib.Core.Path.{sym, ◌∙◌}
use Rattle.registry.proofs.Ports.{port_free, port_bad, port_rest}
use Rattle.registry.proofs.port.is_port.Goals as goal

pub returns-then-row-eq0 : goal.returns-then-row-eq0
returns-then-row-eq0 c = port_free c.args.row.now c.if-row-eq0.true c.is_zero.result c.is_zero.ensures

pub returns-then-not-is_text : goal.returns-then-not-is_text
returns-then-not-is_text c =
    port_bad c.args.row.now c.if-row-eq0.false (sym c.is_text.ensures ∙ c.if-not-is_text.true)

pub returns : goal.returns
returns c =
    port_rest c.args.row.now c.if-row-eq0.false
    (sym c.is_text.ensures ∙ c.if-not-is_text.false) c.is_text-2.result c.is_text-2.ensures
