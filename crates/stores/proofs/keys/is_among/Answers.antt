-- `keys::is_among` meets its contract: by whether the key's slot is marked.
use mathlib.Core.Path.{sym, ap, ◌∙◌}
use lib.ListN.{get_or}
use Rattle.stores.proofs.Marking.{not_among}
use Rattle.stores.proofs.keys.is_among.Goals as goal

pub returns-then-marks-slot-eq0 : goal.returns-then-marks-slot-eq0
returns-then-marks-slot-eq0 c =
    let a = c.args in
    let at = ap (λ z. get_or a.marks.now z 0) (sym c.slot.ensures.0) in
    sym (not_among a.marks.now a.later.now a.key c.requires.1 (at ∙ c.if-marks-slot-eq0.true))
