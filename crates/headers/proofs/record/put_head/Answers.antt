-- `record::put_head` meets its contract: the tag and both lengths, each in two octets, by one call.
use mathlib.Core.Path.{ap, ap₂, ◌∙◌}
use mathlib.Core.List.{◌∷◌, [], ◌++◌}
use lib.ListN.{drop, get_or}
use Rattle.headers.specs.Numbers.{numeral}
use Rattle.headers.proofs.record.put_head.Goals as goal

pub returns : goal.returns
unfolding numeral
returns c =
    ap (◌++ drop 6 c.args.d.now)
    (c.copy_from_slice.ensures.after
    ∙ ap₂ (λ n v. 72 ∷ (68 ∷ (get_or n 0 0 ∷ (get_or n 1 0 ∷ (get_or v 0 0 ∷ (get_or v 1 0 ∷ [])))))) c.to_be_bytes-n.ensures c.to_be_bytes-v.ensures)
