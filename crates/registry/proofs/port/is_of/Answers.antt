-- `port/is_of` meets its contract. The session's octets are compared.
use mathlib.Core.Path.{ap, ◌∙◌}
use lib.ListN.{take, drop}
use Rattle.headers.specs.Rows.{same}
use Rattle.registry.proofs.Texts.{number_bytes}
use Rattle.registry.proofs.port.is_of.Goals as goal

pub returns : goal.returns
returns c =
    c.is_same.ensures ∙ ap (same (take 8 (drop 98 c.args.row.now))) (c.to_be_bytes.ensures ∙ number_bytes 8 c.args.session)
