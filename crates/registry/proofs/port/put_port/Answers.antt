-- `port/put_port` meets its contract. The three parts, one after another.
use mathlib.Core.Path.{◌∙◌}
use Rattle.registry.proofs.Ports.{port_put}
use Rattle.registry.proofs.Texts.{number_bytes}
use Rattle.registry.proofs.port.put_port.Goals as goal

pub returns : goal.returns
returns c =
    port_put c.args.row.now c.args.destination.now c.args.text.now
    c.put_text.new.field
    c.put_text-2.new.field c.copy_from_slice.new.self c.args.session
    c.requires.0 c.requires.1 c.requires.2 c.put_text.ensures
    c.put_text-2.ensures (c.copy_from_slice.ensures.after ∙ c.to_be_bytes.ensures ∙ number_bytes 8 c.args.session)
