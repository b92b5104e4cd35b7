-- `text/put_text` meets its contract.
use mathlib.Core.Path.{refl}
use Rattle.registry.proofs.Texts.{put_field}
use Rattle.registry.proofs.text.put_text.Goals as goal

pub returns : goal.returns
returns c =
    put_field c.args.field.now c.args.text.now c.fill.new.place _ c.requires.0 refl
    c.fill.ensures
