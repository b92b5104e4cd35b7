-- `keys::slot` meets its contract.
use borrow.Author.Rules.{rules}
use Rattle.stores.specs.Keys.{slot}
use Rattle.stores.proofs.keys.slot.Goals as goal

pub returns : goal.returns
unfolding slot
returns c = search rules
