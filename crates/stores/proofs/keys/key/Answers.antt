-- `keys::key` meets its contract.
use Rattle.stores.specs.Keys.{key}
use Rattle.stores.proofs.keys.key.Goals as goal

pub returns : goal.returns
unfolding key
returns c = cc
