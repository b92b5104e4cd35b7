-- `list::Pairs::number` meets its contract.
use Rattle.topics.proofs.Places.{column_is}
use Rattle.topics.proofs.list.Pairs.number.Goals as goal

pub returns : goal.returns
returns c = column_is c.args.column c.args.self.now.octets.now _ c.place.result c.value.result c.place.ensures.0 c.value.ensures.0
