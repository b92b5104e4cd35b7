-- `list::ValidList::find` meets its contract.
use borrow.Author.Rules.{rules}
use lib.Dec.{eqb}
use Rattle.topics.proofs.list.ValidList.find.Goals as goal

pub returns : goal.returns
returns c = c.first.ensures (λ n. eqb n c.args.number) (λ n t s p. search rules)
