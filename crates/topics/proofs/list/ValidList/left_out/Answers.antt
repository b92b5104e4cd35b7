-- `list::ValidList::left_out` meets its contract.
use borrow.Author.Rules.{rules}
use Rattle.topics.specs.Lists.{pairs_in, listed}
use Rattle.topics.specs.Waiting.{has_none}
use Rattle.topics.proofs.list.ValidList.left_out.Goals as goal

pub returns : goal.returns
returns c = c.first.ensures (has_none (listed (pairs_in c.args.plan.now.octets.now))) (λ n t s p. search rules)
