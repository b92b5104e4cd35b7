-- The test of `list::ValidList::left_out` meets its contract.
use Rattle.topics.specs.Lists.{pairs_in, listed}
use Rattle.topics.specs.Plans.{with_message}
use Rattle.topics.proofs.Checking.{none_counted}
use Rattle.topics.proofs.list.fn.ValidList.left_out.first.Goals as goal

pub returns : goal.returns
returns c = none_counted (with_message c.args.n) (listed (pairs_in c.captures.plan.now.octets.now)) c.count.result c.count.ensures
