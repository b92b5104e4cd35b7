-- `list::Pairs::new` meets its contract.
use mathlib.Core.Path.{sym}
use Rattle.topics.proofs.Checking.{pairs_whole, pairs_cut}
use Rattle.topics.proofs.list.Pairs.new.Goals as goal

pub returns-then-octets-eq0-clause-whole : goal.returns-then-octets-eq0-clause-whole
returns-then-octets-eq0-clause-whole c = sym (pairs_whole c.args.octets.now c.if-octets-eq0.true)

pub returns-else-octets-eq0-clause-whole : goal.returns-else-octets-eq0-clause-whole
returns-else-octets-eq0-clause-whole c = sym (pairs_cut c.args.octets.now c.if-octets-eq0.false)
