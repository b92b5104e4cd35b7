-- `run/withdraw_from` meets its contract. The slots, changed, come back into the run.
use borrow.Author.Rules.{rules}
use Rattle.registry.specs.Tests.{row_without}
use Rattle.registry.proofs.Ports.{without_long}
use Rattle.registry.proofs.Runs.{withdrawn_put}
use Rattle.registry.proofs.run.withdraw_from.Goals as goal

pub returns : goal.returns
returns c =
    let s = c.args.session in
    withdrawn_put s c.args.run.now c.change_each.new.rows c.requires
    (c.change_each.ensures.says (row_without s) (λ row left long q. (search rules, without_long s row.now long)))
