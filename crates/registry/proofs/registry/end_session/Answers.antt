-- `registry/end_session` meets its contract. The record tested, then each run.
use native.Mathlib.Omega.{arith}
use Rattle.headers.proofs.Rows.{never}
use mathlib.Core.Bool.{false}
use Rattle.registry.specs.Answers.{done_says}
use Rattle.registry.proofs.Calling.{admitted_both, not_admitted, told_err, valid_rows, end_there}
use borrow.Author.Rules.{rules}
use Rattle.registry.specs.Steps.{run_octets_without}
use Rattle.registry.proofs.Runs.{run_without_long}
use Rattle.registry.specs.Calls.{end_session}
use Rattle.registry.proofs.registry.end_session.Goals as goal

pub returns-in_err-admit : goal.returns-in_err-admit
returns-in_err-admit c =
    let a = c.args in
    told_err done_says c.from_residual.result c.from_residual.ensures.1
    (not_admitted a.reg.now (end_session a.session) _ _ _ c.admit.ensures c.in_err-admit.was (λ v b. never b))

pub change_each-requires-clause-laid : goal.change_each-requires-clause-laid
change_each-requires-clause-laid c =
    valid_rows c.args.reg.now (admitted_both _ false _ c.admit.ensures c.in_ok-admit.was).0

pub returns : goal.returns
returns c =
    let s = c.args.session in
    end_there s (omega arith) c.args.reg.now
    (admitted_both _ false _ c.admit.ensures c.in_ok-admit.was).0 c.change_each.new.rows
    (c.change_each.ensures.says (run_octets_without s) (λ row left long q. (search rules, run_without_long s row.now long)))
