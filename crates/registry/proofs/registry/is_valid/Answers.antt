-- `registry/is_valid` meets its contract. The tests in turn.
use native.Mathlib.Omega.{arith}
use mathlib.Core.Path.{sym, ◌∙◌}
use borrow.Author.Rules.{rules}
use Rattle.registry.specs.Tests.{is_run}
use Rattle.registry.proofs.Runs.{registry_short, registry_no_runs, registry_rest}
use Rattle.registry.proofs.registry.is_valid.Goals as goal

pub returns-then-reg-ne-RECORD_SIZE : goal.returns-then-reg-ne-RECORD_SIZE
returns-then-reg-ne-RECORD_SIZE c = registry_short c.args.reg.now (λ i. omega (arith, c.type_inv.reg i)) c.if-reg-ne-RECORD_SIZE.true

pub returns-then-not-all : goal.returns-then-not-all
returns-then-not-all c =
    registry_no_runs c.args.reg.now (λ i. omega (arith, c.type_inv.reg i)) c.if-reg-ne-RECORD_SIZE.false
    (sym (c.all.ensures.says is_run (λ row r l q. search rules)) ∙ c.if-not-all.true)

pub returns : goal.returns
returns c =
    registry_rest c.args.reg.now (λ i. omega (arith, c.type_inv.reg i))
    c.if-reg-ne-RECORD_SIZE.false (sym (c.all.ensures.says is_run (λ row r l q. search rules)) ∙ c.if-not-all.false) c.is_distinct.result
    c.is_distinct.ensures
