-- `run/is_run` meets its contract. A free row, or label, ports and distinct destinations.
use mathlib.Core.Path.{sym, ◌∙◌}
use borrow.Author.Rules.{rules}
use Rattle.registry.specs.Tests.{is_port}
use Rattle.registry.proofs.Runs.{run_free, run_no_label, run_no_ports, run_rest}
use Rattle.registry.proofs.run.is_run.Goals as goal

pub returns-then-run-eq0 : goal.returns-then-run-eq0
returns-then-run-eq0 c =
    run_free c.args.run.now c.requires c.if-run-eq0.true c.is_zero.result c.is_zero.ensures

pub returns-then-not-is_text : goal.returns-then-not-is_text
returns-then-not-is_text c =
    run_no_label c.args.run.now c.requires c.if-run-eq0.false (sym c.is_text.ensures ∙ c.if-not-is_text.true)

pub returns-then-not-all : goal.returns-then-not-all
returns-then-not-all c =
    run_no_ports c.args.run.now c.requires c.if-run-eq0.false
    (sym c.is_text.ensures ∙ c.if-not-is_text.false)
    (sym (c.all.ensures.says is_port (λ row r l q. search rules)) ∙ c.if-not-all.true)

pub returns : goal.returns
returns c =
    run_rest c.args.run.now c.requires c.if-run-eq0.false
    (sym c.is_text.ensures ∙ c.if-not-is_text.false)
    (sym (c.all.ensures.says is_port (λ row r l q. search rules)) ∙ c.if-not-all.false) c.is_distinct.result c.is_distinct.ensures
