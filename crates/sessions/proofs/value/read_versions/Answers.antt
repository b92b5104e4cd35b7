-- `value::read_versions` meets its contract: the versions are those of the items that are left, with those counted.
use Rattle.std.proofs.Common.{sym, ◌∙◌, rules}
use Rattle.sessions.proofs.Values.{versions_start, versions_stop, versions_turn, versions_end}
use Rattle.sessions.proofs.value.read_versions.Goals as goal

pub loop-flags-init : goal.loop-flags-init
loop-flags-init c = (search rules, versions_start c.args.value.now)

pub returns-then-not-is_item : goal.returns-then-not-is_item
returns-then-not-is_item c =
    let l = c.loop-flags in
    sym (l.invariant.1 ∙ versions_stop c.args.value.now l.at c.end_of-end.result l.flags c.end_of-end.ensures.0
    (sym c.is_item.ensures ∙ c.if-not-is_item.true))

pub returns-then-value-end : goal.returns-then-value-end
returns-then-value-end c =
    let l = c.loop-flags in
    sym (l.invariant.1 ∙ versions_end c.args.value.now l.at c.end_of-end.result l.flags c.end_of-end.ensures.0
    (sym c.is_item.ensures ∙ c.if-not-is_item.false) c.with_item-counted.result c.with_item-counted.ensures c.if-value-end.true)

pub loop-flags-preserved : goal.loop-flags-preserved
loop-flags-preserved c =
    let l = c.loop-flags in (
      search rules,
      l.invariant.1 ∙ versions_turn c.args.value.now l.at c.end_of-end.result l.flags
          c.end_of-end.ensures.0 (sym c.is_item.ensures ∙ c.if-not-is_item.false) c.with_item-counted.result c.with_item-counted.ensures c.if-value-end.false,
    )
