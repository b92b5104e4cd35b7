-- `pattern::match_row` meets its contract: the row is that of the pattern's words from word j on.
use borrow.Author.Rules.{rules}
use mathlib.Core.Bool.{true, false}
use native.Mathlib.Omega.{arith}
use lib.ListN.{set, replicate}
use Rattle.topics.specs.Topics.{words}
use Rattle.topics.proofs.Filling.{row_start, row_last}
use Rattle.topics.proofs.pattern.match_row.Goals as goal

pub loop-j-init : goal.loop-j-init
loop-j-init c =
    let n = c.args.name.now in
    let p = c.args.pattern.now in
    let ws = words n.text.now in
    record {
      long = search rules;
      row = row_last (words p.text.now) ws p.count (set (replicate 33 false) n.count true) (omega (arith, p.located.number)) (row_start ws n.count n.located.number n.located.few);
    }
