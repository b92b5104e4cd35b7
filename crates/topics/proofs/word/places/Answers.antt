-- `word::places` meets its contract: the words passed are counted, none of them is empty, and where they begin is noted.
use mathlib.Core.Path.{sym}
use Prim.Native.Nat.{◌+◌}
use lib.ListN.{set}
use native.Mathlib.Omega.{arith}
use Rattle.topics.proofs.Words.{Noted, count_long, counted_empty, counted_full, noted_none, noted_more, noted_all, noted_good}
use Rattle.topics.proofs.word.places.Goals as goal
use Rattle.topics.proofs.word.places.Goals.{Else-next-at}

pub returns-then-text-gt-OCTETS_MAX-clause-formed : goal.returns-then-text-gt-OCTETS_MAX-clause-formed
returns-then-text-gt-OCTETS_MAX-clause-formed c = sym (count_long c.args.text.now c.if-text-gt-OCTETS_MAX.true)

pub loop-count-init : goal.loop-count-init
loop-count-init c = record { noted = noted_none c.args.text.now c.args.starts.now c.if-text-gt-OCTETS_MAX.false (omega arith); more = omega arith }

pub returns-then-next-at-clause-formed : goal.returns-then-next-at-clause-formed
returns-then-next-at-clause-formed c =
    let l = c.loop-count in
    sym (counted_empty c.args.text.now l.at l.count c.next_word-next.result l.invariant.noted.counted c.next_word-next.ensures c.if-next-at.true)

-- one word more
noted : (c : Else-next-at)
    → Noted c.args.text.now c.next_word-next.result (c.loop-count.count + 1) (set c.loop-count.starts (c.loop-count.count + 1) c.next_word-next.result)
noted c =
    let l = c.loop-count in
    let next = c.next_word-next in
    noted_more c.args.text.now l.at l.count l.starts l.invariant.noted next.result next.ensures c.loop-count-test.true c.if-next-at.false

pub returns-then-text-next-clause-located : goal.returns-then-text-next-clause-located
returns-then-text-next-clause-located c = noted_all _ _ _ _ (noted (goal.at.returns-then-text-next-clause-located c).Else-next-at) c.if-text-next.true

pub returns-then-text-next-clause-formed : goal.returns-then-text-next-clause-formed
returns-then-text-next-clause-formed c =
    sym (noted_good _ _ _ _ (noted (goal.at.returns-then-text-next-clause-formed c).Else-next-at) c.if-text-next.true)

pub loop-count-preserved : goal.loop-count-preserved
loop-count-preserved c = record { noted = noted (goal.at.loop-count-preserved c).Else-next-at; more = c.if-text-next.false }

pub returns-clause-formed : goal.returns-clause-formed
returns-clause-formed c =
    let l = c.loop-count in
    sym (counted_full c.args.text.now l.at l.count l.invariant.noted.counted l.invariant.more c.loop-count-test.false)
