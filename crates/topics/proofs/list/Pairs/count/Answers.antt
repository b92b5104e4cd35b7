-- `list::Pairs::count` meets its contract: the pairs passed are counted.
use mathlib.Core.Path.{◌≡◌, sym, subst}
use Prim.Native.Nat.{◌+◌, ◌*◌}
use native.Mathlib.Omega.{arith}
use Rattle.topics.proofs.Places.{Tallied, tallied_end, tallied_hit, tallied_miss}
use Rattle.topics.proofs.Checking.{pairs_whole}
use Rattle.topics.proofs.list.Pairs.count.Goals as goal
use Rattle.topics.proofs.list.Pairs.count.Goals.{then-number, else-number}

pub loop-k-init : goal.loop-k-init
loop-k-init c = record { whole = pairs_whole c.args.self.now.octets.now c.args.self.now.whole; few = omega arith; sum = omega arith }

pub loop-k-preserved : goal.loop-k-preserved
loop-k-preserved c =
    let a = c.args in
    let l = c.loop-k in
    let xs = a.self.now.octets.now in
    let on : l.k * 8 + 8 ≡ (l.k + 1) * 8 = omega arith in
    subst (λ at. Tallied a.column a.number xs at c.if-number.n) on
    elim c.if-number.branch [
      | then-number w ↦ subst (Tallied a.column a.number xs (l.k * 8 + 8)) (sym w.n-is) (tallied_hit a.column a.number xs (l.k * 8) l.n l.invariant (omega arith) c.number.result c.number.ensures w.if-number.true)
      | else-number w ↦ subst (Tallied a.column a.number xs (l.k * 8 + 8)) (sym w.n-is) (tallied_miss a.column a.number xs (l.k * 8) l.n l.invariant (omega arith) c.number.result c.number.ensures w.if-number.false)
    ]

pub returns : goal.returns
returns c =
    let a = c.args in
    let l = c.loop-k in
    tallied_end a.column a.number a.self.now.octets.now (l.k * 8) l.n l.invariant (omega (arith, a.self.now.whole))
