-- `utf8::short_first` meets its contract: two octets or three.
use native.Mathlib.Omega.{arith}
use mathlib.Core.Path.{ap}
use mathlib.Core.Logic.{inr, ⊎_elim}
use Rattle.headers.specs.Characters.{whole}
use Rattle.headers.proofs.Characters.{two_octets, three_octets}
use Rattle.headers.proofs.utf8.short_first.Goals as goal

pub returns-then-s-lt224 : goal.returns-then-s-lt224
returns-then-s-lt224 c =
    let a = c.args in
    let k = c.is_short.ensures (c.if-not-is_short.false) in
    inr (ap whole (two_octets a.s.now 0 (⊎_elim (λ w. w.1) (λ w. absurd (omega arith)) k.1) (omega arith) k.0))

pub returns-else-s-lt224 : goal.returns-else-s-lt224
returns-else-s-lt224 c =
    let a = c.args in
    let k = c.is_short.ensures (c.if-not-is_short.false) in
    inr (ap whole (three_octets a.s.now 0 (⊎_elim (λ w. absurd (omega arith)) (λ w. w.1) k.1) (omega arith) k.0 (⊎_elim (λ w. absurd (omega arith)) (λ w. w.2) k.1)))
