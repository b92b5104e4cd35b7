-- `plain::passed_from` meets its contract: the place is within the front that passes.
use Prim.Native.Nat.{ℕ, ◌+◌}
use native.Mathlib.Omega.{arith}
use mathlib.Core.Path.{◌≡◌, ap, ◌∙◌}
use mathlib.Core.Bool.{Bool}
use lib.ListN.{drop}
use Rattle.headers.specs.Stretches.{span}
use Rattle.headers.proofs.Stretches.{span_part, block_stop, block_more, span_on}
use Rattle.headers.proofs.plain.passed_from.Goals as goal

pub returns-then-k-lt32 : goal.returns-then-k-lt32
returns-then-k-lt32 g c =
    let a = c.args in
    let q = block_stop (g.T.OctetTest.test a.test) a.s.now a.i (a.i + 32) (omega arith) (omega arith) c.first_stop.ensures (omega arith) in
    (omega arith, omega (arith, q))

pub returns : goal.returns
returns g c =
    let a = c.args in
    let f = c.first_stop in
    let p : ℕ → Bool = g.T.OctetTest.test a.test in
    let h = span_part p a.s.now a.i (a.i + 32) _ (omega arith) (omega arith) f.ensures in
    let block : a.i + 32 ≡ a.i + f.result = omega arith in
    let first = ap (λ n. n + span p (drop n a.s.now)) block ∙ block_more p a.s.now a.i (a.i + 32) (omega arith) (omega arith) f.ensures (omega arith) in
    let on = span_on p a.s.now (a.i + 32) (omega arith) c.whole_blocks.ensures in
    (omega arith, omega (arith, on.1, first))
