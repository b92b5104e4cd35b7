-- `plain::exact_front` meets its contract: what is passed, and the span of what is left, are the span.
use Rattle.headers.specs.Stretches.{span}
use Rattle.headers.proofs.Stretches.{block_stop, block_more, span_on, span_part, span_rest}
use Prim.Native.Nat.{ℕ, ◌+◌, ◌≤◌}
use native.Mathlib.Omega.{arith}
use mathlib.Core.Bool.{Bool}
use mathlib.Core.Path.{◌≡◌, ap, ◌∙◌}
use lib.ListN.{length, drop}
use Rattle.headers.proofs.plain.exact_front.Given as given
use Rattle.headers.proofs.plain.exact_front.Goals as goal
use Rattle.headers.proofs.plain.exact_front.Goals.{Else-k-lt32, After-each_front}

pub returns-then-k-lt32 : goal.returns-then-k-lt32
returns-then-k-lt32 g c =
    let l = c.loop-i in
    let same : c.from-k.result ≡ c.first_stop.result = omega arith in
    ap (l.i +◌) same ∙ block_stop _ _ l.i (l.i + 32) (omega arith) (omega arith) c.first_stop.ensures (omega arith) ∙ l.invariant.1

-- no octet of the block stops the stretch
whole : (g : given.Over) (c : Else-k-lt32 g) → (c.from-k.result ≡ 32) × (c.first_stop.result ≡ 32)
whole g c =
    let i = c.loop-i.i in
    let h = span_part _ _ i (i + 32) _ (omega arith) (omega arith) c.first_stop.ensures in
    (omega arith, omega arith)

pub slice_bounds-whole_blocks-count : goal.slice_bounds-whole_blocks-count
slice_bounds-whole_blocks-count g c = omega (arith, (whole g (goal.at.slice_bounds-whole_blocks-count g c).Else-k-lt32).0)

pub slice_bounds-whole_blocks-start : goal.slice_bounds-whole_blocks-start
slice_bounds-whole_blocks-start g c = omega (arith, (whole g (goal.at.slice_bounds-whole_blocks-start g c).Else-k-lt32).0)

pub loop-i-preserved : goal.loop-i-preserved
loop-i-preserved g c =
    let l = c.loop-i in
    let a = c.args in
    let p : ℕ → Bool = g.T.OctetTest.test a.test in
    let w = whole g (goal.at.loop-i-preserved g c).Else-k-lt32 in
    let same : c.from-k.result ≡ c.first_stop.result = omega arith in
    let more = ap (λ k. l.i + k + span p (drop (l.i + k) a.s.now)) same
    ∙ block_more p a.s.now l.i (l.i + 32) (omega arith) (omega arith) c.first_stop.ensures (omega arith) in
    let on = span_on p a.s.now (l.i + c.from-k.result) (omega arith) c.whole_blocks-i.ensures in
    (on.0, on.1 ∙ more ∙ l.invariant.1)

-- what is left, one by one
rest : (g : given.Over) (c : After-each_front g) → let s = c.args.s.now in
    (c.loop-i.i + c.each_front.result ≡ span (g.T.OctetTest.test c.args.test) s) × (c.loop-i.i + c.each_front.result ≤ length s)
rest g c =
    let l = c.loop-i in
    let on = span_rest (g.T.OctetTest.test c.args.test) c.args.s.now l.i l.invariant.0 c.each_front.ensures in
    (on.0 ∙ l.invariant.1, on.1)

pub overflow_add-result : goal.overflow_add-result
overflow_add-result g c = omega (arith, (rest g c).1)

pub returns : goal.returns
returns g c = (rest g (goal.at.returns g c).After-each_front).0
