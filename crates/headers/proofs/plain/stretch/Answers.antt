-- `plain::stretch` meets its contract: the first octets one by one, the others by blocks.
use mathlib.Core.Bool.{not}
use borrow.Author.Tests.{ne_eqb}
use Rattle.headers.specs.Stretches.{span, not_back}
use Rattle.headers.proofs.Stretches.{span_rest, span_more, span_stop, stretch_at}
use Prim.Native.Nat.{◌≤◌, ◌+◌}
use native.Mathlib.Omega.{arith}
use lib.ListN.{length, drop}
use mathlib.Core.Path.{◌≡◌, ap, sym, ◌∙◌}
use Rattle.headers.proofs.plain.stretch.Goals as goal
use Rattle.headers.proofs.plain.stretch.Goals.{After-exact_front}

pub returns-then-s-i-eq92 : goal.returns-then-s-i-eq92
returns-then-s-i-eq92 c =
    let l = c.loop-i in
    let s = c.args.s.now in
    stretch_at s l.i (span_stop not_back s l.i (omega (arith, c.loop-i-test.true)) (ap not_back c.if-s-i-eq92.true) ∙ l.invariant)

pub loop-i-preserved : goal.loop-i-preserved
loop-i-preserved c =
    let l = c.loop-i in
    let s = c.args.s.now in
    span_more not_back s l.i (omega (arith, c.loop-i-test.true)) (ap not (ne_eqb _ 92 c.if-s-i-eq92.false)) ∙ l.invariant

-- the rest, by blocks
far : (c : After-exact_front) → let s = c.args.s.now in
    let e = c.min-e.result in
    (e + c.exact_front.result ≡ span not_back s) × (e + c.exact_front.result ≤ length s)
far c =
    let s = c.args.s.now in
    let l = c.loop-i in
    let all : l.i ≡ c.min-e.result = omega arith in
    let on = span_rest not_back s c.min-e.result (omega arith) c.exact_front.ensures in
    (on.0 ∙ ap (λ i. i + span not_back (drop i s)) (sym all) ∙ l.invariant, on.1)

pub overflow_add-result : goal.overflow_add-result
overflow_add-result c = omega (arith, (far c).1)

pub returns : goal.returns
returns c = stretch_at c.args.s.now _ (far c).0
