-- `utf8::wide_span` meets its contract: what is passed are whole characters.
use native.Mathlib.Omega.{arith}
use lib.ListN.{drop}
use Rattle.headers.specs.Characters.{whole, wide_front}
use mathlib.Core.Path.{ap, sym, ◌∙◌}
use Rattle.headers.proofs.Characters.{whole_some, whole_none, wide_here, wides_none, wides_more}
use Rattle.headers.proofs.Stretches.{part_rest}
use Rattle.headers.proofs.utf8.wide_span.Goals as goal

pub loop-k-init : goal.loop-k-init
loop-k-init c = (omega arith, wides_none c.args.s.now)

pub overflow_add-i : goal.overflow_add-i
overflow_add-i c =
    let k = whole_some (wide_front (drop c.loop-k.i c.args.s.now)) (ap (λ z. whole (wide_front z)) (sym (part_rest c.args.s.now c.loop-k.i c.loop-k.invariant.0)) ∙ sym c.next_wide.ensures ∙ c.in-Some.is) in
    omega (arith, (wide_here c.args.s.now c.loop-k.i k.0 k.1).1)

pub loop-k-smaller : goal.loop-k-smaller
loop-k-smaller c =
    let k = whole_some (wide_front (drop c.loop-k.i c.args.s.now)) (ap (λ z. whole (wide_front z)) (sym (part_rest c.args.s.now c.loop-k.i c.loop-k.invariant.0)) ∙ sym c.next_wide.ensures ∙ c.in-Some.is) in
    let here = wide_here c.args.s.now c.loop-k.i k.0 k.1 in
    omega (arith, here.1, here.2)

pub loop-k-preserved : goal.loop-k-preserved
loop-k-preserved c =
    let l = c.loop-k in
    let k = whole_some (wide_front (drop c.loop-k.i c.args.s.now)) (ap (λ z. whole (wide_front z)) (sym (part_rest c.args.s.now c.loop-k.i c.loop-k.invariant.0)) ∙ sym c.next_wide.ensures ∙ c.in-Some.is) in
    ((wide_here c.args.s.now l.i k.0 k.1).1, wides_more c.args.s.now l.i k.0 k.1 l.invariant.1)

pub returns : goal.returns
returns c =
    let l = c.loop-k in
    record {
      within = l.invariant.0;
      row = l.invariant.1;
      ends = whole_none (wide_front (drop l.i c.args.s.now)) (ap (λ z. whole (wide_front z)) (sym (part_rest c.args.s.now l.i l.invariant.0)) ∙ sym c.next_wide.ensures ∙ c.in_default.is);
    }
