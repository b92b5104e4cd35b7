-- `utf8::is_utf8` meets its contract: what is left is UTF-8 exactly where the whole is.
use mathlib.Core.Path.{ap, sym, ◌∙◌}
use native.Mathlib.Omega.{arith}
use lib.ListN.{drop}
use Rattle.headers.specs.Characters.{whole, front_character}
use Rattle.headers.proofs.Characters.{whole_some, whole_none, front_inside, utf8_more, utf8_rest}
use Rattle.headers.proofs.Stretches.{part_rest}
use Rattle.headers.proofs.utf8.is_utf8.Goals as goal

pub overflow_add-i : goal.overflow_add-i
overflow_add-i c =
    let s = c.args.text.now in
    let k = whole_some (front_character (drop c.loop-k.i c.args.text.now)) (ap (λ z. whole (front_character z)) (sym (part_rest c.args.text.now c.loop-k.i c.loop-k.invariant.0)) ∙ sym c.next_character.ensures ∙ c.in-Some.is) in
    omega (arith, (utf8_more s c.loop-k.i (front_inside s c.loop-k.i k.0 k.1) k.0 k.1).1)

pub loop-k-smaller : goal.loop-k-smaller
loop-k-smaller c =
    let s = c.args.text.now in
    let k = whole_some (front_character (drop c.loop-k.i c.args.text.now)) (ap (λ z. whole (front_character z)) (sym (part_rest c.args.text.now c.loop-k.i c.loop-k.invariant.0)) ∙ sym c.next_character.ensures ∙ c.in-Some.is) in
    omega (arith, (utf8_more s c.loop-k.i (front_inside s c.loop-k.i k.0 k.1) k.0 k.1).1, k.1)

pub loop-k-preserved : goal.loop-k-preserved
loop-k-preserved c =
    let s = c.args.text.now in
    let l = c.loop-k in
    let k = whole_some (front_character (drop c.loop-k.i c.args.text.now)) (ap (λ z. whole (front_character z)) (sym (part_rest c.args.text.now c.loop-k.i c.loop-k.invariant.0)) ∙ sym c.next_character.ensures ∙ c.in-Some.is) in
    let more = utf8_more s l.i (front_inside s l.i k.0 k.1) k.0 k.1 in
    (more.1, l.invariant.1 ∙ more.0)

pub returns : goal.returns
returns c =
    let l = c.loop-k in
    utf8_rest c.args.text.now l.i l.invariant.0 (whole_none (front_character (drop l.i c.args.text.now)) (ap (λ z. whole (front_character z)) (sym (part_rest c.args.text.now c.loop-k.i c.loop-k.invariant.0)) ∙ sym c.next_character.ensures ∙ c.in_default.is)) ∙ sym l.invariant.1
