-- find meets its contract: what the block answers is what it answers from place i on, and the entries before i have other names.
use mathlib.Core.Path.{◌≡◌, refl, sym, ◌∙◌, ap, ap₂}
use Prim.Native.Nat.{ℕ, ◌+◌, ◌-◌}
use native.Mathlib.Omega.{arith}
use mathlib.Core.Option.{Option, none, some}
use mathlib.Core.List.{List, []}
use lib.ListN.{take, drop}
use Rattle.headers.specs.Rows.{same}
use Rattle.headers.specs.Block.{Entry, entries, spans}
use Rattle.headers.specs.Answers.{count_from, find_answer, find_from, found_says, counted_says, refused}
use Rattle.std.specs.Prelude.{Result, Ok, Err}
use Rattle.headers.specs.declared.block.Malformed.{Malformed}
use Rattle.headers.proofs.Results.{err_says}
use Rattle.headers.proofs.Blocks.{Placed, placed, told_entry, told_end, told_malformed}
use Rattle.headers.proofs.Finding.{found_with, find_passes, find_stops}
use Rattle.headers.proofs.block.find.Goals as goal
use Rattle.headers.proofs.block.find.Goals.{After-count_from, After-entry_at, After-equal, In-Some}

pub loop-l-init : goal.loop-l-init
unfolding find_answer
loop-l-init c = (omega arith, refl)

here_1 : (c : In-Some) → Placed c.args.block.now c.loop-l.i c.in-Some.l
here_1 c = told_entry c.args.block.now c.loop-l.i c.entry_at.result c.in-Some.l c.entry_at.ensures (c.in_ok-l.was ∙ ap Ok c.in-Some.is)

pub places-p-requires : goal.places-p-requires
places-p-requires c = omega (arith, (here_1 c).inside)

pub slice_bounds-equal-end : goal.slice_bounds-equal-end
slice_bounds-equal-end c = omega (arith, (here_1 (goal.at.slice_bounds-equal-end c).In-Some).inside)

here_2 : (c : After-count_from) → Placed c.args.block.now c.loop-l.i c.in-Some.l
here_2 c = told_entry c.args.block.now c.loop-l.i c.entry_at.result c.in-Some.l c.entry_at.ensures (c.in_ok-l.was ∙ ap Ok c.in-Some.is)

compared_1 : (c : After-count_from) → same (placed c.args.block.now c.loop-l.i c.in-Some.l).name c.args.name.now ≡ c.equal.result
compared_1 c =
    let e = c.places-p.ensures in
    let n : c.places-p.result.value - c.places-p.result.name ≡ c.in-Some.l.name = omega arith in
    sym (c.equal.ensures ∙ ap₂ (λ k j. same (take k (drop j c.args.block.now)) c.args.name.now) n e.0)

-- where it is the name looked for, the answer is its value and how many follow, if the rest is a block
decided : (c : After-count_from) (r : Result ℕ Malformed) → c.count_from.result ≡ r
    → found_with c.places-p.result.value c.in-Some.l.value (counted_says r) ≡ find_answer c.args.block.now c.args.name.now
decided c r h =
    let e = c.places-p.ensures in
    let later = ap (λ k. count_from c.args.name.now k (entries (drop k c.args.block.now))) (sym e.2) ∙ sym c.count_from.ensures ∙ ap counted_says h in
    ap (λ k. found_with k c.in-Some.l.value (counted_says r)) e.1
    ∙ sym (c.loop-l.invariant.1
    ∙ find_stops c.args.block.now c.args.name.now c.loop-l.i c.in-Some.l (here_2 c) (compared_1 c ∙ c.if-equal.true)
    ∙ ap (found_with (c.loop-l.i + 6 + c.in-Some.l.name) c.in-Some.l.value) later)

pub returns-then-equal : goal.returns-then-equal
returns-then-equal c = decided (goal.at.returns-then-equal c).After-count_from (Ok c.in_ok-later.later) c.in_ok-later.was

pub returns-in_err-later : goal.returns-in_err-later
returns-in_err-later c =
    err_says found_says (refused 22) (λ e. refl) _ c.from_residual-in_err-later.ensures.0
    ∙ decided (goal.at.returns-in_err-later c).After-count_from (Err c.in_err-later.field-0.0) c.in_err-later.was

pub loop-l-smaller : goal.loop-l-smaller
loop-l-smaller c = omega (arith, (here_1 (goal.at.loop-l-smaller c).In-Some).inside)

compared_2 : (c : After-equal) → same (placed c.args.block.now c.loop-l.i c.in-Some.l).name c.args.name.now ≡ c.equal.result
compared_2 c =
    let e = c.places-p.ensures in
    let n : c.places-p.result.value - c.places-p.result.name ≡ c.in-Some.l.name = omega arith in
    sym (c.equal.ensures ∙ ap₂ (λ k j. same (take k (drop j c.args.block.now)) c.args.name.now) n e.0)

pub loop-l-preserved : goal.loop-l-preserved
loop-l-preserved c =
    let here = here_1 (goal.at.loop-l-preserved c).In-Some in
    let same_name = compared_2 (goal.at.loop-l-preserved c).After-equal in (
      omega (arith, here.inside),
      c.loop-l.invariant.1 ∙ find_passes c.args.block.now c.args.name.now c.loop-l.i c.in-Some.l here (same_name ∙ c.if-equal.false)
          ∙ ap (λ k. find_from c.args.name.now k (entries (drop k c.args.block.now))) (sym c.places-p.ensures.2),
    )

ended : (c : After-entry_at) (o : Option (List Entry)) → entries ((drop c.loop-l.i c.args.block.now)) ≡ o
    → find_from c.args.name.now c.loop-l.i o ≡ find_answer c.args.block.now c.args.name.now
ended c o h = sym (c.loop-l.invariant.1 ∙ ap (find_from c.args.name.now c.loop-l.i) h)

pub returns : goal.returns
unfolding spans
returns c = ended (goal.at.returns c).After-entry_at (some []) (told_end _ _ c.entry_at.ensures (c.in_ok-l.was ∙ ap Ok c.in_default.is))

pub returns-in_err-l : goal.returns-in_err-l
returns-in_err-l c =
    err_says found_says (refused 22) (λ e. refl) _ c.from_residual.ensures.0
    ∙ ended (goal.at.returns-in_err-l c).After-entry_at none (told_malformed _ _ _ c.entry_at.ensures c.in_err-l.was)
