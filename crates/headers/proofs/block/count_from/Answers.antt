-- count_from meets its contract: the entries of the name before place i are counted, those from i on are left.
use mathlib.Core.Path.{◌≡◌, sym, ◌∙◌, ap, ap₂, refl}
use Prim.Native.Nat.{◌+◌, ◌-◌}
use native.Mathlib.Omega.{arith}
use mathlib.Core.Option.{Option, none, some}
use mathlib.Core.List.{List, [], ◌∷◌}
use lib.ListN.{take, drop}
use Rattle.headers.specs.Rows.{same}
use Rattle.headers.specs.Block.{Entry, entries, spans}
use Rattle.std.specs.Prelude.{Ok}
use Rattle.headers.specs.Answers.{accepted, refused, count_from, counted_says}
use Rattle.headers.proofs.Results.{err_says}
use Rattle.headers.proofs.Blocks.{Placed, placed, place_behind, told_entry, told_end, told_malformed}
use Rattle.headers.proofs.Finding.{plus, plus_zero, plus_plus, count_passes, count_counts}
use Rattle.headers.proofs.block.count_from.Goals as goal
use Rattle.headers.proofs.block.count_from.Goals.{After-entry_at, After-equal, In-Some}

pub loop-l-init : goal.loop-l-init
loop-l-init c =
    let a = c.args in
    (omega arith, plus_zero a.name.now a.at (entries (drop a.at a.block.now)))

here : (c : In-Some) → Placed c.args.block.now c.loop-l.i c.in-Some.l
here c = told_entry c.args.block.now c.loop-l.i c.entry_at.result c.in-Some.l c.entry_at.ensures (c.in_ok-l.was ∙ ap Ok c.in-Some.is)

pub places-p-requires : goal.places-p-requires
places-p-requires c = omega (arith, (here c).inside)

pub slice_bounds-equal-end : goal.slice_bounds-equal-end
slice_bounds-equal-end c = omega (arith, (here (goal.at.slice_bounds-equal-end c).In-Some).inside)

pub overflow_add-count : goal.overflow_add-count
overflow_add-count c =
    omega (arith, (here (goal.at.overflow_add-count c).In-Some).inside, c.loop-l.invariant.0)

pub loop-l-smaller-then-equal : goal.loop-l-smaller-then-equal
loop-l-smaller-then-equal c = omega (arith, (here (goal.at.loop-l-smaller-then-equal c).In-Some).inside)

compared : (c : After-equal) → same (placed c.args.block.now c.loop-l.i c.in-Some.l).name c.args.name.now ≡ c.equal.result
compared c =
    let e = c.places-p.ensures in
    let n : c.places-p.result.value - c.places-p.result.name ≡ c.in-Some.l.name = omega arith in
    sym (c.equal.ensures ∙ ap₂ (λ k j. same (take k (drop j c.args.block.now)) c.args.name.now) n e.0)

pub loop-l-preserved-then-equal : goal.loop-l-preserved-then-equal
loop-l-preserved-then-equal c =
    let i = c.loop-l in (
      omega (arith, i.invariant.0),
      i.invariant.1 ∙ ap (plus i.count) (count_counts c.args.block.now c.args.name.now c.loop-l.i c.in-Some.l (here (goal.at.loop-l-preserved-then-equal c).In-Some) (compared (goal.at.loop-l-preserved-then-equal c).After-equal ∙ c.if-equal.true))
          ∙ plus_plus i.count 1 (count_from c.args.name.now (place_behind c.loop-l.i c.in-Some.l) (entries (drop (place_behind c.loop-l.i c.in-Some.l) c.args.block.now)))
          ∙ ap (λ k. plus (i.count + 1) (count_from c.args.name.now k (entries (drop k c.args.block.now)))) (sym c.places-p.ensures.2),
    )

pub loop-l-smaller : goal.loop-l-smaller
loop-l-smaller c = omega (arith, (here (goal.at.loop-l-smaller c).In-Some).inside)

pub loop-l-preserved : goal.loop-l-preserved
loop-l-preserved c =
    let i = c.loop-l in (
      omega (arith, i.invariant.0),
      i.invariant.1 ∙ ap (plus i.count) (count_passes c.args.block.now c.args.name.now c.loop-l.i c.in-Some.l (here (goal.at.loop-l-preserved c).In-Some) (compared (goal.at.loop-l-preserved c).After-equal ∙ c.if-equal.false))
          ∙ ap (λ k. plus i.count (count_from c.args.name.now k (entries (drop k c.args.block.now)))) (sym c.places-p.ensures.2),
    )

ended : (c : After-entry_at) (o : Option (List Entry)) → entries ((drop c.loop-l.i c.args.block.now)) ≡ o
    → let a = c.args in
    plus c.loop-l.count (count_from a.name.now c.loop-l.i o) ≡ count_from a.name.now a.at (entries (drop a.at a.block.now))
ended c o h =
    let a = c.args in
    sym (c.loop-l.invariant.1 ∙ ap (λ z. plus c.loop-l.count (count_from a.name.now c.loop-l.i z)) h)

pub returns : goal.returns
unfolding spans
returns c =
    let z : c.loop-l.count ≡ c.loop-l.count + 0 = omega arith in
    ap (λ k. accepted (k ∷ [])) z ∙ ended (goal.at.returns c).After-entry_at (some []) (told_end _ _ c.entry_at.ensures (c.in_ok-l.was ∙ ap Ok c.in_default.is))

pub returns-in_err-l : goal.returns-in_err-l
returns-in_err-l c =
    err_says counted_says (refused 22) (λ e. refl) _ c.from_residual.ensures.0
    ∙ ended (goal.at.returns-in_err-l c).After-entry_at none (told_malformed _ _ _ c.entry_at.ensures c.in_err-l.was)
