-- `notes::note` meets its contract: the notes say of the block up to place i what they should, and what is left is as it was.
use Rattle.std.proofs.Common.{◌≡◌, ◌+◌, ◌-◌, ◌<◌, le_refl, take, drop, sym, ap, ◌∙◌, subst, arith}
use Rattle.headers.proofs.Blocks.{Placed, placed, place_behind, told_entry, told_end, told_malformed}
use Rattle.headers.proofs.Rows.{octets_known}
use Rattle.sessions.specs.Notes.{headers_max, number_of_name}
use Rattle.sessions.proofs.Noting.{tabled, Walked, walk_begins, walk_passes, walk_notes, with_mark, walk_ends, walk_fails}
use Rattle.std.specs.Prelude.{Ok}
use Rattle.std.proofs.lemmas.Result.{err_from_is_err_and}
use Rattle.sessions.proofs.notes.note.Goals as goal
use Rattle.sessions.proofs.notes.note.Goals.{After-index_of-k, In-Some}

pub loop-l-init : goal.loop-l-init
loop-l-init c = subst (λ r. Walked c.args.block.now r 0) (sym c.none-notes.ensures) (walk_begins c.args.block.now)

here : (c : In-Some) → Placed c.args.block.now c.loop-l.i c.in-Some.l
here c = told_entry c.args.block.now c.loop-l.i c.entry_at.result c.in-Some.l c.entry_at.ensures (c.in_ok-l.was ∙ ap Ok c.in-Some.is)

pub overflow_add-start : goal.overflow_add-start
overflow_add-start c = omega (arith, (here (goal.at.overflow_add-start c).In-Some).inside)

pub overflow_add-i : goal.overflow_add-i
overflow_add-i c = omega (arith, (here (goal.at.overflow_add-i c).In-Some).inside)

pub slice_bounds-header_of-end : goal.slice_bounds-header_of-end
slice_bounds-header_of-end c = omega (arith, (here (goal.at.slice_bounds-header_of-end c).In-Some).inside)

numbered : (c : After-index_of-k) → c.index_of-k.result ≡ number_of_name (placed c.args.block.now c.loop-l.i c.in-Some.l).name
numbered c =
    let n : c.loop-l.i + 6 + c.in-Some.l.name - (c.loop-l.i + 6) ≡ c.in-Some.l.name = omega arith in
    c.index_of-k.ensures ∙ c.in-Some-header_of.ensures ∙ ap (λ k. number_of_name (take k (drop (c.loop-l.i + 6) c.args.block.now))) n

below : (c : After-index_of-k) → c.index_of-k.result < headers_max
below c = omega (arith, (tabled c.in-Some-header_of.header).below, c.index_of-k.ensures)

-- no count is above the place that the walk is at
pub with-requires : goal.with-requires
with-requires c = omega (arith, (here (goal.at.with-requires c).In-Some).inside, (c.loop-l.invariant.bounded c.index_of-k.result).few)

pub loop-l-smaller-in-Some-header_of : goal.loop-l-smaller-in-Some-header_of
loop-l-smaller-in-Some-header_of c = omega (arith, (here (goal.at.loop-l-smaller-in-Some-header_of c).In-Some).inside)

pub loop-l-preserved-in-Some-header_of : goal.loop-l-preserved-in-Some-header_of
loop-l-preserved-in-Some-header_of c =
    let at = goal.at.loop-l-preserved-in-Some-header_of c in
    let block = c.args.block.now in
    subst (λ m. Walked block (with_mark c.loop-l.notes c.index_of-k.result m) (place_behind c.loop-l.i c.in-Some.l)) (sym c.with.ensures)
    (walk_notes block c.loop-l.notes c.loop-l.i c.loop-l.invariant c.in-Some.l (here at.In-Some) c.index_of-k.result (numbered at.After-index_of-k) (below at.After-index_of-k))

pub loop-l-smaller : goal.loop-l-smaller
loop-l-smaller c = omega (arith, (here (goal.at.loop-l-smaller c).In-Some).inside)

pub loop-l-preserved : goal.loop-l-preserved
loop-l-preserved c =
    let n : c.loop-l.i + 6 + c.in-Some.l.name - (c.loop-l.i + 6) ≡ c.in-Some.l.name = omega arith in
    walk_passes c.args.block.now c.loop-l.notes c.loop-l.i c.loop-l.invariant c.in-Some.l (here (goal.at.loop-l-preserved c).In-Some) headers_max
    (c.in_default-header_of.ensures ∙ ap (λ k. number_of_name (take k (drop (c.loop-l.i + 6) c.args.block.now))) n) (le_refl headers_max)

pub returns : goal.returns
returns c =
    let block = c.args.block.now in
    walk_ends block c.loop-l.notes c.loop-l.i c.loop-l.invariant
    (octets_known block (λ i. omega (arith, c.type_inv.block i)))
    (told_end _ _ c.entry_at.ensures (c.in_ok-l.was ∙ ap Ok c.in_default.is))

pub returns-in_err-l : goal.returns-in_err-l
returns-in_err-l c =
    let p = err_from_is_err_and c.from_residual.result c.from_residual.ensures.1 in
    rw p.1 (walk_fails c.args.block.now c.loop-l.notes c.loop-l.i c.loop-l.invariant _ (told_malformed _ _ _ c.entry_at.ensures c.in_err-l.was))
