-- check_from meets its contract: what is left from place at on is a block exactly if what is left from i on is.
use mathlib.Core.Path.{◌≡◌, sym, ◌∙◌, ap, refl}
use Rattle.std.specs.Prelude.{Ok}
use mathlib.Core.Option.{Option, none, some}
use mathlib.Core.List.{List, []}
use native.Mathlib.Omega.{arith}
use lib.ListN.{drop}
use Rattle.headers.specs.Block.{Entry, entries}
use mathlib.Core.Bool.{false}
use Rattle.headers.specs.Answers.{has_entries, is_block, checked_says}
use Rattle.headers.proofs.Results.{err_says}
use Rattle.headers.proofs.Blocks.{Placed, told_entry, told_end, told_malformed, is_block_of, is_block_next}
use Rattle.headers.proofs.block.check_from.Goals as goal
use Rattle.headers.proofs.block.check_from.Goals.{After-entry_at, In-Some}

-- the record at i, where entry_at says that there is one
here : (c : In-Some) → Placed c.args.block.now c.loop-l.i c.in-Some.l
here c =
    told_entry c.args.block.now c.loop-l.i c.entry_at.result c.in-Some.l c.entry_at.ensures (c.in_ok-l.was ∙ ap Ok c.in-Some.is)

pub places-i-requires : goal.places-i-requires
places-i-requires c = omega (arith, (here c).inside)

pub loop-l-smaller : goal.loop-l-smaller
loop-l-smaller c = omega (arith, (here (goal.at.loop-l-smaller c).In-Some).inside, c.places-i.ensures.2)

pub loop-l-preserved : goal.loop-l-preserved
loop-l-preserved c =
    c.loop-l.invariant ∙ is_block_next c.args.block.now c.loop-l.i c.in-Some.l (here (goal.at.loop-l-preserved c).In-Some)
    ∙ ap (λ k. is_block (drop k c.args.block.now)) (sym c.places-i.ensures.2)

decided : (c : After-entry_at) (o : Option (List Entry)) → entries ((drop c.loop-l.i c.args.block.now)) ≡ o → has_entries o ≡ is_block (drop c.args.at c.args.block.now)
decided c o h = sym (c.loop-l.invariant ∙ is_block_of ((drop c.loop-l.i c.args.block.now)) o h)

pub returns : goal.returns
returns c = decided (goal.at.returns c).After-entry_at (some []) (told_end _ _ c.entry_at.ensures (c.in_ok-l.was ∙ ap Ok c.in_default.is))

pub returns-in_err-l : goal.returns-in_err-l
returns-in_err-l c =
    err_says checked_says false (λ e. refl) _ c.from_residual.ensures.0
    ∙ decided (goal.at.returns-in_err-l c).After-entry_at none (told_malformed _ _ _ c.entry_at.ensures c.in_err-l.was)
