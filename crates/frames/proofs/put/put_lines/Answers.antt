-- `put::put_lines` meets its contract: the lines before place at are written, and those from there on are left to write.
use mathlib.Core.Path.{ap}
use Prim.Native.Nat.{◌+◌, ◌-◌}
use native.Mathlib.Omega.{arith}
use lib.ListN.{length}
use borrow.Rule.Slice.PartMut.{put_mid}
use Rattle.std.specs.Prelude.{is_ok}
use Rattle.headers.proofs.Blocks.{Placed, place_behind, told_entry}
use Rattle.headers.proofs.Put.{partly_inside}
use Rattle.frames.proofs.Putting.{Lines, lines_end, line_ok, lines_more}
use Rattle.frames.proofs.put.put_lines.Goals as goal
use Rattle.frames.proofs.put.put_lines.Goals.{In-Ok-Some, After-unwrap-k}

pub returns-in_default : goal.returns-in_default
returns-in_default c =
    let a = c.args in
    let l = c.loop-l in
    lines_end a.style a.block.now a.d.now l.d l.used l.at l.invariant c.entry_at.result c.entry_at.ensures (λ k e. grind arith)

pub returns-in_default-2 : goal.returns-in_default-2
returns-in_default-2 c =
    let a = c.args in
    let l = c.loop-l in
    lines_end a.style a.block.now a.d.now l.d l.used l.at l.invariant c.entry_at.result c.entry_at.ensures (λ k e. grind arith)

-- the record at place at, where entry_at says that there is one
here : (c : In-Ok-Some) → Placed c.args.block.now c.loop-l.at c.in-Ok-Some.l
here c = told_entry c.args.block.now c.loop-l.at c.entry_at.result c.in-Ok-Some.l c.entry_at.ensures (cc)

pub overflow_add-from : goal.overflow_add-from
overflow_add-from c = omega (arith, (here c).inside)

pub overflow_add-mid : goal.overflow_add-mid
overflow_add-mid c = omega (arith, (here (goal.at.overflow_add-mid c).In-Ok-Some).inside)

pub overflow_add-next : goal.overflow_add-next
overflow_add-next c = omega (arith, (here (goal.at.overflow_add-next c).In-Ok-Some).inside)

pub slice_bounds-write_encoded-end-in-Ok-Some : goal.slice_bounds-write_encoded-end-in-Ok-Some
slice_bounds-write_encoded-end-in-Ok-Some c = omega (arith, (here (goal.at.slice_bounds-write_encoded-end-in-Ok-Some c).In-Ok-Some).inside)

pub slice_bounds-write_encoded-end-in-Ok-Some-2 : goal.slice_bounds-write_encoded-end-in-Ok-Some-2
slice_bounds-write_encoded-end-in-Ok-Some-2 c = omega (arith, (here (goal.at.slice_bounds-write_encoded-end-in-Ok-Some-2 c).In-Ok-Some).inside)

-- there is room for the line
pub unwrap-k-requires : goal.unwrap-k-requires
unwrap-k-requires c =
    let a = c.args in
    let l = c.loop-l in
    let w = c.write_encoded in
    ap is_ok (line_ok a.style a.block.now a.d.now l.d l.used l.at l.invariant c.in-Ok-Some.l (here (goal.at.unwrap-k-requires c).In-Ok-Some) w.result w.ensures.0)

-- what holds at the next turn
more : (c : After-unwrap-k) → Placed c.args.block.now c.loop-l.at c.in-Ok-Some.l
    → Lines c.args.style c.args.block.now c.args.d.now (put_mid c.loop-l.used (length c.loop-l.d - c.loop-l.used) c.loop-l.d c.write_encoded.new.d)
    (c.loop-l.used + c.unwrap-k.result) (place_behind c.loop-l.at c.in-Ok-Some.l)
more c placed =
    let a = c.args in
    let l = c.loop-l in
    let w = c.write_encoded in
    lines_more a.style a.block.now a.d.now l.d l.used l.at l.invariant c.in-Ok-Some.l placed w.result w.ensures.0
    c.unwrap-k.result c.unwrap-k.ensures w.new.d w.ensures.1

pub overflow_add-used : goal.overflow_add-used
overflow_add-used c =
    let m = more c (here (goal.at.overflow_add-used c).In-Ok-Some) in
    omega (arith, partly_inside m.lines, m.lines.as_long)

pub loop-l-smaller : goal.loop-l-smaller
loop-l-smaller c = omega (arith, (here (goal.at.loop-l-smaller c).In-Ok-Some).inside)

pub loop-l-preserved : goal.loop-l-preserved
loop-l-preserved c = more (goal.at.loop-l-preserved c).After-unwrap-k (here (goal.at.loop-l-preserved c).In-Ok-Some)
