-- `stream::feed` meets its contract: the checks in order, a run over the piece, and a copy of what it took.
use mathlib.Core.Path.{◌≡◌, sym, ◌∙◌, ap, subst}
use mathlib.Core.Bool.{true, cond}
use Prim.Native.Nat.{◌+◌, ◌-◌, ◌≤◌}
use native.Mathlib.Omega.{arith}
use lib.ListN.{length, take}
use lib.Seq.{paste}
use Rattle.headers.specs.Rows.{copied}
use Rattle.headers.proofs.Copying.{copied_front}
use Rattle.frames.specs.Scanning.{nothing_read}
use Rattle.frames.specs.Streams.{replied, is_numbered, is_resumable, is_whole}
use Rattle.frames.proofs.Counting.{scan_counts}
use Rattle.frames.proofs.Resuming.{resumed, gives_short, gives_invalid, gives_reply}
use Rattle.frames.proofs.Numbers.{numbered_on, numbered_resumed}
use Rattle.frames.proofs.stream.feed.Goals as goal
use Rattle.frames.proofs.stream.feed.Goals.{After-min-n, After-run_on-next, Else-not-is_resumable}

pub returns-then-buffer-lt-FRAME : goal.returns-then-buffer-lt-FRAME
returns-then-buffer-lt-FRAME c = let a = c.args in gives_short a.parser.scan a.buffer.now a.piece.now c.if-buffer-lt-FRAME.true

pub returns-then-not-is_resumable : goal.returns-then-not-is_resumable
returns-then-not-is_resumable c =
    let a = c.args in
    gives_invalid a.parser.scan a.buffer.now a.piece.now c.if-buffer-lt-FRAME.false (sym c.is_resumable.ensures ∙ c.if-not-is_resumable.true)

-- the record passes its rule
passed_1 : (c : Else-not-is_resumable) → let st = c.args.parser.scan in is_resumable st ≡ true
passed_1 c = sym c.is_resumable.ensures ∙ c.if-not-is_resumable.false

pub run_on-next-requires : goal.run_on-next-requires
run_on-next-requires c = (resumed _ (passed_1 c)).0

-- how far the run went
counted_1 : (c : After-run_on-next) → let a = c.args in
    (a.parser.scan.at ≤ c.run_on-next.result.at) × (c.run_on-next.result.at ≤ a.parser.scan.at + length a.piece.now)
counted_1 c =
    let a = c.args in
    let n = scan_counts a.piece.now a.parser.scan in
    (omega (arith, n.onward, ap (λ z. z.at) c.run_on-next.ensures.0), omega (arith, n.most, ap (λ z. z.at) c.run_on-next.ensures.0))

pub overflow_sub-octets : goal.overflow_sub-octets
overflow_sub-octets c = (counted_1 (goal.at.overflow_sub-octets c).After-run_on-next).0

pub overflow_sub-buffer : goal.overflow_sub-buffer
overflow_sub-buffer c = omega (arith, (resumed _ (passed_1 (goal.at.overflow_sub-buffer c).Else-not-is_resumable)).1, c.if-buffer-lt-FRAME.false)

-- where it is refused, its number is one of the table
pub reply-reply-requires : goal.reply-reply-requires
reply-reply-requires c =
    let a = c.args in
    let before = numbered_resumed a.parser.scan (passed_1 (goal.at.reply-reply-requires c).Else-not-is_resumable) in
    subst (λ z. is_numbered z ≡ true) (sym c.run_on-next.ensures.0) (numbered_on a.piece.now a.parser.scan before).known

-- how far the run went
counted_2 : (c : After-min-n) → let a = c.args in
    (a.parser.scan.at ≤ c.run_on-next.result.at) × (c.run_on-next.result.at ≤ a.parser.scan.at + length a.piece.now)
counted_2 c =
    let a = c.args in
    let n = scan_counts a.piece.now a.parser.scan in
    (omega (arith, n.onward, ap (λ z. z.at) c.run_on-next.ensures.0), omega (arith, n.most, ap (λ z. z.at) c.run_on-next.ensures.0))

-- the record passes its rule
passed_2 : (c : After-min-n) → let st = c.args.parser.scan in is_resumable st ≡ true
passed_2 c = sym c.is_resumable.ensures ∙ c.if-not-is_resumable.false

-- what was taken has room in the buffer
fitting : (c : After-min-n) → let a = c.args in
    (c.min-n.result ≤ length a.piece.now) × (a.parser.scan.at + c.min-n.result ≤ length a.buffer.now)
fitting c =
    (omega (arith, c.min-n.ensures, counted_2 c), omega (arith, c.min-n.ensures, (resumed _ (passed_2 c)).1, c.if-buffer-lt-FRAME.false))

pub slice_bounds-copy-end : goal.slice_bounds-copy-end
slice_bounds-copy-end c = (fitting (goal.at.slice_bounds-copy-end c).After-min-n).0

pub returns : goal.returns
returns c =
    let a = c.args in
    let n = c.min-n.result in
    let all : n - 0 ≡ n = omega arith in
    let fits = fitting (goal.at.returns c).After-min-n in
    let next = c.run_on-next.result in
    let same : next.crlf ≡ a.parser.scan.crlf = ap (λ z. z.crlf) c.run_on-next.ensures.0 ∙ (scan_counts a.piece.now a.parser.scan).same_ends in
    let g = gives_reply a.parser.scan a.buffer.now a.piece.now c.if-buffer-lt-FRAME.false (passed_1 (goal.at.returns c).Else-not-is_resumable) c.run_on-next.result c.run_on-next.ensures.0 in (
      ap (λ z. replied z (c.run_on-next.result.at - a.parser.scan.at)) c.reply-reply.ensures ∙ g.0,
      c.next_item-scan.ensures ∙ ap (λ w. cond (is_whole next) (nothing_read w) next) same ∙ g.1,
      c.copy.ensures ∙ ap (λ m. copied a.buffer.now a.parser.scan.at (take m a.piece.now)) all
          ∙ copied_front a.buffer.now a.parser.scan.at a.piece.now n fits.0 fits.1
          ∙ ap (paste a.buffer.now a.parser.scan.at a.piece.now) c.min-n.ensures ∙ g.2,
    )
