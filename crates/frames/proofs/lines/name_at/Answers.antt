-- `lines::name_at` meets its contract: a search passes the name, and its colon follows.
use native.Mathlib.Omega.{arith}
use Prim.Native.Nat.{◌+◌, ◌≤◌}
use lib.Dec.{eqb, leb}
use borrow.Author.Tests.{eqb-false, leb-false}
use Rattle.headers.proofs.Rows.{or_false_left, or_false_right}
use Rattle.headers.proofs.Stretches.{span_part}
use Rattle.frames.proofs.WholeLines.{name_found}
use Rattle.frames.proofs.lines.name_at.Goals as goal
use Rattle.frames.proofs.lines.name_at.Goals.{After-text_span-k}

-- the name ends where it may
inside : (c : After-text_span-k) → c.args.i + c.text_span-k.result ≤ c.upto-e.result
inside c = span_part _ _ _ _ _ (omega arith) (omega arith) c.text_span-k.ensures

pub overflow_add-colon : goal.overflow_add-colon
overflow_add-colon c = omega (arith, inside c)

pub returns : goal.returns
returns c =
    let u = c.upto-e in
    let k = c.text_span-k.result in
    let some = or_false_left (eqb k 0) (leb u.result (c.args.i + k)) c.if-k-e.false in
    let e = leb-false u.result (c.args.i + k) (or_false_right (eqb k 0) (leb u.result (c.args.i + k)) c.if-k-e.false) in
    name_found c.args.style c.text_stops.ensures c.args.s.now
    c.args.i u.result k
    (omega arith) (omega arith) c.text_span-k.ensures (eqb-false k 0 some) (omega (arith, e))
    c.if-s-i-eq99.false c.if-s-colon-ne58.false
