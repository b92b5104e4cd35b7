-- `text::put_decoded` meets its contract: what is written and what is left to decode make the whole.
use mathlib.Core.Path.{◌≡◌, sym}
use mathlib.Core.List.{◌++◌}
use Prim.Native.Nat.{◌+◌, ◌≤◌, ◌-◌}
use lib.ListN.{length, take, drop}
use Rattle.headers.specs.Escapes.{decode}
use Rattle.headers.proofs.Coding.{decode_on, decode_step, decode_end, width_fits}
use Rattle.headers.proofs.Put.{Partly, partly_done, partly_here, partly_store}
use Rattle.headers.proofs.Copying.{partly_copy}
use Rattle.headers.proofs.text.put_decoded.Goals as goal
use Rattle.headers.proofs.text.put_decoded.Goals.{After-copy, After-stretch}

-- where the stretch ends, and what is left to decode there
ended_2 : (c : After-copy) → let a = c.args in
    let i = c.loop-style.i in
    let e = i + c.stretch.result in
    (e ≤ length a.raw.now) × (length (take (e - i) (drop i a.raw.now)) ≡ e - i)
    × (decode a.style (drop i a.raw.now) ≡ take (e - i) (drop i a.raw.now) ++ decode a.style (drop e a.raw.now))
ended_2 c =
    let a = c.args in
    let l = c.loop-style in
    decode_on a.style a.raw.now l.i c.stretch.result l.invariant.0 c.stretch.ensures

-- the stretch is copied
copied : (c : After-copy) → let a = c.args in
    let l = c.loop-style in
    let e = l.i + c.stretch.result in
    Partly (decode a.style a.raw.now) (decode a.style (drop e a.raw.now)) a.d.now c.copy.new.d (l.n + (e - l.i))
copied c =
    let a = c.args in
    let l = c.loop-style in
    let e = l.i + c.stretch.result in
    let s = ended_2 c in
    partly_copy l.invariant.1 (take (e - l.i) (drop l.i a.raw.now)) (decode a.style (drop e a.raw.now)) c.copy.new.d (e - l.i) s.2 (sym s.1) c.copy.ensures

pub returns-then-raw-e : goal.returns-then-raw-e
returns-then-raw-e c =
    let a = c.args in
    partly_done (copied (goal.at.returns-then-raw-e c).After-copy) (decode_end a.style a.raw.now _ c.if-raw-e.true)

pub bounds-d-n : goal.bounds-d-n
bounds-d-n c =
    let a = c.args in
    partly_here (copied (goal.at.bounds-d-n c).After-copy) _ _ (decode_step a.style a.raw.now _ c.if-raw-e.false)

pub loop-style-preserved : goal.loop-style-preserved
loop-style-preserved c =
    let a = c.args in
    let t = c.if-raw-e.false in
    rw (c.decoded_at-octet.ensures.1, c.decoded_at-octet.ensures.0)
    (width_fits a.style a.raw.now _ t, partly_store (copied (goal.at.loop-style-preserved c).After-copy) _ _ (decode_step a.style a.raw.now _ t))
