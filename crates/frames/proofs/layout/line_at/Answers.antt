-- `layout::line_at` meets its contract: each part is found behind the one before it.
use Rattle.frames.proofs.Decoding.{on_drop, line_cut}
use native.Mathlib.Omega.{arith}
use mathlib.Core.Path.{subst}
use lib.ListN.{take}
use Rattle.headers.specs.Stretches.{Stretch}
use Rattle.frames.specs.Layout.{stop_span}
use Rattle.frames.proofs.layout.line_at.Goals as goal

pub returns : goal.returns
returns c =
    let a = c.args in
    let s = a.s.now in
    let colon = c.text_end-name in
    let value = c.upto-value in
    let end = c.text_end-text in
    let next = c.behind_end in
    let cut =
    line_cut a.cr s a.i colon.result.at value.result end.result.at next.result colon.ensures.0
    (on_drop s colon.result.at 1 _ value.ensures.2) end.ensures.0
    next.ensures.2 in (
      (omega arith, value.ensures.0, omega arith, next.ensures.0, next.ensures.1),
      cut.0,
      cut.1,
      cut.2,
      colon.ensures.2,
      subst (λ z. Stretch (take (stop_span a.cr 10 z) z) end.result.known) cut.3 end.ensures.2,
    )
