-- `line::put_line` meets its contract: the start, and the rest of the line behind it.
use mathlib.Core.Path.{ap, ◌∙◌}
use mathlib.Core.List.{[], ◌∷◌, ◌++◌, append_assoc}
use native.Mathlib.Omega.{arith}
use lib.ListN.{length, drop}
use borrow.Author.Tests.{le-ltb}
use Rattle.headers.specs.Numbers.{shortest}
use Rattle.listing.specs.Lines.{reply_says, line_behind, line_of}
use Rattle.listing.proofs.Rows.{put_both}
use Rattle.listing.proofs.line.put_line.Goals as goal

pub returns : goal.returns
unfolding line_of
returns c =
    let a = c.args in
    let p = c.put_number-k in
    let q = c.put_reply in
    let R = line_behind (reply_says a.p) a.nothing_left in
    let at = put_both a.d.now p.new.d q.new.d (shortest a.start ++ (32 ∷ [])) R p.result q.result p.ensures.0 q.ensures.0 p.ensures.2 q.auto.d
    (omega (arith, p.ensures.1, c.if-d-lt160.false)) q.ensures.1 in
    let same = append_assoc (shortest a.start) (32 ∷ []) R in
    simp (le-ltb _ _ c.if-d-lt160.false) (
      at.0 ∙ ap length same,
      at.1 ∙ ap (λ z. z ++ drop (length z) a.d.now) same,
    )
