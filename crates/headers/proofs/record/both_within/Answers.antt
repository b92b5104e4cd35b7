-- `record::both_within` meets its contract: where the raw text fits, so does the other.
use mathlib.Core.Path.{sym, ◌∙◌}
use Prim.Native.Nat.{◌+◌}
use native.Mathlib.Omega.{arith}
use lib.ListN.{length}
use borrow.Author.Tests.{leb-true, le-leb}
use Rattle.headers.specs.Stretches.{kept}
use Rattle.headers.proofs.Coding.{kept_short}
use Rattle.headers.proofs.record.both_within.Goals as goal

pub returns-then-both_fit : goal.returns-then-both_fit
returns-then-both_fit c =
    let n = c.args.name in
    let v = c.args.value in
    let N = kept n.known n.style n.text.now in
    let W = kept v.known v.style v.text.now in
    let raw = leb-true (length n.text.now + length v.text.now) c.args.most (sym c.both_fit.ensures ∙ c.if-both_fit.true) in
    c.if-both_fit.true ∙ sym (le-leb (length N + length W) c.args.most (omega (arith, raw, kept_short n.style n.known n.text.now, kept_short v.style v.known v.text.now)))

pub returns-else-both_fit : goal.returns-else-both_fit
returns-else-both_fit c = rw (c.length.ensures, c.length-else-both_fit.ensures) at c.both_fit-else-both_fit.ensures
