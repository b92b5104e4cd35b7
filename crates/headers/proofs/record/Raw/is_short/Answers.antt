-- `record::Raw::is_short` meets its contract: where the raw text is short, so is the other.
use mathlib.Core.Path.{sym, ap, ◌∙◌}
use native.Mathlib.Omega.{arith}
use lib.ListN.{length}
use lib.Dec.{ltb}
use borrow.Author.Tests.{lt-ltb}
use Rattle.headers.specs.Stretches.{kept}
use Rattle.headers.proofs.Coding.{kept_short}
use Rattle.headers.proofs.record.Raw.is_short.Goals as goal

pub returns-then-self-lt65536 : goal.returns-then-self-lt65536
returns-then-self-lt65536 c =
    let a = c.args.self in
    lt-ltb (length a.text.now) 65536 c.if-self-lt65536.true ∙ sym (lt-ltb (length (kept a.known a.style a.text.now)) 65536 (omega (arith, kept_short a.style a.known a.text.now, c.if-self-lt65536.true)))

pub returns-else-self-lt65536 : goal.returns-else-self-lt65536
returns-else-self-lt65536 c = ap (λ n. ltb n 65536) c.length.ensures
