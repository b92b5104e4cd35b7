-- `line::is_name` meets its contract: the name is the part of the text.
use mathlib.Core.Path.{sym, ap, ◌∙◌}
use native.Mathlib.Nat.{sub-zero}
use native.Mathlib.Omega.{arith}
use lib.ListN.{take}
use Rattle.headers.specs.Rows.{every}
use Rattle.headers.specs.Escapes.{writable}
use Rattle.headers.specs.declared.text.Field.TheVariants.{Name}
use Rattle.headers.proofs.Settling.{take_place, all_writable}
use Rattle.headers.proofs.line.is_name.Goals as goal

pub returns-then-style : goal.returns-then-style
returns-then-style c = let a = c.args in sym (all_writable a.style Name c.if-style.true (take a.name a.text.now))

pub returns : goal.returns
returns c =
    let a = c.args in
    let q = c.min-e in
    c.is_writable.ensures ∙ ap (every (writable a.style Name)) (ap (λ n. take n a.text.now) (sub-zero q.result) ∙ take_place a.name q.result a.text.now (λ h. omega arith) (λ h. omega arith))
