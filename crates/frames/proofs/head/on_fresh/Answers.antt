-- `head::on_fresh` meets its contract: the backslash of an escape, or an octet of UTF-8.
use mathlib.Core.Path.{sym, ◌∙◌, ap}
use Prim.Native.Nat.{◌-◌}
use Rattle.frames.proofs.Steps.{grown, text_opens, text_starts}
use Rattle.frames.proofs.head.on_fresh.Goals as goal

pub returns-then-is_open : goal.returns-then-is_open
returns-then-is_open c =
    let a = c.args in
    c.grow.ensures ∙ grown a.st.scan 92 (ap (λ m. m - 1) c.most.ensures.0) c.inside.ensures c.matched_after-matched.ensures
    ∙ sym (text_opens a.st.scan a.x a.field c.style.ensures c.requires c.is_open.ensures c.if-is_open.true)

pub returns : goal.returns
returns c =
    let a = c.args in
    c.on_utf8.ensures ∙ sym (text_starts a.st.scan a.x a.field c.style.ensures c.requires c.is_open.ensures c.if-is_open.false)
