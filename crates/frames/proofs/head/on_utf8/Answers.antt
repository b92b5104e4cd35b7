-- `head::on_utf8` meets its contract: by the number that the octet leaves.
use mathlib.Core.Path.{◌∙◌, ap}
use Prim.Native.Nat.{◌-◌}
use native.Mathlib.Omega.{arith}
use Rattle.frames.specs.Scanning.{text_most, text_between, text_inside, text_matched}
use Rattle.frames.proofs.Steps.{grown, taken_bad, taken_whole, taken_part}
use Rattle.frames.proofs.head.on_utf8.Goals as goal

pub returns-in_default : goal.returns-in_default
returns-in_default c =
    let a = c.args in
    c.refused.ensures ∙ taken_bad a.st.scan a.x a.rest (text_most a.field) (text_between a.field) (text_inside a.field) (text_matched a.st.scan a.field a.x) c.in_default.ensures

pub returns-then-next-eq0 : goal.returns-then-next-eq0
returns-then-next-eq0 c =
    let a = c.args in
    c.grow.ensures ∙ grown a.st.scan 0 c.most.ensures.0 c.between.ensures c.matched_after-matched.ensures
    ∙ taken_whole a.st.scan a.x a.rest (text_most a.field) (text_between a.field) (text_inside a.field) (text_matched a.st.scan a.field a.x) c.in-Some.ensures c.if-next-eq0.true

pub overflow_sub-most : goal.overflow_sub-most
overflow_sub-most c =
    let a = c.args in
    omega (arith, (taken_part a.st.scan a.x a.rest (text_most a.field) (text_between a.field) (text_inside a.field) (text_matched a.st.scan a.field a.x) c.in-Some.ensures c.if-next-eq0.false _ (c.from-owed.ensures ∙ c.utf8_owes.ensures)).1)

pub returns : goal.returns
returns c =
    let a = c.args in
    c.grow-2.ensures ∙ grown a.st.scan _ (ap (λ m. m - c.from-owed.result) c.most-2.ensures.0) c.inside.ensures c.matched_after-matched.ensures
    ∙ (taken_part a.st.scan a.x a.rest (text_most a.field) (text_between a.field) (text_inside a.field) (text_matched a.st.scan a.field a.x) c.in-Some.ensures c.if-next-eq0.false _ (c.from-owed.ensures ∙ c.utf8_owes.ensures)).0
