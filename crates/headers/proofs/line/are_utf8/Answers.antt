-- `line::are_utf8` meets its contract: the name is one part of the text, the value the other.
use mathlib.Core.Path.{refl, sym, ap, ◌∙◌}
use mathlib.Core.Bool.{◌&&◌}
use native.Mathlib.Nat.{sub-zero}
use native.Mathlib.Omega.{arith}
use lib.ListN.{take, drop}
use Rattle.headers.specs.Text.{is_utf8}
use Rattle.headers.proofs.Settling.{take_place, drop_place}
use Rattle.headers.proofs.Characters.{parts_ascii}
use Rattle.headers.proofs.line.are_utf8.Goals as goal

pub returns-then-low : goal.returns-then-low
returns-then-low c =
    let all = sym c.requires ∙ c.if-low.true in
    sym (parts_ascii c.args.name c.args.text.now all)

pub returns-then-not-is_utf8 : goal.returns-then-not-is_utf8
returns-then-not-is_utf8 c =
    let off = sym (c.is_utf8.ensures ∙ ap is_utf8 (ap (λ n. take n c.args.text.now) (sub-zero c.min-e.result) ∙ take_place c.args.name c.min-e.result c.args.text.now (λ h. omega arith) (λ h. omega arith))) ∙ c.if-not-is_utf8.true in
    rw off refl

pub returns : goal.returns
returns c =
    let on = sym (c.is_utf8.ensures ∙ ap is_utf8 (ap (λ n. take n c.args.text.now) (sub-zero c.min-e.result) ∙ take_place c.args.name c.min-e.result c.args.text.now (λ h. omega arith) (λ h. omega arith))) ∙ c.if-not-is_utf8.false in
    c.is_utf8-2.ensures ∙ ap is_utf8 (drop_place c.args.name c.min-e.result c.args.text.now (λ h. omega arith) (λ h. omega arith)) ∙ sym (ap (◌&& is_utf8 (drop c.args.name c.args.text.now)) on)
