-- `ahead::value_span` meets its contract: the text that fits the line.
use mathlib.Core.Path.{subst}
use Prim.Native.Nat.{◌-◌}
use native.Mathlib.Omega.{arith}
use lib.ListN.{drop}
use lib.Seq.{take-take}
use Rattle.headers.specs.Text.{Text}
use Rattle.headers.specs.declared.text.Field.TheVariants.{Value as in_value}
use Rattle.headers.proofs.Stretches.{part_long}
use Rattle.frames.proofs.Gliding.{line_short, ahead_text}
use Rattle.frames.proofs.ahead.value_span.Goals as goal

pub overflow_sub-st : goal.overflow_sub-st
overflow_sub-st c = omega (arith, line_short c.args.st.valid c.requires.1)

pub returns : goal.returns
returns c =
    let s = c.args.s.now in
    let i = c.args.i in
    let st = c.args.st in
    let short = line_short st.valid c.requires.1 in
    let k = c.value_text.result in
    let e = c.upto-e.result in
    let long = part_long s i e (omega arith) (omega arith) in
    let within = c.value_text.ensures.0 in
    ahead_text st.scan st.valid c.requires.1 c.style.ensures s i k (omega arith) (omega arith)
    (subst (Text c.style.result in_value) (take-take k (e - i) (drop i s) (omega arith)) c.value_text.ensures.1)
