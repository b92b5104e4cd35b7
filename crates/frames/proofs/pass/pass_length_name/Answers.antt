-- `pass::pass_length_name` meets its contract: each octet is a step in the name, which has room for all of them.
use Rattle.frames.proofs.Passing.{Gone, passed_more, name_on}
use Rattle.headers.proofs.Stretches.{part_long}
use Rattle.frames.specs.declared.state.Scan.{Scan}
use Prim.Native.Nat.{◌+◌}
use native.Mathlib.Omega.{arith}
use mathlib.Core.Path.{sym, ◌∙◌, ap}
use Rattle.frames.proofs.pass.pass_length_name.Goals as goal

-- an octet more
more : (c : goal.After-in_line-scan) → let a = c.args in let l = c.loop-x in Gone a.s.now a.from a.begin.scan c.in_line-scan.result (a.from + (l.x-index + 1))
more c =
    let l = c.loop-x in
    let e = c.in_line-scan.ensures in
    let long = part_long c.args.s.now c.args.from c.upto-e.result (omega arith) (omega arith) in
    let step = name_on l.st.0 _ l.invariant.1 (omega arith) (omega arith) (c.if-x-length_letter.false ∙ c.length_letter.ensures) in
    passed_more _ _ l.invariant.0 c.loop-x-test.true (e ∙ sym step) (ap (λ (z : Scan). z.at) e)

pub loop-x-preserved : goal.loop-x-preserved
loop-x-preserved c =
    let e = c.in_line-scan.ensures in
    let long = part_long c.args.s.now c.args.from c.upto-e.result (omega arith) (omega arith) in (
      more c,
      ap (λ (z : Scan). z.phase) e,
      omega (arith, ap (λ (z : Scan). z.matched) e),
      omega (arith, ap (λ (z : Scan). z.len) e),
    )
