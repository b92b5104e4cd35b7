-- `pass::pass_digits` meets its contract: each octet is a step in the number, which has room for all of them.
use Rattle.frames.proofs.Passing.{Gone, passed_more, digit_on}
use Rattle.headers.proofs.Rows.{or_false_left, or_false_right}
use Rattle.headers.proofs.Stretches.{part_long}
use borrow.Author.Tests.{ltb-false}
use lib.Dec.{ltb}
use Rattle.frames.specs.Scanning.{in_line}
use Rattle.frames.specs.declared.state.Scan.{Scan}
use Prim.Native.Nat.{ℕ, ◌+◌, ◌*◌, ◌-◌, ◌≤◌}
use lib.ListN.{take, drop, get_or}
use mathlib.Core.List.{List}
use mathlib.Core.Bool.{false, ◌||◌}
use native.Mathlib.Omega.{arith}
use mathlib.Core.Path.{◌≡◌, sym, ◌∙◌, ap}
use Rattle.frames.proofs.pass.pass_digits.Goals as goal

abbrev octet : List ℕ → ℕ → ℕ → ℕ → ℕ
octet s from e k = get_or (take (e - from) (drop from s)) k 0

-- the octet is a digit
digit : (x : ℕ) → ltb x 48 || ltb 57 x ≡ false → (48 ≤ x) × (x ≤ 57)
digit x e = (ltb-false x 48 (or_false_left (ltb x 48) (ltb 57 x) e), ltb-false 57 x (or_false_right (ltb x 48) (ltb 57 x) e))

-- an octet more
more : (c : goal.After-in_line-scan) → let a = c.args in let l = c.loop-x in Gone a.s.now a.from a.begin.scan c.in_line-scan.result (a.from + (l.x-index + 1))
more c =
    let l = c.loop-x in
    let e = c.in_line-scan.ensures in
    let x = octet c.args.s.now c.args.from c.upto-e.result l.x-index in
    let (low, high) = digit x c.if-x.false in
    let most = c.most_of-most.ensures in
    let long = part_long c.args.s.now c.args.from c.upto-e.result (omega arith) (omega arith) in
    let step = digit_on l.st.0 x l.invariant.1 (omega arith) low high (rw l.invariant.2 (omega (arith, most, c.from.ensures))) in
    passed_more _ _ l.invariant.0 c.loop-x-test.true (e ∙ ap (λ d. in_line l.st.0 9 0 (l.st.0.size * 10 + d) (l.st.0.len + 1)) c.from.ensures ∙ sym step) (ap (λ (z : Scan). z.at) e)

pub loop-x-preserved : goal.loop-x-preserved
loop-x-preserved c =
    let e = c.in_line-scan.ensures in
    let long = part_long c.args.s.now c.args.from c.upto-e.result (omega arith) (omega arith) in (
      more c,
      ap (λ (z : Scan). z.phase) e,
      ap (λ (z : Scan). z.command) e ∙ c.loop-x.invariant.2,
      omega (arith, ap (λ (z : Scan). z.len) e),
    )
