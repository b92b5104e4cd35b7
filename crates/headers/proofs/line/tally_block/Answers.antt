-- `line::tally_block` meets its contract: what is left to encode, from the place on that counts.
use mathlib.Core.Path.{◌≡◌, refl, sym, ◌∙◌}
use mathlib.Core.Bool.{Bool, true, false, cond}
use Prim.Native.Nat.{ℕ, ◌≤◌}
use native.Mathlib.Omega.{arith}
use lib.Dec.{ltb}
use Rattle.headers.specs.Text.{ascii}
use Rattle.headers.proofs.Stretches.{every_more, every_done}
use Rattle.headers.proofs.line.tally_block.Invariants.{since_none, since_more, since_all, here}
use Rattle.headers.proofs.line.tally_block.Goals as goal

few : (t : Bool) (n : ℕ) → n ≡ cond t 1 0 → n ≤ 1
few true n e = omega arith
few false n e = omega arith

pub loop-i-init : goal.loop-i-init
loop-i-init c = let a = c.args in (omega arith, omega arith, since_none a.style a.block.now a.from, refl)

pub overflow_add-escapes : goal.overflow_add-escapes
overflow_add-escapes c =
    let l = c.loop-i in
    let a = c.args in
    let one = few (here a.style a.block.now a.from l.i) _ c.escape_count-escapes.ensures in
    omega (arith, l.invariant.0, l.invariant.1, c.requires.0, c.loop-i-test.true, one)

pub loop-i-preserved : goal.loop-i-preserved
loop-i-preserved c =
    let l = c.loop-i in
    let a = c.args in
    let t = c.loop-i-test.true in
    let e = c.escape_count-escapes in (
      omega (arith, t),
      omega (arith, l.invariant.1, few (here a.style a.block.now a.from l.i) _ e.ensures),
      since_more a.style a.block.now a.from l.escapes l.i e.result t e.ensures l.invariant.2,
      rw c.larger-most.ensures (every_more ascii a.block.now l.i (ltb l.most 128) t ∙ l.invariant.3),
    )

pub returns : goal.returns
returns c =
    let l = c.loop-i in
    let a = c.args in (
      since_all a.style a.block.now a.from l.escapes l.i c.loop-i-test.false l.invariant.0 (omega (arith, c.requires.0, c.requires.1)) l.invariant.2,
      sym (every_done ascii a.block.now l.i (ltb l.most 128) c.loop-i-test.false) ∙ l.invariant.3,
    )
