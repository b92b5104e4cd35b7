-- `octets::put_each` meets its contract: a turn of the loop copies one octet more.
use borrow.Author.Rules.{rules}
use mathlib.Core.Path.{ap, ◌∙◌, sym}
use Prim.Native.Nat.{◌<◌, ◌+◌}
use native.Mathlib.Omega.{arith}
use native.Mathlib.Numerals.{add-one}
use lib.ListN.{length, set, get_or}
use lib.Seq.{paste, paste-suc}
use Rattle.headers.proofs.octets.put_each.Goals as goal

pub loop-i-preserved : goal.loop-i-preserved
loop-i-preserved c =
    let l = c.loop-i in
    let a = c.args in
    let h : l.i < length a.s.now = c.loop-i-test.true in (
      search rules,
      omega arith,
      ap (λ z. set z (a.at + l.i) (get_or a.s.now l.i 0)) l.invariant.2
          ∙ paste-suc a.d.now a.at a.s.now l.i 0 (omega (arith, c.requires)) (omega (arith, c.requires))
          ∙ ap (paste a.d.now a.at a.s.now) (sym (add-one l.i)),
    )
