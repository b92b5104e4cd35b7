-- `put::put_word` meets its contract: a copy, letter by letter, and a line end behind it.
use borrow.Author.Rules.{rules}
use mathlib.Core.Path.{◌≡◌, sym, ap, ◌∙◌}
use Prim.Native.Nat.{◌+◌, ◌<◌}
use native.Mathlib.Omega.{arith}
use lib.ListN.{length, set}
use Rattle.headers.proofs.Put.{copy_more}
use Rattle.frames.specs.Scanning.{word_of}
use Rattle.frames.proofs.Putting.{getD_inside, copy_closed}
use Rattle.frames.proofs.put.put_word.Goals as goal

pub loop-i-preserved : goal.loop-i-preserved
loop-i-preserved c = let l = c.loop-i in
    let w = word_of c.args.command in
    let here : l.i < length w = omega (arith, c.loop-i-test.true, c.word_len-n.ensures) in (
      search rules,
      omega arith,
      ap (set l.d l.i) (c.letter.ensures ∙ getD_inside w l.i 64 0 here) ∙ copy_more l.d c.args.d.now w l.i here (omega (arith, c.requires.1)) l.invariant.2,
    )

pub returns : goal.returns
returns c = let l = c.loop-i in
    let n = c.word_len-n in
    let all : l.i ≡ n.result = omega (arith, c.loop-i-test.false) in (
      ap (◌+ 1) n.ensures,
      ap (λ z. set l.d z 10) (sym all) ∙ copy_closed l.d c.args.d.now (word_of c.args.command) l.i 10 (all ∙ n.ensures) (omega (arith, n.ensures, c.requires.1)) l.invariant.2,
    )
