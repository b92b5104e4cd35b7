-- `pattern::put_word` meets its contract: the entries before j are filled.
use Prim.Native.Nat.{◌+◌}
use native.Mathlib.Omega.{arith}
use lib.ListN.{drop, get_or, set}
use mathlib.Core.List.{[]}
use mathlib.Core.Bool.{false, ◌&&◌}
use mathlib.Core.Path.{◌≡◌, refl, sym, ◌∙◌, ap, subst}
use Rattle.topics.specs.Topics.{words, stands}
use Rattle.topics.proofs.Words.{taken_word}
use Rattle.topics.proofs.Filling.{Worded, word_fill, word_done}
use Rattle.topics.specs.Rows.{Next}
use Rattle.topics.proofs.pattern.put_word.Goals as goal
use Rattle.topics.proofs.pattern.put_word.Goals.{then-row-j, else-row-j}

pub loop-j-preserved : goal.loop-j-preserved
loop-j-preserved c =
    let a = c.args in
    let l = c.loop-j in
    let ws = words a.name.now.text.now in
    let here = get_or ws l.j [] in
    let entry : c.if-row-j.row ≡ get_or l.row (l.j + 1) false && stands a.word.now here =
    elim c.if-row-j.branch [
      | then-row-j w ↦ w.row-is ∙ w.stands_for.ensures ∙ ap (stands a.word.now) (sym (taken_word ws l.j w.word.result.now (drop (l.j + 1) ws) w.word.ensures)) ∙ sym (ap (◌&& stands a.word.now here) w.if-row-j.true)
      | else-row-j w ↦ w.row-is ∙ w.if-row-j.false ∙ sym (ap (◌&& stands a.word.now here) w.if-row-j.false)
    ] in
    subst (λ b. Worded a.word.now ws a.row.now (set l.row l.j b) (l.j + 1)) (sym entry)
    (word_fill a.word.now c.requires ws (omega (arith, a.name.now.located.number, a.name.now.located.few)) a.row.now l.row l.j l.invariant (omega (arith, a.name.now.located.number)) here refl)

pub returns : goal.returns
returns c =
    let a = c.args in
    let l = c.loop-j in
    let ws = words a.name.now.text.now in
    let all : l.j ≡ a.name.now.count = omega arith in
    subst (λ k. Next a.word.now ws a.row.now (set l.row k false)) all
    (word_done a.word.now c.requires ws (omega (arith, a.name.now.located.number, a.name.now.located.few)) a.row.now l.row l.j l.invariant (omega (arith, a.name.now.located.number)))
