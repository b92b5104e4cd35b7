-- `pass::pass_word` meets its contract: each octet is a step in the word.
use Rattle.frames.proofs.Passing.{Gone, passed_start, passed_more, word_on}
use Rattle.frames.proofs.Words.{some_told}
use Rattle.frames.specs.declared.state.Scan.{Scan}
use Prim.Native.Nat.{◌+◌}
use mathlib.Core.Path.{sym, ◌∙◌, ap}
use Rattle.frames.proofs.pass.pass_word.Goals as goal

pub loop-x-init : goal.loop-x-init
loop-x-init c = (passed_start c.requires.0 c.args.begin.valid, c.requires.1)

pub next_command-requires : goal.next_command-requires
next_command-requires c = c.loop-x.invariant.0.0.kept.word_so_far c.loop-x.invariant.1

-- an octet more
more : (c : goal.After-to_phase-scan) → let a = c.args in let l = c.loop-x in Gone a.s.now a.from a.begin.scan c.to_phase-scan.result (a.from + (l.x-index + 1))
more c =
    let l = c.loop-x in
    let e = c.to_phase-scan.ensures in
    let (same, some) = some_told _ c.in-Some.ensures in
    let step = word_on l.st.0 _ l.invariant.1 (sym same) some in
    passed_more _ _ l.invariant.0 c.loop-x-test.true (e ∙ sym step) (ap (λ (z : Scan). z.at) e)

pub loop-x-preserved : goal.loop-x-preserved
loop-x-preserved c = (more c, ap (λ (z : Scan). z.phase) c.to_phase-scan.ensures)
