-- `stream::tell` meets its contract: the two tests are those for being taken.
use mathlib.Core.Path.{sym, ◌∙◌, ap}
use mathlib.Core.Bool.{◌||◌, not}
use lib.Dec.{eqb}
use Rattle.frames.proofs.Telling.{taken_by, untaken_by, not_taken, is_told_so}
use Rattle.frames.proofs.stream.tell.Goals as goal

pub returns-then-is_resumable-st : goal.returns-then-is_resumable-st
returns-then-is_resumable-st c =
    let st = c.args.parser.scan in
    let no = untaken_by st (ap (λ b. not b || not (eqb st.phase 0)) (sym c.is_resumable.ensures) ∙ c.if-is_resumable-st.true) in
    (sym no, sym (not_taken c.args.version st no))

pub returns : goal.returns
returns c =
    let a = c.args in
    let st = a.parser.scan in
    let yes = taken_by st (ap (λ b. not b || not (eqb st.phase 0)) (sym c.is_resumable.ensures) ∙ c.if-is_resumable-st.false) in
    (sym yes, c.with_version-scan.ensures ∙ sym (is_told_so a.version st yes))
