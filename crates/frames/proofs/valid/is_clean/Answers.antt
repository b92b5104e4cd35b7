-- `valid::is_clean` meets its contract: each test that fails settles it.
use mathlib.Core.Path.{sym, ◌∙◌}
use lib.Dec.{eqb, ltb}
use Rattle.frames.proofs.Checks.{met, clean_no, clean_yes}
use Rattle.frames.proofs.valid.is_clean.Goals as goal

pub returns-then-not-is_rest_clean : goal.returns-then-not-is_rest_clean
returns-then-not-is_rest_clean c =
    let st = c.args.st in
    sym (clean_no st (met (ltb st.phase 4) (eqb st.lines 0) c.if-phase-st.false) (met (ltb st.phase 16) (eqb st.code 0) c.if-phase-st-2.false) (met (ltb 6 st.phase) (eqb st.matched 0) c.if-phase-st-3.false) (sym c.is_rest_clean.ensures ∙ c.if-not-is_rest_clean.true))

pub returns : goal.returns
returns c =
    let st = c.args.st in
    sym (clean_yes st (met (ltb st.phase 4) (eqb st.lines 0) c.if-phase-st.false) (met (ltb st.phase 16) (eqb st.code 0) c.if-phase-st-2.false) (met (ltb 6 st.phase) (eqb st.matched 0) c.if-phase-st-3.false) (sym c.is_rest_clean.ensures ∙ c.if-not-is_rest_clean.false))
