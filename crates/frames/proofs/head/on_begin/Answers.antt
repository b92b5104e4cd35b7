-- `head::on_begin` meets its contract: each test that led there picks the next state.
use mathlib.Core.Path.{sym, ◌∙◌}
use Rattle.frames.specs.Scanning.{on_begin}
use Rattle.frames.proofs.Steps.{past_last, no_stop, begin_more, more_start, more_bad}
use borrow.Author.Tests.{eq-eqb, ne_eqb}
use Rattle.frames.proofs.head.on_begin.Goals as goal

pub returns-then-x-eq10 : goal.returns-then-x-eq10
unfolding on_begin
returns-then-x-eq10 c =
    simp (c.body_begins.ensures, eq-eqb _ _ c.if-x-eq10.true)

pub returns-then-x-st : goal.returns-then-x-st
unfolding on_begin
returns-then-x-st c =
    simp (c.in_head.ensures, ne_eqb _ _ c.if-x-eq10.false, c.if-x-st.true)

pub returns-then-x-eq58 : goal.returns-then-x-eq58
unfolding on_begin
returns-then-x-eq58 c =
    simp (c.refused.ensures, ne_eqb _ _ c.if-x-eq10.false, c.if-x-st.false, eq-eqb _ _ c.if-x-eq58.true)

pub returns-then-begins_character : goal.returns-then-begins_character
returns-then-begins_character c =
    let p = ne_eqb _ _ c.if-x-eq10.false in
    let q = c.if-x-st.false in
    let r = ne_eqb _ _ c.if-x-eq58.false in
    let last = past_last c.args.st.scan c.args.x p q r c.requires in
    let starts = sym c.begins_character.ensures ∙ c.if-begins_character.true in
    c.refused-then-begins_character.ensures
    ∙ sym (begin_more c.args.st.scan c.args.x p q r last ∙ more_start c.args.st.scan c.args.x (no_stop c.args.st.scan c.args.x p q r) starts)

pub returns : goal.returns
returns c =
    let p = ne_eqb _ _ c.if-x-eq10.false in
    let q = c.if-x-st.false in
    let r = ne_eqb _ _ c.if-x-eq58.false in
    let last = past_last c.args.st.scan c.args.x p q r c.requires in
    c.refused-2.ensures
    ∙ sym (begin_more c.args.st.scan c.args.x p q r last ∙ more_bad c.args.st.scan c.args.x (sym c.begins_character.ensures ∙ c.if-begins_character.false))
