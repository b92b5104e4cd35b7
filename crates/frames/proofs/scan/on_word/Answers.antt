-- `scan::on_word` meets its contract: the word goes on, or it is whole and ends.
use Rattle.frames.specs.Scanning.{on_word}
use Rattle.frames.proofs.Words.{some_told, none_told}
use borrow.Author.Tests.{eq-eqb, ne_eqb}
use Rattle.frames.proofs.scan.on_word.Goals as goal

pub returns-in-Some : goal.returns-in-Some
unfolding on_word
returns-in-Some c =
    let (same, some) = some_told _ c.in-Some.ensures in simp (c.to_phase.ensures, same, ne_eqb c.in-Some.c 0 some)

pub returns-in_default-whole_command : goal.returns-in_default-whole_command
unfolding on_word
returns-in_default-whole_command c =
    let ended = none_told _ c.in_default.ensures in simp (c.refused.ensures, ended, none_told _ c.in_default-whole_command.ensures)

pub returns-then-x-eq10 : goal.returns-then-x-eq10
unfolding on_word
returns-then-x-eq10 c =
    let ended = none_told _ c.in_default.ensures in
    let (whole, some) = some_told _ c.in-Some-whole_command.ensures in
    simp (c.to_phase-then-x-eq10.ensures, ended, whole, ne_eqb c.in-Some-whole_command.w 0 some, eq-eqb _ _ c.if-x-eq10.true)

pub returns-then-x-st : goal.returns-then-x-st
unfolding on_word
returns-then-x-st c =
    let ended = none_told _ c.in_default.ensures in
    let (whole, some) = some_told _ c.in-Some-whole_command.ensures in
    simp (c.to_phase-then-x-st.ensures, ended, whole, ne_eqb c.in-Some-whole_command.w 0 some, ne_eqb _ _ c.if-x-eq10.false, c.if-x-st.true)

pub returns : goal.returns
unfolding on_word
returns c =
    let ended = none_told _ c.in_default.ensures in
    let (whole, some) = some_told _ c.in-Some-whole_command.ensures in
    simp (c.refused-2.ensures, ended, whole, ne_eqb c.in-Some-whole_command.w 0 some, ne_eqb _ _ c.if-x-eq10.false, c.if-x-st.false)
