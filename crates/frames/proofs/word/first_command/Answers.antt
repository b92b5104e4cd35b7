-- `word::first_command` meets its contract: each number is computed.
use borrow.Author.Tests.{ne_eqb}
use Rattle.frames.specs.Scanning.{next_command}
use Rattle.frames.proofs.word.first_command.Goals as goal

pub returns-in-65 : goal.returns-in-65
unfolding next_command
returns-in-65 c = rw c.in-65.is

pub returns-in-66 : goal.returns-in-66
unfolding next_command
returns-in-66 c = rw c.in-66.is

pub returns-in-67 : goal.returns-in-67
unfolding next_command
returns-in-67 c = rw c.in-67.is

pub returns-in-68 : goal.returns-in-68
unfolding next_command
returns-in-68 c = rw c.in-68.is

pub returns-in-69 : goal.returns-in-69
unfolding next_command
returns-in-69 c = rw c.in-69.is

pub returns-in-77 : goal.returns-in-77
unfolding next_command
returns-in-77 c = rw c.in-77.is

pub returns-in-78 : goal.returns-in-78
unfolding next_command
returns-in-78 c = rw c.in-78.is

pub returns-in-82 : goal.returns-in-82
unfolding next_command
returns-in-82 c = rw c.in-82.is

pub returns-in-83 : goal.returns-in-83
unfolding next_command
returns-in-83 c = rw c.in-83.is

pub returns-in-85 : goal.returns-in-85
unfolding next_command
returns-in-85 c = rw c.in-85.is

pub returns-in_default : goal.returns-in_default
unfolding next_command
returns-in_default c =
    simp (
      ne_eqb _ _ c.in_default.in_default-own.rest.0.0.0.0.0.0.0.0.0.1,
      ne_eqb _ _ c.in_default.in_default-own.rest.0.0.0.0.0.0.0.0.1,
      ne_eqb _ _ c.in_default.in_default-own.rest.0.0.0.0.0.0.0.1,
      ne_eqb _ _ c.in_default.in_default-own.rest.0.0.0.0.0.0.1,
      ne_eqb _ _ c.in_default.in_default-own.rest.0.0.0.0.0.1,
      ne_eqb _ _ c.in_default.in_default-own.rest.0.0.0.0.1,
      ne_eqb _ _ c.in_default.in_default-own.rest.0.0.0.1,
      ne_eqb _ _ c.in_default.in_default-own.rest.0.0.1,
      ne_eqb _ _ c.in_default.in_default-own.rest.0.1,
      ne_eqb _ _ c.in_default.in_default-own.rest.1,
    )
