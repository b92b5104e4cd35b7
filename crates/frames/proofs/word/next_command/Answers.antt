-- `word::next_command` meets its contract: the first octet, the command's own next letter, or another octet.
use mathlib.Core.Path.{sym, ◌∙◌}
use native.Mathlib.Omega.{arith}
use borrow.Author.Tests.{eq-eqb, ne_eqb}
use Rattle.frames.proofs.Words.{small, next_same}
use Rattle.frames.proofs.word.next_command.Goals as goal

pub returns-then-k-eq0 : goal.returns-then-k-eq0
returns-then-k-eq0 c = rw (c.requires.nothing c.if-k-eq0.true, c.if-k-eq0.true) c.first_command.ensures

pub letter-requires : goal.letter-requires
letter-requires c = small _ _ c.requires

pub returns-then-x-eq64 : goal.returns-then-x-eq64
returns-then-x-eq64 c = rw (next_same _ _ _ c.requires (omega arith) (c.if-x-letter.true ∙ c.letter.ensures), eq-eqb _ _ c.if-x-eq64.true)

pub returns-then-x-letter : goal.returns-then-x-letter
returns-then-x-letter c =
    rw (next_same _ _ _ c.requires (omega arith) (c.if-x-letter.true ∙ c.letter.ensures), ne_eqb _ _ c.if-x-eq64.false, ne_eqb c.args.c 0 (λ e. omega (arith, (c.requires.something (omega arith)).0, e)))

pub sibling-requires : goal.sibling-requires
sibling-requires c = (c.requires, omega arith, λ e. c.if-x-letter.false (e ∙ sym c.letter.ensures))

pub returns : goal.returns
returns c = c.sibling.ensures
