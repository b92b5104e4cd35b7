-- `word::sibling` meets its contract: where words part the answer is computed, and elsewhere no other command goes on.
use native.Mathlib.Omega.{arith}
use mathlib.Core.Path.{◌≡◌, refl}
use Prim.Native.Nat.{ℕ, ◌+◌, ◌*◌, ◌<◌}
use lib.ListN.{get_or}
use borrow.Author.Tests.{ne_eqb}
use Rattle.std.specs.Prelude.{None}
use Rattle.frames.specs.Scanning.{word_of, next_command, Reached}
use Rattle.frames.specs.Words.{command_or_none}
use Rattle.frames.proofs.Words.{small, next_none}
use Rattle.frames.proofs.word.sibling.Goals as goal

pub returns-in-1-eq1-eq67 : goal.returns-in-1-eq1-eq67
unfolding next_command
returns-in-1-eq1-eq67 c = rw (c.in-1-eq1-eq67.is-0, c.in-1-eq1-eq67.is-1, c.in-1-eq1-eq67.is-2)

pub returns-in-4-eq2-eq78 : goal.returns-in-4-eq2-eq78
unfolding next_command
returns-in-4-eq2-eq78 c = rw (c.in-4-eq2-eq78.is-0, c.in-4-eq2-eq78.is-1, c.in-4-eq2-eq78.is-2)

pub returns-in-5-eq7-eq69 : goal.returns-in-5-eq7-eq69
unfolding next_command
returns-in-5-eq7-eq69 c = rw (c.in-5-eq7-eq69.is-0, c.in-5-eq7-eq69.is-1, c.in-5-eq7-eq69.is-2)

pub returns-in-12-eq1-eq84 : goal.returns-in-12-eq1-eq84
unfolding next_command
returns-in-12-eq1-eq84 c = rw (c.in-12-eq1-eq84.is-0, c.in-12-eq1-eq84.is-1, c.in-12-eq1-eq84.is-2)

pub returns-in-12-eq1-eq85 : goal.returns-in-12-eq1-eq85
unfolding next_command
returns-in-12-eq1-eq85 c = rw (c.in-12-eq1-eq85.is-0, c.in-12-eq1-eq85.is-1, c.in-12-eq1-eq85.is-2)

-- the numbers are not those of a place where words part
module _ (c k x : ℕ) (r : Reached c k × (0 < k) × (x ≡ get_or (word_of c) k 64 → ⊥)) where
  abbrev Not : ℕ → Type 0
  Not y = c * 4096 + k * 256 + x ≡ y → ⊥

  apart : Not 4419 → Not 16974 → Not 22341 → Not 49492 → Not 49493 → None ≡ command_or_none (next_command c k x)
  apart h i j l m =
      let y = c * 4096 + k * 256 + x in
      rw (next_none c k x r (rw (ne_eqb y 4419 h, ne_eqb y 16974 i, ne_eqb y 22341 j, ne_eqb y 49492 l, ne_eqb y 49493 m) refl)) refl

pub returns-in_default : goal.returns-in_default
returns-in_default c =
    let few = small _ _ c.requires.0 in
    apart c.args.c c.args.k c.args.x c.requires (λ e. omega arith) (λ e. omega arith) (λ e. omega arith) (λ e. omega arith) (λ e. omega arith)

pub returns-in_default-2 : goal.returns-in_default-2
returns-in_default-2 c =
    let few = small _ _ c.requires.0 in
    apart c.args.c c.args.k c.args.x c.requires (λ e. omega arith) (λ e. omega arith) (λ e. omega arith) (λ e. omega arith) (λ e. omega arith)

pub returns-in_default-3 : goal.returns-in_default-3
returns-in_default-3 c =
    let few = small _ _ c.requires.0 in
    apart c.args.c c.args.k c.args.x c.requires (λ e. omega arith) (λ e. omega arith) (λ e. omega arith) (λ e. omega arith) (λ e. omega arith)

pub returns-in_default-4 : goal.returns-in_default-4
returns-in_default-4 c =
    let few = small _ _ c.requires.0 in
    apart c.args.c c.args.k c.args.x c.requires (λ e. omega arith) (λ e. omega arith) (λ e. omega arith) (λ e. omega arith) (λ e. omega arith)

pub returns-in_default-5 : goal.returns-in_default-5
returns-in_default-5 c =
    let few = small _ _ c.requires.0 in
    apart c.args.c c.args.k c.args.x c.requires (λ e. omega arith) (λ e. omega arith) (λ e. omega arith) (λ e. omega arith) (λ e. omega arith)

pub returns-in_default-6 : goal.returns-in_default-6
returns-in_default-6 c =
    let few = small _ _ c.requires.0 in
    apart c.args.c c.args.k c.args.x c.requires (λ e. omega arith) (λ e. omega arith) (λ e. omega arith) (λ e. omega arith) (λ e. omega arith)

pub returns-in_default-7 : goal.returns-in_default-7
returns-in_default-7 c =
    let few = small _ _ c.requires.0 in
    apart c.args.c c.args.k c.args.x c.requires (λ e. omega arith) (λ e. omega arith) (λ e. omega arith) (λ e. omega arith) (λ e. omega arith)

pub returns-in_default-8 : goal.returns-in_default-8
returns-in_default-8 c =
    let few = small _ _ c.requires.0 in
    apart c.args.c c.args.k c.args.x c.requires (λ e. omega arith) (λ e. omega arith) (λ e. omega arith) (λ e. omega arith) (λ e. omega arith)

pub returns-in_default-9 : goal.returns-in_default-9
returns-in_default-9 c =
    let few = small _ _ c.requires.0 in
    apart c.args.c c.args.k c.args.x c.requires (λ e. omega arith) (λ e. omega arith) (λ e. omega arith) (λ e. omega arith) (λ e. omega arith)
