-- `word::whole_command` meets its contract: behind a word's last letter stands 64.
use mathlib.Core.Path.{◌≡◌, refl}
use mathlib.Core.Bool.{Bool, true, false, cond, ◌&&◌, not}
use Prim.Native.Nat.{ℕ}
use lib.Dec.{eqb}
use Rattle.std.specs.Prelude.{Some, None}
use Rattle.frames.specs.Words.{command_or_none}
use Rattle.frames.proofs.Words.{small, whole_at}
use Rattle.frames.proofs.word.whole_command.Goals as goal

pub letter-requires : goal.letter-requires
letter-requires c = small _ _ c.requires

-- by the two tests
told : (n : ℕ) (t : Bool) → command_or_none (cond t n 0) ≡ cond (not (eqb n 0) && t) (Some n) None
told n true = by (eqb n 0) refl
  where
    by : (b : Bool) → eqb n 0 ≡ b → cond b None (Some n) ≡ cond (not b && true) (Some n) None
    by true e = refl
    by false e = refl
told n false = by (eqb n 0)
  where
    by : (b : Bool) → None ≡ cond (not b && false) (Some n) None
    by true = refl
    by false = refl

pub returns-then-c-letter : goal.returns-then-c-letter
returns-then-c-letter c =
    let a = c.args in
    rw (whole_at a.c a.k c.requires, ← c.letter.ensures, told a.c (eqb c.letter.result 64), c.if-c-letter.true) refl

pub returns-else-c-letter : goal.returns-else-c-letter
returns-else-c-letter c =
    let a = c.args in
    rw (whole_at a.c a.k c.requires, ← c.letter.ensures, told a.c (eqb c.letter.result 64), c.if-c-letter.false) refl
