-- `word::letters` meets its contract: the table has each word's number, by a test that antt computes at each command.
use mathlib.Core.Path.{refl}
use mathlib.Core.List.{List, [], ◌∷◌}
use Prim.Native.Nat.{ℕ}
use native.Mathlib.Omega.{arith}
use lib.ListN.{get_or}
use lib.Dec.{eqb}
use borrow.Author.Tests.{eqb-true}
use Rattle.frames.specs.Scanning.{word_of}
use Rattle.frames.specs.Words.{packed}
use Rattle.frames.proofs.Upto.{upto_at}
use Rattle.frames.proofs.word.letters.Goals as goal

abbrev table : List ℕ
table =
    0 ∷ 21576769 ∷ 11361 ∷ 14982306 ∷ 680965603 ∷ 21581216227 ∷ 4591426419171 ∷ 707173293346084 ∷ 19384901 ∷ 5605280941 ∷ 363566
    ∷ 22021311666 ∷ 145587 ∷ 17219219 ∷ 5576549042867 ∷ 5710386219896277 ∷ []

pub returns : goal.returns
unfolding packed
returns c = eqb-true _ _ (upto_at (λ d. eqb (get_or table d 0) (packed (word_of d))) 16 c.args.c refl (omega arith))
