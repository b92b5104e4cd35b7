-- `record::have_room` meets its contract: each refusal is a part of what room lacks.
use mathlib.Core.Path.{◌≡◌, refl, sym, ◌∙◌}
use mathlib.Core.Bool.{Bool, true, false, not, ◌||◌, ◌&&◌}
use Prim.Native.Nat.{ℕ, ◌+◌, ◌≤◌, ◌<◌}
use native.Mathlib.Omega.{arith}
use mathlib.Core.List.{List}
use lib.ListN.{length}
use lib.Dec.{ltb}
use borrow.Author.Tests.{lt-ltb, le-ltb, leb-true, leb-false}
use Rattle.headers.specs.Block.{entry_record}
use Rattle.headers.specs.Lines.{entry_of}
use Rattle.headers.specs.Answers.{lacks_room}
use Rattle.headers.proofs.Blocks.{length_record}
use Rattle.headers.proofs.record.have_room.Goals as goal

-- too little room, whatever the lengths
lacks : (room : ℕ) (n v : List ℕ) → room < 6 + length n + length v → false ≡ not (lacks_room room (entry_of n v))
lacks room n v h =
    let long = length_record (entry_of n v) in
    rw (lt-ltb room (length (entry_record (entry_of n v))) (omega arith)) refl

-- enough room: then it is the lengths
roomy : (room : ℕ) (n v : List ℕ) (s t : Bool) → 6 + length n + length v ≤ room → ltb (length n) 65536 ≡ s → ltb (length v) 65536 ≡ t
    → s && t ≡ not (lacks_room room (entry_of n v))
roomy room n v s t h p q =
    let long = length_record (entry_of n v) in
    rw (le-ltb room (length (entry_record (entry_of n v))) (omega arith), p, q) (by s t)
  where
    by : (s t : Bool) → s && t ≡ not (false || not (s && t))
    by true true = refl
    by true false = refl
    by false t = refl

pub returns-then-room-lt6 : goal.returns-then-room-lt6
returns-then-room-lt6 c = lacks _ _ _ (omega arith)

pub returns-then-not-both_within : goal.returns-then-not-both_within
returns-then-not-both_within c = lacks _ _ _ (omega (arith, leb-false, sym c.both_within.ensures ∙ c.if-not-both_within.true))

pub returns-then-not-is_short : goal.returns-then-not-is_short
returns-then-not-is_short c =
    roomy _ _ _ false _ (omega (arith, leb-true, sym c.both_within.ensures ∙ c.if-not-both_within.false)) (sym c.is_short.ensures ∙ c.if-not-is_short.true) refl

pub returns : goal.returns
returns c =
    roomy _ _ _ true _ (omega (arith, leb-true, sym c.both_within.ensures ∙ c.if-not-both_within.false)) (sym c.is_short.ensures ∙ c.if-not-is_short.false) (sym c.is_short-2.ensures)
