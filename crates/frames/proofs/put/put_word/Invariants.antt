use mathlib.Core.Path.{◌≡◌}
use mathlib.Core.List.{◌++◌}
use Prim.Native.Nat.{◌≤◌}
use lib.ListN.{length, take, drop}
use Rattle.frames.specs.Scanning.{word_of}
use Rattle.frames.proofs.put.put_word.Given as goal

abbrev pub invariant-loop-i : goal.invariant-loop-i
invariant-loop-i l = (length l.d ≡ length l.initial.d) × (l.i ≤ l.n) × (l.d ≡ take l.i (word_of l.command) ++ drop l.i l.initial.d)
