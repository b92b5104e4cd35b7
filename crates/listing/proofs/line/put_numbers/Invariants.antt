-- `line::put_numbers`: what is written and what is left to write make the whole.
use mathlib.Core.Path.{◌≡◌}
use mathlib.Core.List.{◌++◌}
use Prim.Native.Nat.{◌+◌, ◌*◌, ◌≤◌}
use lib.ListN.{length, take, drop}
use Rattle.listing.specs.Lines.{numbers}
use Rattle.listing.proofs.line.put_numbers.Given as goal

abbrev pub invariant-loop-i : goal.invariant-loop-i
invariant-loop-i l =
    (length l.d ≡ length l.initial.d) × (l.i ≤ length l.ns) × (l.at ≤ 21 * l.i)
    × (l.at + length (numbers (drop l.i l.ns)) ≡ length (numbers l.ns)) × (take l.at l.d ++ numbers (drop l.i l.ns) ≡ numbers l.ns)
    × (drop l.at l.d ≡ drop l.at l.initial.d)
