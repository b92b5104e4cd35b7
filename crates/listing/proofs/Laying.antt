-- What is laid out behind what is laid out: laws. Assumes nothing.
--     lays_row       a row of at most n octets
--     lays_then      one after another
use mathlib.Core.Path.{◌≡◌, sym, ap, ◌∙◌}
use mathlib.Core.List.{List, ◌++◌}
use Prim.Native.Nat.{ℕ, ◌+◌, ◌≤◌}
use native.Mathlib.Omega.{arith}
use lib.ListN.{length, take, drop}
use lib.Seq.{take-take, take_at, length-take-le}
use Rattle.listing.specs.declared.buffers.Output.{Output}
use Rattle.listing.specs.Buffers.{Lays, LaysAtMost}

pub lays_row : (n : ℕ) (row : List ℕ) (a b : Output) → Lays row a b → b.used ≤ a.used + n → a.used ≤ length a.octets → LaysAtMost n a b
lays_row n row a b (used, octets) few room =
    (omega (arith, used), few, ap (take a.used) octets ∙ take_at (take a.used a.octets) (row ++ drop (a.used + length row) a.octets) a.used (length-take-le a.used a.octets room))

pub lays_then : (n m k : ℕ) (a b c : Output) → LaysAtMost n a b → LaysAtMost m b c → n + m ≤ k → LaysAtMost k a c
lays_then n m k a b c (up, most, front) (on, more, kept) room =
    (omega arith, omega arith, sym (take-take a.used b.used c.octets up) ∙ ap (take a.used) kept ∙ take-take a.used b.used b.octets up ∙ front)
