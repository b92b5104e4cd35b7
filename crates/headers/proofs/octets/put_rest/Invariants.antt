use Prim.Native.Nat.{◌+◌, ◌*◌}
use lib.ListN.{length}
use mathlib.Core.Path.{◌≡◌}
use Rattle.headers.proofs.Copying.{Upto}
use Rattle.headers.proofs.octets.put_rest.Given as goal

abbrev pub invariant-loop-k : goal.invariant-loop-k
invariant-loop-k g l = (length l.d ≡ length l.initial.d) × Upto g.row.N l.initial.d l.at l.s l.d (l.from + l.k * g.row.N)
