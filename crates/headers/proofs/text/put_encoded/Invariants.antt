use Prim.Native.Nat.{◌*◌}
use lib.ListN.{drop}
use Rattle.headers.specs.Escapes.{encode}
use Rattle.headers.proofs.Put.{Partly}
use Rattle.headers.proofs.text.put_encoded.Given as goal

abbrev pub invariant-loop-k : goal.invariant-loop-k
invariant-loop-k l = Partly (encode l.style l.text) (encode l.style (drop (l.k * 8) l.text)) l.initial.d l.d l.n
