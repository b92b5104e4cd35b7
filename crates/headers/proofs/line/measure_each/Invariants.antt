use mathlib.Core.Path.{◌≡◌}
use mathlib.Core.Bool.{◌&&◌}
use Prim.Native.Nat.{◌≤◌}
use lib.ListN.{length, drop}
use lib.Dec.{ltb}
use Rattle.headers.specs.Rows.{every}
use Rattle.headers.specs.Text.{ascii}
use Rattle.headers.specs.Escapes.{writable}
use Rattle.headers.proofs.Coding.{Counted}
use Rattle.headers.proofs.line.measure_each.Given as goal

abbrev pub invariant-loop-x : goal.invariant-loop-x
invariant-loop-x l = (l.x-index ≤ length l.text) × (every (writable l.style l.field) l.text ≡ every (writable l.style l.field) (drop l.x-index l.text)) × Counted l.style l.text l.x-index l.n × (ltb l.most 128 && every ascii (drop l.x-index l.text) ≡ every ascii l.text)
