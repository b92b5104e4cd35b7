use mathlib.Core.Path.{◌≡◌}
use mathlib.Core.Bool.{◌&&◌}
use Prim.Native.Nat.{◌*◌, ◌+◌, ◌-◌, ◌≤◌}
use lib.ListN.{length, drop}
use lib.Dec.{ltb}
use Rattle.headers.specs.Rows.{every}
use Rattle.headers.specs.Text.{ascii}
use Rattle.headers.specs.Escapes.{encode}
use Rattle.headers.proofs.line.measure_blocks.Given as goal

abbrev pub invariant-loop-k : goal.invariant-loop-k
invariant-loop-k l = (l.k * 32 ≤ length l.text) × (l.n + length (encode l.style (drop (l.k * 32) l.text)) ≡ length (encode l.style l.text) + (length l.text - l.k * 32))
    × (ltb l.most 128 && every ascii (drop (l.k * 32) l.text) ≡ every ascii l.text)
