use mathlib.Core.Path.{◌≡◌}
use Prim.Native.Nat.{◌≤◌}
use lib.ListN.{length, drop}
use Rattle.headers.specs.Text.{is_text, is_text_from}
use Rattle.headers.specs.Characters.{text_part}
use Rattle.headers.proofs.text.is_raw.Given as goal

abbrev pub invariant-loop-x : goal.invariant-loop-x
invariant-loop-x l = (l.x-index ≤ length l.raw) × (is_text l.style l.field l.raw ≡ is_text_from l.style l.field (text_part l.part) (drop l.x-index l.raw))
