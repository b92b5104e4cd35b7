use Prim.Native.Nat.{◌≤◌, ◌+◌, ◌*◌}
use lib.ListN.{length}
use mathlib.Core.Path.{◌≡◌}
use Rattle.headers.specs.Block.{image}
use Rattle.frames.specs.Layout.{entries_of}
use Rattle.frames.proofs.Decoding.{entries_left}
use Rattle.frames.proofs.decode.HeadLines.measure.Given as goal

abbrev pub invariant-loop-i : goal.invariant-loop-i
invariant-loop-i l = (l.at ≤ length l.self.frame.now)
    × (l.total ≤ 6 * l.i + l.at)
    × (l.total + length (image (entries_left l.self.cr l.self.style l.self.frame.now l.self.count l.i l.at)) ≡ length (image (entries_of l.self)))
