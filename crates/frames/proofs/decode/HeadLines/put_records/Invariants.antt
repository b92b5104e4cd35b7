use Prim.Native.Nat.{◌≤◌, ◌+◌}
use lib.ListN.{length, take, drop}
use mathlib.Core.Path.{◌≡◌}
use mathlib.Core.List.{◌++◌}
use Rattle.headers.specs.Rows.{All}
use Rattle.headers.specs.Block.{image, Short}
use Rattle.frames.specs.Layout.{entries_of}
use Rattle.frames.proofs.Decoding.{entries_left}
use Rattle.frames.proofs.decode.HeadLines.put_records.Given as goal

abbrev pub invariant-loop-i : goal.invariant-loop-i
invariant-loop-i l = (length l.block ≡ length l.initial.block)
    × (l.at ≤ length l.self.frame.now)
    × (l.used + length (image (entries_left l.self.cr l.self.style l.self.frame.now l.self.count l.i l.at)) ≡ length (image (entries_of l.self)))
    × All Short (entries_left l.self.cr l.self.style l.self.frame.now l.self.count l.i l.at)
    × (take l.used l.block ++ image (entries_left l.self.cr l.self.style l.self.frame.now l.self.count l.i l.at) ≡ image (entries_of l.self))
    × (drop l.used l.block ≡ drop l.used l.initial.block)
