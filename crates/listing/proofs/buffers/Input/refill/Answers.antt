-- `Input::refill` meets its contract: what was read stands behind what was kept.
use Rattle.std.proofs.Common.{◌-◌, arith, sym, subst}
use Rattle.std.specs.Io.KnownBytes.{Consumes}
use Rattle.listing.proofs.Parts.{slice_range_put_mid}
use Rattle.listing.proofs.buffers.Input.refill.Goals as goal

pub returns-clause-bytes : goal.returns-clause-bytes
returns-clause-bytes g c =
    let s = c.args.self.now in
    let held = s.hi - s.lo in
    let read = slice_range_put_mid held (65536 - held) c.in_ok-n.n c.copy_within.new.self c.read_full.new.buf (omega arith) (omega (arith, c.in_ok-n.ensures)) in
    subst (Consumes _ _) (sym read) c.in_ok-n.ensures.bytes
