-- `put::put_length` meets its contract: twenty digits are enough, so the decimal has room, and so has the line.
use mathlib.Core.Path.{◌≡◌, sym, ap, ◌∙◌}
use Prim.Native.Nat.{◌≤◌}
use native.Mathlib.Omega.{arith}
use lib.ListN.{length, replicate}
use Rattle.std.specs.Prelude.{Ok, is_ok}
use Rattle.headers.specs.Numbers.{shortest}
use Rattle.headers.specs.Answers.{written_says}
use Rattle.headers.proofs.Answers.{written_once}
use Rattle.headers.proofs.Decimals.{shortest_twenty}
use Rattle.headers.proofs.Settling.{decimal_length, decimal_room}
use Rattle.frames.proofs.Putting.{said_ok, said_put}
use Rattle.frames.proofs.put.put_length.Goals as goal
use Rattle.frames.proofs.put.put_length.Goals.{After-unwrap-k}

pub unwrap-k-requires : goal.unwrap-k-requires
unwrap-k-requires c =
    let few = shortest_twenty c.args.body c.ranges.body.fits in
    ap is_ok (written_once c.write_decimal.result (Ok (length (shortest c.args.body))) (c.write_decimal.ensures.0 ∙ decimal_room 20 c.args.body few))

-- as many digits as write_decimal says
all : (c : After-unwrap-k) → let digits = shortest c.args.body in (length digits ≤ 20) × (c.unwrap-k.result ≡ length digits)
all c =
    let few = shortest_twenty c.args.body c.ranges.body.fits in
    (few, decimal_length 20 c.args.body c.unwrap-k.result few (sym (ap written_says c.unwrap-k.ensures) ∙ c.write_decimal.ensures.0))

pub slice_bounds-write_encoded-end-2 : goal.slice_bounds-write_encoded-end-2
slice_bounds-write_encoded-end-2 c = omega (arith, all (goal.at.slice_bounds-write_encoded-end-2 c).After-unwrap-k)

pub unwrap-requires : goal.unwrap-requires
unwrap-requires c =
    let n = c.write_decimal in
    let w = c.write_encoded in
    let (few, digits) = all (goal.at.unwrap-requires c).After-unwrap-k in
    ap is_ok (said_ok c.args.style c.args.body c.unwrap-k.result (replicate 20 0) n.new.d few n.ensures.1 digits c.args.d.now c.requires w.result w.ensures.0)

pub returns : goal.returns
returns c =
    let n = c.write_decimal in
    let w = c.write_encoded in
    let (few, digits) = all (goal.at.returns c).After-unwrap-k in
    said_put c.args.style c.args.body c.unwrap-k.result (replicate 20 0) n.new.d few n.ensures.1 digits c.args.d.now c.requires w.result w.ensures.0 c.unwrap.result c.unwrap.ensures w.new.d w.ensures.1
