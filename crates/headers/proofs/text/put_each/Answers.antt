-- `text::put_each` meets its contract: what is written and what is left to encode make the whole.
use Prim.Native.Nat.{◌+◌}
use native.Mathlib.Omega.{arith}
use lib.ListN.{drop, get_or}
use Rattle.headers.specs.Escapes.{encode, encode_octet}
use Rattle.headers.proofs.Coding.{encode_step, encode_end}
use Rattle.headers.proofs.Put.{partly_done, partly_fits, partly_put}
use Rattle.headers.proofs.text.put_each.Goals as goal

pub put_octet-n-requires : goal.put_octet-n-requires
put_octet-n-requires c = let l = c.loop-x in
    let a = c.args in
    let xs = a.text.now in
    partly_fits l.invariant.1 (encode_octet a.style (get_or xs l.x-index 0)) (encode a.style (drop (l.x-index + 1) xs))
    (encode_step a.style xs l.x-index c.loop-x-test.true)

pub loop-x-preserved : goal.loop-x-preserved
loop-x-preserved c = let l = c.loop-x in
    let a = c.args in
    let p = c.put_octet-n in
    let xs = a.text.now in
    let step = encode_step a.style xs l.x-index c.loop-x-test.true in (
      omega arith,
      partly_put l.invariant.1 (encode_octet a.style (get_or xs l.x-index 0)) (encode a.style (drop (l.x-index + 1) xs)) step
          p.result p.new.d p.ensures.0 p.ensures.1,
    )

pub returns : goal.returns
returns c =
    let l = c.loop-x in
    let a = c.args in
    partly_done l.invariant.1 (encode_end a.style a.text.now l.x-index c.loop-x-test.false)
