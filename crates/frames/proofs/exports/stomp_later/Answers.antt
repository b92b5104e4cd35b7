-- `exports::stomp_later` meets its contract: how many follow, packed, and read back.
use mathlib.Core.Path.{◌≡◌, sym, ◌∙◌, ap}
use Prim.Native.Nat.{◌^◌, ◌<◌}
use native.Mathlib.Omega.{arith}
use lib.ListN.{length}
use Rattle.std.specs.Prelude.{Some, Ok}
use Rattle.headers.specs.Answers.{found_says}
use Rattle.headers.proofs.Rows.{octets_known}
use Rattle.frames.specs.Answers.{later_alone, packed_later}
use Rattle.frames.proofs.Packed.{later_back}
use Rattle.frames.proofs.exports.stomp_later.Goals as goal

pub returns-in-Ok-Some : goal.returns-in-Ok-Some
returns-in-Ok-Some c =
    let a = c.args in
    let is : c.find.result ≡ Ok (Some c.in-Ok-Some.p) = cc in
    let h = ap found_says (sym is) ∙ c.find.ensures in
    let short : length a.block.now < 2 ^ 64 = omega arith in
    let octets = octets_known a.block.now (λ i. omega (arith, c.type_inv.block i)) in
    (ap (λ z. packed_later (later_alone z)) h, later_back a.block.now a.name.now octets short (Ok (Some c.in-Ok-Some.p)) h ∙ ap later_alone h)
