-- `exports::stomp_find` meets its contract: the value's place packed, and read back.
use mathlib.Core.Path.{◌≡◌, sym, ◌∙◌, ap}
use Rattle.std.specs.Prelude.{Some, Ok}
use Rattle.headers.specs.Answers.{found_says}
use Rattle.frames.specs.Answers.{packed_find, place_alone}
use Rattle.frames.proofs.Packed.{find_back}
use Rattle.frames.proofs.exports.stomp_find.Goals as goal

pub returns-in-Ok-Some : goal.returns-in-Ok-Some
returns-in-Ok-Some c =
    let a = c.args in
    let is : c.find.result ≡ Ok (Some c.in-Ok-Some.p) = cc in
    let h = ap found_says (sym is) ∙ c.find.ensures in
    (ap packed_find h, find_back a.block.now a.name.now (Ok (Some c.in-Ok-Some.p)) h ∙ ap place_alone h)
