-- `exports::decode_packed` meets its contract: what is read back of the number is decode's answer.
use mathlib.Core.Path.{refl, subst}
use Rattle.frames.specs.Decoding.{Decodes}
use Rattle.frames.specs.Answers.{decoded_says}
use Rattle.frames.proofs.Packed.{accepted_back, decode_small}
use Rattle.frames.proofs.exports.decode_packed.Goals as goal

pub returns-in-Ok : goal.returns-in-Ok
returns-in-Ok c =
    let a = c.args in
    let d = subst (λ g. Decodes a.version a.frame.now a.block.now (decoded_says g) c.decode.new.block) c.in-Ok.is c.decode.ensures in
    rw (accepted_back _ (decode_small _ _ d)) (d, refl)
