-- `encode::image_length` meets its contract.
use native.Mathlib.Omega.{arith}
use Rattle.headers.proofs.Numerals.{size_least}
use Rattle.headers.proofs.Decimals.{length_shortest}
use Rattle.frames.proofs.Words.{short}
use Rattle.frames.proofs.encode.image_length.Goals as goal

pub overflow_add-result-then-adds : goal.overflow_add-result-then-adds
overflow_add-result-then-adds c =
    let a = c.args in
    omega (arith, short a.command c.requires.0, length_shortest a.body, size_least 4 a.body (omega arith))
