-- `text::put_eight` meets its contract: where no octet is escaped, the block is its own encoding.
use mathlib.Core.Path.{◌≡◌, refl, sym, ◌∙◌, ap}
use mathlib.Core.List.{[]}
use native.Mathlib.Omega.{arith}
use lib.Seq.{paste}
use Rattle.headers.specs.Escapes.{encode}
use Rattle.headers.proofs.Coding.{encode_bare, encode_long}
use Rattle.headers.proofs.Put.{partly_none}
use Rattle.headers.proofs.Copying.{partly_over}
use Rattle.headers.proofs.text.put_eight.Goals as goal

pub put_block-requires : goal.put_block-requires
put_block-requires c =
    (omega (arith, c.requires.0), omega (arith, c.requires.0, c.requires.1, encode_long c.args.style c.args.block.now))

pub returns-then-is_all : goal.returns-then-is_all
returns-then-is_all c =
    let xs = c.args.block.now in
    let bare : encode c.args.style xs ≡ xs =
    encode_bare c.args.style xs (sym c.is_all.ensures ∙ c.if-is_all.true) in
    let put = partly_over (partly_none _ c.args.d.now c.requires.1) [] xs _ 0 bare refl (omega arith)
    (c.put_block.ensures ∙ ap (paste c.args.d.now 0 xs) (sym c.requires.0)) in
    (omega (arith, put.0, c.requires.0), put.1)
