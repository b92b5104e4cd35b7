-- `octets::put_blocks` meets its contract: the first block, and the rest from a place in it.
use Prim.Native.Nat.{◌+◌}
use native.Mathlib.Omega.{arith}
use lib.ListN.{length}
use mathlib.Core.Path.{◌≡◌, ap, ◌∙◌}
use lib.Seq.{paste}
use Rattle.headers.proofs.Copying.{paste_again}
use Rattle.headers.proofs.octets.put_blocks.Given as given
use Rattle.headers.proofs.octets.put_blocks.Goals as goal
use Rattle.headers.proofs.octets.put_blocks.Goals.{After-put_block}

-- the first block
first : (g : given.Over) (c : After-put_block g) → let a = c.args in c.put_block.new.d ≡ paste a.d.now a.at a.s.now g.row.N
first g c =
    let a = c.args in
    let here : a.at + 0 ≡ a.at = omega arith in
    c.put_block.ensures ∙ ap (λ i. paste a.d.now i a.s.now g.row.N) here

pub returns : goal.returns
returns g c =
    let a = c.args in
    let n = length a.s.now in
    c.put_rest.ensures ∙ ap (λ z. paste z a.at a.s.now n) (first g (goal.at.returns g c).After-put_block)
    ∙ paste_again a.d.now a.at a.s.now g.row.N n c.requires.1 (omega arith) c.requires.2
