-- `list::value` meets its contract: n is the number of the octets passed.
use mathlib.Core.Path.{◌≡◌, refl, ◌∙◌, ap}
use mathlib.Core.Bool.{true}
use Prim.Native.Nat.{◌+◌, ◌*◌}
use native.Mathlib.Omega.{arith}
use lib.ListN.{take}
use lib.Seq.{take_all}
use Rattle.headers.specs.Rows.{every, is_octet}
use Rattle.headers.specs.Numbers.{evaluate}
use Rattle.headers.proofs.Rows.{octets_known}
use Rattle.topics.proofs.Places.{value_small, value_more}
use Rattle.topics.proofs.list.value.Goals as goal
use Rattle.topics.proofs.list.value.Goals.{In-loop-x, After-from}

pub loop-x-init : goal.loop-x-init
unfolding evaluate
loop-x-init c = refl

octets : (c : In-loop-x) → every is_octet c.args.octets.now ≡ true
octets c = octets_known c.args.octets.now (λ i. omega (arith, c.type_inv.octets i))

pub overflow_mul-n : goal.overflow_mul-n
overflow_mul-n c = omega (arith, value_small c.args.octets.now (octets (goal.at.overflow_mul-n c).In-loop-x) c.loop-x.x-index (omega (arith, c.requires)), c.loop-x.invariant)

-- the number with the octet at the index
more : (c : After-from) → c.loop-x.n * 256 + c.from.result ≡ evaluate 256 0 (take (c.loop-x.x-index + 1) c.args.octets.now)
more c = omega (arith, value_more c.args.octets.now c.loop-x.x-index c.loop-x-test.true, c.loop-x.invariant, c.from.ensures)

pub overflow_add-n : goal.overflow_add-n
overflow_add-n c = omega (arith, more (goal.at.overflow_add-n c).After-from, value_small c.args.octets.now (octets (goal.at.overflow_add-n c).In-loop-x) (c.loop-x.x-index + 1) (omega (arith, c.requires)))

pub loop-x-preserved : goal.loop-x-preserved
loop-x-preserved c = more (goal.at.loop-x-preserved c).After-from

pub returns : goal.returns
returns c =
    let xs = c.args.octets.now in
    let small = value_small xs (octets_known xs (λ i. omega (arith, c.type_inv.octets i))) c.loop-x.x-index (omega (arith, c.requires)) in
    (c.loop-x.invariant ∙ ap (evaluate 256 0) (take_all c.loop-x.x-index xs c.loop-x-test.false), omega (arith, small, c.loop-x.invariant))
