-- `line::put_number` meets its contract: twenty digits are enough, so the decimal has room.
use mathlib.Core.Path.{◌≡◌, sym, ap, ◌∙◌}
use mathlib.Core.List.{[], ◌∷◌}
use Prim.Native.Nat.{◌+◌, ◌≤◌}
use native.Mathlib.Omega.{arith}
use lib.ListN.{length, length-append}
use Rattle.std.specs.Prelude.{Ok, is_ok}
use Rattle.headers.specs.Numbers.{shortest}
use Rattle.headers.specs.Answers.{written_says}
use Rattle.headers.proofs.Answers.{written_once}
use Rattle.headers.proofs.Decimals.{shortest_twenty}
use Rattle.headers.proofs.Settling.{decimal_length, decimal_room}
use Rattle.listing.proofs.Rows.{decimal_behind}
use Rattle.listing.proofs.line.put_number.Goals as goal
use Rattle.listing.proofs.line.put_number.Goals.{After-unwrap-k}

pub unwrap-k-requires : goal.unwrap-k-requires
unwrap-k-requires c =
    let a = c.args in
    let few = shortest_twenty a.n c.ranges.n.fits in
    ap is_ok (written_once c.write_decimal.result (Ok (length (shortest a.n)))
    (c.write_decimal.ensures.0 ∙ decimal_room (length a.d.now) a.n (omega (arith, few, c.requires))))

-- the digits are those of the decimal, at most twenty
few_digits : (c : After-unwrap-k) → (c.unwrap-k.result ≡ length (shortest c.args.n)) × (length (shortest c.args.n) ≤ 20)
few_digits c =
    let a = c.args in
    let few = shortest_twenty a.n c.ranges.n.fits in
    (decimal_length (length a.d.now) a.n c.unwrap-k.result (omega (arith, few, c.requires)) (sym (ap written_says c.unwrap-k.ensures) ∙ c.write_decimal.ensures.0), few)

pub bounds-d-k : goal.bounds-d-k
bounds-d-k c = omega (arith, few_digits (goal.at.bounds-d-k c).After-unwrap-k, c.requires, c.write_decimal.auto.d)

pub overflow_add-result : goal.overflow_add-result
overflow_add-result c = omega (arith, few_digits (goal.at.overflow_add-result c).After-unwrap-k)

pub returns : goal.returns
returns c =
    let a = c.args in
    let few = few_digits (goal.at.returns c).After-unwrap-k in
    let k = few.0 in (
      ap (◌+ 1) k ∙ sym (length-append (shortest a.n) (a.behind ∷ [])),
      omega (arith, few),
      decimal_behind a.d.now c.write_decimal.new.d a.n (omega (arith, few, c.requires)) c.write_decimal.ensures.1 c.unwrap-k.result a.behind k,
    )
