-- `replay::first_value` meets its contract.
use native.Mathlib.Omega.{arith}
use mathlib.Core.Path.{◌≡◌, ap, sym, ◌∙◌}
use mathlib.Core.Bool.{true}
use mathlib.Core.List.{List}
use Prim.Native.Nat.{ℕ, ◌+◌, ◌-◌, ◌≤◌}
use lib.ListN.{take, drop, length}
use Rattle.std.specs.Prelude.{Option as Maybe, Some, Result, Ok}
use Rattle.headers.specs.Rows.{every, is_octet}
use Rattle.headers.specs.Answers.{found_says, find_answer}
use Rattle.headers.specs.declared.block.FirstValue.{FirstValue}
use Rattle.headers.specs.declared.block.Malformed.{Malformed}
use Rattle.headers.proofs.Rows.{octets_known}
use Rattle.listing.specs.Buffers.{first_value_in}
use Rattle.listing.proofs.Values.{nothing_absent, nothing_malformed, value_found}
use Rattle.listing.proofs.replay.first_value.Goals as goal

-- what was found lies in the block, and is the first value
found : (block name : List ℕ) → every is_octet block ≡ true → (r : Result (Maybe FirstValue) Malformed) (f : Maybe FirstValue) (p : FirstValue)
    → r ≡ Ok f → f ≡ Some p → found_says r ≡ find_answer block name
    → (take (p.start + p.len - p.start) (drop p.start block) ≡ first_value_in block name) × (p.start + p.len ≤ length block)
found block name o r f p ok some told =
    let v = value_found block name o p (ap (λ g. found_says (Ok g)) (sym some) ∙ ap found_says (sym ok) ∙ told) in
    let same : p.start + p.len - p.start ≡ p.len = omega arith in
    (ap (λ n. take n (drop p.start block)) same ∙ v.0, v.1)

pub overflow_add-result : goal.overflow_add-result
overflow_add-result c =
    let i = c.in-Ok-Some in
    omega (arith, (found c.args.block.now c.args.name.now (octets_known c.args.block.now (λ i. omega (arith, c.type_inv.block i))) c.find.result i.field-0 i.p i.is i.field-0-is c.find.ensures).1)

pub slice_bounds-result-end : goal.slice_bounds-result-end
slice_bounds-result-end c =
    let i = c.in-Ok-Some in
    omega (arith, (found c.args.block.now c.args.name.now (octets_known c.args.block.now (λ i. omega (arith, c.type_inv.block i))) c.find.result i.field-0 i.p i.is i.field-0-is c.find.ensures).1)

pub returns-in-Ok-Some : goal.returns-in-Ok-Some
returns-in-Ok-Some c =
    let i = c.in-Ok-Some in
    (found c.args.block.now c.args.name.now (octets_known c.args.block.now (λ i. omega (arith, c.type_inv.block i))) c.find.result i.field-0 i.p i.is i.field-0-is c.find.ensures).0

pub returns-in-Ok-None : goal.returns-in-Ok-None
returns-in-Ok-None c =
    let i = c.in-Ok-None in
    nothing_absent c.args.block.now c.args.name.now (octets_known c.args.block.now (λ i. omega (arith, c.type_inv.block i)))
    (ap (λ g. found_says (Ok g)) (sym i.field-0-is) ∙ ap found_says (sym i.is) ∙ c.find.ensures)

pub returns-in-Err : goal.returns-in-Err
returns-in-Err c =
    let i = c.in-Err in
    nothing_malformed c.args.block.now c.args.name.now (octets_known c.args.block.now (λ i. omega (arith, c.type_inv.block i)))
    i.field-0 (ap found_says (sym i.is) ∙ c.find.ensures)
