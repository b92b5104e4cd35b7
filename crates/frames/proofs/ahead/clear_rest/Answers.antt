-- `ahead::clear_rest` meets its contract: what is passed, and the span of what is left, are the span.
use Rattle.frames.specs.Scanning.{not_zero}
use Rattle.headers.proofs.Stretches.{span_more, span_stop, span_end}
use Rattle.frames.proofs.Parts.{octet_at}
use Rattle.headers.specs.Stretches.{span}
use Prim.Native.Nat.{ℕ, ◌+◌, ◌-◌, ◌<◌}
use native.Mathlib.Omega.{arith}
use lib.ListN.{length, drop, take, get_or, length-take, length-drop}
use mathlib.Core.List.{List}
use mathlib.Core.Bool.{not}
use borrow.Author.Tests.{eq-eqb, ne_eqb}
use mathlib.Core.Path.{◌≡◌, sym, ◌∙◌, ap}
use Rattle.frames.proofs.ahead.clear_rest.Goals as goal

-- an octet of the rest, from far on
module _ (s : List ℕ) (far k : ℕ) (h : k < length (take (length s - far) (drop far s))) where
  stops : get_or (take (length s - far) (drop far s)) k 0 ≡ 0 → far + k ≡ far + k + span not_zero (drop (far + k) s)
  stops z = let (inside, octet) = octet_at (length s - far) s far k h in span_stop not_zero s (far + k) inside (ap not (eq-eqb _ 0 (sym octet ∙ z)))

  goes_on : (get_or (take (length s - far) (drop far s)) k 0 ≡ 0 → ⊥) → far + (k + 1) + span not_zero (drop (far + (k + 1)) s) ≡ far + k + span not_zero (drop (far + k) s)
  goes_on z =
      let (inside, octet) = octet_at (length s - far) s far k h in
      let on : far + (k + 1) ≡ far + k + 1 = omega arith in
      ap (λ i. i + span not_zero (drop i s)) on ∙ span_more not_zero s (far + k) inside (ap not (ne_eqb _ 0 (λ e. z (octet ∙ e))))

pub returns-then-x-eq0 : goal.returns-then-x-eq0
returns-then-x-eq0 c = stops c.args.s.now _ c.loop-k.k c.loop-k-test.true c.if-x-eq0.true ∙ c.loop-k.invariant

pub loop-k-preserved : goal.loop-k-preserved
loop-k-preserved c = goes_on c.args.s.now _ c.loop-k.k c.loop-k-test.true c.if-x-eq0.false ∙ c.loop-k.invariant

pub returns : goal.returns
returns c =
    let s = c.args.s.now in
    let far = c.clear_blocks-far in
    let all : length s ≡ far.result + c.loop-k.k =
    omega (arith, far.ensures.0, c.loop-k-test.false, length-take (length s - far.result) (drop far.result s), length-drop far.result s, c.loop-k.auto.k-end) in
    all ∙ span_end not_zero s (far.result + c.loop-k.k) (omega (arith, all)) ∙ c.loop-k.invariant
