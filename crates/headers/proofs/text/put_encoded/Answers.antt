-- `text::put_encoded` meets its contract: what is written and what is left to encode make the whole.
use mathlib.Core.Path.{◌≡◌, subst}
use mathlib.Core.List.{List}
use Prim.Native.Nat.{ℕ, ◌+◌, ◌-◌, ◌*◌, ◌/◌}
use native.Mathlib.Omega.{arith}
use lib.ListN.{length, take, drop, length-take, length-drop}
use Rattle.headers.specs.Escapes.{encode}
use Rattle.headers.specs.declared.text.Style.{Style}
use Rattle.headers.proofs.Coding.{encode_part}
use Rattle.headers.proofs.Put.{Partly, partly_fits, partly_put, partly_rest}
use Rattle.headers.proofs.text.put_encoded.Goals as goal
use Rattle.headers.proofs.text.put_encoded.Goals.{After-loop-k}

-- a block encoded, and what is after it
abbrev block : Style → List ℕ → ℕ → List ℕ
block s xs i = encode s (take (i + 8 - i) (drop i xs))

abbrev after : Style → List ℕ → ℕ → List ℕ
after s xs i = encode s (drop (i + 8) xs)

pub put_eight-n-requires : goal.put_eight-n-requires
put_eight-n-requires c =
    let a = c.args in
    let i = c.loop-k.k * 8 in
    let xs = a.text.now in
    let long : length (take (i + 8 - i) (drop i xs)) ≡ 8 = simp (length-take, length-drop) (omega (arith, c.loop-k-test.true)) in (
      long,
      partly_fits c.loop-k.invariant (block a.style xs i) (after a.style xs i) (encode_part a.style xs i (i + 8) (omega arith)),
    )

pub loop-k-preserved : goal.loop-k-preserved
loop-k-preserved c =
    let a = c.args in
    let i = c.loop-k.k * 8 in
    let p = c.put_eight-n in
    let next : (c.loop-k.k + 1) * 8 ≡ i + 8 = omega arith in
    rw next
    (partly_put c.loop-k.invariant (block a.style a.text.now i) (after a.style a.text.now i) (encode_part a.style a.text.now i (i + 8) (omega arith))
    p.result p.new.d p.ensures.0 p.ensures.1)

-- after the last block
ended : (c : After-loop-k) → let a = c.args in
    Partly (encode a.style a.text.now) (encode a.style (drop (length a.text.now / 8 * 8) a.text.now)) a.d.now c.loop-k.d c.loop-k.n
ended c =
    let a = c.args in
    let last : c.loop-k.k * 8 ≡ length a.text.now / 8 * 8 = omega arith in
    subst (λ i. Partly (encode a.style a.text.now) (encode a.style (drop i a.text.now)) a.d.now c.loop-k.d c.loop-k.n) last c.loop-k.invariant

pub returns : goal.returns
returns c = partly_rest (ended (goal.at.returns c).After-loop-k) _ _ c.put_end.ensures
