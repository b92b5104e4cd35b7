-- `read_decimal` meets its contract. The loop's invariant: s says within the limit what the octets from i on say after sum, and
-- sum is within the limit. The measure is what is left of s. Assumes nothing.
use borrow.Author.Rules.{rules}
use mathlib.Core.Path.{◌≡◌, sym, ap, ◌∙◌}
use Prim.Native.Nat.{◌+◌, ◌*◌, ◌-◌}
use native.Mathlib.Omega.{arith}
use lib.ListN.{get_or}
use Rattle.headers.proofs.Decimals.{amount_empty, amount_start, amount_other, amount_digit, amount_over, amount_end, amount_at}
use Rattle.headers.proofs.decimal.read_decimal.Goals as goal

pub returns-then-s-eq0 : goal.returns-then-s-eq0
returns-then-s-eq0 c = sym (amount_empty _ _ c.if-s-eq0.true)

pub loop-x-init : goal.loop-x-init
loop-x-init c = (search rules, search rules, amount_start _ _ c.if-s-eq0.false)

pub returns-then-not-is_ascii_digit : goal.returns-then-not-is_ascii_digit
returns-then-not-is_ascii_digit c =
    let l = c.loop-x in
    sym (l.invariant.2 ∙ amount_other _ _ _ _ (search rules) (sym c.is_ascii_digit.ensures.value ∙ c.if-not-is_ascii_digit.true))

pub returns-then-most-sum : goal.returns-then-most-sum
returns-then-most-sum c =
    let l = c.loop-x in
    sym (l.invariant.2 ∙ amount_digit _ _ _ _ (search rules) (sym c.is_ascii_digit.ensures.value ∙ c.if-not-is_ascii_digit.false) ∙ amount_over _ _ _ _ (omega arith))

pub loop-x-preserved : goal.loop-x-preserved
loop-x-preserved c =
    let l = c.loop-x in
    let a = c.args in
    let digit : get_or a.s.now l.x-index 0 - 48 ≡ c.from.result = omega arith in (
      search rules,
      omega arith,
      l.invariant.2 ∙ amount_digit _ _ _ _ (search rules) (sym c.is_ascii_digit.ensures.value ∙ c.if-not-is_ascii_digit.false)
          ∙ ap (λ k. amount_at a.limit (l.sum * 10 + k) a.s.now (l.x-index + 1)) digit,
    )

pub returns : goal.returns
returns c =
    let l = c.loop-x in
    sym (l.invariant.2 ∙ amount_end _ _ _ _ (search rules) l.invariant.1)
