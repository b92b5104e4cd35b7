-- `record::Raw::length` meets its contract: the octets that are known, and the others decoded.
use mathlib.Core.Path.{◌≡◌, sym, ap, ◌∙◌}
use Prim.Native.Nat.{◌+◌, ◌-◌}
use native.Mathlib.Omega.{arith}
use lib.ListN.{length, drop, length-drop}
use lib.Seq.{length-take-le, take_all}
use Rattle.headers.specs.Escapes.{decode}
use Rattle.headers.specs.Stretches.{kept}
use Rattle.headers.proofs.Coding.{kept_all, kept_long, kept_short}
use Rattle.headers.proofs.record.Raw.length.Goals as goal

pub returns-then-self : goal.returns-then-self
returns-then-self c = let a = c.args in sym (ap length (kept_all a.self.style a.self.known a.self.text.now c.if-self.true))

summed : (c : goal.After-decoded_length) → let a = c.args in a.self.known + c.decoded_length.result ≡ length (kept a.self.known a.self.style a.self.text.now)
summed c =
    let a = c.args in
    let h = c.if-self.false in
    let rest : c.decoded_length.result ≡ length (decode a.self.style (drop a.self.known a.self.text.now)) =
    c.decoded_length.ensures ∙ ap (λ z. length (decode a.self.style z)) (take_all (length a.self.text.now - a.self.known) (drop a.self.known a.self.text.now) (omega (arith, length-drop a.self.known a.self.text.now))) in
    omega (arith, rest, kept_long a.self.style a.self.known a.self.text.now, length-take-le a.self.known a.self.text.now (omega (arith, h)))

pub overflow_add-result : goal.overflow_add-result
overflow_add-result c = let a = c.args in omega (arith, summed c, kept_short a.self.style a.self.known a.self.text.now)

pub returns : goal.returns
returns c = summed c
