-- `line::larger` meets its contract: the larger is below 128 where both are.
use mathlib.Core.Path.{◌≡◌, refl, sym}
use mathlib.Core.Bool.{Bool, true, false, ◌&&◌}
use Prim.Native.Nat.{ℕ, ◌≤◌, ◌<◌, max}
use native.Mathlib.Omega.{arith}
use lib.Dec.{ltb}
use borrow.Author.Tests.{lt-ltb, ltb-true, ltb-false}
use Rattle.headers.proofs.Rows.{and_no}
use Rattle.headers.proofs.line.larger.Goals as goal

above : (a b : ℕ) → a < b → ltb b 128 ≡ ltb a 128 && ltb b 128
above a b h = by (ltb b 128) refl
  where
    by : (t : Bool) → ltb b 128 ≡ t → ltb b 128 ≡ ltb a 128 && ltb b 128
    by true q = let l = ltb-true b 128 q in rw (q, lt-ltb a 128 (omega arith))
    by false q = rw q (sym (and_no (ltb a 128)))

below : (a b : ℕ) → b ≤ a → ltb a 128 ≡ ltb a 128 && ltb b 128
below a b h = by (ltb a 128) refl
  where
    by : (t : Bool) → ltb a 128 ≡ t → ltb a 128 ≡ ltb a 128 && ltb b 128
    by true q = let l = ltb-true a 128 q in rw (q, lt-ltb b 128 (omega arith))
    by false q = rw q

of_max : (a b : ℕ) → ltb (max a b) 128 ≡ ltb a 128 && ltb b 128
of_max a b = by (ltb a b) refl
  where
    by : (t : Bool) → ltb a b ≡ t → ltb (max a b) 128 ≡ ltb a 128 && ltb b 128
    by true q =
        let h = ltb-true a b q in
        let e : max a b ≡ b = omega arith in
        rw e (above a b h)
    by false q =
        let h = ltb-false a b q in
        let e : max a b ≡ a = omega arith in
        rw e (below a b h)

pub returns : goal.returns
returns c = rw c.max.ensures (of_max c.args.a c.args.b)
