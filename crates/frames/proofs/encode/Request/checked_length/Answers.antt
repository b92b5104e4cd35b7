-- `encode::Request::checked_length` meets its contract: each refusal in its order, from what the entries come to.
use mathlib.Core.Path.{◌≡◌, refl, sym, ◌∙◌}
use mathlib.Core.Bool.{Bool, true, false, cond}
use Prim.Native.Nat.{ℕ, ◌+◌, ◌≤◌, ◌<◌}
use native.Mathlib.Omega.{arith}
use mir.Val.{bool_byte}
use lib.ListN.{length}
use Rattle.frames.specs.Scanning.{most_of}
use Rattle.frames.proofs.Settled.{all_few, checks_52, checks_53, checks_54, checks_55, checks_56, checked}
use Rattle.frames.proofs.encode.Request.checked_length.Goals as goal
use Rattle.frames.proofs.encode.Request.checked_length.Goals.{Else-sums-from-gt-LINES, Else-most_of-self}

bit : (b : Bool) → bool_byte b ≡ cond b 1 0
bit = elim [ true ↦ refl | false ↦ refl ]

pub returns-then-sums-from-gt-LINES : goal.returns-then-sums-from-gt-LINES
returns-then-sums-from-gt-LINES c =
    let a = c.args in
    let h : 32 < a.sums.count + cond a.adds 1 0 = omega (arith, c.from.ensures, bit a.adds, c.if-sums-from-gt-LINES.true) in
    (checks_52 c.requires a.room h, λ n e. absurd (let z : ◌≡◌ {A = ℕ} 0 1 = cc in omega arith))

few : (c : Else-sums-from-gt-LINES) → c.args.sums.count + cond c.args.adds 1 0 ≤ 32
few c = omega (arith, c.from.ensures, bit c.args.adds, c.if-sums-from-gt-LINES.false)

pub returns-then-sums : goal.returns-then-sums
returns-then-sums c =
    let lines = few (goal.at.returns-then-sums c).Else-sums-from-gt-LINES in
    (checks_53 c.requires c.args.room lines c.if-sums.true, λ n e. absurd (let z : ◌≡◌ {A = ℕ} 0 1 = cc in omega arith))

pub returns-then-most_of-self : goal.returns-then-most_of-self
returns-then-most_of-self c =
    let lines = few (goal.at.returns-then-most_of-self c).Else-sums-from-gt-LINES in
    let q = c.args.self.now in
    let long : most_of q.command < length q.body.now = omega (arith, c.most_of.ensures, c.if-most_of-self.true) in
    (checks_54 c.requires c.args.room lines c.if-sums.false long, λ n e. absurd (let z : ◌≡◌ {A = ℕ} 0 1 = cc in omega arith))

fits : (c : Else-most_of-self) → length c.args.self.now.body.now ≤ most_of c.args.self.now.command
fits c = omega (arith, c.most_of.ensures, c.if-most_of-self.false)

pub returns-then-not-says_body : goal.returns-then-not-says_body
returns-then-not-says_body c =
    let at = goal.at.returns-then-not-says_body c in (
      checks_55 c.requires c.args.room (few at.Else-sums-from-gt-LINES) c.if-sums.false (fits at.Else-most_of-self) (sym c.says_body.ensures ∙ c.if-not-says_body.true),
      λ n e. absurd (let z : ◌≡◌ {A = ℕ} 0 1 = cc in omega arith),
    )

pub returns-then-room-total : goal.returns-then-room-total
returns-then-room-total c =
    let at = goal.at.returns-then-room-total c in (
      checks_56 c.requires c.args.room (few at.Else-sums-from-gt-LINES) c.if-sums.false (fits at.Else-most_of-self) (sym c.says_body.ensures ∙ c.if-not-says_body.false) _ c.image_length-total.ensures c.if-room-total.true,
      λ n e. absurd (let z : ◌≡◌ {A = ℕ} 0 1 = cc in omega arith),
    )

pub returns : goal.returns
returns c =
    let at = goal.at.returns c in
    let lines = few at.Else-sums-from-gt-LINES in (
      checked c.requires c.args.room lines c.if-sums.false (fits at.Else-most_of-self) (sym c.says_body.ensures ∙ c.if-not-says_body.false) _ c.image_length-total.ensures c.if-room-total.false,
      λ n e. (all_few c.requires c.args.room lines, c.if-sums.false),
    )
