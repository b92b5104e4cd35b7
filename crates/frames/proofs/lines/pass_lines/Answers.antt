-- `lines::pass_lines` meets its contract: each line leads on, name, value and octet 10.
use mathlib.Core.Path.{◌≡◌, sym, subst}
use Prim.Native.Nat.{◌+◌, ◌-◌, ◌≤◌, ◌<◌}
use native.Mathlib.Omega.{arith}
use lib.ListN.{length}
use Rattle.frames.specs.Scanning.{Passed}
use Rattle.frames.specs.WholeLines.{line_at}
use Rattle.frames.proofs.Passing.{passed_none}
use Rattle.frames.proofs.WholeLines.{line_begins, then_begun, then_value, then_end}
use Rattle.frames.proofs.lines.pass_lines.Goals as goal
use Rattle.frames.proofs.lines.pass_lines.Goals.{After-value_text-k, In-Some, Else-not-is_10_at}

pub loop-i-init : goal.loop-i-init
loop-i-init c =
    let st = c.args.st.scan in
    let none : 0 ≡ c.args.from - c.args.from = omega arith in
    let p = (passed_none {s = c.args.s.now} {i = c.args.from} {st = st} c.requires.0 c.args.st.valid).0 in (
      omega arith,
      c.requires.0,
      subst (λ k. Passed c.args.s.now c.args.from st (line_at st st.lines st.len k)) none
          (subst (Passed c.args.s.now c.args.from st) (sym (line_begins st c.args.st.valid c.requires.1)) p),
    )

-- where the value goes on
begun_on_2 : (c : After-value_text-k) → let a = c.args in let l = c.loop-i in let m = c.in-Some.m in
    (l.len ≤ m) × (m ≤ 512) × (l.i + (m - l.len) ≤ length a.s.now)
    × Passed a.s.now a.from a.st.scan (line_at a.st.scan l.lines m (l.i + (m - l.len) - a.from))
begun_on_2 c =
    let l = c.loop-i.invariant in
    then_begun l.0 c.style-style.ensures l.1 l.2 c.in-Some.ensures.1 (λ e. omega (arith, c.in-Some.ensures.0, e))

-- where the text ends
value_on_1 : (c : After-value_text-k) → let a = c.args in
    let m = c.in-Some.m in let end = c.loop-i.i + (m - c.loop-i.len) + c.value_text-k.result in
    (a.from ≤ end) × (end ≤ length a.s.now)
    × Passed a.s.now a.from a.st.scan (line_at a.st.scan c.loop-i.lines (m + c.value_text-k.result) (end - a.from))
value_on_1 c =
    let b = begun_on_2 c in
    let past : c.args.from ≤ c.loop-i.i + (c.in-Some.m - c.loop-i.len) = omega (arith, c.loop-i.invariant.0) in
    let u = c.upto-e in
    let k = c.value_text-k in
    let (inside, p) = then_value past u.result k.result c.style-style.ensures b.3 (λ e. omega (arith, c.in-Some.ensures.0, e)) u.ensures.0 u.ensures.1 b.1
    (omega arith) k.ensures.0 k.ensures.1 in
    (omega (arith, past), inside, p)

pub line_at-requires-then-not-is_10_at : goal.line_at-requires-then-not-is_10_at
line_at-requires-then-not-is_10_at c = (value_on_1 (goal.at.line_at-requires-then-not-is_10_at c).After-value_text-k).2.kept

pub returns-then-not-is_10_at : goal.returns-then-not-is_10_at
returns-then-not-is_10_at c =
    let a = c.args in
    subst (Passed a.s.now a.from a.st.scan) (sym c.line_at-then-not-is_10_at.ensures) (value_on_1 (goal.at.returns-then-not-is_10_at c).After-value_text-k).2

-- where the value goes on
begun_on_3 : (c : Else-not-is_10_at) → let a = c.args in let l = c.loop-i in let m = c.in-Some.m in
    (l.len ≤ m) × (m ≤ 512) × (l.i + (m - l.len) ≤ length a.s.now)
    × Passed a.s.now a.from a.st.scan (line_at a.st.scan l.lines m (l.i + (m - l.len) - a.from))
begun_on_3 c =
    let l = c.loop-i.invariant in
    then_begun l.0 c.style-style.ensures l.1 l.2 c.in-Some.ensures.1 (λ e. omega (arith, c.in-Some.ensures.0, e))

-- where the text ends
value_on_2 : (c : Else-not-is_10_at) → let a = c.args in
    let m = c.in-Some.m in let end = c.loop-i.i + (m - c.loop-i.len) + c.value_text-k.result in
    (a.from ≤ end) × (end ≤ length a.s.now)
    × Passed a.s.now a.from a.st.scan (line_at a.st.scan c.loop-i.lines (m + c.value_text-k.result) (end - a.from))
value_on_2 c =
    let b = begun_on_3 c in
    let past : c.args.from ≤ c.loop-i.i + (c.in-Some.m - c.loop-i.len) = omega (arith, c.loop-i.invariant.0) in
    let u = c.upto-e in
    let k = c.value_text-k in
    let (inside, p) = then_value past u.result k.result c.style-style.ensures b.3 (λ e. omega (arith, c.in-Some.ensures.0, e)) u.ensures.0 u.ensures.1 b.1
    (omega arith) k.ensures.0 k.ensures.1 in
    (omega (arith, past), inside, p)

-- octet 10 ends the line
end_on : (c : Else-not-is_10_at) → let a = c.args in let end = c.loop-i.i + (c.in-Some.m - c.loop-i.len) + c.value_text-k.result in
    (end < length a.s.now) × Passed a.s.now a.from a.st.scan (line_at a.st.scan (c.loop-i.lines + 1) 0 (end + 1 - a.from))
end_on c =
    let v = value_on_2 c in
    let (inside, ten) = c.is_10_at.ensures (c.if-not-is_10_at.false) in
    (inside, then_end v.0 v.2 (λ z. absurd (omega (arith, c.in-Some.ensures.0))) inside ten)

pub loop-i-preserved : goal.loop-i-preserved
loop-i-preserved c = (omega (arith, (value_on_1 (goal.at.loop-i-preserved c).After-value_text-k).0), omega (arith, (end_on c).0), (end_on c).1)
