-- `ahead::value_text` meets its contract: a plain stretch, then characters with a plain stretch after them, is text.
use Prim.Native.Nat.{◌≤◌, ◌-◌, ◌+◌}
use native.Mathlib.Omega.{arith}
use lib.ListN.{length}
use Rattle.headers.specs.declared.text.Field.TheVariants.{Value as in_value}
use Rattle.headers.specs.Stretches.{plain_in}
use Rattle.headers.proofs.Stretches.{span_part, part_long, span_le}
use Rattle.frames.proofs.Gliding.{front_text, text_more}
use Rattle.frames.proofs.ahead.value_text.Goals as goal

pub loop-j-init : goal.loop-j-init
loop-j-init c =
    let a = c.args in (
      omega (arith, c.text_span-j.ensures, span_le (plain_in c.text_stops-stops.result) a.s.now),
      front_text a.style in_value c.text_stops-stops.ensures a.s.now c.text_span-j.result c.text_span-j.ensures,
    )

-- the characters after the stretch end where it may
beyond_2 : (c : goal.After-text_span) → c.beyond_plain-k.result ≤ length c.args.s.now - c.loop-j.j
beyond_2 c =
    let s = c.args.s.now in
    let l = c.loop-j in
    omega (arith, c.beyond_plain-k.ensures.0, part_long s l.j (length s) l.invariant.0 (omega arith))

-- and so does the next stretch
next_part : (c : goal.After-text_span) → c.loop-j.j + c.beyond_plain-k.result + c.text_span.result ≤ length c.args.s.now
next_part c =
    span_part _ _ _ _ _ (omega (arith, beyond_2 c, c.loop-j.invariant.0)) (omega arith) c.text_span.ensures

pub overflow_add-j : goal.overflow_add-j
overflow_add-j c = omega (arith, next_part c)

pub loop-j-preserved : goal.loop-j-preserved
loop-j-preserved c =
    let a = c.args in
    let l = c.loop-j in
    let k = c.beyond_plain-k in (
      next_part c,
      text_more a.style in_value c.text_stops-stops.ensures a.s.now l.j k.result c.text_span.result
          (beyond_2 c) l.invariant.1 k.ensures.1 c.text_span.ensures,
    )
