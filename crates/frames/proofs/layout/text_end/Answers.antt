-- `layout::text_end` meets its contract: the first stop of the search is the end, or a backslash, from which the search goes on.
use native.Mathlib.Omega.{arith}
use lib.ListN.{take, drop, get_or}
use mathlib.Core.Path.{◌≡◌, ◌∙◌}
use mathlib.Core.Logic.{◌⊎◌, inl, inr}
use Prim.Native.Nat.{◌+◌}
use Rattle.headers.specs.Stretches.{Stretch}
use Rattle.frames.specs.Layout.{stop_span}
use Rattle.frames.proofs.Decoding.{back_inside, back_stretch, back_more, back_past, back_none}
use Rattle.frames.proofs.layout.text_end.Goals as goal

pub overflow_add-stop : goal.overflow_add-stop
overflow_add-stop c = omega (arith, back_inside c.args.cr c.args.colon c.args.s.now c.args.i _ c.requires c.plain_span-known.ensures)

-- what is passed is the stretch of the text
passed_1 : (c : goal.Then-s-stop) → let a = c.args in
    let xs = drop a.i a.s.now in
    let n = a.i + c.plain_span-known.result in
    (n ≡ a.i + stop_span a.cr a.colon xs) ⊎ (get_or a.s.now n 0 ≡ 92) → Stretch (take (stop_span a.cr a.colon xs) xs) c.plain_span-known.result
passed_1 c = back_stretch c.args.cr c.args.colon c.args.s.now c.args.i _ c.requires c.plain_span-known.ensures

pub returns-then-s-stop : goal.returns-then-s-stop
returns-then-s-stop c =
    let a = c.args in
    let e = back_past a.cr a.colon a.s.now a.i _ c.requires c.plain_span-known.ensures c.if-s-stop.true in
    (e, back_inside a.cr a.colon a.s.now a.i _ c.requires c.plain_span-known.ensures, passed_1 c (inl e))

-- what is passed is the stretch of the text
passed_2 : (c : goal.After-stop_at) → let a = c.args in
    let xs = drop a.i a.s.now in
    let n = a.i + c.plain_span-known.result in
    (n ≡ a.i + stop_span a.cr a.colon xs) ⊎ (get_or a.s.now n 0 ≡ 92) → Stretch (take (stop_span a.cr a.colon xs) xs) c.plain_span-known.result
passed_2 c = back_stretch c.args.cr c.args.colon c.args.s.now c.args.i _ c.requires c.plain_span-known.ensures

pub returns-then-s-stop-eq92 : goal.returns-then-s-stop-eq92
returns-then-s-stop-eq92 c =
    let a = c.args in (
      c.stop_at.ensures.0
          ∙ back_more a.cr a.colon a.s.now a.i _ c.requires c.plain_span-known.ensures,
      c.stop_at.ensures.1,
      passed_2 c (inr c.if-s-stop-eq92.true),
    )

-- what is passed is the stretch of the text
passed_3 : (c : goal.Else-s-stop-eq92) → let a = c.args in
    let xs = drop a.i a.s.now in
    let n = a.i + c.plain_span-known.result in
    (n ≡ a.i + stop_span a.cr a.colon xs) ⊎ (get_or a.s.now n 0 ≡ 92) → Stretch (take (stop_span a.cr a.colon xs) xs) c.plain_span-known.result
passed_3 c = back_stretch c.args.cr c.args.colon c.args.s.now c.args.i _ c.requires c.plain_span-known.ensures

pub returns : goal.returns
returns c =
    let a = c.args in
    let e = back_none a.cr a.colon a.s.now a.i _ c.requires c.plain_span-known.ensures c.if-s-stop.false c.if-s-stop-eq92.false in
    (e, back_inside a.cr a.colon a.s.now a.i _ c.requires c.plain_span-known.ensures, passed_3 c (inl e))
