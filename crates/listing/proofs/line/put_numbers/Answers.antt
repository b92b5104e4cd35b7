-- `line::put_numbers` meets its contract: what is written and what is left to write make the whole.
use mathlib.Core.Path.{◌≡◌, sym, ap, ◌∙◌}
use mathlib.Core.List.{[], ◌∷◌, ◌++◌}
use Prim.Native.Nat.{◌+◌, ◌≤◌, ◌-◌}
use native.Mathlib.Omega.{arith}
use lib.ListN.{length, drop, get_or, length-append}
use borrow.Rule.Slice.PartMut.{mid_of}
use Rattle.headers.specs.Numbers.{shortest}
use Rattle.listing.specs.Lines.{numbers, behind_at}
use Rattle.headers.proofs.Put.{put_length, put_more, put_kept, put_whole_done}
use Rattle.listing.proofs.Rows.{numbers_step, numbers_end}
use Rattle.listing.proofs.line.put_numbers.Goals as goal

pub loop-i-preserved : goal.loop-i-preserved
loop-i-preserved c =
    let l = c.loop-i in
    let ns = c.args.ns.now in
    let p = c.put_number-at in
    let t = c.loop-i-test.true in
    let R = shortest (get_or ns l.i 0) ++ (behind_at l.i (length ns) ∷ []) in
    let step = numbers_step ns l.i t in
    let same = c.behind_at-behind.ensures in
    let long : length R ≡ p.result = ap (λ b. length (shortest (get_or ns l.i 0) ++ (b ∷ []))) (sym same) ∙ sym p.ensures.0 in
    let left : p.new.d ≡ R ++ drop p.result (mid_of l.at (length l.d - l.at) l.d) =
    p.ensures.2 ∙ ap (λ b. (shortest (get_or ns l.i 0) ++ (b ∷ [])) ++ drop p.result (mid_of l.at (length l.d - l.at) l.d)) same in
    let room : l.at + p.result ≤ length l.d = omega (arith, l.invariant.0, l.invariant.2, t, c.requires, p.ensures.1) in (
      put_length l.at p.result l.d _ R long room left ∙ l.invariant.0,
      omega arith,
      omega (arith, l.invariant.2, p.ensures.1),
      omega (arith, simp length-append at (ap length step), length-append (shortest (get_or ns l.i 0)) (behind_at l.i (length ns) ∷ []), long, l.invariant.3),
      put_more l.at p.result l.d _ R long room left _ _ l.invariant.4 step,
      put_kept l.at p.result l.d _ R long room left _ l.invariant.5,
    )

pub returns : goal.returns
returns c =
    let l = c.loop-i in
    let a = c.args in
    let done = put_whole_done l.at l.d a.d.now _ _ l.invariant.4 l.invariant.3 (numbers_end a.ns.now l.i c.loop-i-test.false) l.invariant.5 in
    (done.0, omega (arith, l.invariant.2, l.invariant.1), done.1 ∙ ap (λ z. numbers a.ns.now ++ drop z a.d.now) (sym done.0))
