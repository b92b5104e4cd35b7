-- `line::put_plain_line` meets its contract: the name, the colon, the value and the line end, each after what is written.
use mathlib.Core.Path.{refl}
use mathlib.Core.List.{[], ◌∷◌, ◌++◌}
use Prim.Native.Nat.{◌+◌, ◌≤◌}
use native.Mathlib.Omega.{arith}
use lib.ListN.{length, set, length-append}
use Rattle.headers.specs.Stretches.{plain_line}
use Rattle.headers.proofs.Put.{Partly, partly_done, partly_here, partly_store}
use Rattle.headers.proofs.Copying.{partly_copy, partly_copied}
use Rattle.headers.proofs.line.put_plain_line.Goals as goal

-- what it holds after the name, and after the colon
named_1 : (c : goal.After-slice_known-2-1) → Partly ((plain_line c.args.name.now c.args.value.now)) (58 ∷ (c.args.value.now ++ (10 ∷ []))) c.args.d.now c.copy.new.d (length c.args.name.now)
named_1 c =
    let long : length ((plain_line c.args.name.now c.args.value.now)) ≤ length c.args.d.now = simp length-append (omega (arith, c.requires)) in
    partly_copied ((plain_line c.args.name.now c.args.value.now)) c.args.name.now (58 ∷ (c.args.value.now ++ (10 ∷ []))) c.args.d.now c.copy.new.d long refl c.copy.ensures

pub bounds-d-n : goal.bounds-d-n
bounds-d-n c = partly_here (named_1 c) 58 _ refl

-- what it holds after the name, and after the colon
named_2 : (c : goal.After-slice_known-3-1) → Partly ((plain_line c.args.name.now c.args.value.now)) (58 ∷ (c.args.value.now ++ (10 ∷ []))) c.args.d.now c.copy.new.d (length c.args.name.now)
named_2 c =
    let long : length ((plain_line c.args.name.now c.args.value.now)) ≤ length c.args.d.now = simp length-append (omega (arith, c.requires)) in
    partly_copied ((plain_line c.args.name.now c.args.value.now)) c.args.name.now (58 ∷ (c.args.value.now ++ (10 ∷ []))) c.args.d.now c.copy.new.d long refl c.copy.ensures

parted : (c : goal.After-slice_known-3-1) → Partly ((plain_line c.args.name.now c.args.value.now)) (c.args.value.now ++ (10 ∷ [])) c.args.d.now (set c.copy.new.d (length c.args.name.now) 58) (length c.args.name.now + 1)
parted c = partly_store (named_2 c) 58 (c.args.value.now ++ (10 ∷ [])) refl

valued : (c : goal.After-slice_known-3-1) → Partly ((plain_line c.args.name.now c.args.value.now)) (10 ∷ []) c.args.d.now c.copy-2.new.d (length c.args.name.now + 1 + length c.args.value.now)
valued c = partly_copy (parted c) c.args.value.now (10 ∷ []) c.copy-2.new.d (length c.args.value.now) refl refl c.copy-2.ensures

pub bounds-d-end : goal.bounds-d-end
bounds-d-end c = partly_here (valued c) 10 [] refl

ended : (c : goal.After-slice_known-3-1) → Partly ((plain_line c.args.name.now c.args.value.now)) [] c.args.d.now (set c.copy-2.new.d (length c.args.name.now + 1 + length c.args.value.now) 10) (length c.args.name.now + 1 + length c.args.value.now + 1)
ended c = partly_store (valued c) 10 [] refl

pub shape_of-d : goal.shape_of-d
shape_of-d c = (ended c).as_long

pub returns : goal.returns
returns c = partly_done (ended c) refl
