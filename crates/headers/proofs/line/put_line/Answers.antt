-- `line::put_line` meets its contract: the name, the colon, the value and the line end, each behind what is written.
use mathlib.Core.Path.{refl}
use mathlib.Core.List.{List, [], ◌∷◌, ◌++◌}
use Prim.Native.Nat.{ℕ, ◌+◌, ◌-◌}
use borrow.Rule.Slice.PartMut.{put_mid}
use native.Mathlib.Omega.{arith}
use lib.ListN.{length, set}
use Rattle.headers.specs.Escapes.{encode}
use Rattle.headers.specs.Lines.{entry_of, written_line}
use Rattle.headers.proofs.Put.{Partly, partly_first, partly_inside, partly_done, partly_fits, partly_put, partly_here, partly_store}
use Rattle.headers.proofs.line.put_line.Goals as goal
use Rattle.headers.proofs.line.put_line.Goals.{After-put_encoded-n, After-put_encoded-v}

-- the line, its value, and where it is put
abbrev whole_1 : (c : After-put_encoded-n) → List ℕ
whole_1 c = let a = c.args in written_line a.style (entry_of a.name.now a.value.now)

abbrev value_1 : (c : After-put_encoded-n) → List ℕ
value_1 c = let a = c.args in encode a.style a.value.now

-- what it holds after the name, and after the colon
named_1 : (c : After-put_encoded-n) → Partly (whole_1 c) (58 ∷ (value_1 c ++ (10 ∷ []))) c.args.d.now c.put_encoded-n.new.d c.put_encoded-n.result
named_1 c =
    partly_first (whole_1 c) (encode c.args.style c.args.name.now) (58 ∷ (value_1 c ++ (10 ∷ []))) c.args.d.now c.put_encoded-n.new.d c.put_encoded-n.result c.requires refl c.put_encoded-n.ensures.0 c.put_encoded-n.ensures.1

pub bounds-d-n : goal.bounds-d-n
bounds-d-n c = partly_here (named_1 (goal.at.bounds-d-n c).After-put_encoded-n) 58 (value_1 (goal.at.bounds-d-n c).After-put_encoded-n ++ (10 ∷ [])) refl

abbrev from_1 : (c : After-put_encoded-n) → ℕ
from_1 c = c.put_encoded-n.result + 1

parted_1 : (c : After-put_encoded-n) → Partly (whole_1 c) (value_1 c ++ (10 ∷ [])) c.args.d.now ((set c.put_encoded-n.new.d c.put_encoded-n.result 58)) (from_1 c)
parted_1 c = partly_store (named_1 c) 58 (value_1 c ++ (10 ∷ [])) refl

pub overflow_add-from : goal.overflow_add-from
overflow_add-from c = omega (arith, partly_inside (parted_1 (goal.at.overflow_add-from c).After-put_encoded-n), (parted_1 (goal.at.overflow_add-from c).After-put_encoded-n).as_long)

pub slice_bounds-put_encoded-count : goal.slice_bounds-put_encoded-count
slice_bounds-put_encoded-count c = partly_inside (parted_1 (goal.at.slice_bounds-put_encoded-count c).After-put_encoded-n)

pub slice_bounds-put_encoded-start : goal.slice_bounds-put_encoded-start
slice_bounds-put_encoded-start c = partly_inside (parted_1 (goal.at.slice_bounds-put_encoded-start c).After-put_encoded-n)

pub put_encoded-v-requires : goal.put_encoded-v-requires
put_encoded-v-requires c = partly_fits (parted_1 (goal.at.put_encoded-v-requires c).After-put_encoded-n) (value_1 (goal.at.put_encoded-v-requires c).After-put_encoded-n) (10 ∷ []) refl

-- the line, its value, and where it is put
abbrev whole_2 : (c : After-put_encoded-v) → List ℕ
whole_2 c = let a = c.args in written_line a.style (entry_of a.name.now a.value.now)

abbrev from_2 : (c : After-put_encoded-v) → ℕ
from_2 c = c.put_encoded-n.result + 1

abbrev value_2 : (c : After-put_encoded-v) → List ℕ
value_2 c = let a = c.args in encode a.style a.value.now

-- what it holds after the name, and after the colon
named_2 : (c : After-put_encoded-v) → Partly (whole_2 c) (58 ∷ (value_2 c ++ (10 ∷ []))) c.args.d.now c.put_encoded-n.new.d c.put_encoded-n.result
named_2 c =
    partly_first (whole_2 c) (encode c.args.style c.args.name.now) (58 ∷ (value_2 c ++ (10 ∷ []))) c.args.d.now c.put_encoded-n.new.d c.put_encoded-n.result c.requires refl c.put_encoded-n.ensures.0 c.put_encoded-n.ensures.1

parted_2 : (c : After-put_encoded-v) → Partly (whole_2 c) (value_2 c ++ (10 ∷ [])) c.args.d.now ((set c.put_encoded-n.new.d c.put_encoded-n.result 58)) (from_2 c)
parted_2 c = partly_store (named_2 c) 58 (value_2 c ++ (10 ∷ [])) refl

valued : (c : After-put_encoded-v) → Partly (whole_2 c) (10 ∷ []) c.args.d.now ((put_mid (from_2 c) (length ((set c.put_encoded-n.new.d c.put_encoded-n.result 58)) - from_2 c) ((set c.put_encoded-n.new.d c.put_encoded-n.result 58)) c.put_encoded-v.new.d)) (from_2 c + c.put_encoded-v.result)
valued c = let q = c.put_encoded-v in partly_put (parted_2 c) (value_2 c) (10 ∷ []) refl q.result q.new.d q.ensures.0 q.ensures.1

pub overflow_add-end : goal.overflow_add-end
overflow_add-end c = omega (arith, partly_inside (valued (goal.at.overflow_add-end c).After-put_encoded-v), (valued (goal.at.overflow_add-end c).After-put_encoded-v).as_long)

pub bounds-d-end : goal.bounds-d-end
bounds-d-end c = partly_here (valued (goal.at.bounds-d-end c).After-put_encoded-v) 10 [] refl

ended : (c : After-put_encoded-v) → Partly (whole_2 c) [] c.args.d.now (set ((put_mid (from_2 c) (length ((set c.put_encoded-n.new.d c.put_encoded-n.result 58)) - from_2 c) ((set c.put_encoded-n.new.d c.put_encoded-n.result 58)) c.put_encoded-v.new.d)) (from_2 c + c.put_encoded-v.result) 10) (from_2 c + c.put_encoded-v.result + 1)
ended c = partly_store (valued c) 10 [] refl

pub overflow_add-result : goal.overflow_add-result
overflow_add-result c = omega (arith, partly_inside (ended (goal.at.overflow_add-result c).After-put_encoded-v), (ended (goal.at.overflow_add-result c).After-put_encoded-v).as_long)

pub shape_of-d : goal.shape_of-d
shape_of-d c = (ended (goal.at.shape_of-d c).After-put_encoded-v).as_long

pub returns : goal.returns
returns c = partly_done (ended (goal.at.returns c).After-put_encoded-v) refl
