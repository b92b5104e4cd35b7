-- `encode::sum` meets its contract. At place at the entries from there on are left, and the sums are those of the entries before.
use mathlib.Core.Path.{◌≡◌, refl, sym, ◌∙◌, ap, subst}
use mathlib.Core.Bool.{false}
use mathlib.Core.List.{List, ◌∷◌}
use Prim.Native.Nat.{ℕ, ◌+◌, ◌-◌}
use native.Mathlib.Omega.{arith}
use lib.ListN.{take, drop}
use Rattle.std.specs.Prelude.{Result, Ok, Err}
use Rattle.headers.specs.Block.{Entry, entries, listed}
use Rattle.headers.specs.Lines.{can_write}
use Rattle.headers.specs.Answers.{length_says, length_answer}
use Rattle.headers.specs.declared.line.Unwritable.{Unwritable}
use Rattle.headers.proofs.Blocks.{Placed, placed, place_behind, told_entry, is_block_next}
use Rattle.headers.proofs.Settling.{length_refused, length_accepted, divided}
use Rattle.frames.proofs.Writing.{listed_next, listed_end, divided_at}
use Rattle.frames.proofs.Sums.{Summing, sum_line, sum_none, sum_end}
use Rattle.frames.proofs.encode.sum.Goals as goal
use Rattle.frames.proofs.encode.sum.Goals.{In-Ok-Some, then-good-count+in-Ok, then-good-count+in_default-entry_length, else-good-count}

pub returns-in_default : goal.returns-in_default
returns-in_default c = sum_end _ _ _ _ _ _ c.loop-count.invariant.2 (omega arith) (listed_end _ c.entry_at.result c.entry_at.ensures (λ l e. grind arith))

pub returns-in_default-2 : goal.returns-in_default-2
returns-in_default-2 c = sum_end _ _ _ _ _ _ c.loop-count.invariant.2 (omega arith) (listed_end _ c.entry_at.result c.entry_at.ensures (λ l e. grind arith))

here : (c : In-Ok-Some) → Placed c.args.block.now c.loop-count.at c.in-Ok-Some.l
here c = told_entry c.args.block.now c.loop-count.at c.entry_at.result c.in-Ok-Some.l c.entry_at.ensures (cc)

pub overflow_add-at : goal.overflow_add-at
overflow_add-at c = omega (arith, (here (goal.at.overflow_add-at c).In-Ok-Some).inside)

pub overflow_add-at-in-loop-count : goal.overflow_add-at-in-loop-count
overflow_add-at-in-loop-count c = omega (arith, (here (goal.at.overflow_add-at-in-loop-count c).In-Ok-Some).inside)

pub slice_bounds-entry_length-end : goal.slice_bounds-entry_length-end
slice_bounds-entry_length-end c = omega (arith, (here (goal.at.slice_bounds-entry_length-end c).In-Ok-Some).inside)

-- what is asked of its line
abbrev Asked : (c : In-Ok-Some) → Result ℕ Unwritable → Type 0
Asked c r =
    length_says r ≡ length_answer c.args.style
    (divided c.in-Ok-Some.l.name (take (place_behind c.loop-count.at c.in-Ok-Some.l - (c.loop-count.at + 6)) (drop (c.loop-count.at + 6) c.args.block.now)))

asked : (c : In-Ok-Some) (given r : Result ℕ Unwritable) → Asked c given → given ≡ r → length_says r ≡ length_answer c.args.style (placed c.args.block.now c.loop-count.at c.in-Ok-Some.l)
asked c given r e k = ap length_says (sym k) ∙ e ∙ ap (length_answer c.args.style) (divided_at c.args.block.now c.loop-count.at c.in-Ok-Some.l (here c))

-- the entries and the sums at that turn
abbrev Now : (c : In-Ok-Some) → List Entry → ℕ → ℕ → ℕ → Type 0
Now c left count good total = Summing c.args.style (listed (entries c.args.block.now)) left count good total

abbrev behind : (c : In-Ok-Some) → List Entry
behind c = listed (entries (drop (place_behind c.loop-count.at c.in-Ok-Some.l) c.args.block.now))

before_it : (c : In-Ok-Some) → Now c (placed c.args.block.now c.loop-count.at c.in-Ok-Some.l ∷ behind c) c.loop-count.count c.loop-count.good c.loop-count.total
before_it c =
    subst (λ left. Now c left c.loop-count.count c.loop-count.good c.loop-count.total)
    (listed_next c.args.block.now c.loop-count.at c.in-Ok-Some.l (here c) c.loop-count.invariant.1) c.loop-count.invariant.2

-- the sums behind it, where its line is written, and where it is not
longer : (c : In-Ok-Some) (given : Result ℕ Unwritable) (k : ℕ) → Asked c given → given ≡ Ok k → c.loop-count.good ≡ c.loop-count.count
    → Now c (behind c) (c.loop-count.count + 1) (c.loop-count.good + 1) (c.loop-count.total + k + 1)
longer c given k e q same =
    let d = placed c.args.block.now c.loop-count.at c.in-Ok-Some.l in
    let (can, long) = length_accepted c.args.style d k (asked c given (Ok k) e q) in
    sum_line c.args.style (listed (entries c.args.block.now)) d (behind c) _ _ _ (before_it c) k same can long

as_long : (c : In-Ok-Some) → (c.loop-count.good ≡ c.loop-count.count → can_write c.args.style (placed c.args.block.now c.loop-count.at c.in-Ok-Some.l) ≡ false)
    → Now c (behind c) (c.loop-count.count + 1) c.loop-count.good c.loop-count.total
as_long c = sum_none c.args.style (listed (entries c.args.block.now)) (placed c.args.block.now c.loop-count.at c.in-Ok-Some.l) (behind c) _ _ _ (before_it c)

-- a line that is not written
unwritten : (c : In-Ok-Some) (given : Result ℕ Unwritable) → Asked c given → ((k : ℕ) → given ≡ Ok k → ⊥) → can_write c.args.style (placed c.args.block.now c.loop-count.at c.in-Ok-Some.l) ≡ false
unwritten c given e other = by given refl
  where
    by : (r : Result ℕ Unwritable) → given ≡ r → can_write c.args.style (placed c.args.block.now c.loop-count.at c.in-Ok-Some.l) ≡ false
    by (Ok k) q = absurd (other k q)
    by (Err u) q = length_refused c.args.style (placed c.args.block.now c.loop-count.at c.in-Ok-Some.l) 53 (asked c given (Err u) e q)

pub overflow_add-total : goal.overflow_add-total
overflow_add-total c =
    let line = c.entry_length in
    let n = longer (goal.at.overflow_add-total c).In-Ok-Some line.result c.in-Ok.k line.ensures c.in-Ok.is c.if-good-count.true in
    omega (arith, c.loop-count.invariant.2.within, c.loop-count-test.true, n.small)

pub overflow_add-total-in-Ok : goal.overflow_add-total-in-Ok
overflow_add-total-in-Ok c =
    let line = c.entry_length in
    let n = longer (goal.at.overflow_add-total-in-Ok c).In-Ok-Some line.result c.in-Ok.k line.ensures c.in-Ok.is c.if-good-count.true in
    omega (arith, c.loop-count.invariant.2.within, c.loop-count-test.true, n.small)

pub loop-count-preserved : goal.loop-count-preserved
loop-count-preserved c =
    let at = (goal.at.loop-count-preserved c).In-Ok-Some in (
      (here at).inside,
      sym (is_block_next c.args.block.now c.loop-count.at c.in-Ok-Some.l (here at)) ∙ c.loop-count.invariant.1,
      elim c.if-good-count.branch [
        | then-good-count+in-Ok w ↦ rw (w.good-is, w.total-is) (longer at w.entry_length.result w.in-Ok.k w.entry_length.ensures w.in-Ok.is w.if-good-count.true)
        | then-good-count+in_default-entry_length w ↦ rw (w.good-is, w.total-is) (as_long at (λ same. unwritten at w.entry_length.result w.entry_length.ensures (λ k e. grind arith)))
        | else-good-count w ↦ rw (w.good-is, w.total-is) (as_long at (λ same. absurd (w.if-good-count.false same)))
      ],
    )
