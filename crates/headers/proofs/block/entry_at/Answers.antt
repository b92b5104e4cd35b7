-- entry_at meets its contract: at each refusal one part of a whole record is missing.
use mathlib.Core.Path.{◌≡◌, sym, ◌∙◌, ap, ap₂}
use mathlib.Core.List.{List, [], ◌∷◌}
use Prim.Native.Nat.{ℕ, ◌+◌, ◌≤◌, ◌<◌}
use native.Mathlib.Omega.{arith}
use lib.ListN.{length, drop, get_or, length-drop, drop_of_length-le}
use lib.Seq.{get_or-drop}
use Rattle.headers.specs.Block.{two_at, at_record}
use Rattle.headers.specs.Answers.{accepted, refused, entry_answer}
use Rattle.headers.proofs.Rows.{refuted}
use Rattle.headers.proofs.Blocks.{Whole, at_whole, whole_at, two_drop, entry_end, entry_found, entry_malformed}
use Rattle.headers.proofs.block.entry_at.Goals as goal

-- what stands at place at, said of the whole block
module _ (block : List ℕ) (at : ℕ) where
  first_at : get_or (drop at block) 0 0 ≡ get_or block at 0
  first_at = get_or-drop at block 0 0 ∙ ap (λ k. get_or block k 0) (let e : at + 0 ≡ at = omega arith in e)

  -- a part of a record is missing
  refused_at : at < length block → (Whole (drop at block) → ⊥) → refused 22 ≡ entry_answer (drop at block)
  refused_at h none_there =
      let long = length-drop at block in
      sym (entry_malformed (drop at block) (λ e. omega (arith, ap length e)) (refuted (at_record (drop at block)) (λ t. none_there (at_whole (drop at block) t))))

  -- all its parts are there
  found_at : (n v : ℕ) → get_or block at 0 ≡ 72 → get_or block (at + 1) 0 ≡ 68 → n ≡ two_at block (at + 2) → v ≡ two_at block (at + 4) → at + 6 + n + v ≤ length block
      → accepted (n ∷ v ∷ []) ≡ entry_answer (drop at block)
  found_at n v one two en ev fits =
      let name = en ∙ sym (two_drop block at 2) in
      let value = ev ∙ sym (two_drop block at 4) in
      let w : Whole (drop at block) = record { head = simp length-drop (omega arith); first = first_at ∙ one; second = get_or-drop at block 1 0 ∙ two; fits = simp length-drop (omega arith) } in
      ap₂ (λ x y. accepted (x ∷ y ∷ [])) name value ∙ sym (entry_found (drop at block) (whole_at (drop at block) w))

pub returns-then-block-at : goal.returns-then-block-at
returns-then-block-at c =
    let a = c.args in
    sym (entry_end (drop a.at a.block.now) (drop_of_length-le a.block.now c.if-block-at.true))

pub returns-then-left-lt6 : goal.returns-then-left-lt6
returns-then-left-lt6 c =
    let a = c.args in
    refused_at a.block.now a.at (omega arith) (λ w. omega (arith, w.head, length-drop a.at a.block.now))

pub returns-then-block-at-ne72 : goal.returns-then-block-at-ne72
returns-then-block-at-ne72 c =
    let a = c.args in
    refused_at a.block.now a.at (omega arith) (λ w. c.if-block-at-ne72.true (sym (first_at a.block.now a.at) ∙ w.first))

pub returns-then-block-at-ne68 : goal.returns-then-block-at-ne68
returns-then-block-at-ne68 c =
    let a = c.args in
    refused_at a.block.now a.at (omega arith) (λ w. c.if-block-at-ne68.true (sym (get_or-drop a.at a.block.now 1 0) ∙ w.second))

pub returns-then-left-name : goal.returns-then-left-name
returns-then-left-name c =
    let a = c.args in
    refused_at a.block.now a.at (omega arith)
    (λ w. omega (arith, w.fits, length-drop a.at a.block.now, two_drop a.block.now a.at 2, two_drop a.block.now a.at 4))

pub returns : goal.returns
returns c =
    let n = c.length_at-name in
    let v = c.length_at-value in
    let a = c.args in
    found_at a.block.now a.at n.result v.result c.if-block-at-ne72.false c.if-block-at-ne68.false n.ensures.0 v.ensures.0 (omega arith)
