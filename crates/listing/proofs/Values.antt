-- The first value of a name in a header block, from what looking it up answers: laws. Assumes nothing.
--     nothing_absent, nothing_malformed   where no entry has the name, and where the octets are no block
--     value_found                         where one has it: its octets lie in the block
use mathlib.Core.Path.{◌≡◌, refl, sym, ◌∙◌, ap}
use mathlib.Core.Bool.{true}
use mathlib.Core.Option.{Option, none, some}
use mathlib.Core.List.{List, []}
use Prim.Native.Nat.{ℕ, ◌+◌, ◌≤◌}
use lib.ListN.{take, drop, length}
use Rattle.std.specs.Prelude.{Option as Maybe, Some, None, Result, Ok, Err}
use Rattle.headers.specs.Rows.{every, is_octet}
use Rattle.headers.specs.Block.{Entry, entries, listed, first_value}
use Rattle.headers.specs.Answers.{found_says, find_answer, find_from}
use Rattle.headers.specs.declared.block.FirstValue.{FirstValue}
use Rattle.headers.specs.declared.block.Malformed.{Malformed}
use Rattle.headers.proofs.LaidOut.{entries_block}
use Rattle.headers.proofs.FirstValues.{find_absent, find_value, find_accepts}
use Rattle.listing.specs.Buffers.{value_or_nothing, first_value_in}

module _ (block name : List ℕ) (o : every is_octet block ≡ true) where
  pub nothing_absent : found_says (Ok None) ≡ find_answer block name → [] ≡ first_value_in block name
  unfolding find_answer
  nothing_absent q = by (entries block) refl q
    where
      by : (p : Option (List Entry)) → entries block ≡ p → found_says (Ok None) ≡ find_from name 0 p → [] ≡ value_or_nothing (first_value name (listed (entries block)))
      by none e w = ap (λ p. value_or_nothing (first_value name (listed p))) (sym e)
      by (some es) e w =
          ap value_or_nothing (sym (find_absent name block es (entries_block block es o e) (sym q)))
          ∙ ap (λ p. value_or_nothing (first_value name (listed p))) (sym e)

  pub nothing_malformed : (m : Malformed) → found_says (Err m) ≡ find_answer block name → [] ≡ first_value_in block name
  unfolding find_answer
  nothing_malformed m q = by (entries block) refl
    where
      by : (p : Option (List Entry)) → entries block ≡ p → [] ≡ value_or_nothing (first_value name (listed (entries block)))
      by none e = ap (λ p. value_or_nothing (first_value name (listed p))) (sym e)
      by (some es) e = absurd (find_accepts name block es (entries_block block es o e) 22 (sym q))

  pub value_found : (v : FirstValue) → found_says (Ok (Some v)) ≡ find_answer block name
      → (take v.len (drop v.start block) ≡ first_value_in block name) × (v.start + v.len ≤ length block)
  unfolding find_answer
  value_found v q = by (entries block) refl q
    where
      by : (p : Option (List Entry)) → entries block ≡ p → found_says (Ok (Some v)) ≡ find_from name 0 p
          → (take v.len (drop v.start block) ≡ value_or_nothing (first_value name (listed (entries block)))) × (v.start + v.len ≤ length block)
      by none e w = absurd (cc)
      by (some es) e w =
          let f = find_value name block es (entries_block block es o e) v.start v.len v.later (sym q) in
          (ap value_or_nothing (sym f.0) ∙ ap (λ p. value_or_nothing (first_value name (listed p))) (sym e), f.1)
