use mathlib.Core.Path.{◌≡◌, refl, ◌∙◌, ap}
use mathlib.Core.Bool.{Bool, true, false, cond, ◌&&◌}
use mathlib.Core.List.{List, [], ◌∷◌}
use Prim.Native.Nat.{ℕ, ◌+◌, ◌-◌, ◌≤◌, ◌<◌}
use native.Mathlib.Omega.{arith}
use lib.ListN.{length, drop, get_or, length-append, length-drop}
use lib.Dec.{ltb, leb}
use borrow.Author.Tests.{leb-true, leb-false}
use Rattle.headers.specs.Rows.{every}
use Rattle.headers.specs.Text.{ascii}
use Rattle.headers.specs.Escapes.{escaped, letter_of, encode_octet, encode}
use Rattle.headers.specs.declared.text.Style.{Style}
use Rattle.headers.proofs.Rows.{and_no, and_yes}
use Rattle.headers.proofs.Coding.{encode_step, encode_end}
use Rattle.headers.proofs.line.tally_block.Given as goal

pub octet_long : (s : Style) (x : ℕ) → length (encode_octet s x) ≡ 1 + cond (escaped s x) 1 0
octet_long s x = by (escaped s x)
  where
    by : (t : Bool) → length (cond t (92 ∷ letter_of s x ∷ []) (x ∷ [])) ≡ 1 + cond t 1 0
    by true = refl
    by false = refl

-- whether the octet at i is escaped and counts
abbrev pub here : Style → List ℕ → ℕ → ℕ → Bool
here s xs from i = escaped s (get_or xs i 0) && leb from i

-- of the octets from a place on, those before i have n more encoded
module _ (s : Style) (xs : List ℕ) (from : ℕ) where
  abbrev pub Since : ℕ → ℕ → Type 0
  Since n i = (i ≤ from → n ≡ 0) × (from ≤ i → n + (i - from) + length (encode s (drop i xs)) ≡ length (encode s (drop from xs)))

  pub since_none : Since 0 0
  since_none = (λ h. refl, λ h. let e : from ≡ 0 = omega arith in omega (arith, ap (λ k. length (encode s (drop k xs))) e))

  pub since_more : (n i c : ℕ) → i < length xs → c ≡ cond (escaped s (get_or xs i 0) && leb from i) 1 0 → Since n i → Since (n + c) (i + 1)
  since_more n i c h e (none, some) = by (leb from i) refl
    where
      by : (t : Bool) → leb from i ≡ t → Since (n + c) (i + 1)
      by true q =
          let near = leb-true from i q in
          let one : c ≡ cond (escaped s (get_or xs i 0)) 1 0 =
          e ∙ ap (λ t. cond (escaped s (get_or xs i 0) && t) 1 0) q ∙ ap (λ t. cond t 1 0) (and_yes (escaped s (get_or xs i 0))) in (
            λ k. absurd (omega arith),
            λ k. omega (arith, some near, one, octet_long s (get_or xs i 0), simp length-append at (ap length (encode_step s xs i h))),
          )
      by false q =
          let far = leb-false from i q in
          let zero : c ≡ 0 =
          e ∙ ap (λ t. cond (escaped s (get_or xs i 0) && t) 1 0) q ∙ ap (λ t. cond t 1 0) (and_no (escaped s (get_or xs i 0))) in (
            λ k. omega (arith, none (omega arith), zero),
            λ k. let here : i + 1 ≡ from = omega arith in
                omega (arith, none (omega arith), zero, ap (λ k. length (encode s (drop k xs))) here),
          )

  pub since_all : (n i : ℕ) → length xs ≤ i → i ≤ length xs → from ≤ length xs → Since n i → n + length (drop from xs) ≡ length (encode s (drop from xs))
  since_all n i h k l (none, some) = omega (arith, some (omega arith), length-drop from xs, ap length (encode_end s xs i h))

abbrev pub invariant-loop-i : goal.invariant-loop-i
invariant-loop-i l = (l.i ≤ length l.block) × (l.escapes ≤ l.i) × Since l.style l.block l.from l.escapes l.i × (ltb l.most 128 && every ascii (drop l.i l.block) ≡ every ascii l.block)
