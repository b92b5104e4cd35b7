-- `line::measure_blocks` meets its contract: what is left to encode, and what is left of the test.
use mathlib.Core.Path.{◌≡◌, ◌∙◌, ap}
use mathlib.Core.Bool.{◌&&◌}
use mathlib.Core.List.{List}
use Prim.Native.Nat.{ℕ, ◌+◌, ◌*◌, ◌/◌, ◌-◌, ◌≤◌}
use native.Mathlib.Omega.{arith}
use lib.ListN.{length, take, drop, length-append, length-drop}
use lib.Seq.{drop-drop, take_all}
use lib.Dec.{ltb}
use Rattle.headers.specs.Rows.{every}
use Rattle.headers.specs.Text.{ascii}
use Rattle.headers.specs.Escapes.{encode}
use Rattle.headers.specs.declared.text.Style.{Style}
use Rattle.headers.proofs.Stretches.{part_long, every_block, every_last_block}
use Rattle.headers.proofs.Coding.{encode_part, encode_twice}
use Rattle.headers.proofs.line.measure_blocks.Goals as goal

-- a block of which k octets are escaped
module _ (s : Style) (xs : List ℕ) (i k : ℕ) where
  abbrev part : List ℕ
  part = take (i + 32 - i) (drop i xs)

  part_more : (n : ℕ) → i + 32 ≤ length xs → k + length part ≡ length (encode s part)
      → n + length (encode s (drop i xs)) ≡ length (encode s xs) + (length xs - i)
      → n + k + length (encode s (drop (i + 32) xs)) ≡ length (encode s xs) + (length xs - (i + 32))
  part_more n h e w =
      omega (arith, e, w, part_long xs i (i + 32) (omega arith) h, simp length-append at (ap length (encode_part s xs i (i + 32) (omega arith))))

-- the last block, as it is handed on
abbrev block : List ℕ → List ℕ
block xs = take (length xs - (length xs - 32)) (drop (length xs - 32) xs)

block_whole : (xs : List ℕ) → block xs ≡ drop (length xs - 32) xs
block_whole xs = take_all (length xs - (length xs - 32)) (drop (length xs - 32) xs) (simp length-drop (omega arith))

block_rest : (xs : List ℕ) (i : ℕ) → length xs - 32 ≤ i → drop (i - (length xs - 32)) (block xs) ≡ drop i xs
block_rest xs i h =
    let on : length xs - 32 + (i - (length xs - 32)) ≡ i = omega arith in
    ap (drop (i - (length xs - 32))) (block_whole xs) ∙ drop-drop (i - (length xs - 32)) (length xs - 32) xs ∙ ap (λ k. drop k xs) on

-- what is left of the text, where k of its octets are escaped
left_more : (s : Style) (xs : List ℕ) (n i k : ℕ) → i ≤ length xs → length xs - 32 ≤ i
    → k + length (drop (i - (length xs - 32)) (block xs)) ≡ length (encode s (drop (i - (length xs - 32)) (block xs)))
    → n + length (encode s (drop i xs)) ≡ length (encode s xs) + (length xs - i) → n + k ≡ length (encode s xs)
left_more s xs n i k h far e w =
    let rest = block_rest xs i far in
    omega (arith, e, w, ap length rest, ap (λ z. length (encode s z)) rest, length-drop i xs)

-- what is read up to a block, and up to the next
next : (k : ℕ) → k * 32 + 32 ≡ (k + 1) * 32
next k = omega arith

pub overflow_add-n : goal.overflow_add-n
overflow_add-n c =
    let l = c.loop-k in
    let xs = c.args.text.now in
    let k = c.tally_block-t.result.escapes in
    let fits : l.k * 32 + 32 ≤ length xs = omega arith in
    omega (
      arith,
      c.requires.1,
      encode_twice c.args.style xs,
      part_more c.args.style xs (l.k * 32) k l.n fits c.tally_block-t.ensures.0 l.invariant.1,
    )

pub loop-k-preserved : goal.loop-k-preserved
loop-k-preserved c =
    let l = c.loop-k in
    let a = c.args in
    let t = c.tally_block-t in
    let fits : l.k * 32 + 32 ≤ length a.text.now = omega arith in
    let from : t.result.escapes ≡ c.from-n.result = omega arith in
    rw (← next l.k) (
      fits,
      rw (← from) (part_more a.style a.text.now (l.k * 32) t.result.escapes l.n fits t.ensures.0 l.invariant.1),
      rw (c.larger-most.ensures, t.ensures.1) (every_block ascii a.text.now (l.k * 32) (ltb l.most 128) (l.k * 32 + 32) (omega arith) ∙ l.invariant.2),
    )

pub overflow_add-result : goal.overflow_add-result
overflow_add-result c =
    let l = c.loop-k in
    let xs = c.args.text.now in
    let t = c.tally_block-t-2 in
    let end : l.k ≡ length xs / 32 = omega arith in
    omega (
      arith,
      c.requires.1,
      encode_twice c.args.style xs,
      left_more c.args.style xs l.n (length xs / 32 * 32) t.result.escapes (omega arith) (omega arith)
          t.ensures.0 (rw (← end) l.invariant.1),
    )

pub returns : goal.returns
returns c =
    let l = c.loop-k in
    let a = c.args in
    let xs = a.text.now in
    let t = c.tally_block-t-2 in
    let end : l.k ≡ length xs / 32 = omega arith in
    let far : length xs - 32 ≤ length xs / 32 * 32 = omega arith in
    let from : c.from.result ≡ t.result.escapes = omega arith in (
      ap (l.n +◌) from ∙ left_more a.style xs l.n (length xs / 32 * 32) t.result.escapes (omega arith) far t.ensures.0 (rw (← end) l.invariant.1),
      c.larger.ensures ∙ ap (ltb l.most 128 &&◌) (t.ensures.1 ∙ ap (every ascii) (block_whole xs))
          ∙ every_last_block ascii xs (length xs / 32 * 32) (ltb l.most 128) (length xs - 32) far (rw (← end) l.invariant.2),
    )
