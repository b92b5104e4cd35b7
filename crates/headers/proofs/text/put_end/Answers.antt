-- `text::put_end` meets its contract: where no octet of the last block is escaped, it is the end of the encoding too.
use mathlib.Core.Path.{◌≡◌, refl, sym, ◌∙◌, ap, subst}
use mathlib.Core.Bool.{true}
use mathlib.Core.List.{List, ◌++◌}
use Prim.Native.Nat.{ℕ, ◌+◌, ◌-◌, ◌≤◌, ◌<◌}
use native.Mathlib.Omega.{arith}
use lib.ListN.{length, take, drop, length-append, length-drop}
use lib.Seq.{paste, take_all}
use Rattle.headers.specs.Rows.{every}
use Rattle.headers.specs.Escapes.{encode}
use Rattle.headers.specs.Answers.{Puts}
use Rattle.headers.specs.declared.text.Style.{Style}
use Rattle.headers.proofs.Coding.{bare, encode_tail}
use Rattle.headers.proofs.Put.{Partly}
use Rattle.headers.proofs.Copying.{partly_over}
use Rattle.headers.proofs.text.put_end.Goals as goal

-- what is asked
abbrev Asks : Style → List ℕ → List ℕ → ℕ → ℕ → Type 0
Asks s xs d n i =
    (i ≤ length xs) × (length xs < i + 8) × (length (encode s xs) ≤ length d) × (n + length (encode s (drop i xs)) ≡ length (encode s xs))
    × (take n d ++ encode s (drop i xs) ≡ encode s xs)

begun : (s : Style) (xs d : List ℕ) (n i : ℕ) → Asks s xs d n i → Partly (encode s xs) (encode s (drop i xs)) d d n
begun s xs d n i h = record { room = h.2; as_long = refl; long = h.3; parts = h.4; kept = refl }

-- the last block, as it is handed on
abbrev block : List ℕ → List ℕ
block xs = take (length xs - (length xs - 8)) (drop (length xs - 8) xs)

-- it is moved to its place, and then the text is written
record Over (s : Style) (xs d : List ℕ) (n i : ℕ) : Type 0 where
  eight : length (block xs) ≡ 8
  place : i - (length xs - 8) ≤ n
  fits : n - (i - (length xs - 8)) + length (block xs) ≤ length d
  done : (after : List ℕ) → after ≡ paste d (n - (i - (length xs - 8)) + 0) (drop 0 (block xs)) 8 → Puts (encode s xs) (n - (i - (length xs - 8)) + 8) d after

over_end : (s : Style) (xs d : List ℕ) (n i : ℕ) → Asks s xs d n i → 8 ≤ length xs → every (bare s) (block xs) ≡ true → Over s xs d n i
over_end s xs d n i h long clear =
    let b = length xs - 8 in
    let m = n - (i - b) in
    let P = encode s (take b xs) in
    let all : block xs ≡ drop b xs = take_all (length xs - b) (drop b xs) (simp length-drop (omega arith)) in
    let eight : length (block xs) ≡ 8 = ap length all ∙ length-drop b xs ∙ omega arith in
    let t = encode_tail s xs b i n (omega (arith, h.1)) h.0 (subst (λ z. every (bare s) z ≡ true) all clear) h.3 in
    let split : encode s xs ≡ P ++ block xs = t.0 ∙ ap (P ++◌) (sym all) in
    let whole : length (encode s xs) ≡ length P + 8 = ap length split ∙ length-append P (block xs) ∙ ap (length P +◌) eight in
    let here : m ≡ length P = omega (arith, t.1) in
    let same : m + 0 ≡ m = omega arith in
    record {
      eight = eight;
      place = omega (arith, t.1);
      fits = omega (arith, eight, here, whole, h.2);
      done = λ after w.
          let put = partly_over (begun s xs d n i h) P (block xs) after m split here (omega (arith, here, t.1))
          (w ∙ ap (λ k. paste d k (block xs) 8) same ∙ ap (paste d m (block xs)) (sym eight)) in
          (omega (arith, put.0, eight), put.1);
    }

pub overflow_sub-at-then-is_all : goal.overflow_sub-at-then-is_all
overflow_sub-at-then-is_all c =
    omega (
      arith,
      (over_end c.args.style c.args.text.now c.args.d.now c.args.n c.args.i c.requires
          c.if-text-ge8.true (sym c.is_all.ensures ∙ c.if-is_all.true)).place,
    )

pub put_block-requires : goal.put_block-requires
put_block-requires c =
    let o = over_end c.args.style c.args.text.now c.args.d.now c.args.n c.args.i c.requires
    c.if-text-ge8.true (sym c.is_all.ensures ∙ c.if-is_all.true) in
    (omega (arith, o.eight), o.fits)

pub returns-then-is_all : goal.returns-then-is_all
returns-then-is_all c =
    (over_end c.args.style c.args.text.now c.args.d.now c.args.n c.args.i c.requires
    c.if-text-ge8.true
    (sym c.is_all.ensures ∙ c.if-is_all.true)
    ).done _ c.put_block.ensures
