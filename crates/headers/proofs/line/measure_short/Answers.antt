-- `line::measure_short` meets its contract: the octets 0 after the text are encoded as themselves.
use mathlib.Core.Path.{◌≡◌, refl, ◌∙◌, ap}
use mathlib.Core.Bool.{Bool, true, false, ◌&&◌}
use mathlib.Core.List.{List, ◌++◌}
use Prim.Native.Nat.{ℕ, ◌+◌, ◌<◌}
use native.Mathlib.Omega.{arith}
use lib.ListN.{length, drop, replicate, length-append, length-drop}
use lib.Seq.{take_all}
use borrow.Author.Tests.{le-leb}
use Rattle.headers.specs.Rows.{every, copied}
use Rattle.headers.specs.Text.{ascii}
use Rattle.headers.specs.Escapes.{encode}
use Rattle.headers.specs.declared.text.Style.{Style}
use Rattle.headers.proofs.Rows.{and_yes, every_drop, every_replicate}
use Rattle.headers.proofs.Stretches.{every_both}
use Rattle.headers.proofs.Reading.{styled}
use Rattle.headers.proofs.Coding.{bare, encode_append, encode_bare, encode_twice}
use Rattle.headers.proofs.Copying.{copied_all}
use Rattle.headers.proofs.line.measure_short.Goals as goal

-- the octets 0 after a text
abbrev filling : List ℕ → List ℕ
filling xs = drop (length xs) (replicate 32 0)

zero_bare : (s : Style) → bare s 0 ≡ true
zero_bare s = by s.escapes s.crlf
  where
    by : (e c : Bool) → bare (styled e c) 0 ≡ true
    by true true = refl
    by true false = refl
    by false c = refl

module _ (s : Style) (xs block : List ℕ) (short : length xs < 32) (is : block ≡ copied (replicate 32 0) 0 xs) where
  filled : block ≡ xs ++ filling xs
  filled =
      let none : 0 + length xs ≡ length xs = omega arith in
      is ∙ copied_all (replicate 32 0) 0 xs (le-leb (0 + length xs) 32 (omega arith))
      ∙ ap (λ z. z ++ drop (0 + length xs) (replicate 32 0)) (take_all (length xs) xs (omega arith)) ∙ ap (λ k. xs ++ drop k (replicate 32 0)) none

  long : length block ≡ 32
  long = ap length filled ∙ length-append xs (filling xs) ∙ ap (length xs +◌) (length-drop {A = ℕ} (length xs) (replicate 32 0)) ∙ omega arith

  written : encode s block ≡ encode s xs ++ filling xs
  written =
      ap (encode s) filled ∙ encode_append s xs (filling xs)
      ∙ ap (encode s xs ++◌) (encode_bare s (filling xs) (every_drop (bare s) (length xs) (replicate 32 0) (every_replicate (bare s) 32 0 (zero_bare s))))

  counted : (k : ℕ) → k + length block ≡ length (encode s block) → length xs + k ≡ length (encode s xs)
  counted k e =
      let whole : length (encode s block) ≡ length (encode s xs) + length (filling xs) = ap length written ∙ length-append (encode s xs) (filling xs) in
      omega (arith, e, long, whole, length-drop {A = ℕ} (length xs) (replicate 32 0))

  low : every ascii block ≡ every ascii xs
  low =
      ap (every ascii) filled ∙ every_both ascii xs (filling xs)
      ∙ ap (every ascii xs &&◌) (every_drop ascii (length xs) (replicate 32 0) (every_replicate ascii 32 0 refl)) ∙ and_yes (every ascii xs)

pub tally_block-t-requires : goal.tally_block-t-requires
tally_block-t-requires c =
    (long c.args.style c.args.text.now _ c.requires c.copy.ensures, omega arith)

pub overflow_add-result : goal.overflow_add-result
overflow_add-result c =
    let t = c.tally_block-t in
    let is = c.copy.ensures in
    omega (arith, c.requires, counted c.args.style c.args.text.now _ c.requires is t.result.escapes t.ensures.0, encode_twice c.args.style c.args.text.now)

pub returns : goal.returns
returns c =
    let t = c.tally_block-t in
    let is = c.copy.ensures in
    let k : c.from.result ≡ t.result.escapes = omega arith in (
      ap (length c.args.text.now +◌) k ∙ counted c.args.style c.args.text.now _ c.requires is t.result.escapes t.ensures.0,
      t.ensures.1 ∙ low c.args.style c.args.text.now _ c.requires is,
    )
