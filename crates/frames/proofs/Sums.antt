-- The sums over the entries of a block (specs/Writing.antt). Assumes nothing.
--     Summing                                    what holds while entries are left
--     sum_start, sum_line, sum_none              at the first, and from one entry to the next
--     sum_end                                    at the end
--     sums_..                                    what the sums say of the lines
--     sums_plain                                 where they say that no octet is escaped
use mathlib.Core.Path.{◌≡◌, refl, sym, ◌∙◌, ap, ap₂}
use mathlib.Core.Bool.{Bool, true, false, cond, ◌&&◌, not}
use mathlib.Core.Option.{some}
use mathlib.Core.List.{List, [], ◌∷◌, ◌++◌}
use Prim.Native.Nat.{ℕ, suc, ◌+◌, ◌*◌, ◌≤◌, ◌<◌}
use native.Mathlib.Omega.{arith}
use lib.ListN.{length, length-append, length-drop}
use lib.Dec.{eqb, leb}
use borrow.Author.Tests.{leb-true, leb-false, eqb-true, eqb-false}
use Rattle.headers.specs.Rows.{empty, every}
use Rattle.headers.specs.Block.{Entry, image, entries, listed, record_length, front_entry, behind}
use Rattle.headers.specs.Stretches.{unescaped, plain_line}
use Rattle.headers.specs.Answers.{is_block}
use Rattle.headers.specs.Lines.{raw_line, written_line, can_stand, can_write}
use Rattle.headers.specs.Escapes.{encode}
use Rattle.headers.specs.declared.text.Style.{Style}
use Rattle.headers.specs.declared.text.Field.TheVariants.{Name as in_name, Value as in_value}
use Rattle.headers.proofs.Rows.{and_right}
use Rattle.headers.proofs.Settling.{written_long, line_long}
use Rattle.headers.proofs.Coding.{encode_long, encode_same, encode_off}
use Rattle.headers.proofs.Blocks.{at_whole, front_name, front_value, length_image}
use Rattle.headers.proofs.LaidOut.{entries_parts}
use Rattle.frames.proofs.Writing.{entries_listed}
use Rattle.frames.specs.Encoding.{written_lines, first_unwritable}
use Rattle.frames.specs.Writing.{Sums}
use Rattle.frames.specs.declared.encode.Totals.{Totals}

-- what holds while the entries left are still to be looked at
pub record Summing (s : Style) (es left : List Entry) (count good total : ℕ) : Type 0 where
  pub counted : count + length left ≡ length es
  pub within : good ≤ count
  pub small : total ≤ 513 * good
  pub writable : good ≡ count → good + first_unwritable s left ≡ first_unwritable s es
  pub summed : good ≡ count → total + length (written_lines s left) ≡ length (written_lines s es)
  pub stopped : good < count → good ≡ first_unwritable s es

-- a line that can be written is not long
can_short : (s : Style) (e : Entry) → can_write s e ≡ true → length (raw_line s e) ≤ 512
can_short s e h =
    leb-true (length (raw_line s e)) 512
    (and_right (can_stand s in_value e.value) _ (and_right (can_stand s in_name e.name) _ (and_right (not (empty e.name)) _ h)))

module _ (s : Style) (es : List Entry) where
  pub sum_start : Summing s es es 0 0 0
  sum_start = record { counted = omega arith; within = omega arith; small = omega arith; writable = λ q. omega arith; summed = λ q. omega arith; stopped = λ q. absurd (omega arith) }

  module _ (e : Entry) (left : List Entry) (count good total : ℕ) (w : Summing s es (e ∷ left) count good total) where
    -- one more line
    pub sum_line : (k : ℕ) → good ≡ count → can_write s e ≡ true → k ≡ length (raw_line s e) → Summing s es left (count + 1) (good + 1) (total + k + 1)
    sum_line k q can long =
        let short = can_short s e can in
        record {
          counted = omega (arith, w.counted);
          within = omega arith;
          small = omega (arith, w.small);
          writable = λ x. omega (arith, rw can at (w.writable q));
          summed = λ x. omega (arith, w.summed q, length-append (written_line s e) (written_lines s left), written_long s e);
          stopped = λ x. absurd (omega arith);
        }

    -- one more entry that is not written
    pub sum_none : (good ≡ count → can_write s e ≡ false) → Summing s es left (count + 1) good total
    sum_none cannot =
        record {
          counted = omega (arith, w.counted);
          within = omega (arith, w.within);
          small = w.small;
          writable = λ x. absurd (omega (arith, w.within));
          summed = λ x. absurd (omega (arith, w.within));
          stopped = λ x. by (eqb good count) refl;
        }
      where
        by : (t : Bool) → eqb good count ≡ t → good ≡ first_unwritable s es
        by true t = let q = eqb-true good count t in omega (arith, rw (cannot q) at (w.writable q))
        by false t = w.stopped (omega (arith, w.within, eqb-false good count t))

  module _ (left : List Entry) (count good total : ℕ) (w : Summing s es left count good total) (few : count ≤ 33) where
    -- no entry is left
    pub sum_end : left ≡ [] → Sums s es (record { count = count; good = good; total = total })
    sum_end gone =
        let all_counted : count ≡ length es = omega (arith, w.counted, ap length gone) in
        record {
          many = λ x. omega arith;
          counted = λ x. all_counted;
          writable = λ x. by (eqb good count) refl;
          summed = λ x q. omega (arith, rw gone at (w.summed (omega (arith, w.within))));
          few = few;
          small = omega (arith, w.small, w.within);
        }
      where
        by : (t : Bool) → eqb good count ≡ t → good ≡ first_unwritable s es
        by true t = omega (arith, rw gone at (w.writable (eqb-true good count t)))
        by false t = w.stopped (omega (arith, w.within, eqb-false good count t))

-- an entry cannot be written exactly where the first that cannot comes before the end
unwritable_some : (s : Style) (es : List Entry) → first_unwritable s es < length es → every (can_write s) es ≡ false
unwritable_some s [] h = absurd (omega arith)
unwritable_some s (e ∷ es) h = by (can_write s e) h (unwritable_some s es)
  where
    by : (t : Bool) → cond t (suc (first_unwritable s es)) 0 < suc (length es) → (first_unwritable s es < length es → every (can_write s) es ≡ false) → t && every (can_write s) es ≡ false
    by true h go = go (omega arith)
    by false h go = refl

writable_all : (s : Style) (es : List Entry) → length es ≤ first_unwritable s es → every (can_write s) es ≡ true
writable_all s [] h = refl
writable_all s (e ∷ es) h = by (can_write s e) h (writable_all s es)
  where
    by : (t : Bool) → suc (length es) ≤ cond t (suc (first_unwritable s es)) 0 → (length es ≤ first_unwritable s es → every (can_write s) es ≡ true) → t && every (can_write s) es ≡ true
    by true h go = go (omega arith)
    by false h go = absurd (omega arith)

-- what the sums say of the lines, with j added
module _ (s : Style) (es : List Entry) (r : Totals) (w : Sums s es r) where
  pub sums_many : (j : ℕ) → 32 < r.count + j → 32 < length es + j
  sums_many j h = by (leb (length es) 32) refl
    where
      by : (t : Bool) → leb (length es) 32 ≡ t → 32 < length es + j
      by true t = omega (arith, w.counted (leb-true (length es) 32 t))
      by false t = omega (arith, leb-false (length es) 32 t)

  pub sums_few : (j : ℕ) → r.count + j ≤ 32 → length es + j ≤ 32
  sums_few j h = by (leb (length es) 32) refl
    where
      by : (t : Bool) → leb (length es) 32 ≡ t → length es + j ≤ 32
      by true t = omega (arith, w.counted (leb-true (length es) 32 t))
      by false t = absurd (omega (arith, w.many (leb-false (length es) 32 t)))

  module _ (few : length es ≤ 32) where
    pub sums_unwritable : r.good < r.count → every (can_write s) es ≡ false
    sums_unwritable h = unwritable_some s es (omega (arith, w.counted few, w.writable few))

    pub sums_writable : r.count ≤ r.good → every (can_write s) es ≡ true
    sums_writable h = writable_all s es (omega (arith, w.counted few, w.writable few))

-- ---- Lines of which no octet is escaped

-- a record is at most four octets longer than its line
lines_least : (s : Style) (es : List Entry) → length (image es) ≤ length (written_lines s es) + 4 * length es
lines_least s [] = omega arith
lines_least s (e ∷ es) =
    omega (arith, length_image e es, length-append (written_line s e) (written_lines s es), line_long s e, encode_long s e.name, encode_long s e.value, lines_least s es)

-- where it is so of all, the lines are those without escapes
lines_same : (s : Style) (es : List Entry) → length (written_lines s es) + 4 * length es ≡ length (image es) → written_lines s es ≡ written_lines unescaped es
lines_same s [] h = refl
lines_same s (e ∷ es) h =
    let long = line_long s e in
    let more = length-append (written_line s e) (written_lines s es) in
    let records = length_image e es in
    let name_long = encode_long s e.name in
    let value_long = encode_long s e.value in
    let least = lines_least s es in
    let name : encode s e.name ≡ encode unescaped e.name =
    encode_same s e.name (omega (arith, h, long, more, records, name_long, value_long, least)) ∙ sym (encode_off unescaped refl e.name) in
    let value : encode s e.value ≡ encode unescaped e.value =
    encode_same s e.value (omega (arith, h, long, more, records, name_long, value_long, least)) ∙ sym (encode_off unescaped refl e.value) in
    ap₂ ◌++◌ (ap₂ plain_line name value) (lines_same s es (omega (arith, h, long, more, records, name_long, value_long, least)))

-- a block is as long as the records of its entries
records_long : (xs : List ℕ) (es : List Entry) → entries xs ≡ some es → length (image es) ≡ length xs
records_long xs [] h = ap length (sym (entries_parts xs [] h))
records_long xs (e ∷ es) h =
    let (t, f, r) = entries_parts xs (e ∷ es) h in
    let w = at_whole xs t in
    let name : length (front_entry xs).name ≡ length e.name = ap (λ d. length d.name) f in
    let value : length (front_entry xs).value ≡ length e.value = ap (λ d. length d.value) f in
    omega (arith, length_image e es, records_long (behind xs) es r, name, value, front_name xs w, front_value xs w, w.fits, length-drop (record_length xs) xs)

-- what the sums of a block's entries say of it
pub sums_plain : (s : Style) (es : List Entry) (r : Totals) → Sums s es r → length es ≤ 32 → (block : List ℕ) → is_block block ≡ true → es ≡ listed (entries block)
    → r.count ≤ r.good → eqb (r.total + 4 * r.count) (length block) ≡ true → written_lines s es ≡ written_lines unescaped es
sums_plain s es r w few block b is all e =
    let laid : length (image es) ≡ length block = ap (λ z. length (image z)) is ∙ records_long block (listed (entries block)) (entries_listed block b) in
    lines_same s es (omega (arith, w.counted few, w.summed few all, eqb-true (r.total + 4 * r.count) (length block) e, laid))
