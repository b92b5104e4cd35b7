-- Laws of records by their places. Assumes nothing.
use mathlib.Core.Path.{◌≡◌, refl, sym, ◌∙◌, ap, ap₂}
use mathlib.Core.Bool.{Bool, true, false, cond}
use mathlib.Core.Option.{Option, none, some}
use mathlib.Core.List.{List}
use Prim.Native.Nat.{ℕ, ◌+◌, ◌-◌, ◌*◌, ◌≤◌, ◌<◌}
use native.Mathlib.Nat.{pow-le-pow_right}
use native.Mathlib.Numerals.{add-one}
use native.Mathlib.Omega.{arith}
use lib.ListN.{length, take, drop, get_or, length-drop, length-take, take-append-drop}
use lib.Seq.{drop-drop, take-suc}
use lib.Dec.{eqb, ltb}
use borrow.Author.Tests.{eq-eqb, ne_eqb, ltb-true, ltb-false}
use Rattle.headers.specs.Rows.{is_octet, every, first_of}
use Rattle.headers.specs.Numbers.{evaluate}
use Rattle.headers.proofs.Rows.{every_left}
use Rattle.headers.proofs.Numerals.{evaluate_snoc, evaluate_below}
use Rattle.topics.specs.Lists.{Entry, Pair, before, records, is_some, listed, number_at, text_length, entry_format, pair_front, pair_format, pairs_in}
use Rattle.topics.specs.Plans.{how_many}
use Rattle.topics.specs.Places.{placed, Stood, NoRecord, entries}
use Rattle.topics.specs.Waiting.{in_column, place_of}
use Rattle.topics.specs.declared.list.Column.{Column}
use Rattle.topics.specs.declared.list.Column.TheVariants.{Message, Subscription}
use Rattle.topics.specs.declared.list.Record.{Record}
use Rattle.topics.proofs.Lists.{place_step, place_none, place_end, whole_fits, some_before, listed_before}
use Rattle.topics.proofs.Formats.{entry_of, entry_local, pair_local}

-- a number further on
pub number_on : (w : ℕ) (xs : List ℕ) (at i : ℕ) → number_at w (drop at xs) i ≡ evaluate 256 0 (take w (drop (at + i) xs))
number_on w xs at i = ap (λ z. evaluate 256 0 (take w z)) (drop-drop i at xs)

-- ## Numbers in octets

module _ (xs : List ℕ) (o : every is_octet xs ≡ true) where
  taken_octets : (i : ℕ) → every is_octet (take i xs) ≡ true
  taken_octets i = every_left is_octet (take i xs) (drop i xs) (rw take-append-drop o)

  -- the number of the first octets, and one octet more
  pub value_small : (i : ℕ) → i ≤ 4 → evaluate 256 0 (take i xs) < 4294967296
  value_small i h =
      let long = length-take i xs in
      let few : length (take i xs) ≤ 4 = omega arith in
      omega (arith, evaluate_below 256 0 (take i xs) (taken_octets i), pow-le-pow_right {n = 256} (omega arith) few)

pub value_more : (xs : List ℕ) (i : ℕ) → i < length xs → evaluate 256 0 (take (i + 1) xs) ≡ evaluate 256 0 (take i xs) * 256 + get_or xs i 0
value_more xs i h = rw (add-one, take-suc xs i 0) (evaluate_snoc 256 0 (take i xs) (get_or xs i 0))

-- ## The record at a place

module _ (w : ℕ) (xs : List ℕ) (at : ℕ) where
  -- the length of its text
  pub text_at : (t : ℕ) → t ≡ evaluate 256 0 (take (at + 6 - (at + 4)) (drop (at + 4) xs)) → text_length (drop at xs) ≡ t
  text_at t e =
      let two : 2 ≡ at + 6 - (at + 4) = omega arith in
      number_on 2 xs at 4 ∙ ap (λ k. evaluate 256 0 (take k (drop (at + 4) xs))) two ∙ sym e

  module _ (t : ℕ) (long : text_length (drop at xs) ≡ t) where
    abbrev to : ℕ
    to = at + 6 + t

    abbrev there : ℕ → ℕ → Record
    there n r = record { number = n; from = at + 6; to = to; room = r; next = to + w }

    pub stood : (n r : ℕ) → n ≡ evaluate 256 0 (take (at + 4 - at) (drop at xs)) → n < 4294967296
        → r ≡ evaluate 256 0 (take (to + w - to) (drop to xs)) → r < 4294967296 → to + w ≤ length xs
        → Stood w xs at (there n r)
    stood n r en sn er sr fits =
        let four : 4 ≡ at + 4 - at = omega arith in
        let span : t ≡ to - (at + 6) = omega arith in
        let room : w ≡ to + w - to = omega arith in
        let on : at + (6 + text_length (drop at xs)) ≡ to = omega arith in
        record {
          inside = record { text_in = omega arith; record_in = omega arith; list_in = fits; number_small = sn; room_small = sr };
          size_is = omega arith;
          entry_is =
              ap₂ (λ m s. entry_of m s (number_at w (drop at xs) (6 + text_length (drop at xs))))
              (ap (λ k. evaluate 256 0 (take k (drop at xs))) four ∙ sym en) (ap₂ take (long ∙ span) (drop-drop 6 at xs))
              ∙ ap (entry_of n (take (to - (at + 6)) (drop (at + 6) xs)))
              (number_on w xs at (6 + text_length (drop at xs)) ∙ ap₂ (λ k j. evaluate 256 0 (take k (drop j xs))) room on ∙ sym er);
        }

  -- the records from there on
  module _ (r : Record) (s : Stood w xs at r) where
    pub stood_forward : at < r.next
    stood_forward = omega (arith, s.size_is)

    pub stood_step : records (entry_format w) (drop at xs) ≡ before (placed xs r) (records (entry_format w) (drop r.next xs))
    stood_step =
        place_step (entry_format w) (entry_local w) xs at (omega (arith, s.size_is, s.inside.list_in))
        ∙ ap₂ (λ e k. before e (records (entry_format w) (drop k xs))) s.entry_is s.size_is

-- where whole records are left, and no record is there, nothing is left
pub ended : (w : ℕ) (xs : List ℕ) (at : ℕ) → is_some (records (entry_format w) (drop at xs)) ≡ true → NoRecord w xs at → length xs ≤ at
ended w xs at whole h = by (ltb at (length xs)) refl
  where
    by : (t : Bool) → ltb at (length xs) ≡ t → length xs ≤ at
    by false e = ltb-false at (length xs) e
    by true e =
        let below = ltb-true at (length xs) e in
        let gone = ap is_some (place_none (entry_format w) (entry_local w) xs at below (h below)) in
        cc

-- ## The first record that passes a test

-- no record before place at passes it
pub record Passed (w : ℕ) (xs : List ℕ) (f : Entry → Bool) (at : ℕ) : Type 0 where
  pub whole : is_some (records (entry_format w) (drop at xs)) ≡ true
  pub first_is : first_of f (entries w xs) ≡ first_of f (entries w (drop at xs))

module _ (w : ℕ) (xs : List ℕ) (f : Entry → Bool) (at : ℕ) (p : Passed w xs f at) where
  module _ (r : Record) (s : Stood w xs at r) where
    abbrev rest : Option (List Entry)
    rest = records (entry_format w) (drop r.next xs)

    whole_rest : is_some rest ≡ true
    whole_rest = sym (some_before (placed xs r) rest) ∙ ap is_some (sym (stood_step w xs at r s)) ∙ p.whole

    first_here : first_of f (entries w xs) ≡ cond (f (placed xs r)) (some (placed xs r)) (first_of f (listed rest))
    first_here = p.first_is ∙ ap (first_of f) (ap listed (stood_step w xs at r s) ∙ listed_before (placed xs r) rest whole_rest)

    pub first_found : f (placed xs r) ≡ true → first_of f (entries w xs) ≡ some (placed xs r)
    first_found e = first_here ∙ ap (λ t. cond t (some (placed xs r)) (first_of f (listed rest))) e

    pub passed_on : f (placed xs r) ≡ false → Passed w xs f r.next
    passed_on e = record { whole = whole_rest; first_is = first_here ∙ ap (λ t. cond t (some (placed xs r)) (first_of f (listed rest))) e }

  first_none : length xs ≤ at → first_of f (entries w xs) ≡ none
  first_none h = p.first_is ∙ ap (λ o. first_of f (listed o)) (place_end (entry_format w) (entry_local w) xs at h)

  -- no whole record is left
  pub first_end : NoRecord w xs at → first_of f (entries w xs) ≡ none
  first_end h = first_none (ended w xs at p.whole h)

-- ## Counting pairs

-- the number in a column, by its octets; p is where it begins
pub column_is : (c : Column) (xs : List ℕ) (at p v : ℕ) → p ≡ place_of c → v ≡ evaluate 256 0 (take (at + p + 4 - (at + p)) (drop (at + p) xs))
    → v ≡ in_column c (pair_front (drop at xs))
column_is c xs at p v e is =
    let four : at + p + 4 - (at + p) ≡ 4 = omega arith in
    is ∙ ap (λ k. evaluate 256 0 (take k (drop (at + p) xs))) four ∙ sym (number_on 4 xs at p) ∙ by c e
  where
    by : (c : Column) → p ≡ place_of c → number_at 4 (drop at xs) p ≡ in_column c (pair_front (drop at xs))
    by Message e = ap (number_at 4 (drop at xs)) e
    by Subscription e = ap (number_at 4 (drop at xs)) e

abbrev has : Column → ℕ → Pair → Bool
has c n p = eqb (in_column c p) n

-- the pairs before place at are counted
pub record Tallied (c : Column) (n : ℕ) (xs : List ℕ) (at count : ℕ) : Type 0 where
  pub whole : is_some (pairs_in (drop at xs)) ≡ true
  pub few : count ≤ at
  pub sum : count + how_many (has c n) (listed (pairs_in (drop at xs))) ≡ how_many (has c n) (listed (pairs_in xs))

module _ (c : Column) (n : ℕ) (xs : List ℕ) (at count : ℕ) (t : Tallied c n xs at count) where
  pub tallied_end : length xs ≤ at → count ≡ how_many (has c n) (listed (pairs_in xs))
  tallied_end h = omega (arith, t.sum, ap (λ o. how_many (has c n) (listed o)) (place_end pair_format pair_local xs at h))

  pair_fits : at < length xs → at + 8 ≤ length xs
  pair_fits h = let long = length-drop at xs in omega (arith, whole_fits pair_format pair_local (drop at xs) t.whole (omega arith))

  module _ (h : at < length xs) where
    abbrev pairs_left : Option (List Pair)
    pairs_left = pairs_in (drop (at + 8) xs)

    one_step : pairs_in (drop at xs) ≡ before (pair_front (drop at xs)) pairs_left
    one_step = place_step pair_format pair_local xs at (pair_fits h)

    whole_left : is_some pairs_left ≡ true
    whole_left = sym (some_before (pair_front (drop at xs)) pairs_left) ∙ ap is_some (sym one_step) ∙ t.whole

    one_more : how_many (has c n) (listed (pairs_in (drop at xs))) ≡ cond (has c n (pair_front (drop at xs))) 1 0 + how_many (has c n) (listed pairs_left)
    one_more = ap (how_many (has c n)) (ap listed one_step ∙ listed_before (pair_front (drop at xs)) pairs_left whole_left)

    module _ (v : ℕ) (is : v ≡ in_column c (pair_front (drop at xs))) where
      pub tallied_hit : v ≡ n → Tallied c n xs (at + 8) (count + 1)
      tallied_hit e =
          let one : ◌≡◌ {A = ℕ} (cond (has c n (pair_front (drop at xs))) 1 0) 1 = ap (λ b. cond b 1 0) (eq-eqb (in_column c (pair_front (drop at xs))) n (sym is ∙ e)) in
          record { whole = whole_left; few = omega (arith, t.few); sum = omega (arith, t.sum, one_more) }

      pub tallied_miss : (v ≡ n → ⊥) → Tallied c n xs (at + 8) count
      tallied_miss ne =
          let no : ◌≡◌ {A = ℕ} (cond (has c n (pair_front (drop at xs))) 1 0) 0 = ap (λ b. cond b 1 0) (ne_eqb (in_column c (pair_front (drop at xs))) n (λ e. ne (is ∙ e))) in
          record { whole = whole_left; few = omega (arith, t.few); sum = omega (arith, t.sum, one_more) }
