-- The records of octets are exactly those that they are the octets of. Assumes nothing.
--     laid_records, records_laid     for any format that is exact
--     entry_exact, pair_exact        the formats of messages, subscriptions and pairs are
use mathlib.Core.Path.{◌≡◌, refl, sym, ◌∙◌, ap, ap₂, subst}
use mathlib.Core.Bool.{true}
use mathlib.Core.Option.{some}
use mathlib.Core.List.{List, [], ◌∷◌, ◌++◌, append_assoc}
use Prim.Native.Nat.{ℕ, ◌+◌, ◌^◌, ◌≤◌, ◌<◌}
use native.Mathlib.Omega.{arith}
use lib.ListN.{length, take, drop, length-append, length-drop, take-append-drop}
use lib.Seq.{take_at, drop_at, drop-drop, length-take-le, take-length}
use Rattle.headers.specs.Rows.{All, every, is_octet}
use Rattle.headers.specs.Numbers.{evaluate, numeral}
use Rattle.headers.proofs.Rows.{every_left, every_drop}
use Rattle.headers.proofs.Numerals.{length_numeral, value_numeral, numeral_value, evaluate_below}
use Rattle.topics.specs.Lists.{Format, Entry, before, records, number_at, text_length, entry_front, entry_format, pair_format, entry_octets, EntryFits, pair_octets, PairFits, laid}
use Rattle.topics.proofs.Lists.{Local, records_end, records_step, records_first, records_append}
use Rattle.topics.proofs.Formats.{entry_of}

-- A format is exact: octets of a record say that record and no more, and a whole record of octets is the octets of what it says.
pub record Exact {A : Type 0} (f : Format A) (octets : A → List ℕ) (Fits : A → Type 0) : Type 0 where
  pub size_is : (r : A) → Fits r → f.size (octets r) ≡ length (octets r)
  pub front_is : (r : A) → Fits r → f.front (octets r) ≡ r
  pub octets_are : (xs : List ℕ) → every is_octet xs ≡ true → f.size xs ≤ length xs → octets (f.front xs) ++ drop (f.size xs) xs ≡ xs
  pub fits : (xs : List ℕ) → every is_octet xs ≡ true → f.size xs ≤ length xs → Fits (f.front xs)

module _ {A : Type 0} (f : Format A) (l : Local f) (octets : A → List ℕ) (Fits : A → Type 0) (x : Exact f octets Fits) where
  pub laid_records : (rs : List A) → All Fits rs → records f (laid octets rs) ≡ some rs
  laid_records [] h = records_end f l [] refl
  laid_records (r ∷ rs) (h, hs) =
      let alone : records f (octets r) ≡ some (r ∷ []) =
      records_step f l (octets r) (omega (arith, x.size_is r h))
      ∙ ap₂ before (x.front_is r h)
      (records_end f l (drop (f.size (octets r)) (octets r)) (omega (arith, x.size_is r h, length-drop (f.size (octets r)) (octets r)))) in
      records_append f l (octets r) (laid octets rs) (r ∷ []) alone ∙ ap (before r) (laid_records rs hs)

  pub records_laid : (xs : List ℕ) (rs : List A) → every is_octet xs ≡ true → records f xs ≡ some rs → (laid octets rs ≡ xs) × All Fits rs
  records_laid [] [] o h = (refl, tt)
  records_laid (y ∷ xs) [] o h = absurd (omega (arith, records_first f l (y ∷ xs) (some []) h))
  records_laid xs (r ∷ rs) o h =
      let (fits, is, rest) = records_first f l xs (some (r ∷ rs)) h in
      let (e, hs) = records_laid (drop (f.size xs) xs) rs (every_drop is_octet (f.size xs) xs o) rest in
      (ap₂ (λ a b. octets a ++ b) (sym is) e ∙ x.octets_are xs o fits, (subst Fits is (x.fits xs o fits), hs))

-- ## Numbers at the front

-- a number in w octets, read back from the front of a row
module _ (w n : ℕ) (small : n < 256 ^ w) (rest : List ℕ) where
  front_number : evaluate 256 0 (take w (numeral 256 w n ++ rest)) ≡ n
  front_number = ap (evaluate 256 0) (take_at (numeral 256 w n) rest w (length_numeral 256 w n)) ∙ value_numeral 256 w n small

  behind_number : drop w (numeral 256 w n ++ rest) ≡ rest
  behind_number = drop_at (numeral 256 w n) rest w (length_numeral 256 w n)

-- the digits of the number that w octets of a row say
module _ (w : ℕ) (xs : List ℕ) (i : ℕ) (o : every is_octet xs ≡ true) (h : i + w ≤ length xs) where
  there : every is_octet (take w (drop i xs)) ≡ true
  there = every_left is_octet (take w (drop i xs)) (drop w (drop i xs)) (rw take-append-drop (every_drop is_octet i xs o))

  there_long : length (take w (drop i xs)) ≡ w
  there_long = length-take-le w (drop i xs) (omega (arith, length-drop i xs))

  digits_there : numeral 256 w (number_at w xs i) ≡ take w (drop i xs)
  digits_there = ap (λ k. numeral 256 k (number_at w xs i)) (sym there_long) ∙ numeral_value 256 (take w (drop i xs)) there

  number_there : number_at w xs i < 256 ^ w
  number_there = subst (λ k. number_at w xs i < 256 ^ k) there_long (omega (arith, evaluate_below 256 0 (take w (drop i xs)) there))

-- a part and what follows it
onwards : (xs : List ℕ) (i k : ℕ) → take k (drop i xs) ++ drop (i + k) xs ≡ drop i xs
onwards xs i k = ap (take k (drop i xs) ++◌) (sym (drop-drop k i xs)) ∙ take-append-drop k (drop i xs)

-- ## Messages and subscriptions

module _ (w : ℕ) where
  module _ (e : Entry) (h : EntryFits w e) where
    abbrev behind : List ℕ
    behind = e.text ++ numeral 256 w e.room

    abbrev tail : List ℕ
    tail = numeral 256 2 (length e.text) ++ behind

    four : drop 4 (entry_octets w e) ≡ tail
    four = behind_number 4 e.number h.number_fits tail

    six : drop 6 (entry_octets w e) ≡ behind
    six = sym (drop-drop 2 4 (entry_octets w e)) ∙ ap (drop 2) four ∙ behind_number 2 (length e.text) h.text_fits behind

    text_long : text_length (entry_octets w e) ≡ length e.text
    text_long = ap (λ z. evaluate 256 0 (take 2 z)) four ∙ front_number 2 (length e.text) h.text_fits behind

    room_at : drop (6 + text_length (entry_octets w e)) (entry_octets w e) ≡ numeral 256 w e.room
    room_at =
        sym (drop-drop (text_length (entry_octets w e)) 6 (entry_octets w e)) ∙ ap₂ drop text_long six
        ∙ drop_at e.text (numeral 256 w e.room) (length e.text) refl

    whole_room : take w (numeral 256 w e.room) ≡ numeral 256 w e.room
    whole_room = ap (λ k. take k (numeral 256 w e.room)) (sym (length_numeral 256 w e.room)) ∙ take-length (numeral 256 w e.room)

    entry_long : length (entry_octets w e) ≡ 6 + length e.text + w
    entry_long =
        omega (
          arith,
          length-append (numeral 256 4 e.number) tail,
          length-append (numeral 256 2 (length e.text)) behind,
          length-append e.text (numeral 256 w e.room),
          length_numeral 256 4 e.number,
          length_numeral 256 2 (length e.text),
          length_numeral 256 w e.room,
        )

    entry_again : entry_front w (entry_octets w e) ≡ e
    entry_again =
        ap₂ (λ n t. entry_of n t (number_at w (entry_octets w e) (6 + text_length (entry_octets w e))))
        (front_number 4 e.number h.number_fits tail)
        (ap₂ take text_long six ∙ take_at e.text (numeral 256 w e.room) (length e.text) refl)
        ∙ ap (entry_of e.number e.text)
        (ap (λ z. evaluate 256 0 (take w z)) room_at ∙ ap (evaluate 256 0) whole_room ∙ value_numeral 256 w e.room h.room_fits)

  module _ (xs : List ℕ) (o : every is_octet xs ≡ true) (h : (entry_format w).size xs ≤ length xs) where
    text_there : length (take (text_length xs) (drop 6 xs)) ≡ text_length xs
    text_there = length-take-le (text_length xs) (drop 6 xs) (omega (arith, length-drop 6 xs))

    entry_back : entry_octets w (entry_front w xs) ++ drop (6 + text_length xs + w) xs ≡ xs
    entry_back =
        let t = take (text_length xs) (drop 6 xs) in
        let room = digits_there w xs (6 + text_length xs) o (omega arith) in
        let size = ap (numeral 256 2) text_there ∙ digits_there 2 xs 4 o (omega arith) in
        let number = digits_there 4 xs 0 o (omega arith) in
        let rest = drop (6 + text_length xs + w) xs in
        ap₂ (λ a b. (a ++ b) ++ rest) number (ap₂ (λ a b. a ++ (t ++ b)) size room)
        ∙ append_assoc (take 4 xs) (take 2 (drop 4 xs) ++ (t ++ take w (drop (6 + text_length xs) xs))) rest
        ∙ ap (take 4 xs ++◌)
        (append_assoc (take 2 (drop 4 xs)) (t ++ take w (drop (6 + text_length xs) xs)) rest
        ∙ ap (take 2 (drop 4 xs) ++◌)
        (append_assoc t (take w (drop (6 + text_length xs) xs)) rest
        ∙ ap (t ++◌) (onwards xs (6 + text_length xs) w)
        ∙ onwards xs 6 (text_length xs))
        ∙ onwards xs 4 2)
        ∙ take-append-drop 4 xs

    entry_fits : EntryFits w (entry_front w xs)
    entry_fits =
        record {
          number_fits = number_there 4 xs 0 o (omega arith);
          text_fits = subst (λ k. k < 256 ^ 2) (sym text_there) (number_there 2 xs 4 o (omega arith));
          room_fits = number_there w xs (6 + text_length xs) o (omega arith);
        }

  pub entry_exact : Exact (entry_format w) (entry_octets w) (EntryFits w)
  entry_exact = record { size_is = λ e h. omega (arith, entry_long e h, text_long e h); front_is = entry_again; octets_are = entry_back; fits = entry_fits }

-- ## Pairs

pub pair_exact : Exact pair_format pair_octets PairFits
pair_exact =
    record {
      size_is = λ p h. sym (length-append (numeral 256 4 p.message) (numeral 256 4 p.subscription) ∙ ap₂ (◌+◌) (length_numeral 256 4 p.message) (length_numeral 256 4 p.subscription));
      front_is = λ p h.
          ap₂ (λ m s. record { message = m; subscription = s })
          (front_number 4 p.message h.message_fits (numeral 256 4 p.subscription))
          (ap (λ z. evaluate 256 0 (take 4 z)) (behind_number 4 p.message h.message_fits (numeral 256 4 p.subscription)) ∙ ap (evaluate 256 0) (alone 4 p.subscription) ∙ value_numeral 256 4 p.subscription h.subscription_fits);
      octets_are = λ xs o h.
          ap₂ (λ a b. (a ++ b) ++ drop 8 xs) (digits_there 4 xs 0 o (omega arith)) (digits_there 4 xs 4 o (omega arith))
          ∙ append_assoc (take 4 xs) (take 4 (drop 4 xs)) (drop 8 xs)
          ∙ ap (take 4 xs ++◌) (onwards xs 4 4)
          ∙ take-append-drop 4 xs;
      fits = λ xs o h. record { message_fits = number_there 4 xs 0 o (omega arith); subscription_fits = number_there 4 xs 4 o (omega arith) };
    }
  where
    alone : (w n : ℕ) → take w (numeral 256 w n) ≡ numeral 256 w n
    alone w n = ap (λ k. take k (numeral 256 w n)) (sym (length_numeral 256 w n)) ∙ take-length (numeral 256 w n)
