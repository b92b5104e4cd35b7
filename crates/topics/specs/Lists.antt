-- Lists of records (request C-24). Assumes nothing.
use Rattle.std.specs.Prelude.{Bool, true, false, cond, List, [], ◌∷◌, ◌++◌, ℕ, zero, suc, ◌+◌, ◌^◌, ◌<◌, length, take, drop, leb}
use Rattle.std.proofs.Math.Option.{Option, none, some}
use Rattle.headers.specs.Rows.{empty}
use Rattle.headers.specs.Numbers.{evaluate, numeral}

-- A format: how long the record at the front of octets is, and what it says.
pub record Format (A : Type 0) : Type 0 where
  pub size : List ℕ → ℕ
  pub front : List ℕ → A

-- "Each list is one slice of records": the records of octets, at most k; none where the octets are not whole records
abbrev pub before : {A : Type 0} → A → Option (List A) → Option (List A)
before a none = none
before a (some rs) = some (a ∷ rs)

unfoldable pub records_within : {A : Type 0} → Format A → ℕ → List ℕ → Option (List A)
records_within f zero xs = cond (empty xs) (some []) none
records_within f (suc k) xs =
    cond (empty xs) (some []) (cond (leb (f.size xs) (length xs)) (before (f.front xs) (records_within f k (drop (f.size xs) xs))) none)

unfoldable pub records : {A : Type 0} → Format A → List ℕ → Option (List A)
records f xs = records_within f (length xs) xs

-- whether there are records, and those there are
abbrev pub is_some : {A : Type 0} → Option A → Bool
is_some none = false
is_some (some a) = true

abbrev pub listed : {A : Type 0} → Option (List A) → List A
listed none = []
listed (some rs) = rs

-- "fields in this order, numbers in four octets, high first, texts after a two-octet length": the number in w octets from place i on
abbrev pub number_at : ℕ → List ℕ → ℕ → ℕ
number_at w xs i = evaluate 256 0 (take w (drop i xs))

-- a waiting message (number, destination), which has no room, or a live subscription (number, pattern, room)
pub record Entry : Type 0 where
  pub number : ℕ
  pub text : List ℕ
  pub room : ℕ

-- both formats at once: the room has w octets, none of a message and four of a subscription
abbrev pub text_length : List ℕ → ℕ
text_length xs = number_at 2 xs 4

abbrev pub entry_front : ℕ → List ℕ → Entry
entry_front w xs =
    record { number = number_at 4 xs 0; text = take (text_length xs) (drop 6 xs); room = number_at w xs (6 + text_length xs) }

abbrev pub entry_format : ℕ → Format Entry
entry_format w = record { size = λ xs. 6 + text_length xs + w; front = entry_front w }

abbrev pub messages_in : List ℕ → Option (List Entry)
messages_in xs = records (entry_format 0) xs

abbrev pub subscriptions_in : List ℕ → Option (List Entry)
subscriptions_in xs = records (entry_format 4) xs

-- the plan: "pairs of message and subscription"
pub record Pair : Type 0 where
  pub message : ℕ
  pub subscription : ℕ

abbrev pub pair_front : List ℕ → Pair
pair_front xs = record { message = number_at 4 xs 0; subscription = number_at 4 xs 4 }

abbrev pub pair_format : Format Pair
pair_format = record { size = λ xs. 8; front = pair_front }

abbrev pub pairs_in : List ℕ → Option (List Pair)
pairs_in xs = records pair_format xs

-- The octets of records, one after another, and which have octets (proofs/LaidOut.antt: the records of octets are exactly those that
-- they are the octets of).
abbrev pub entry_octets : ℕ → Entry → List ℕ
entry_octets w e = numeral 256 4 e.number ++ (numeral 256 2 (length e.text) ++ (e.text ++ numeral 256 w e.room))

pub record EntryFits (w : ℕ) (e : Entry) : Type 0 where
  pub number_fits : e.number < 256 ^ 4
  pub text_fits : length e.text < 256 ^ 2
  pub room_fits : e.room < 256 ^ w

abbrev pub pair_octets : Pair → List ℕ
pair_octets p = numeral 256 4 p.message ++ numeral 256 4 p.subscription

pub record PairFits (p : Pair) : Type 0 where
  pub message_fits : p.message < 256 ^ 4
  pub subscription_fits : p.subscription < 256 ^ 4

abbrev pub laid : {A : Type 0} → (A → List ℕ) → List A → List ℕ
laid octets [] = []
laid octets (r ∷ rs) = octets r ++ laid octets rs
