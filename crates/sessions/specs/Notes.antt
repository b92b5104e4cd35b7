-- What a session notes of a header block: where the first value of each header is, and how many entries have its name. Assumes nothing.
use Rattle.std.specs.Prelude.{◌≡◌, ℕ, suc, ◌+◌, ◌-◌, ◌≤◌, true, false, cond, Option as Maybe, Some, None, Result, Ok, Err, List, [], ◌∷◌, length, take, drop, replicate, ◌==◌, slice_index_or}
use Rattle.std.proofs.Math.Option.{Option, none, some}
use Rattle.headers.specs.Rows.{same}
use Rattle.headers.specs.Block.{entries, listed, spans}
use Rattle.headers.specs.Answers.{is_block}
use Rattle.headers.specs.declared.block.Malformed.{Malformed}
use Rattle.sessions.specs.Headers.{name_of, value_of}
use Rattle.sessions.specs.declared.command.Header.{Header}
use Rattle.sessions.specs.declared.command.Header.TheVariants.{AcceptVersion, HeartBeat, Host, Destination, Id, Transaction, Receipt, Ack, Subscription, MessageId}
use Rattle.sessions.specs.declared.notes.Located.{Located}
use Rattle.sessions.specs.declared.notes.Mark.{Mark}
use Rattle.sessions.specs.declared.notes.Notes.{Notes}

-- the headers in the order of their numbers, and how many they are
abbrev pub known_headers : List Header
known_headers = AcceptVersion ∷ HeartBeat ∷ Host ∷ Destination ∷ Id ∷ Transaction ∷ Receipt ∷ Ack ∷ Subscription ∷ MessageId ∷ []

abbrev pub headers_max : ℕ
headers_max = length known_headers

-- the number of a header in the notes
abbrev pub index_of : Header → ℕ
index_of AcceptVersion = 0
index_of HeartBeat = 1
index_of Host = 2
index_of Destination = 3
index_of Id = 4
index_of Transaction = 5
index_of Receipt = 6
index_of Ack = 7
index_of Subscription = 8
index_of MessageId = 9

-- the number of what may be a header, as many as there are where it is none
abbrev pub number_says : Maybe Header → ℕ
number_says None = headers_max
number_says (Some h) = index_of h

-- no value noted
abbrev pub unmarked : Mark
unmarked = record { start = 0; end = 0; count = 0 }

-- with one more value, from one place to another; the first is kept
abbrev pub marked : Mark → ℕ → ℕ → Mark
marked m s e = record { start = cond (m.count == 0) s m.start; end = cond (m.count == 0) e m.end; count = m.count + 1 }

-- what the notes have for a number
abbrev pub mark_of : Notes → ℕ → Mark
mark_of r k = slice_index_or r.marks k unmarked

-- what the notes say of a header
abbrev pub located : Notes → Header → Maybe Located
located r h =
    let m = mark_of r (index_of h) in cond (m.count == 0) None (Some (record { start = m.start; end = m.end }))

abbrev pub later_noted : Notes → Header → ℕ
later_noted r h = (mark_of r (index_of h)).count - 1

-- the value from start to end
abbrev pub value_at : List ℕ → Located → List ℕ
value_at block r = take (r.end - r.start) (drop r.start block)

-- the value that is located
abbrev pub located_value : List ℕ → Maybe Located → Option (List ℕ)
located_value block None = none
located_value block (Some r) = some (value_at block r)

abbrev pub Inside : List ℕ → Maybe Located → Type 0
Inside block None = Unit {0}
Inside block (Some r) = (r.start ≤ r.end) × (r.end ≤ length block)

-- where a header's first value is
pub record Locates (block : List ℕ) (h : Header) (r : Maybe Located) : Type 0 where
  pub inside : Inside block r
  pub first : located_value block r ≡ value_of h (listed (entries block))

-- what the notes say of a header is right: where its first value is, and how many entries have its name
pub record Noted (block : List ℕ) (h : Header) (r : Notes) : Type 0 where
  pub first : Locates block h (located r h)
  pub counted : (mark_of r (index_of h)).count ≡ length (spans (name_of h) 0 (listed (entries block)))

abbrev pub AllNoted : List ℕ → Notes → Type 0
AllNoted block r = (h : Header) → Noted block h r

-- the notes of a block: what they say of each header, where it is well formed
abbrev pub Notes_of : List ℕ → Result Notes Malformed → Type 0
Notes_of block (Ok r) = (is_block block ≡ true) × AllNoted block r
Notes_of block (Err e) = is_block block ≡ false

-- The number of the header that has a name, of headers numbered from k on; as many as there are where none has it.
abbrev pub number_from : ℕ → List Header → List ℕ → ℕ
number_from k [] name = k
number_from k (h ∷ hs) name = cond (same name (name_of h)) k (number_from (suc k) hs name)

unfoldable pub number_of_name : List ℕ → ℕ
number_of_name name = number_from 0 known_headers name

-- nothing noted yet
abbrev pub no_notes : Notes
no_notes = record { marks = replicate headers_max unmarked }
