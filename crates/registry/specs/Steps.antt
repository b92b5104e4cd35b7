-- What the code's parts of a call give, in its types. Assumes nothing.
use Rattle.std.specs.Prelude.{◌≡◌, Bool, true, false, ◌&&◌, not, List, [], ◌∷◌, ◌++◌, map, ℕ, ◌+◌, ◌*◌, ◌≤◌, ◌<◌, length, take, drop, set, cond, Option as CodeOption, Some, None, Result, Ok, Err, ⊤}
use Rattle.std.proofs.Math.Option.{Option, some}
use Rattle.headers.specs.Answers.{accepted, refused, Check, settle}
use Rattle.registry.specs.Slots.{has, has_free, found, place}
use Rattle.registry.specs.Registry.{Port, destination_of, ports_max, good_slots, published}
use Rattle.registry.specs.Calls.{of_other, text_of, left_by}
use Rattle.stores.specs.Compaction.{joined}
use Rattle.registry.specs.Records.{parts, port_size, port_record, port_in}
use Rattle.registry.specs.Tests.{row_without}
use Rattle.headers.specs.declared.block.Span.{Span}
use Rattle.registry.specs.Answers.{number_of, done_says}
use Rattle.registry.specs.declared.refusals.Refusal.{Refusal}
use Rattle.registry.specs.declared.refusals.Refusal.TheVariants.{InvalidRecord, BadSize, OtherSession}

-- ---- what comes before all else, by whether the record is valid and a size is bad

abbrev pub admitted : Bool → Bool → Result ⊤ Refusal
admitted valid bad = cond valid (cond bad (Err BadSize) (Ok tt)) (Err InvalidRecord)

-- ---- the slots of a run

abbrev pub slots_at : List ℕ → List (Option Port)
slots_at rows = map port_in (parts port_size ports_max rows)

-- octets that are the slots of a good run, laid out
pub record Slots (rows : List ℕ) : Type 0 where
  pub good : good_slots (slots_at rows) ≡ true
  pub laid : joined (map port_record (slots_at rows)) ≡ rows

-- "92 held by another session, 93 new destination and the run's places all taken"
abbrev pub slot_checks : List ℕ → ℕ → List (Option Port) → List Check
slot_checks d s slots =
    record { fails = of_other s (found destination_of d slots); number = 92 } ∷
    record { fails = not (has destination_of d slots) && not (has_free slots); number = 93 } ∷
    []

abbrev pub GivesSlot : List ℕ → ℕ → List (Option Port) → Result ℕ Refusal → Type 0
GivesSlot d s slots (Ok k) =
    (settle (slot_checks d s slots) [] ≡ accepted []) × (k < 8)
    × ((t : List ℕ) → published (record { destination = d; text = t; session = s }) slots
    ≡ set slots k (some (record { destination = d; text = t; session = s })))
GivesSlot d s slots (Err e) = settle (slot_checks d s slots) [] ≡ refused (number_of e)

-- the rows after publishing
abbrev pub GivesPublished : List ℕ → List ℕ → ℕ → List ℕ → Result ⊤ Refusal → List ℕ → Type 0
GivesPublished d t s rows r after =
    (done_says r ≡ settle (slot_checks d s (slots_at rows)) [])
    × (after ≡ left_by (settle (slot_checks d s (slots_at rows)) []) rows
    (joined (map port_record (published (record { destination = d; text = t; session = s }) (slots_at rows)))))

-- a text that a port has
pub record Text (w : ℕ) (x : List ℕ) : Type 0 where
  pub some_octet : 0 < length x
  pub short : length x ≤ w

-- the port under a destination, in rows
abbrev pub GivesPort : List ℕ → List ℕ → CodeOption Span → Type 0
GivesPort d rows (Some p) =
    (take p.len (drop p.start rows) ≡ text_of (found destination_of d (slots_at rows))) × (p.start + p.len ≤ length rows) × (0 < p.len)
    × (p.start ≡ place destination_of d (slots_at rows) * port_size + 34)
GivesPort d rows None = [] ≡ text_of (found destination_of d (slots_at rows))

-- a session's ports withdrawn, row by row
abbrev pub rows_without : ℕ → List ℕ → List ℕ
rows_without s rows = joined (map (row_without s) (parts port_size ports_max rows))

abbrev pub run_octets_without : ℕ → List ℕ → List ℕ
run_octets_without s run = take 33 run ++ rows_without s (drop 33 run)

-- a slot that holds the destination, by whether its session is the one that publishes
abbrev pub row_of_rows : ℕ → List ℕ → List ℕ
row_of_rows k rows = take port_size (drop (k * port_size) rows)

abbrev pub when_held : ℕ → Bool → Result ℕ Refusal
when_held k true = Ok k
when_held k false = Err OtherSession

-- a place in a part of the record that begins at a, as a place in the record
abbrev pub Movable : CodeOption Span → ℕ → Type 0
Movable (Some p) a = a + p.start < 65536
Movable None a = Unit {0}

abbrev pub moved_by : CodeOption Span → ℕ → CodeOption Span
moved_by (Some p) a = Some (record { start = a + p.start; len = p.len })
moved_by None a = None
