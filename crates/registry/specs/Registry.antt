-- The registry of ports under run labels (the register of request C-21): at most 4 open runs, each with a label and 8 slots of its own
-- (the request's places) for ports. Assumes nothing.
use Rattle.std.specs.Prelude.{Bool, true, cond, ◌&&◌, ◌||◌, not, List, [], map, ℕ, length, replicate, eqb, ltb}
use Rattle.std.proofs.Math.Option.{Option, none, some}
use Rattle.headers.specs.Rows.{empty, every}
use Rattle.stores.specs.Searches.{replaced}
use Rattle.registry.specs.Slots.{is_free, holds, has, found, distinct}

-- "destination (1 to 32 octets), port text (1 to 64), and the session that published it, by a 64-bit number from the daemon"
pub record Port : Type 0 where
  pub destination : List ℕ
  pub text : List ℕ
  pub session : ℕ

-- "each with a label of 1 to 32 octets and 8 places of its own"
pub record Run : Type 0 where
  pub label : List ℕ
  pub slots : List (Option Port)

-- what a port and a run are looked up by
abbrev pub destination_of : Port → List ℕ
destination_of p = p.destination

abbrev pub label_of : Run → List ℕ
label_of r = r.label

-- a run of that label is open; its slots, none where it is not
abbrev pub is_open : List ℕ → List (Option Run) → Bool
is_open l runs = has label_of l runs

abbrev pub slots_in : Option Run → List (Option Port)
slots_in none = []
slots_in (some r) = r.slots

abbrev pub slots_of : List ℕ → List (Option Run) → List (Option Port)
slots_of l runs = slots_in (found label_of l runs)

-- the sizes
abbrev pub runs_max : ℕ
runs_max = 4

abbrev pub ports_max : ℕ
ports_max = 8

abbrev pub label_max : ℕ
label_max = 32

abbrev pub destination_max : ℕ
destination_max = 32

abbrev pub text_max : ℕ
text_max = 64

abbrev pub sessions_max : ℕ
sessions_max = 18446744073709551616

abbrev pub bad_size : ℕ → List ℕ → Bool
bad_size w x = empty x || ltb w (length x)

-- A registry has good sizes, no two equal run labels and no two equal destinations in a run.
abbrev pub good_port : Option Port → Bool
good_port none = true
good_port (some p) = not (bad_size destination_max p.destination) && (not (bad_size text_max p.text) && ltb p.session sessions_max)

abbrev pub good_slots : List (Option Port) → Bool
good_slots slots = eqb (length slots) ports_max && (every good_port slots && distinct destination_of slots)

abbrev pub good_run : Option Run → Bool
good_run none = true
good_run (some r) = not (bad_size label_max r.label) && good_slots r.slots

unfoldable pub good : List (Option Run) → Bool
good runs = eqb (length runs) runs_max && (every good_run runs && distinct label_of runs)

-- an empty registry; a run just opened
abbrev pub no_runs : List (Option Run)
no_runs = replicate 4 none

abbrev pub new_run : List ℕ → Run
new_run l = record { label = l; slots = replicate 8 none }

-- "Publishing again under one destination replaces the text if the same session does it." A new destination takes the first free slot.
unfoldable pub published : Port → List (Option Port) → List (Option Port)
published p slots =
    cond (has destination_of p.destination slots)
    (replaced (holds destination_of p.destination) (some p) slots)
    (replaced is_free (some p) slots)

-- "A session's end .. withdraws its ports, and the places are used again."
abbrev pub unless_of : ℕ → Option Port → Option Port
unless_of s none = none
unless_of s (some p) = cond (eqb p.session s) none (some p)

abbrev pub withdrawn : ℕ → List (Option Port) → List (Option Port)
withdrawn s slots = map (unless_of s) slots

-- the registry with a run opened, in the first free place; with it closed; with other slots of it; with a session's ports withdrawn
abbrev pub opened : List ℕ → List (Option Run) → List (Option Run)
opened l runs = replaced is_free (some (new_run l)) runs

abbrev pub closed : List ℕ → List (Option Run) → List (Option Run)
closed l runs = replaced (holds label_of l) none runs

abbrev pub with_slots : List ℕ → List (Option Port) → List (Option Run) → List (Option Run)
with_slots l slots runs = replaced (holds label_of l) (some (record { label = l; slots = slots })) runs

abbrev pub run_without : ℕ → Option Run → Option Run
run_without s none = none
run_without s (some r) = some (record { label = r.label; slots = withdrawn s r.slots })

abbrev pub ended : ℕ → List (Option Run) → List (Option Run)
ended s runs = map (run_without s) runs
