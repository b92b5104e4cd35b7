-- The record of a registry, 3,524 octets: how runs are laid out in it, which runs it shows, and when it is valid. Assumes nothing.
--     text of at most w octets      its length, the text, octets 0 up to w
--     port, 106 octets              destination (33), text (65), session (8 octets, high first); a free slot is all 0
--     run, 881 octets               label (33), 8 ports; a free one is all 0
--     registry                      4 runs
use Rattle.std.specs.Prelude.{Bool, cond, ◌&&◌, not, List, [], ◌∷◌, ◌++◌, map, ℕ, zero, suc, ◌+◌, ◌*◌, length, take, drop, replicate, get_or, eqb}
use Rattle.std.proofs.Math.Option.{Option, none, some}
use Rattle.headers.specs.Rows.{first_of, same}
use Rattle.headers.specs.Numbers.{evaluate, numeral}
use Rattle.headers.specs.Answers.{Answer, settle}
use Rattle.stores.specs.Places.{padded}
use Rattle.stores.specs.Compaction.{joined}
use Rattle.registry.specs.Slots.{holds, place}
use Rattle.registry.specs.Registry.{Port, Run, destination_of, label_of, slots_of, runs_max, ports_max, label_max, destination_max, text_max, good}
use Rattle.registry.specs.Calls.{Call, checks, values, effect, left_by}

-- a row cut into n parts of w octets
abbrev pub parts : ℕ → ℕ → List ℕ → List (List ℕ)
parts w zero xs = []
parts w (suc n) xs = take w xs ∷ parts w n (drop w xs)

-- ---- how runs are laid out

abbrev pub text_field : ℕ → List ℕ → List ℕ
text_field w x = length x ∷ padded w x

abbrev pub port_size : ℕ
port_size = 106

unfoldable pub port_record : Option Port → List ℕ
port_record none = replicate port_size 0
port_record (some p) = text_field destination_max p.destination ++ (text_field text_max p.text ++ numeral 256 8 p.session)

abbrev pub run_size : ℕ
run_size = 881

unfoldable pub run_record : Option Run → List ℕ
run_record none = replicate run_size 0
run_record (some r) = text_field label_max r.label ++ joined (map port_record r.slots)

unfoldable pub registry_record : List (Option Run) → List ℕ
registry_record runs = joined (map run_record runs)

-- ---- which runs a record shows

abbrev pub text_in : List ℕ → List ℕ
text_in xs = take (get_or xs 0 0) (drop 1 xs)

abbrev pub is_unused : List ℕ → Bool
is_unused xs = eqb (get_or xs 0 0) 0

unfoldable pub port_in : List ℕ → Option Port
port_in xs =
    cond (is_unused xs) none
    (some (record { destination = text_in xs; text = text_in (drop 33 xs); session = evaluate 256 0 (take 8 (drop 98 xs)) }))

unfoldable pub run_in : List ℕ → Option Run
run_in xs = cond (is_unused xs) none (some (record { label = text_in xs; slots = map port_in (parts port_size ports_max (drop 33 xs)) }))

unfoldable pub runs_in : List ℕ → List (Option Run)
runs_in xs = map run_in (parts run_size runs_max xs)

-- A record is valid (the request's sound register) exactly if it is the record of a good registry: the one that it shows. So its length
-- is 3,524, and octets that hold nothing are 0.
unfoldable pub is_valid : List ℕ → Bool
is_valid xs = good (runs_in xs) && same (registry_record (runs_in xs)) xs

-- an empty registry
abbrev pub empty_record : List ℕ
empty_record = replicate 3524 0

-- ---- the calls

-- "89 unsound register" before the others
unfoldable pub answer_to : List ℕ → Call → Answer
answer_to xs c = settle (record { fails = not (is_valid xs); number = 89 } ∷ checks (runs_in xs) c) (values (runs_in xs) c)

unfoldable pub next : List ℕ → Call → List ℕ
next xs c = left_by (answer_to xs c) xs (registry_record (effect (runs_in xs) c))

-- where in the record the text of the port under a run and a destination begins: after the runs, the label and the ports before it, its own
-- destination (33 octets) and the text's length
unfoldable pub text_start : List ℕ → List ℕ → List ℕ → ℕ
text_start xs l d = place label_of l (runs_in xs) * run_size + 33 + (place destination_of d (slots_of l (runs_in xs)) * port_size + 34)

-- the octets of the run of that label, if it is open
unfoldable pub octets_of_run : List ℕ → List ℕ → Option (List ℕ)
octets_of_run l xs = first_of (λ x. holds label_of l (run_in x)) (parts run_size runs_max xs)
