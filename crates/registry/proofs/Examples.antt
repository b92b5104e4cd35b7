-- The examples hold: each is computed. Assumes nothing.
--     examples_hold, judged_hold, numbered_hold, stayed_hold     every row of each table
use mathlib.Core.Path.{◌≡◌, refl, ap}
use mathlib.Core.Bool.{true}
use mathlib.Core.List.{List, [], ◌∷◌, map}
use lib.ListN.{get_or, drop}
use Rattle.headers.specs.Rows.{every, All}
use Rattle.headers.specs.Numbers.{evaluate, numeral}
use Rattle.headers.specs.Answers.{refused}
use Rattle.headers.proofs.Rows.{and_left, and_right}
use Rattle.stores.specs.Searches.{replaced}
use Rattle.registry.specs.Registry.{good, published}
use Rattle.registry.specs.Calls.{ask, end_session, checks, values, effect}
use Rattle.registry.specs.Records.{port_record, run_record, registry_record, port_in, run_in, runs_in, is_valid, empty_record, answer_to, next, text_start, octets_of_run}
use Rattle.registry.specs.Answers.{packed_ask}
use Rattle.registry.specs.Histories.{are_calls, events}
use Rattle.registry.specs.Examples.{Example, examples, calls_of, Holds, Judged, judged, Judges, Numbered, numbered, Numbers, alike, stayed, Stays_so}

-- ---- histories

all_computed : (es : List Example) → every (λ e. are_calls (calls_of e.history)) es ≡ true
    → map (λ e. events empty_record (calls_of e.history)) es ≡ map (λ e. e.history) es → All Holds es
all_computed [] ok h = tt
all_computed (e ∷ es) ok h = (
  record {
    calls = and_left (are_calls (calls_of e.history)) (every (λ e. are_calls (calls_of e.history)) es) ok;
    answers = ap (λ rows. get_or rows 0 []) h;
  },
  all_computed es (and_right (are_calls (calls_of e.history)) (every (λ e. are_calls (calls_of e.history)) es) ok) (ap (drop 1) h),
)

pub examples_hold : All Holds examples
unfolding examples answer_to next is_valid runs_in run_in port_in registry_record run_record port_record good checks values effect
    published replaced evaluate numeral
examples_hold = all_computed examples refl refl

-- ---- records

all_judged : (js : List Judged) → map (λ j. answer_to j.octets (end_session 0)) js ≡ map (λ j. j.answer) js → All Judges js
all_judged [] h = tt
all_judged (j ∷ js) h = (ap (λ answers. get_or answers 0 (refused 0)) h, all_judged js (ap (drop 1) h))

pub judged_hold : All Judges judged
unfolding judged answer_to is_valid runs_in run_in port_in registry_record run_record port_record good checks values evaluate numeral
judged_hold = all_judged judged refl

-- ---- the number for asking

all_numbered : (rows : List Numbered)
    → map (λ a. packed_ask (answer_to alike (ask a.run a.destination)) (text_start alike a.run a.destination)) rows
    ≡ map (λ a. a.number) rows → All Numbers rows
all_numbered [] h = tt
all_numbered (a ∷ rest) h = (ap (λ numbers. get_or numbers 0 0) h, all_numbered rest (ap (drop 1) h))

pub numbered_hold : All Numbers numbered
unfolding numbered answer_to text_start is_valid runs_in run_in port_in registry_record run_record port_record good checks values evaluate numeral
numbered_hold = all_numbered numbered refl

-- ---- a run that stays opened

pub stayed_hold : All Stays_so stayed
unfolding stayed answer_to next is_valid runs_in run_in port_in registry_record run_record port_record good checks values effect
    published replaced evaluate numeral octets_of_run
stayed_hold = (
  record { stays = record { calls = (refl, refl); opening = refl; never_closed = refl }; compared = refl; answered = refl; octets = refl },
  (
    record { stays = record { calls = (refl, refl); opening = refl; never_closed = refl }; compared = refl; answered = refl; octets = refl },
    tt,
  ),
)
