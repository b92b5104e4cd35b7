-- The calls on a record, by the code's parts. Assumes nothing.
--     invalid, refused_with, accepted_with    the end of any call
--     admitted_both, not_admitted             what comes before all else
--     passed_on, told_err, found_ok, found_err, ask_refused    refusals as `?` passes them on
--     search_label, search_place, row_run     searches among the rows of a valid record
--     open_.., close_.., publish_.., ask_.., end_..    each call
use mathlib.Core.Path.{◌≡◌, refl, sym, ap, ap₂, subst, ◌∙◌}
use mathlib.Core.Bool.{Bool, true, false, cond, ◌||◌, not, true≢false}
use mathlib.Core.Option.{Option, none, some}
use mathlib.Core.List.{List, [], ◌∷◌, ◌++◌, map, append_assoc}
use Prim.Native.Nat.{ℕ, ◌+◌, ◌-◌, ◌*◌, ◌/◌, ◌%◌, ◌≤◌, ◌<◌}
use native.Mathlib.Omega.{arith}
use lib.ListN.{length, take, drop, get_or, set, replicate, length-take, length-drop, take-append-drop}
use lib.Seq.{take_at, take-take, take-add, drop-drop, length-take-le}
use lib.Dec.{eqb}
use borrow.Author.Tests.{le-ltb, lt-ltb, ne_eqb}
use borrow.Rule.Slice.PartMut.{put_mid, mid_of, put_same}
use Rattle.headers.specs.Rows.{every}
use Rattle.headers.specs.Answers.{Answer, accepted, refused, settle}
use Rattle.headers.proofs.Rows.{and_left, and_right, cond_case, never}
use Rattle.stores.specs.Searches.{first_from, replaced, search_says}
use Rattle.std.specs.Prelude.{Option as CodeOption, Some, None, Result, Ok, Err, IsErrAnd, ⊤, is_some as has_place, ok_or}
use Rattle.headers.specs.declared.block.Span.{Span}
use Rattle.stores.proofs.Searching.{told_any, first_map, first_map_on, found_here}
use Rattle.stores.proofs.Walking.{drop_take}
use Rattle.registry.specs.Slots.{is_free, holds, has_free, found, place}
use Rattle.registry.specs.Registry.{Port, Run, destination_of, label_of, is_open, slots_in, slots_of, label_max, destination_max, text_max, sessions_max, bad_size, good_port, good_run, good_slots, new_run, published, unless_of, withdrawn, run_without, ended}
use Rattle.registry.specs.Calls.{Call, open_run, close_run, publish, ask, end_session, text_of, checks, values, effect, left_by}
use Rattle.stores.specs.Compaction.{joined}
use Rattle.registry.specs.Records.{parts, text_field, port_size, port_record, run_record, registry_record, port_in, run_in, runs_in, is_valid, answer_to, next, text_start}
use Rattle.registry.specs.Tests.{is_named, Rows, row_of, row_without}
use Rattle.registry.specs.Answers.{number_of, done_says, asked_says, Bounded, StartsAt, packed_ask, asked_number, asked_read}
use Rattle.registry.specs.Steps.{admitted, Slots, slots_at, slot_checks, GivesPublished, GivesPort, Text, rows_without, run_octets_without, Movable, moved_by}
use Rattle.registry.specs.declared.refusals.Refusal.{Refusal}
use Rattle.registry.specs.declared.refusals.Refusal.TheVariants.{InvalidRecord, BadSize, NotOpen, OtherSession, NoPlace, AlreadyOpen, FourOpen}
use Rattle.registry.proofs.Slots.{found_name, place_first}
use Rattle.registry.proofs.Keeping.{answer, Good, GoodSlots, record_slots, good_run_slots, every_found}
use Rattle.registry.proofs.Records.{Long, sized, field_long, field_drop, good_port_record, slots_back, slots_parts, run_label, run_slots, runs_long, record_parts, record_long, valid_good, valid_record}
use Rattle.registry.proofs.Testing.{named_holds, free_holds, thing_run, shape_run, named_run}
use Rattle.registry.proofs.Changing.{row_in, map_at, set_map, put_at, put_row, put_set}
use Rattle.registry.proofs.Publishing.{found_first, session_same}

-- ---- the end of any call

pub invalid : (xs : List ℕ) → is_valid xs ≡ false → (c : Call) → (refused 89 ≡ answer_to xs c) × (xs ≡ next xs c)
unfolding answer_to next
invalid xs v c = rw v (refl, refl)

-- the record is valid and no size is bad, or the call is refused for one of these
abbrev is_done : Result ⊤ Refusal → Bool
is_done (Ok done) = true
is_done (Err e) = false

abbrev number_said : Result ⊤ Refusal → ℕ
number_said (Ok done) = 0
number_said (Err e) = number_of e

pub admitted_both : (valid bad : Bool) (r : Result ⊤ Refusal) → r ≡ admitted valid bad → r ≡ Ok tt → (valid ≡ true) × (bad ≡ false)
admitted_both true false r e ok = (refl, refl)
admitted_both true true r e ok = never (ap is_done (sym e ∙ ok))
admitted_both false bad r e ok = never (ap is_done (sym e ∙ ok))

pub not_admitted : (xs : List ℕ) (c : Call) (bad : Bool) (r : Result ⊤ Refusal) (e : Refusal) → r ≡ admitted (is_valid xs) bad → r ≡ Err e
    → (is_valid xs ≡ true → bad ≡ true → (refused 90 ≡ answer_to xs c) × (xs ≡ next xs c)) → (refused (number_of e) ≡ answer_to xs c) × (xs ≡ next xs c)
not_admitted xs c bad r e is err size = by (is_valid xs) bad refl refl (sym is ∙ err)
  where
    by : (t b : Bool) → is_valid xs ≡ t → bad ≡ b → admitted t b ≡ Err e → (refused (number_of e) ≡ answer_to xs c) × (xs ≡ next xs c)
    by true true v w q = let (a, n) = size v w in (ap (λ z. refused (number_said z)) (sym q) ∙ a, n)
    by true false v w q = never (ap not (ap is_done q))
    by false b v w q = let (a, n) = invalid xs v c in (ap (λ z. refused (number_said z)) (sym q) ∙ a, n)

-- what a refusal that is passed on by `?` says
pub passed_on : {T : Type 0} (r : Result T Refusal) (e : Refusal) → IsErrAnd r (λ f. f ≡ e) → r ≡ Err e
passed_on (Ok x) e h = absurd h
passed_on (Err f) e h = ap Err h

pub told_err : {T C : Type 0} {A : Answer} {e : Refusal} (says : Result T Refusal → Answer) (r : Result T Refusal) → IsErrAnd r (λ f. f ≡ e)
    → (says (Err e) ≡ A) × C → (says r ≡ A) × C
told_err {e = e} says r h (a, n) = (ap says (passed_on r e h) ∙ a, n)

-- what a search found
pub found_ok : (q : CodeOption ℕ) (e : Refusal) (k : ℕ) (r : Result ℕ Refusal) → r ≡ ok_or q e → r ≡ Ok k → some k ≡ search_says q
found_ok q e k r is ok = by q (sym is ∙ ok)
  where
    place : Result ℕ Refusal → Option ℕ
    place (Ok i) = some i
    place (Err f) = none

    by : (q : CodeOption ℕ) → ok_or q e ≡ Ok k → some k ≡ search_says q
    by (Some i) z = sym (ap place z)
    by None z = sym (ap place z)

pub found_err : (xs : List ℕ) (c : Call) (q : CodeOption ℕ) (e f : Refusal) (r : Result ℕ Refusal) → r ≡ ok_or q e → r ≡ Err f
    → (q ≡ None → (refused (number_of e) ≡ answer_to xs c) × (xs ≡ next xs c)) → (refused (number_of f) ≡ answer_to xs c) × (xs ≡ next xs c)
found_err xs c q e f r is err none_found = by q refl (sym is ∙ err)
  where
    said : Result ℕ Refusal → ℕ
    said (Ok i) = 0
    said (Err g) = number_of g

    some_place : Result ℕ Refusal → Bool
    some_place (Ok i) = true
    some_place (Err g) = false

    by : (p : CodeOption ℕ) → q ≡ p → ok_or p e ≡ Err f → (refused (number_of f) ≡ answer_to xs c) × (xs ≡ next xs c)
    by (Some i) w z = never (sym (ap some_place z))
    by None w z = let (a, n) = none_found w in (ap (λ m. refused (said m)) (sym z) ∙ a, n)

module _ (xs : List ℕ) (v : is_valid xs ≡ true) where
  abbrev runs : List (Option Run)
  runs = runs_in xs

  answered : (c : Call) → answer_to xs c ≡ answer runs c
  unfolding answer_to
  answered c = ap (λ t. cond (not t) (refused 89) (settle (checks (runs_in xs) c) (values (runs_in xs) c))) v

  pub refused_with : (c : Call) (n : ℕ) → answer runs c ≡ refused n → (refused n ≡ answer_to xs c) × (xs ≡ next xs c)
  unfolding next
  refused_with c n e = let a : answer_to xs c ≡ refused n = answered c ∙ e in (sym a, sym (ap (λ z. left_by z xs (registry_record (effect (runs_in xs) c))) a))

  pub accepted_with : (c : Call) (values ys : List ℕ) → answer runs c ≡ accepted values → ys ≡ registry_record (effect runs c)
      → (accepted values ≡ answer_to xs c) × (ys ≡ next xs c)
  unfolding next
  accepted_with c values ys e w =
      let a : answer_to xs c ≡ accepted values = answered c ∙ e in
      (sym a, w ∙ sym (ap (λ z. left_by z xs (registry_record (effect (runs_in xs) c))) a))

  -- ---- the rows of a valid record

  good_runs : Good runs
  good_runs = valid_good xs v

  pub valid_long : length xs ≡ 3524
  valid_long = ap length (sym (valid_record xs v)) ∙ record_long runs good_runs

  pub valid_rows : Rows 881 4 xs
  valid_rows = record { long = valid_long; some_octet = omega arith }

  rows_are : parts 881 4 xs ≡ map run_record runs
  rows_are = ap (parts 881 4) (sym (valid_record xs v)) ∙ record_parts runs good_runs

  pub search_label : (l : List ℕ) → 0 < length l → first_from (is_named l) 0 (parts 881 4 xs) ≡ first_from (holds label_of l) 0 runs
  unfolding runs_in
  search_label l some_octet =
      first_map (is_named l) (holds label_of l) run_in
      (λ row. named_holds label_of run_in thing_run shape_run named_run l (λ e. omega (arith, ap length e)) row) 0 (parts 881 4 xs)

  pub search_place : first_from (is_named []) 0 (parts 881 4 xs) ≡ first_from is_free 0 runs
  unfolding runs_in
  search_place =
      first_map_on (is_named []) is_free run_in (λ row. length row ≡ 881)
      (λ row e. free_holds label_of run_in thing_run shape_run named_run row (omega arith)) 0 (parts 881 4 xs)
      (subst (Long 881) (sym rows_are) (runs_long runs good_runs.each))

  -- a row put in place k
  put_run : (k : ℕ) → k < 4 → (o : Option Run) (y : List ℕ) → y ≡ run_record o
      → put_mid (k * 881) (k * 881 + 881 - k * 881) xs y ≡ registry_record (set runs k o)
  unfolding registry_record
  put_run k less o y e = put_at 881 4 xs y k valid_long less ∙ ap₂ (λ a b. joined (set a k b)) rows_are e ∙ ap joined (set_map run_record runs k o)

  row_run : (k : ℕ) → k < 4 → take 881 (drop (k * 881) xs) ≡ run_record (get_or runs k none)
  row_run k less = sym (row_in 881 4 xs k less) ∙ ap (λ z. get_or z k []) rows_are ∙ map_at run_record runs k (omega (arith, good_runs.long)) none []

  -- a search for a run
  module _ (l : List ℕ) (some_octet : 0 < length l) where
    pub is_open_at : (r : CodeOption ℕ) → search_says r ≡ first_from (is_named l) 0 (parts 881 4 xs) → is_open l runs ≡ has_place r
    is_open_at r e = told_any (holds label_of l) 0 runs r (e ∙ search_label l some_octet)

    module _ (k : ℕ) (there : some k ≡ first_from (is_named l) 0 (parts 881 4 xs)) where
      at_run : (y : Option Run) → (k < length runs) × (replaced (holds label_of l) y runs ≡ set runs k y) × (holds label_of l (get_or runs k none) ≡ true)
      at_run y = found_here (holds label_of l) y none k runs (there ∙ search_label l some_octet)

      pub run_inside : k < 4
      run_inside = omega (arith, (at_run none).0, good_runs.long)

      found_there : found label_of l runs ≡ get_or runs k none
      found_there = found_first label_of l k runs (there ∙ search_label l some_octet)

      run_there : (r : Run) × (get_or runs k none ≡ some r)
      run_there = by (get_or runs k none) refl (at_run none).2
        where
          by : (o : Option Run) → get_or runs k none ≡ o → holds label_of l o ≡ true → (r : Run) × (get_or runs k none ≡ some r)
          by none e t = absurd (true≢false (sym t))
          by (some r) e t = (r, e)

      is_there : is_open l runs ≡ true
      is_there = is_open_at (Some k) there

      -- ---- closing

      pub close_there : bad_size label_max l ≡ false → (y : List ℕ) → y ≡ replicate (length (mid_of (k * 881) (k * 881 + 881 - k * 881) xs)) 0
          → (accepted [] ≡ answer_to xs (close_run l)) × (put_mid (k * 881) (k * 881 + 881 - k * 881) xs y ≡ next xs (close_run l))
      unfolding checks values effect run_record
      close_there size y is =
          let wide : length (mid_of (k * 881) (k * 881 + 881 - k * 881) xs) ≡ 881 = simp (length-take, length-drop) (omega (arith, run_inside, valid_long)) in
          let zero_row : y ≡ run_record none = is ∙ ap (λ n. replicate n 0) wide in
          accepted_with (close_run l) [] (put_mid (k * 881) (k * 881 + 881 - k * 881) xs y) (rw (size, is_there))
          (put_run k run_inside none y zero_row ∙ ap registry_record (sym (at_run none).1))

      -- ---- the slots of the run

      abbrev from : ℕ
      from = k * 881 + 33

      module _ (r : Run) (e : get_or runs k none ≡ some r) where
        r_good : GoodSlots r.slots
        r_good = good_run_slots runs good_runs l r (found_there ∙ e)

        r_run : good_run (some r) ≡ true
        r_run = every_found label_of good_run l runs r good_runs.each (found_there ∙ e)

        row_laid : take 881 (drop (k * 881) xs) ≡ text_field 32 r.label ++ joined (map port_record r.slots)
        unfolding run_record
        row_laid = row_run k run_inside ∙ ap run_record e

        rows_laid : take 848 (drop from xs) ≡ joined (map port_record r.slots)
        rows_laid =
            sym (ap (take 848) (drop-drop 33 (k * 881) xs))
            ∙ sym (drop_take 33 881 (drop (k * 881) xs))
            ∙ ap (drop 33) row_laid ∙ field_drop 32 r.label (run_label r r_run) 33 refl (joined (map port_record r.slots))

        slots_shown : slots_at (take 848 (drop from xs)) ≡ r.slots
        slots_shown = ap slots_at rows_laid ∙ ap (map port_in) (slots_parts r.slots r_good) ∙ slots_back r.slots r_good.each

        slots_of_run : slots_at (take 848 (drop from xs)) ≡ slots_of l runs
        slots_of_run = slots_shown ∙ sym (ap slots_in (found_there ∙ e))

        are_slots : Slots (take 848 (drop from xs))
        are_slots =
            record {
              good = ap good_slots slots_shown ∙ record_slots r.slots r_good;
              laid = ap (λ z. joined (map port_record z)) slots_shown ∙ sym rows_laid;
            }

        -- the record with other slots of the run
        put_slots : (slots : List (Option Port)) (y : List ℕ) → y ≡ joined (map port_record slots)
            → put_mid from 848 xs y ≡ registry_record (set runs k (some (record { label = r.label; slots = slots })))
        unfolding registry_record run_record
        put_slots slots y w =
            let X : List ℕ = drop (k * 881) xs in
            let label : List ℕ = text_field 32 r.label in
            let front : take from xs ≡ take (k * 881) xs ++ label =
            take-add (k * 881) 33 xs
            ∙ ap (take (k * 881) xs ++◌)
            (sym (take-take 33 881 X (omega arith)) ∙ ap (take 33) row_laid
            ∙ take_at label (joined (map port_record r.slots)) 33 (field_long 32 r.label (run_label r r_run))) in
            let place : from + 848 ≡ k * 881 + 881 = omega arith in
            let back : drop 848 (drop from xs) ≡ drop (k * 881 + 881) xs = drop-drop 848 from xs ∙ ap (λ n. drop n xs) place in
            ap₂ (λ a b. a ++ (y ++ b)) front back
            ∙ append_assoc (take (k * 881) xs) label (y ++ drop (k * 881 + 881) xs)
            ∙ ap (take (k * 881) xs ++◌) (sym (append_assoc label y (drop (k * 881 + 881) xs)))
            ∙ ap (λ z. put_row 881 xs k (label ++ z)) w
            ∙ put_set 881 4 xs valid_long k run_inside (label ++ joined (map port_record slots))
            ∙ ap (λ a. joined (set a k (label ++ joined (map port_record slots)))) rows_are
            ∙ ap joined (set_map run_record runs k (some (record { label = r.label; slots = slots })))

        label_is : r.label ≡ l
        label_is = found_name label_of l runs r (found_there ∙ e)

      -- what the code knows of the slots
      pub run_slots_are : Slots (take 848 (drop from xs))
      run_slots_are = let (r, e) = run_there in are_slots r e

      -- ---- publishing

      module _ (d t : List ℕ) (s : ℕ) (sizes : bad_size label_max l || (bad_size destination_max d || bad_size text_max t) ≡ false) where
        abbrev p : Port
        p = record { destination = d; text = t; session = s }

        abbrev rows : List ℕ
        rows = take 848 (drop from xs)

        publish_answer : answer runs (publish l d t s) ≡ settle (slot_checks d s (slots_at rows)) []
        unfolding checks values
        publish_answer = let (r, e) = run_there in rw (sizes, is_there, ← slots_of_run r e)

        publish_record : registry_record (effect runs (publish l d t s)) ≡ put_mid from 848 xs (joined (map port_record (published p (slots_at rows))))
        unfolding effect
        publish_record =
            let (r, e) = run_there in
            let after : List (Option Port) = published p (slots_at rows) in
            ap (λ z. registry_record (replaced (holds label_of l) (some (record { label = l; slots = published p z })) runs)) (sym (slots_of_run r e))
            ∙ ap registry_record (at_run (some (record { label = l; slots = after }))).1
            ∙ ap (λ z. registry_record (set runs k (some (record { label = z; slots = after })))) (sym (label_is r e))
            ∙ sym (put_slots r e after (joined (map port_record after)) refl)

        pub publish_there : (q : Result ⊤ Refusal) (y : List ℕ) → GivesPublished d t s rows q y
            → (done_says q ≡ answer_to xs (publish l d t s)) × (put_mid from 848 xs y ≡ next xs (publish l d t s))
        publish_there q y (says, is) = by (settle (slot_checks d s (slots_at rows)) []) refl
          where
            by : (a : Answer) → settle (slot_checks d s (slots_at rows)) [] ≡ a → (done_says q ≡ answer_to xs (publish l d t s))
                × (put_mid from 848 xs y ≡ next xs (publish l d t s))
            by (accepted values) f =
                let (a, w) = accepted_with (publish l d t s) values (put_mid from 848 xs y) (publish_answer ∙ f)
                (ap (put_mid from 848 xs) (is ∙ ap (λ z. left_by z rows (joined (map port_record (published p (slots_at rows))))) f) ∙ sym publish_record) in
                (says ∙ f ∙ a, w)
            by (refused n) f =
                let (a, w) = refused_with (publish l d t s) n (publish_answer ∙ f) in (
                  says ∙ f ∙ a,
                  ap (put_mid from 848 xs) (is ∙ ap (λ z. left_by z rows (joined (map port_record (published p (slots_at rows))))) f) ∙ put_same from 848 xs ∙ w,
                )

      -- ---- asking

      module _ (d : List ℕ) (sizes : bad_size label_max l || bad_size destination_max d ≡ false) where
        ask_answer : answer_to xs (ask l d) ≡ accepted (text_of (found destination_of d (slots_at (take 848 (drop from xs)))))
        unfolding checks values
        ask_answer = let (r, e) = run_there in answered (ask l d) ∙ rw (sizes, is_there, ← slots_of_run r e)

        rows_octets : length (take 848 (drop from xs)) ≡ 848
        rows_octets = simp (length-take, length-drop) (omega (arith, run_inside, valid_long))

        pub ask_movable : (q : CodeOption Span) → GivesPort d (take 848 (drop from xs)) q → Movable q from
        ask_movable (Some p) (is, inside, some_text, at) = omega (arith, inside, rows_octets, run_inside)
        ask_movable None g = tt

        pub ask_there : (q : CodeOption Span) → GivesPort d (take 848 (drop from xs)) q → (r : CodeOption Span) → r ≡ moved_by q from → asked_says xs (Ok r) ≡ answer_to xs (ask l d)
        ask_there q g r is = ap (λ z. asked_says xs (Ok z)) is ∙ by q g ∙ sym ask_answer
          where
            by : (q : CodeOption Span) → GivesPort d (take 848 (drop from xs)) q
                → asked_says xs (Ok (moved_by q from)) ≡ accepted (text_of (found destination_of d (slots_at (take 848 (drop from xs)))))
            by (Some p) (is, inside, some_text, at) =
                let short : p.len ≤ 848 - p.start = omega (arith, inside, rows_octets) in
                ap accepted
                (ap (take p.len) (sym (drop-drop p.start from xs)) ∙ sym (take-take p.len (848 - p.start) (drop p.start (drop from xs)) short)
                ∙ ap (take p.len) (sym (drop_take p.start 848 (drop from xs))) ∙ is)
            by None g = ap accepted g

        pub ask_starts : (q : CodeOption Span) → GivesPort d (take 848 (drop from xs)) q → (r : CodeOption Span) → r ≡ moved_by q from → StartsAt xs (text_start xs l d) (Ok r)
        unfolding text_start
        ask_starts q g r is = subst (λ z. StartsAt xs (text_start xs l d) (Ok z)) (sym is) (by q g)
          where
            by : (q : CodeOption Span) → GivesPort d (take 848 (drop from xs)) q → StartsAt xs (text_start xs l d) (Ok (moved_by q from))
            by (Some p) (is, inside, some_text, at) =
                let (r, e) = run_there in (
                  ap₂ (λ a b. a * 881 + 33 + b) (place_first label_of l k runs (there ∙ search_label l some_octet))
                      (at ∙ ap (λ z. place destination_of d z * 106 + 34) (slots_of_run r e)),
                  omega (arith, inside, rows_octets, run_inside, valid_long),
                )
            by None g = tt

        pub ask_bounded : (q : CodeOption Span) → GivesPort d (take 848 (drop from xs)) q → (r : CodeOption Span) → r ≡ moved_by q from → Bounded (Ok r)
        ask_bounded q g r is = subst (λ z. Bounded (Ok z)) (sym is) (by q g)
          where
            by : (q : CodeOption Span) → GivesPort d (take 848 (drop from xs)) q → Bounded (Ok (moved_by q from))
            by (Some p) (is, inside, some_text, at) = (some_text, omega (arith, inside, rows_octets, run_inside))
            by None g = tt

  -- ---- opening

  module _ (l : List ℕ) (size : bad_size label_max l ≡ false) (new : is_open l runs ≡ false) where
    pub open_full : none ≡ first_from (is_named []) 0 (parts 881 4 xs) → (refused 95 ≡ answer_to xs (open_run l)) × (xs ≡ next xs (open_run l))
    unfolding checks values
    open_full e =
        let full : has_free runs ≡ false = told_any is_free 0 runs None (e ∙ search_place) in
        refused_with (open_run l) 95 (rw (size, new, full))

    module _ (k : ℕ) (there : some k ≡ first_from (is_named []) 0 (parts 881 4 xs)) where
      at_place : (y : Option Run) → (k < length runs) × (replaced is_free y runs ≡ set runs k y) × (is_free (get_or runs k none) ≡ true)
      at_place y = found_here is_free y none k runs (there ∙ search_place)

      pub place_inside : k < 4
      place_inside = omega (arith, (at_place none).0, good_runs.long)

      free_row : take 881 (drop (k * 881) xs) ≡ replicate 881 0
      unfolding run_record
      free_row = row_run k place_inside ∙ by (get_or runs k none) (at_place none).2
        where
          by : (o : Option Run) → is_free o ≡ true → run_record o ≡ replicate 881 0
          by none f = refl
          by (some r) f = absurd (true≢false (sym f))

      pub open_there : (y : List ℕ) → y ≡ text_field (length (mid_of (k * 881) (k * 881 + 33 - k * 881) xs) - 1) l
          → (accepted [] ≡ answer_to xs (open_run l)) × (put_mid (k * 881) (k * 881 + 33 - k * 881) xs y ≡ next xs (open_run l))
      unfolding checks values effect registry_record run_record port_record
      open_there y is =
          let X : List ℕ = drop (k * 881) xs in
          let wide : k * 881 + 33 - k * 881 ≡ 33 = omega arith in
          let long : length (mid_of (k * 881) (k * 881 + 33 - k * 881) xs) - 1 ≡ 32 = simp (length-take, length-drop)
          (omega (arith, place_inside, valid_long)) in
          let free : has_free runs ≡ true = told_any is_free 0 runs (Some k) (there ∙ search_place) in
          let back : drop 33 X ≡ replicate 848 0 ++ drop (k * 881 + 881) xs =
          ap (drop 33) (sym (take-append-drop 881 X) ∙ ap (◌++ drop 881 X) free_row) ∙ ap (replicate 848 0 ++◌) (drop-drop 881 (k * 881) xs) in
          let written : put_mid (k * 881) (k * 881 + 33 - k * 881) xs y ≡ put_row 881 xs k (text_field 32 l ++ replicate 848 0) =
          ap₂ (λ n z. take (k * 881) xs ++ (z ++ drop n X)) wide (is ∙ ap (λ n. text_field n l) long)
          ∙ ap (λ z. take (k * 881) xs ++ (text_field 32 l ++ z)) back
          ∙ ap (take (k * 881) xs ++◌) (sym (append_assoc (text_field 32 l) (replicate 848 0) (drop (k * 881 + 881) xs))) in
          accepted_with (open_run l) [] (put_mid (k * 881) (k * 881 + 33 - k * 881) xs y) (rw (size, new, free))
          (written ∙ put_set 881 4 xs valid_long k place_inside (text_field 32 l ++ replicate 848 0)
          ∙ ap (λ a. joined (set a k (text_field 32 l ++ replicate 848 0))) rows_are
          ∙ ap joined (set_map run_record runs k (some (new_run l)))
          ∙ ap (λ z. joined (map run_record z)) (sym (at_place (some (new_run l))).1))

  -- ---- the other refusals

  pub open_bad : (l : List ℕ) → bad_size label_max l ≡ true → (refused 90 ≡ answer_to xs (open_run l)) × (xs ≡ next xs (open_run l))
  unfolding checks values
  open_bad l e = refused_with (open_run l) 90 (rw e)

  pub open_again : (l : List ℕ) → bad_size label_max l ≡ false → is_open l runs ≡ true → (refused 94 ≡ answer_to xs (open_run l)) × (xs ≡ next xs (open_run l))
  unfolding checks values
  open_again l e o = refused_with (open_run l) 94 (rw (e, o))

  pub close_bad : (l : List ℕ) → bad_size label_max l ≡ true → (refused 90 ≡ answer_to xs (close_run l)) × (xs ≡ next xs (close_run l))
  unfolding checks values
  close_bad l e = refused_with (close_run l) 90 (rw e)

  pub close_none : (l : List ℕ) → bad_size label_max l ≡ false → is_open l runs ≡ false → (refused 91 ≡ answer_to xs (close_run l))
      × (xs ≡ next xs (close_run l))
  unfolding checks values
  close_none l e o = refused_with (close_run l) 91 (rw (e, o))

  module _ (l d t : List ℕ) (s : ℕ) where
    pub publish_bad : bad_size label_max l || (bad_size destination_max d || bad_size text_max t) ≡ true → (refused 90 ≡ answer_to xs (publish l d t s))
        × (xs ≡ next xs (publish l d t s))
    unfolding checks values
    publish_bad e = refused_with (publish l d t s) 90 (rw e)

    pub publish_none : bad_size label_max l || (bad_size destination_max d || bad_size text_max t) ≡ false → is_open l runs ≡ false
        → (refused 91 ≡ answer_to xs (publish l d t s)) × (xs ≡ next xs (publish l d t s))
    unfolding checks values
    publish_none e o = refused_with (publish l d t s) 91 (rw (e, o))

  module _ (l d : List ℕ) where
    pub ask_bad : bad_size label_max l || bad_size destination_max d ≡ true → (refused 90 ≡ answer_to xs (ask l d)) × (xs ≡ next xs (ask l d))
    unfolding checks values
    ask_bad e = refused_with (ask l d) 90 (rw e)

    pub ask_none : bad_size label_max l || bad_size destination_max d ≡ false → is_open l runs ≡ false
        → (refused 91 ≡ answer_to xs (ask l d)) × (xs ≡ next xs (ask l d))
    unfolding checks values
    ask_none e o = refused_with (ask l d) 91 (rw (e, o))

-- ---- a session's end

module _ (s : ℕ) (small : s < sessions_max) where
  some_without : (p : Port) → good_port (some p) ≡ true → row_without s (port_record (some p)) ≡ port_record (unless_of s (some p))
  unfolding port_record
  some_without p h =
      ap (λ t. cond t (replicate port_size 0) (port_record (some p))) (session_same p (good_port_record p h) s small) ∙ by (eqb p.session s)
    where
      by : (t : Bool) → cond t (replicate port_size 0) (port_record (some p)) ≡ port_record (cond t none (some p))
      by true = refl
      by false = refl

  port_without : (o : Option Port) → good_port o ≡ true → row_without s (port_record o) ≡ port_record (unless_of s o)
  unfolding port_record
  port_without none h = cond_case (λ z. z ≡ replicate 106 0) (row_of s (replicate 106 0)) (λ e. refl) (λ e. refl)
  port_without (some p) h = some_without p h

  slots_without : (slots : List (Option Port)) → every good_port slots ≡ true
      → map (row_without s) (map port_record slots) ≡ map port_record (withdrawn s slots)
  slots_without [] h = refl
  slots_without (o ∷ slots) h =
      ap₂ (◌∷◌) (port_without o (and_left (good_port o) (every good_port slots) h)) (slots_without slots (and_right (good_port o) (every good_port slots) h))

  rows_withdrawn : (slots : List (Option Port)) → GoodSlots slots
      → rows_without s (joined (map port_record slots)) ≡ joined (map port_record (withdrawn s slots))
  rows_withdrawn slots g = ap (λ z. joined (map (row_without s) z)) (slots_parts slots g) ∙ ap joined (slots_without slots g.each)

  free_good : GoodSlots (replicate 8 none)
  free_good = record { long = refl; each = refl; apart = refl }

  run_withdrawn : (o : Option Run) → good_run o ≡ true → run_octets_without s (run_record o) ≡ run_record (run_without s o)
  unfolding run_record port_record
  run_withdrawn none h = ap (replicate 33 0 ++◌) (rows_withdrawn (replicate 8 none) free_good)
  run_withdrawn (some r) h =
      let label : List ℕ = text_field 32 r.label in
      let rest : List ℕ = joined (map port_record r.slots) in
      ap₂ (λ a b. a ++ rows_without s b) (take_at label rest 33 (field_long 32 r.label (run_label r h)))
      (field_drop 32 r.label (run_label r h) 33 refl rest)
      ∙ ap (label ++◌) (rows_withdrawn r.slots (run_slots r h))

  runs_withdrawn : (runs : List (Option Run)) → every good_run runs ≡ true → map (run_octets_without s) (map run_record runs) ≡ map run_record (ended s runs)
  runs_withdrawn [] h = refl
  runs_withdrawn (o ∷ runs) h =
      ap₂ (◌∷◌) (run_withdrawn o (and_left (good_run o) (every good_run runs) h)) (runs_withdrawn runs (and_right (good_run o) (every good_run runs) h))

  pub end_there : (xs : List ℕ) → is_valid xs ≡ true → (y : List ℕ) → y ≡ joined (map (run_octets_without s) (parts 881 4 xs))
      → (accepted [] ≡ answer_to xs (end_session s)) × (y ≡ next xs (end_session s))
  unfolding checks values effect registry_record
  end_there xs v y is =
      accepted_with xs v (end_session s) [] y refl
      (is ∙ ap (λ z. joined (map (run_octets_without s) z)) (rows_are xs v) ∙ ap joined (runs_withdrawn (runs_in xs) (good_runs xs v).each))

-- ---- as the code has it

pub size_of : (w : ℕ) (x : List ℕ) → bad_size w x ≡ false → Text w x
size_of w x h = let s = sized w x h in record { some_octet = s.some_octet; short = s.short }

wide_slots : (a : ℕ) → a + 848 - a ≡ 848
wide_slots a = omega arith

module _ (xs : List ℕ) (v : is_valid xs ≡ true) (l : List ℕ) (some_octet : 0 < length l) (k : ℕ)
    (there : some k ≡ first_from (is_named l) 0 (parts 881 4 xs)) where
  abbrev start : ℕ
  start = k * 881 + 33

  pub slots_room : start + 848 ≤ length xs
  slots_room = omega (arith, run_inside xs v l some_octet k there, valid_long xs v)

  pub row_room : k * 881 + 881 ≤ length xs
  row_room = omega (arith, run_inside xs v l some_octet k there, valid_long xs v)

  pub slots_part : Slots (mid_of start (start + 848 - start) xs)
  slots_part = subst (λ n. Slots (take n (drop start xs))) (sym (wide_slots start)) (run_slots_are xs v l some_octet k there)

  pub publish_part : (d t : List ℕ) (s : ℕ) → bad_size label_max l || (bad_size destination_max d || bad_size text_max t) ≡ false → (q : Result ⊤ Refusal) (y : List ℕ)
      → GivesPublished d t s (mid_of start (start + 848 - start) xs) q y
      → (done_says q ≡ answer_to xs (publish l d t s)) × (put_mid start (start + 848 - start) xs y ≡ next xs (publish l d t s))
  publish_part d t s sizes q y g =
      let (a, w) = publish_there xs v l some_octet k there d t s sizes q y
      (subst (λ n. GivesPublished d t s (take n (drop start xs)) q y) (wide_slots start) g) in
      (a, ap (λ n. put_mid start n xs y) (wide_slots start) ∙ w)

  module _ (d : List ℕ) (sizes : bad_size label_max l || bad_size destination_max d ≡ false) (q : CodeOption Span)
      (g : GivesPort d (mid_of start (start + 848 - start) xs) q) where
    gives : GivesPort d (take 848 (drop start xs)) q
    gives = subst (λ n. GivesPort d (take n (drop start xs)) q) (wide_slots start) g

    pub movable_part : Movable q start
    movable_part = ask_movable xs v l some_octet k there d sizes q gives

    pub ask_part : (r : CodeOption Span) → r ≡ moved_by q start → (asked_says xs (Ok r) ≡ answer_to xs (ask l d)) × StartsAt xs (text_start xs l d) (Ok r) × Bounded (Ok r)
    ask_part r is = (
      ask_there xs v l some_octet k there d sizes q gives r is,
      ask_starts xs v l some_octet k there d sizes q gives r is,
      ask_bounded xs v l some_octet k there d sizes q gives r is,
    )

-- a label fits into the field of a free row
module _ (xs : List ℕ) (v : is_valid xs ≡ true) (l : List ℕ) (size : bad_size label_max l ≡ false) (k : ℕ) (less : k < 4) where
  pub label_room : k * 881 + 33 ≤ length xs
  label_room = omega (arith, valid_long xs v)

  pub label_fits : (length l < length (mid_of (k * 881) (k * 881 + 33 - k * 881) xs)) × (length l < 256)
  label_fits =
      let short : length l ≤ 32 = (sized 32 l size).short in
      let long : length (mid_of (k * 881) (k * 881 + 33 - k * 881) xs) ≡ 33 = simp (length-take, length-drop) (omega (arith, valid_long xs v)) in
      (omega arith, omega arith)

-- ---- refusals

pub small_number : (e : Refusal) → (0 < number_of e) × (number_of e < 256)
small_number InvalidRecord = (omega arith, omega arith)
small_number BadSize = (omega arith, omega arith)
small_number NotOpen = (omega arith, omega arith)
small_number OtherSession = (omega arith, omega arith)
small_number NoPlace = (omega arith, omega arith)
small_number AlreadyOpen = (omega arith, omega arith)
small_number FourOpen = (omega arith, omega arith)

-- asking that is refused
pub ask_refused : (xs : List ℕ) {A : Answer} (start : ℕ) (e : Refusal) (r : Result (CodeOption Span) Refusal) → IsErrAnd r (λ f. f ≡ e) → refused (number_of e) ≡ A
    → (asked_says xs r ≡ A) × StartsAt xs start r × Bounded r
ask_refused xs {A} start e r h a =
    subst (λ z. (asked_says xs z ≡ A) × StartsAt xs start z × Bounded z) (sym (passed_on r e h)) (a, tt, small_number e)

-- ---- the number that C gets says the answer and where the text begins

pub asked_back : (xs : List ℕ) (q : Result (CodeOption Span) Refusal) → Bounded q → asked_read xs (asked_number q) ≡ asked_says xs q
asked_back xs (Ok (Some p)) (some_text, inside) =
    let len : (p.len * 65536 + p.start) / 65536 ≡ p.len = omega arith in
    let start : (p.len * 65536 + p.start) % 65536 ≡ p.start = omega arith in
    ap (λ t. cond t (cond (eqb (p.len * 65536 + p.start) 0) (accepted []) (refused (p.len * 65536 + p.start)))
    (accepted (take ((p.len * 65536 + p.start) / 65536) (drop ((p.len * 65536 + p.start) % 65536) xs))))
    (le-ltb (p.len * 65536 + p.start) 65536 (omega arith))
    ∙ ap₂ (λ a b. accepted (take a (drop b xs))) len start
asked_back xs (Ok None) b = refl
asked_back xs (Err e) (Some_number, small) = rw (lt-ltb (number_of e) 65536 (omega arith), ne_eqb (number_of e) 0 (λ k. omega arith))

pub asked_packed : (xs : List ℕ) (start : ℕ) (q : Result (CodeOption Span) Refusal) → Bounded q → StartsAt xs start q → asked_number q ≡ packed_ask (asked_says xs q) start
asked_packed xs start (Ok (Some p)) (some_text, inside) (at, room) =
    by (take p.len (drop p.start xs)) (length-take-le p.len (drop p.start xs) (simp length-drop (omega (arith, room))))
  where
    by : (text : List ℕ) → length text ≡ p.len → p.len * 65536 + p.start ≡ packed_ask (accepted text) start
    by [] long = absurd (omega (arith, long, some_text))
    by (x ∷ text) long = ap₂ (λ a b. a * 65536 + b) (sym long) at
asked_packed xs start (Ok None) b s = refl
asked_packed xs start (Err e) b s = refl
