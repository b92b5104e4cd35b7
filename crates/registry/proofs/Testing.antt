-- The test of a record by the code's parts is exact. Assumes nothing.
--     field_.., port_.., run_..       texts, ports and runs, each way
--     distinct_as                     rows begin with distinct texts exactly where they show things of distinct names
--     registry_valid                  the whole
use mathlib.Core.Path.{◌≡◌, refl, sym, ap, ap₂, ◌∙◌}
use mathlib.Core.Bool.{Bool, true, false, cond, ◌&&◌, ◌||◌, not, true≢false}
use mathlib.Core.Option.{Option, none, some}
use mathlib.Core.List.{List, [], ◌∷◌, ◌++◌, map}
use Prim.Native.Nat.{ℕ, zero, suc, ◌+◌, ◌-◌, ◌*◌, ◌≤◌, ◌<◌, ◌^◌}
use native.Mathlib.Numerals.{add-one}
use native.Mathlib.Nat.{zero-mul, suc-mul}
use native.Mathlib.Omega.{arith}
use lib.ListN.{length, take, drop, get_or, replicate, length-drop, take-append-drop}
use lib.Seq.{take_all, take_at, drop_at, take-take, drop-drop, length-take-le}
use lib.Dec.{eqb, ltb}
use borrow.Author.Tests.{eqb-true, eqb-false, eq-eqb, ne_eqb, ltb-true, lt-ltb, le-ltb, not-true}
use Rattle.headers.specs.Rows.{every, any, same, is_octet}
use Rattle.headers.specs.Numbers.{evaluate, numeral}
use Rattle.headers.proofs.Rows.{and_left, and_right, both_ways, same_eq, same_self, every_drop, every_left, empty_eqb, refuted}
use Rattle.headers.proofs.Numerals.{numeral_value, evaluate_below}
use Rattle.stores.specs.Places.{is_zero}
use Rattle.stores.proofs.Filling.{padded_long, zeros, zeros_zero}
use Rattle.registry.specs.Slots.{is_free, holds, has, distinct}
use Rattle.registry.specs.Registry.{Port, Run, destination_of, label_of, runs_max, ports_max, sessions_max, bad_size, good_port, good_run, good}
use Rattle.stores.specs.Compaction.{joined}
use Rattle.registry.specs.Records.{parts, text_field, port_size, port_record, run_size, run_record, registry_record, text_in, is_unused, port_in, run_in, runs_in, is_valid}
use Rattle.registry.specs.Tests.{is_named, are_distinct, is_field, is_port, is_run, is_registry}
use Rattle.registry.proofs.Keeping.{Good, GoodSlots}
use Rattle.registry.proofs.Records.{Long, Sized, field_long, field_used, GoodPort, good_port_record, run_label, run_slots, record_parts, record_long, valid_good, valid_record, slots_parts, slots_long, slots_back, runs_long, runs_back}

pub every_take : (f : ℕ → Bool) (n : ℕ) (xs : List ℕ) → every f xs ≡ true → every f (take n xs) ≡ true
every_take f n xs h = every_left f (take n xs) (drop n xs) (ap (every f) (take-append-drop n xs) ∙ h)

-- ---- texts

good_size : (w : ℕ) (x : List ℕ) → Sized w x → bad_size w x ≡ false
good_size w x s = ap₂ (◌||◌) (empty_eqb x ∙ ne_eqb (length x) 0 (λ e. omega (arith, s.some_octet))) (le-ltb w (length x) s.short)

-- what a field is that passes the test
pub record Field (w : ℕ) (f : List ℕ) : Type 0 where
  pub size : Sized w (text_in f)
  pub laid : text_field w (text_in f) ≡ f
  pub inside : get_or f 0 0 ≤ w

pub field_is : (w : ℕ) (f : List ℕ) → length f ≡ w + 1 → is_field f ≡ true → Field w f
unfolding is_field
field_is w [] long h = absurd (omega arith)
field_is w (l ∷ f) long h =
    let used : (l ≡ 0 → ⊥) = eqb-false l 0 (not-true (eqb l 0) (and_left (not (eqb l 0)) (ltb l (length (l ∷ f)) && is_zero (drop (l + 1) (l ∷ f))) h)) in
    let rest : ltb l (length (l ∷ f)) && is_zero (drop (l + 1) (l ∷ f)) ≡ true = and_right (not (eqb l 0))
    (ltb l (length (l ∷ f)) && is_zero (drop (l + 1) (l ∷ f))) h in
    let inside : l < length (l ∷ f) = ltb-true l (length (l ∷ f)) (and_left (ltb l (length (l ∷ f))) (is_zero (drop (l + 1) (l ∷ f))) rest) in
    let zero_rest : is_zero (drop l f) ≡ true =
    ap (λ n. is_zero (drop n (l ∷ f))) (sym (add-one l)) ∙ and_right (ltb l (length (l ∷ f))) (is_zero (drop (l + 1) (l ∷ f))) rest in
    let text_long : length (take l f) ≡ l = length-take-le l f (omega arith) in
    let room : w - length (take l f) ≡ length (drop l f) = omega (arith, text_long, length-drop l f) in
    record {
      size = record { some_octet = pos l used text_long; short = omega (arith, text_long) };
      laid = ap₂ (λ n z. n ∷ (take l f ++ z)) text_long (ap (λ n. replicate n 0) room ∙ sym (zeros (drop l f) zero_rest)) ∙ ap (l ∷◌) (take-append-drop l f);
      inside = omega arith;
    }
  where
    pos : (l : ℕ) → (l ≡ 0 → ⊥) → length (take l f) ≡ l → 0 < length (take l f)
    pos zero u e = absurd (u refl)
    pos (suc l) u e = omega (arith, e)

-- and that a text laid out passes
pub is_field_text : (w : ℕ) (x : List ℕ) → Sized w x → is_field (text_field w x) ≡ true
unfolding is_field
is_field_text w x s =
    let rest : is_zero (drop (length x + 1) (text_field w x)) ≡ true =
    ap (λ n. is_zero (drop n (text_field w x))) (add-one (length x))
    ∙ ap is_zero (drop_at x (replicate (w - length x) 0) (length x) refl)
    ∙ zeros_zero (w - length x) in
    ap₂ (λ a b. not a && b) (ne_eqb (length x) 0 (λ e. omega (arith, s.some_octet)))
    (ap₂ (◌&&◌) (lt-ltb (length x) (length (text_field w x)) (omega (arith, padded_long w x s.short, s.short))) rest)

-- the text of a row is that of the field that it begins with
pub text_front : (n : ℕ) (xs : List ℕ) → get_or xs 0 0 ≤ n → text_in (take (suc n) xs) ≡ text_in xs
text_front n [] h = refl
text_front n (l ∷ xs) h = take-take l n xs h

pub first_front : (n : ℕ) (xs : List ℕ) → get_or (take (suc n) xs) 0 0 ≡ get_or xs 0 0
first_front n [] = refl
first_front n (l ∷ xs) = refl

-- ---- ports

module _ (xs : List ℕ) (long : length xs ≡ port_size) (octets : every is_octet xs ≡ true) where
  number_back : numeral 256 8 (evaluate 256 0 (take 8 (drop 98 xs))) ≡ drop 98 xs
  number_back =
      let l : length (drop 98 xs) ≡ 8 = length-drop 98 xs ∙ omega arith in
      let all : take 8 (drop 98 xs) ≡ drop 98 xs = take_all 8 (drop 98 xs) (omega arith) in
      ap (λ z. numeral 256 8 (evaluate 256 0 z)) all
      ∙ ap (λ n. numeral 256 n (evaluate 256 0 (drop 98 xs))) (sym l)
      ∙ numeral_value 256 (drop 98 xs) (every_drop is_octet 98 xs octets)

  number_small : evaluate 256 0 (take 8 (drop 98 xs)) < sessions_max
  number_small =
      let l : length (take 8 (drop 98 xs)) ≡ 8 = length-take-le 8 (drop 98 xs) (omega (arith, length-drop 98 xs)) in
      let small : evaluate 256 0 (take 8 (drop 98 xs)) < 1 * 256 ^ length (take 8 (drop 98 xs)) =
      evaluate_below 256 0 (take 8 (drop 98 xs)) (every_take is_octet 8 (drop 98 xs) (every_drop is_octet 98 xs octets)) in
      omega (arith, rw l at small)

  module _ (d : Field 32 (take 33 xs)) (t : Field 64 (take 65 (drop 33 xs))) where
    used_port : Port
    used_port = record { destination = text_in xs; text = text_in (drop 33 xs); session = evaluate 256 0 (take 8 (drop 98 xs)) }

    d_text : text_in (take 33 xs) ≡ text_in xs
    d_text = text_front 32 xs (omega (arith, d.inside, first_front 32 xs))

    t_text : text_in (take 65 (drop 33 xs)) ≡ text_in (drop 33 xs)
    t_text = text_front 64 (drop 33 xs) (omega (arith, t.inside, first_front 64 (drop 33 xs)))

    used_port_good : good_port (some used_port) ≡ true
    unfolding used_port
    used_port_good =
        ap₂ (λ a b. not a && b) (ap (bad_size 32) (sym d_text) ∙ good_size 32 (text_in (take 33 xs)) d.size)
        (ap₂ (λ a b. not a && b) (ap (bad_size 64) (sym t_text) ∙ good_size 64 (text_in (take 65 (drop 33 xs))) t.size)
        (lt-ltb (evaluate 256 0 (take 8 (drop 98 xs))) sessions_max number_small))

    used_port_laid : port_record (some used_port) ≡ xs
    unfolding port_record used_port
    used_port_laid =
        let rest : drop 65 (drop 33 xs) ≡ drop 98 xs = drop-drop 65 33 xs in
        ap₂ (◌++◌) (ap (text_field 32) (sym d_text) ∙ d.laid)
        (ap₂ (◌++◌) (ap (text_field 64) (sym t_text) ∙ t.laid) (number_back ∙ sym rest) ∙ take-append-drop 65 (drop 33 xs))
        ∙ take-append-drop 33 xs

  pub port_is : is_port xs ≡ true → (good_port (port_in xs) ≡ true) × (port_record (port_in xs) ≡ xs)
  unfolding is_port port_in port_record used_port
  port_is h = by (is_unused xs) h
    where
      by : (u : Bool) → cond u (is_zero xs) (is_field (take 33 xs) && is_field (take 65 (drop 33 xs))) ≡ true
          → (good_port (cond u none (some (record { destination = text_in xs; text = text_in (drop 33 xs); session = evaluate 256 0 (take 8 (drop 98 xs)) }))) ≡
          true)
          × (port_record (cond u none (some (record { destination = text_in xs; text = text_in (drop 33 xs); session = evaluate 256 0 (take 8 (drop 98 xs)) })))
          ≡ xs)
      by true k = (refl, ap (λ n. replicate n 0) (sym long) ∙ sym (zeros xs k))
      by false k =
          let d : Field 32 (take 33 xs) = field_is 32 (take 33 xs) (length-take-le 33 xs (omega arith))
          (and_left (is_field (take 33 xs)) (is_field (take 65 (drop 33 xs))) k) in
          let t : Field 64 (take 65 (drop 33 xs)) =
          field_is 64 (take 65 (drop 33 xs)) (length-take-le 65 (drop 33 xs) (omega (arith, length-drop 33 xs)))
          (and_right (is_field (take 33 xs)) (is_field (take 65 (drop 33 xs))) k) in
          (used_port_good d t, used_port_laid d t)

pub is_port_record : (o : Option Port) → good_port o ≡ true → is_port (port_record o) ≡ true
unfolding is_port port_record
is_port_record none h = refl
is_port_record (some p) h =
    let g : GoodPort p = good_port_record p h in
    let d : List ℕ = text_field 32 p.destination in
    let t : List ℕ = text_field 64 p.text in
    let n : List ℕ = numeral 256 8 p.session in
    ap (λ u. cond u (is_zero (d ++ (t ++ n))) (is_field (take 33 (d ++ (t ++ n))) && is_field (take 65 (drop 33 (d ++ (t ++ n))))))
    (field_used 32 p.destination g.destination_sized (t ++ n))
    ∙ ap₂ (◌&&◌)
    (ap is_field (take_at d (t ++ n) 33 (field_long 32 p.destination g.destination_sized)) ∙ is_field_text 32 p.destination g.destination_sized)
    (ap (λ z. is_field (take 65 z)) (drop_at d (t ++ n) 33 (field_long 32 p.destination g.destination_sized))
    ∙ ap is_field (take_at t n 65 (field_long 64 p.text g.text_sized)) ∙ is_field_text 64 p.text g.text_sized)

-- ---- distinct rows

pub parts_long : (w n : ℕ) (xs : List ℕ) → length xs ≡ n * w → Long w (parts w n xs)
parts_long w zero xs e = tt
parts_long w (suc n) xs e =
    (length-take-le w xs (omega (arith, suc-mul n w)), parts_long w n (drop w xs) (length-drop w xs ∙ omega (arith, suc-mul n w)))

pub parts_whole : (w n : ℕ) (xs : List ℕ) → length xs ≡ n * w → joined (parts w n xs) ≡ xs
parts_whole w zero xs e = sym (nil xs (e ∙ zero-mul w))
  where
    nil : (xs : List ℕ) → length xs ≡ 0 → xs ≡ []
    nil [] h = refl
    nil (x ∷ xs) h = absurd (omega arith)
parts_whole w (suc n) xs e =
    ap (take w xs ++◌) (parts_whole w n (drop w xs) (length-drop w xs ∙ omega (arith, suc-mul n w))) ∙ take-append-drop w xs

text_some : (row : List ℕ) → 2 ≤ length row → is_unused row ≡ false → text_in row ≡ [] → ⊥
text_some [] h u e = omega arith
text_some (l ∷ []) h u e = omega arith
text_some (zero ∷ x ∷ row) h u e = true≢false u
text_some (suc l ∷ x ∷ row) h u e = let z : ◌≡◌ {A = ℕ} 0 1 = cc in omega arith

pub free_text : (row : List ℕ) → is_unused row ≡ true → text_in row ≡ []
free_text row u = ap (λ n. take n (drop 1 row)) (eqb-true (get_or row 0 0) 0 u)

-- a view of rows as slots: what a row that is not free holds is named by the text that it begins with
module _ {A : Type 0} (name : A → List ℕ) (view : List ℕ → Option A) (thing : List ℕ → A)
    (shape : (row : List ℕ) → view row ≡ cond (is_unused row) none (some (thing row))) (named : (row : List ℕ) → name (thing row) ≡ text_in row) where
  pub named_holds : (x : List ℕ) → (x ≡ [] → ⊥) → (row : List ℕ) → is_named x row ≡ holds name x (view row)
  named_holds x n row = by (is_unused row) refl ∙ sym (ap (holds name x) (shape row))
    where
      by : (u : Bool) → is_unused row ≡ u → is_named x row ≡ holds name x (cond u none (some (thing row)))
      by true e = ap (λ z. same z x) (free_text row e) ∙ none_same x n
        where
          none_same : (x : List ℕ) → (x ≡ [] → ⊥) → same [] x ≡ false
          none_same [] n = absurd (n refl)
          none_same (a ∷ x) n = refl
      by false e = ap (λ z. same z x) (sym (named row))

  pub free_holds : (row : List ℕ) → 2 ≤ length row → is_named [] row ≡ is_free (view row)
  free_holds row long = by (is_unused row) refl ∙ sym (ap is_free (shape row))
    where
      by : (u : Bool) → is_unused row ≡ u → is_named [] row ≡ is_free (cond u none (some (thing row)))
      by true e = ap (λ z. same z []) (free_text row e)
      by false e = refuted (is_named [] row) (λ s. text_some row long e (same_eq (text_in row) [] s))

  pub any_has : (x : List ℕ) → (x ≡ [] → ⊥) → (rows : List (List ℕ)) → any (is_named x) rows ≡ has name x (map view rows)
  any_has x n [] = refl
  any_has x n (row ∷ rows) = ap₂ (◌||◌) (named_holds x n row) (any_has x n rows)

  pub distinct_as : (w : ℕ) → 2 ≤ w → (rows : List (List ℕ)) → Long w rows → are_distinct rows ≡ distinct name (map view rows)
  unfolding are_distinct
  distinct_as w h [] long = refl
  distinct_as w h (row ∷ rows) long = by (is_unused row) refl (distinct_as w h rows long.1) ∙ sym (ap (λ z. distinct name (z ∷ map view rows)) (shape row))
    where
      by : (u : Bool) → is_unused row ≡ u → are_distinct rows ≡ distinct name (map view rows)
          → (u || not (any (is_named (text_in row)) rows)) && are_distinct rows ≡ distinct name (cond u none (some (thing row)) ∷ map view rows)
      by true e go = go
      by false e go =
          ap₂ (λ a b. not a && b) (any_has (text_in row) (text_some row (omega (arith, long.0)) e) rows
          ∙ ap (λ z. has name z (map view rows)) (sym (named row))) go

pub thing_port : List ℕ → Port
thing_port xs = record { destination = text_in xs; text = text_in (drop 33 xs); session = evaluate 256 0 (take 8 (drop 98 xs)) }

pub shape_port : (row : List ℕ) → port_in row ≡ cond (is_unused row) none (some (thing_port row))
unfolding port_in thing_port
shape_port row = refl

pub named_port : (row : List ℕ) → destination_of (thing_port row) ≡ text_in row
unfolding thing_port
named_port row = refl

pub thing_run : List ℕ → Run
thing_run xs = record { label = text_in xs; slots = map port_in (parts port_size ports_max (drop 33 xs)) }

pub shape_run : (row : List ℕ) → run_in row ≡ cond (is_unused row) none (some (thing_run row))
unfolding run_in thing_run
shape_run row = refl

pub named_run : (row : List ℕ) → label_of (thing_run row) ≡ text_in row
unfolding thing_run
named_run row = refl

pub ports_distinct : (rows : List (List ℕ)) → Long 106 rows → are_distinct rows ≡ distinct destination_of (map port_in rows)
ports_distinct rows long = distinct_as destination_of port_in thing_port shape_port named_port 106 (omega arith) rows long

pub runs_distinct : (rows : List (List ℕ)) → Long 881 rows → are_distinct rows ≡ distinct label_of (map run_in rows)
runs_distinct rows long = distinct_as label_of run_in thing_run shape_run named_run 881 (omega arith) rows long

-- ---- runs

-- what holds of each row that passes a test holds of rows that do
module _ {A : Type 0} (w : ℕ) (test : List ℕ → Bool) (view : List ℕ → A) (lay : A → List ℕ) (ok : A → Bool)
    (one : (row : List ℕ) → length row ≡ w → every is_octet row ≡ true → test row ≡ true → (ok (view row) ≡ true) × (lay (view row) ≡ row)) where
  pub rows_are : (n : ℕ) (xs : List ℕ) → length xs ≡ n * w → every is_octet xs ≡ true → every test (parts w n xs) ≡ true
      → (every ok (map view (parts w n xs)) ≡ true) × (map lay (map view (parts w n xs)) ≡ parts w n xs)
  rows_are zero xs e o h = (refl, refl)
  rows_are (suc n) xs e o h =
      let here = one (take w xs) (length-take-le w xs (omega (arith, suc-mul n w))) (every_take is_octet w xs o)
      (and_left (test (take w xs)) (every test (parts w n (drop w xs))) h) in
      let later = rows_are n (drop w xs) (length-drop w xs ∙ omega (arith, suc-mul n w)) (every_drop is_octet w xs o)
      (and_right (test (take w xs)) (every test (parts w n (drop w xs))) h) in
      (ap₂ (◌&&◌) here.0 later.0, ap₂ (◌∷◌) here.1 later.1)

pub every_lay : {A : Type 0} (test : List ℕ → Bool) (lay : A → List ℕ) (ok : A → Bool) → ((a : A) → ok a ≡ true → test (lay a) ≡ true)
    → (xs : List A) → every ok xs ≡ true → every test (map lay xs) ≡ true
every_lay test lay ok one [] h = refl
every_lay test lay ok one (a ∷ xs) h = ap₂ (◌&&◌) (one a (and_left (ok a) (every ok xs) h)) (every_lay test lay ok one xs (and_right (ok a) (every ok xs) h))

map_length : {A B : Type 0} (f : A → B) (xs : List A) → length (map f xs) ≡ length xs
map_length f [] = refl
map_length f (x ∷ xs) = ap suc (map_length f xs)

parts_many : (w n : ℕ) (xs : List ℕ) → length (parts w n xs) ≡ n
parts_many w zero xs = refl
parts_many w (suc n) xs = ap suc (parts_many w n (drop w xs))

module _ (xs : List ℕ) (long : length xs ≡ run_size) (octets : every is_octet xs ≡ true) where
  abbrev rows : List (List ℕ)
  rows = parts port_size ports_max (drop 33 xs)

  rest_long : length (drop 33 xs) ≡ 848
  rest_long = length-drop 33 xs ∙ omega arith

  module _ (l : Field 32 (take 33 xs)) (each : every is_port rows ≡ true) (apart : are_distinct rows ≡ true) where
    l_text : text_in (take 33 xs) ≡ text_in xs
    l_text = text_front 32 xs (omega (arith, l.inside, first_front 32 xs))

    ports_are : (every good_port (map port_in rows) ≡ true) × (map port_record (map port_in rows) ≡ rows)
    ports_are = rows_are port_size is_port port_in port_record good_port port_is 8 (drop 33 xs) rest_long (every_drop is_octet 33 xs octets) each

    used_run_good : good_run (some (thing_run xs)) ≡ true
    unfolding thing_run
    used_run_good =
        ap₂ (λ a b. not a && b) (ap (bad_size 32) (sym l_text) ∙ good_size 32 (text_in (take 33 xs)) l.size)
        (ap₂ (◌&&◌) (eq-eqb (length (map port_in rows)) 8 (map_length port_in rows ∙ parts_many 106 8 (drop 33 xs)))
        (ap₂ (◌&&◌) ports_are.0 (sym (ports_distinct rows (parts_long 106 8 (drop 33 xs) rest_long)) ∙ apart)))

    used_run_laid : run_record (some (thing_run xs)) ≡ xs
    unfolding run_record thing_run
    used_run_laid =
        ap₂ (◌++◌) (ap (text_field 32) (sym l_text) ∙ l.laid) (ap joined ports_are.1 ∙ parts_whole 106 8 (drop 33 xs) rest_long)
        ∙ take-append-drop 33 xs

  pub run_is : is_run xs ≡ true → (good_run (run_in xs) ≡ true) × (run_record (run_in xs) ≡ xs)
  unfolding is_run run_in run_record thing_run
  run_is h = by (is_unused xs) h
    where
      by : (u : Bool) → cond u (is_zero xs) (is_field (take 33 xs) && (every is_port rows && are_distinct rows)) ≡ true
          → (good_run (cond u none (some (record { label = text_in xs; slots = map port_in rows }))) ≡ true)
          × (run_record (cond u none (some (record { label = text_in xs; slots = map port_in rows }))) ≡ xs)
      by true k = (refl, ap (λ n. replicate n 0) (sym long) ∙ sym (zeros xs k))
      by false k =
          let l : Field 32 (take 33 xs) = field_is 32 (take 33 xs) (length-take-le 33 xs (omega arith))
          (and_left (is_field (take 33 xs)) (every is_port rows && are_distinct rows) k) in
          let rest : every is_port rows && are_distinct rows ≡ true = and_right (is_field (take 33 xs)) (every is_port rows && are_distinct rows) k in
          let each = and_left (every is_port rows) (are_distinct rows) rest in
          let apart = and_right (every is_port rows) (are_distinct rows) rest in
          (used_run_good l each apart, used_run_laid l each apart)

pub is_run_record : (o : Option Run) → good_run o ≡ true → is_run (run_record o) ≡ true
unfolding is_run run_record
is_run_record none h = refl
is_run_record (some r) h =
    let s : Sized 32 r.label = run_label r h in
    let g : GoodSlots r.slots = run_slots r h in
    let f : List ℕ = text_field 32 r.label in
    let ps : List (List ℕ) = map port_record r.slots in
    let rest : drop 33 (f ++ joined ps) ≡ joined ps = drop_at f (joined ps) 33 (field_long 32 r.label s) in
    let back : parts 106 8 (drop 33 (f ++ joined ps)) ≡ ps = ap (parts 106 8) rest ∙ slots_parts r.slots g in
    ap (λ u. cond u (is_zero (f ++ joined ps))
    (is_field (take 33 (f ++ joined ps)) && (every is_port (parts 106 8 (drop 33 (f ++ joined ps))) && are_distinct (parts 106 8 (drop 33 (f ++ joined ps))))))
    (field_used 32 r.label s (joined ps))
    ∙ ap₂ (◌&&◌) (ap is_field (take_at f (joined ps) 33 (field_long 32 r.label s)) ∙ is_field_text 32 r.label s)
    (ap (λ z. every is_port z && are_distinct z) back
    ∙ ap₂ (◌&&◌) (every_lay is_port port_record good_port is_port_record r.slots g.each)
    (ports_distinct ps (slots_long r.slots g.each) ∙ ap (distinct destination_of) (slots_back r.slots g.each) ∙ g.apart))

-- ---- the whole

valid_is : (xs : List ℕ) → every is_octet xs ≡ true → is_registry xs ≡ true → is_valid xs ≡ true
unfolding is_registry is_valid runs_in registry_record good
valid_is xs o h =
    let rows : List (List ℕ) = parts run_size runs_max xs in
    let long : length xs ≡ 3524 = eqb-true (length xs) 3524 (and_left (eqb (length xs) 3524) (every is_run rows && are_distinct rows) h) in
    let rest : every is_run rows && are_distinct rows ≡ true = and_right (eqb (length xs) 3524) (every is_run rows && are_distinct rows) h in
    let are = rows_are run_size is_run run_in run_record good_run run_is 4 xs long o (and_left (every is_run rows) (are_distinct rows) rest) in
    ap₂ (◌&&◌)
    (ap₂ (◌&&◌) (eq-eqb (length (map run_in rows)) 4 (map_length run_in rows ∙ parts_many 881 4 xs))
    (ap₂ (◌&&◌) are.0 (sym (runs_distinct rows (parts_long 881 4 xs long)) ∙ and_right (every is_run rows) (are_distinct rows) rest)))
    (ap (λ z. same (joined z) xs) are.1 ∙ ap (λ z. same z xs) (parts_whole 881 4 xs long) ∙ same_self xs)

is_valid_record : (runs : List (Option Run)) → Good runs → is_registry (registry_record runs) ≡ true
unfolding is_registry
is_valid_record runs g =
    ap₂ (◌&&◌) (eq-eqb (length (registry_record runs)) 3524 (record_long runs g))
    (ap (λ z. every is_run z && are_distinct z) (record_parts runs g)
    ∙ ap₂ (◌&&◌) (every_lay is_run run_record good_run is_run_record runs g.each)
    (runs_distinct (map run_record runs) (runs_long runs g.each) ∙ ap (distinct label_of) (runs_back runs g.each) ∙ g.apart))

pub registry_valid : (xs : List ℕ) → every is_octet xs ≡ true → is_registry xs ≡ is_valid xs
registry_valid xs o =
    both_ways (is_registry xs) (is_valid xs) (valid_is xs o)
    (λ v. ap is_registry (sym (valid_record xs v)) ∙ is_valid_record (runs_in xs) (valid_good xs v))
