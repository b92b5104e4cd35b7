-- The record of a good registry shows that registry, and is valid. Assumes nothing.
--     field_.., port_.., run_..       texts, ports and runs laid out and read back
--     shown, record_valid             a whole registry
--     answer_as, next_as              a call of its record
--     octets_as                       the octets of one run in it
use mathlib.Core.Path.{◌≡◌, refl, sym, ◌∙◌, ap, ap₂}
use mathlib.Core.Bool.{Bool, true, false, cond, ◌&&◌, not}
use mathlib.Core.Option.{Option, none, some}
use mathlib.Core.List.{List, [], ◌∷◌, ◌++◌, map, append_assoc}
use Prim.Native.Nat.{ℕ, zero, suc, ◌+◌, ◌-◌, ◌*◌, ◌≤◌, ◌<◌}
use native.Mathlib.Nat.{zero-mul, suc-mul}
use native.Mathlib.Omega.{arith}
use lib.ListN.{length, take, drop, replicate, length-append, length-replicate}
use lib.Seq.{take_at, drop_at, take_all, drop-drop}
use lib.Dec.{ltb}
use borrow.Author.Tests.{ne_eqb, ltb-true, ltb-false, not-true}
use Rattle.headers.specs.Rows.{empty, every, first_of, same, All}
use Rattle.headers.specs.Numbers.{evaluate, numeral}
use Rattle.headers.specs.Answers.{Answer, accepted, refused, settle}
use Rattle.headers.proofs.Rows.{and_left, and_right, or_false_right, same_eq, same_self}
use Rattle.headers.proofs.Numerals.{length_numeral, value_numeral}
use Rattle.registry.specs.Slots.{holds, found}
use Rattle.registry.specs.Registry.{Port, Run, label_of, runs_max, ports_max, label_max, destination_max, text_max, sessions_max, bad_size, good_port, good_slots, good_run, good, no_runs}
use Rattle.registry.specs.Calls.{Call, left_by, checks, values, effect}
use Rattle.stores.specs.Compaction.{joined}
use Rattle.registry.specs.Records.{parts, text_field, port_size, port_record, run_size, run_record, registry_record, text_in, is_unused, port_in, run_in, runs_in, is_valid, empty_record, answer_to, next, octets_of_run}
use Rattle.registry.proofs.Keeping.{answer, step, Good, GoodSlots, slots_record, record_good, good_record}

-- ---- texts

-- a text that has a good size
pub record Sized (w : ℕ) (x : List ℕ) : Type 0 where
  pub some_octet : 0 < length x
  pub short : length x ≤ w

pub sized : (w : ℕ) (x : List ℕ) → bad_size w x ≡ false → Sized w x
sized w [] h = absurd (let z : ◌≡◌ {A = ℕ} 0 1 = cc in omega arith)
sized w (a ∷ x) h = record { some_octet = omega arith; short = ltb-false w (length (a ∷ x)) (or_false_right (empty (a ∷ x)) (ltb w (length (a ∷ x))) h) }

module _ (w : ℕ) (x : List ℕ) (s : Sized w x) where
  pub field_long : length (text_field w x) ≡ w + 1
  field_long =
      ap suc (length-append x (replicate (w - length x) 0) ∙ ap (length x +◌) (length-replicate (w - length x) 0)) ∙ omega (arith, s.short)

  pub field_text : (rest : List ℕ) → text_in (text_field w x ++ rest) ≡ x
  field_text rest = ap (take (length x)) (append_assoc x (replicate (w - length x) 0) rest) ∙ take_at x (replicate (w - length x) 0 ++ rest) (length x) refl

  pub field_used : (rest : List ℕ) → is_unused (text_field w x ++ rest) ≡ false
  field_used rest = ne_eqb (length x) 0 (λ e. omega (arith, s.some_octet))

  pub field_drop : (n : ℕ) → w + 1 ≡ n → (rest : List ℕ) → drop n (text_field w x ++ rest) ≡ rest
  field_drop n e rest = drop_at (text_field w x) rest n (field_long ∙ e)

-- ---- parts of one size

abbrev pub Long : ℕ → List (List ℕ) → Type 0
Long w xs = All (λ x. length x ≡ w) xs

pub parts_joined : (w n : ℕ) (xs : List (List ℕ)) → length xs ≡ n → Long w xs → parts w n (joined xs) ≡ xs
parts_joined w zero [] e l = refl
parts_joined w zero (x ∷ xs) e l = absurd (omega arith)
parts_joined w (suc n) [] e l = absurd (omega arith)
parts_joined w (suc n) (x ∷ xs) e l =
    ap₂ (◌∷◌) (take_at x (joined xs) w l.0) (ap (parts w n) (drop_at x (joined xs) w l.0) ∙ parts_joined w n xs (omega arith) l.1)

pub joined_long : (w : ℕ) (xs : List (List ℕ)) → Long w xs → length (joined xs) ≡ length xs * w
joined_long w [] l = sym (zero-mul w)
joined_long w (x ∷ xs) l = length-append x (joined xs) ∙ omega (arith, l.0, joined_long w xs l.1, suc-mul (length xs) w)

length-map : {A B : Type 0} (f : A → B) (xs : List A) → length (map f xs) ≡ length xs
length-map f [] = refl
length-map f (x ∷ xs) = ap suc (length-map f xs)

-- what holds of each good thing, of a row of them
module _ {A : Type 0} (q : A → Bool) (f : A → List ℕ) (w : ℕ) (long : (a : A) → q a ≡ true → length (f a) ≡ w) where
  mapped_long : (xs : List A) → every q xs ≡ true → Long w (map f xs)
  mapped_long [] h = tt
  mapped_long (a ∷ xs) h = (long a (and_left (q a) (every q xs) h), mapped_long xs (and_right (q a) (every q xs) h))

module _ {A : Type 0} (q : A → Bool) (f : A → List ℕ) (b : List ℕ → A) (back : (a : A) → q a ≡ true → b (f a) ≡ a) where
  mapped_back : (xs : List A) → every q xs ≡ true → map b (map f xs) ≡ xs
  mapped_back [] h = refl
  mapped_back (a ∷ xs) h = ap₂ (◌∷◌) (back a (and_left (q a) (every q xs) h)) (mapped_back xs (and_right (q a) (every q xs) h))

-- ---- a port

pub record GoodPort (p : Port) : Type 0 where
  pub destination_sized : Sized destination_max p.destination
  pub text_sized : Sized text_max p.text
  pub session_small : p.session < sessions_max

pub good_port_record : (p : Port) → good_port (some p) ≡ true → GoodPort p
good_port_record p h =
    let rest = and_right (not (bad_size destination_max p.destination)) (not (bad_size text_max p.text) && ltb p.session sessions_max) h in
    record {
      destination_sized =
          sized destination_max p.destination
          (not-true (bad_size destination_max p.destination) (and_left (not (bad_size destination_max p.destination)) _ h));
      text_sized = sized text_max p.text (not-true (bad_size text_max p.text) (and_left (not (bad_size text_max p.text)) _ rest));
      session_small = ltb-true p.session sessions_max (and_right (not (bad_size text_max p.text)) (ltb p.session sessions_max) rest);
    }

module _ (p : Port) (g : GoodPort p) where
  abbrev after_destination : List ℕ
  after_destination = text_field text_max p.text ++ numeral 256 8 p.session

  some_port_long : length (port_record (some p)) ≡ port_size
  unfolding port_record
  some_port_long =
      length-append (text_field destination_max p.destination) after_destination
      ∙ ap₂ (◌+◌) (field_long destination_max p.destination g.destination_sized)
      (length-append (text_field text_max p.text) (numeral 256 8 p.session)
      ∙ ap₂ (◌+◌) (field_long text_max p.text g.text_sized) (length_numeral 256 8 p.session))

  some_port_back : port_in (port_record (some p)) ≡ some p
  unfolding port_record port_in
  some_port_back =
      let d = p.destination in
      let whole : List ℕ = text_field destination_max d ++ after_destination in
      let dropped : drop 33 whole ≡ after_destination = field_drop destination_max d g.destination_sized 33 refl after_destination in
      let number : drop 98 whole ≡ numeral 256 8 p.session =
      sym (drop-drop 65 33 whole) ∙ ap (drop 65) dropped ∙ field_drop text_max p.text g.text_sized 65 refl (numeral 256 8 p.session) in
      let a : text_in whole ≡ d = field_text destination_max d g.destination_sized after_destination in
      let b : text_in (drop 33 whole) ≡ p.text = ap text_in dropped ∙ field_text text_max p.text g.text_sized (numeral 256 8 p.session) in
      let c : evaluate 256 0 (take 8 (drop 98 whole)) ≡ p.session =
      ap (λ z. evaluate 256 0 (take 8 z)) number
      ∙ ap (evaluate 256 0) (take_all 8 (numeral 256 8 p.session) (omega (arith, length_numeral 256 8 p.session)))
      ∙ value_numeral 256 8 p.session g.session_small in
      ap (λ t. cond t none (some (record { destination = text_in whole; text = text_in (drop 33 whole); session = evaluate 256 0 (take 8 (drop 98 whole)) })))
      (field_used destination_max d g.destination_sized after_destination)
      ∙ (λ i. some (record { destination = a i; text = b i; session = c i }))

pub port_long : (o : Option Port) → good_port o ≡ true → length (port_record o) ≡ port_size
unfolding port_record
port_long none h = refl
port_long (some p) h = some_port_long p (good_port_record p h)

pub port_back : (o : Option Port) → good_port o ≡ true → port_in (port_record o) ≡ o
unfolding port_record port_in
port_back none h = refl
port_back (some p) h = some_port_back p (good_port_record p h)

-- rows of ports
pub slots_long : (slots : List (Option Port)) → every good_port slots ≡ true → Long port_size (map port_record slots)
slots_long slots h = mapped_long good_port port_record port_size port_long slots h

pub slots_back : (slots : List (Option Port)) → every good_port slots ≡ true → map port_in (map port_record slots) ≡ slots
slots_back slots h = mapped_back good_port port_record port_in port_back slots h

pub slots_parts : (slots : List (Option Port)) → GoodSlots slots → parts port_size ports_max (joined (map port_record slots)) ≡ map port_record slots
slots_parts slots g = parts_joined port_size ports_max (map port_record slots) (length-map port_record slots ∙ g.long) (slots_long slots g.each)

-- ---- a run

module _ (r : Run) (label_sized : Sized label_max r.label) (g : GoodSlots r.slots) where
  abbrev ports : List (List ℕ)
  ports = map port_record r.slots

  ports_long : Long port_size ports
  ports_long = mapped_long good_port port_record port_size port_long r.slots g.each

  ports_many : length ports ≡ ports_max
  ports_many = length-map port_record r.slots ∙ g.long

  some_run_long : length (run_record (some r)) ≡ run_size
  unfolding run_record
  some_run_long =
      length-append (text_field label_max r.label) (joined ports)
      ∙ ap₂ (◌+◌) (field_long label_max r.label label_sized) (joined_long port_size ports ports_long ∙ ap (◌* port_size) ports_many)

  some_run_back : run_in (run_record (some r)) ≡ some r
  unfolding run_record run_in
  some_run_back =
      let whole : List ℕ = text_field label_max r.label ++ joined ports in
      let a : text_in whole ≡ r.label = field_text label_max r.label label_sized (joined ports) in
      let b : map port_in (parts port_size ports_max (drop 33 whole)) ≡ r.slots =
      ap (λ z. map port_in (parts port_size ports_max z)) (field_drop label_max r.label label_sized 33 refl (joined ports))
      ∙ ap (map port_in) (parts_joined port_size ports_max ports ports_many ports_long)
      ∙ mapped_back good_port port_record port_in port_back r.slots g.each in
      ap (λ t. cond t none (some (record { label = text_in whole; slots = map port_in (parts port_size ports_max (drop 33 whole)) })))
      (field_used label_max r.label label_sized (joined ports))
      ∙ (λ i. some (record { label = a i; slots = b i }))

module _ (r : Run) (h : good_run (some r) ≡ true) where
  pub run_label : Sized label_max r.label
  run_label = sized label_max r.label (not-true (bad_size label_max r.label) (and_left (not (bad_size label_max r.label)) (good_slots r.slots) h))

  pub run_slots : GoodSlots r.slots
  run_slots = slots_record r.slots (and_right (not (bad_size label_max r.label)) (good_slots r.slots) h)

pub run_long : (o : Option Run) → good_run o ≡ true → length (run_record o) ≡ run_size
unfolding run_record
run_long none h = refl
run_long (some r) h = some_run_long r (run_label r h) (run_slots r h)

pub run_back : (o : Option Run) → good_run o ≡ true → run_in (run_record o) ≡ o
unfolding run_record run_in
run_back none h = refl
run_back (some r) h = some_run_back r (run_label r h) (run_slots r h)

-- rows of runs
pub runs_long : (runs : List (Option Run)) → every good_run runs ≡ true → Long run_size (map run_record runs)
runs_long runs h = mapped_long good_run run_record run_size run_long runs h

pub runs_back : (runs : List (Option Run)) → every good_run runs ≡ true → map run_in (map run_record runs) ≡ runs
runs_back runs h = mapped_back good_run run_record run_in run_back runs h

-- ---- a registry

module _ (runs : List (Option Run)) (g : Good runs) where
  records_long : Long run_size (map run_record runs)
  records_long = mapped_long good_run run_record run_size run_long runs g.each

  records_many : length (map run_record runs) ≡ runs_max
  records_many = length-map run_record runs ∙ g.long

  pub record_parts : parts run_size runs_max (registry_record runs) ≡ map run_record runs
  unfolding registry_record
  record_parts = parts_joined run_size runs_max (map run_record runs) records_many records_long

  pub shown : runs_in (registry_record runs) ≡ runs
  unfolding runs_in
  shown = ap (map run_in) record_parts ∙ mapped_back good_run run_record run_in run_back runs g.each

  pub record_long : length (registry_record runs) ≡ 3524
  unfolding registry_record
  record_long = joined_long run_size (map run_record runs) records_long ∙ ap (◌* run_size) records_many

  pub record_valid : is_valid (registry_record runs) ≡ true
  unfolding is_valid
  record_valid =
      ap (λ z. good z && same (registry_record z) (registry_record runs)) shown
      ∙ ap₂ (◌&&◌) (record_good runs g) (same_self (registry_record runs))

  pub answer_as : (c : Call) → answer_to (registry_record runs) c ≡ answer runs c
  unfolding answer_to
  answer_as c =
      ap (λ t. cond (not t) (refused 89) (settle (checks (runs_in (registry_record runs)) c) (values (runs_in (registry_record runs)) c))) record_valid
      ∙ ap (λ z. settle (checks z c) (values z c)) shown

  pub next_as : (c : Call) → next (registry_record runs) c ≡ registry_record (step runs c)
  unfolding next
  next_as c =
      ap₂ (λ a z. left_by a (registry_record runs) (registry_record (effect z c))) (answer_as c) shown ∙ by (answer runs c)
    where
      by : (a : Answer) → left_by a (registry_record runs) (registry_record (effect runs c)) ≡ registry_record (left_by a runs (effect runs c))
      by (accepted v) = refl
      by (refused k) = refl

-- the octets of a run
abbrev pub octets_for : Option Run → Option (List ℕ)
octets_for none = none
octets_for (some r) = some (run_record (some r))

run_first : (l : List ℕ) (runs : List (Option Run)) → every good_run runs ≡ true
    → first_of (λ x. holds label_of l (run_in x)) (map run_record runs) ≡ octets_for (found label_of l runs)
run_first l [] h = refl
run_first l (o ∷ runs) h =
    ap (λ z. cond (holds label_of l z) (some (run_record o)) (first_of (λ x. holds label_of l (run_in x)) (map run_record runs)))
    (run_back o (and_left (good_run o) (every good_run runs) h))
    ∙ by o (run_first l runs (and_right (good_run o) (every good_run runs) h))
  where
    by : (o : Option Run) → first_of (λ x. holds label_of l (run_in x)) (map run_record runs) ≡ octets_for (found label_of l runs)
        → cond (holds label_of l o) (some (run_record o)) (first_of (λ x. holds label_of l (run_in x)) (map run_record runs))
        ≡ octets_for (cond (holds label_of l o) o (found label_of l runs))
    by none go = go
    by (some r) go = yes (same r.label l)
      where
        yes : (t : Bool) → cond t (some (run_record (some r))) (first_of (λ x. holds label_of l (run_in x)) (map run_record runs))
            ≡ octets_for (cond t (some r) (found label_of l runs))
        yes true = refl
        yes false = go

pub octets_as : (l : List ℕ) (runs : List (Option Run)) → Good runs → octets_of_run l (registry_record runs) ≡ octets_for (found label_of l runs)
unfolding octets_of_run
octets_as l runs g = ap (first_of (λ x. holds label_of l (run_in x))) (record_parts runs g) ∙ run_first l runs g.each

-- an empty registry
pub empty_as : empty_record ≡ registry_record no_runs
unfolding registry_record run_record
empty_as = refl

-- a valid record is the record of the registry that it shows, which is good
module _ (xs : List ℕ) (v : is_valid xs ≡ true) where
  pub valid_good : Good (runs_in xs)
  unfolding is_valid
  valid_good = good_record (runs_in xs) (and_left (good (runs_in xs)) (same (registry_record (runs_in xs)) xs) v)

  pub valid_record : registry_record (runs_in xs) ≡ xs
  unfolding is_valid
  valid_record = same_eq (registry_record (runs_in xs)) xs (and_right (good (runs_in xs)) (same (registry_record (runs_in xs)) xs) v)
