-- A port looked for, published and read in the slots of a run, by the code's parts. Assumes nothing.
--     slots_..                                octets that are the slots of a good run
--     slot_held, slot_free                    the slot that a port takes
--     published_refused, published_accepted   the slots after publishing
--     no_port, port_at                        the port under a destination
use mathlib.Core.Path.{◌≡◌, refl, sym, ap, ap₂, subst, ◌∙◌}
use mathlib.Core.Bool.{Bool, true, false, cond, true≢false}
use mathlib.Core.Option.{Option, none, some}
use mathlib.Core.List.{List, [], ◌∷◌, ◌++◌, map, append_assoc}
use Prim.Native.Nat.{ℕ, suc, ◌+◌, ◌-◌, ◌*◌, ◌≤◌, ◌<◌}
use native.Mathlib.Omega.{arith}
use lib.ListN.{length, take, drop, get_or, set, replicate, take-append-drop}
use lib.Seq.{take_all, take_at, drop_at, drop-drop, get_or-drop, get_or_at}
use lib.Dec.{eqb}
use borrow.Author.Tests.{eqb-true, eq-eqb}
use borrow.Rule.Slice.PartMut.{put_mid}
use Rattle.headers.specs.Rows.{same}
use Rattle.headers.specs.Numbers.{evaluate, numeral}
use Rattle.headers.proofs.Rows.{both_ways, same_eq, same_self}
use Rattle.headers.proofs.Numerals.{length_numeral, value_numeral}
use Rattle.stores.specs.Searches.{first_from, replaced, search_says}
use Rattle.std.specs.Prelude.{Option as CodeOption, Some, None, Result, Ok, Err, ok_or}
use Rattle.stores.proofs.Searching.{told_any, first_map, first_map_on, found_here}
use Rattle.registry.specs.Slots.{is_free, holds, has, has_free, found, place}
use Rattle.registry.specs.Registry.{Port, destination_of, sessions_max, good_port, published}
use Rattle.registry.specs.Calls.{text_of}
use Rattle.stores.specs.Compaction.{joined}
use Rattle.registry.specs.Records.{parts, text_field, port_record, port_in}
use Rattle.registry.specs.Tests.{is_named, row_of}
use Rattle.registry.specs.Steps.{Slots, slots_at, GivesSlot, GivesPublished, row_of_rows, when_held}
use Rattle.registry.specs.declared.refusals.Refusal.{Refusal}
use Rattle.registry.specs.declared.refusals.Refusal.TheVariants.{NoPlace}
use Rattle.registry.proofs.Slots.{is_some, none_some, has_found, found_none, place_first}
use Rattle.registry.proofs.Keeping.{GoodSlots, slots_record, every_found}
use Rattle.registry.proofs.Records.{Long, field_long, field_drop, joined_long, GoodPort, good_port_record, slots_long, slots_parts}
use Rattle.registry.proofs.Testing.{named_holds, free_holds, thing_port, shape_port, named_port}
use Rattle.registry.proofs.Changing.{row_in, map_at, set_map, put_at}

-- ---- what a search among names finds

found_first_from : {A : Type 0} (name : A → List ℕ) (x : List ℕ) (j k : ℕ) (slots : List (Option A)) → some k ≡ first_from (holds name x) j slots
    → (i : ℕ) × (k ≡ j + i) × (found name x slots ≡ get_or slots i none)
unfolding first_from
found_first_from name x j k [] e = absurd (none_some k (sym e))
found_first_from {A} name x j k (s ∷ slots) e = by (holds name x s) e (found_first_from name x (suc j) k slots)
  where
    by : (t : Bool) → some k ≡ cond t (some j) (first_from (holds name x) (suc j) slots)
        → (some k ≡ first_from (holds name x) (suc j) slots → (i : ℕ) × (k ≡ suc j + i) × (found name x slots ≡ get_or slots i none))
        → (i : ℕ) × (k ≡ j + i) × (cond t s (found name x slots) ≡ get_or (s ∷ slots) i none)
    by true h go = let q : k ≡ j = cc in (0, omega arith, refl)
    by false h go = let (i, q, f) = go h in (suc i, omega arith, f)

pub found_first : {A : Type 0} (name : A → List ℕ) (x : List ℕ) (k : ℕ) (slots : List (Option A)) → some k ≡ first_from (holds name x) 0 slots
    → found name x slots ≡ get_or slots k none
found_first name x k slots e =
    let (i, q, f) = found_first_from name x 0 k slots e in
    let there : i ≡ k = omega arith in
    f ∙ ap (λ n. get_or slots n none) there

-- ---- a port's record

module _ (p : Port) (g : GoodPort p) where
  abbrev number : List ℕ
  number = numeral 256 8 p.session

  record_session : drop 98 (port_record (some p)) ≡ number
  unfolding port_record
  record_session =
      sym (drop-drop 65 33 (text_field 32 p.destination ++ (text_field 64 p.text ++ number)))
      ∙ ap (drop 65) (field_drop 32 p.destination g.destination_sized 33 refl (text_field 64 p.text ++ number))
      ∙ field_drop 64 p.text g.text_sized 65 refl number

  -- the session in it is compared
  pub session_same : (s : ℕ) → s < sessions_max → row_of s (port_record (some p)) ≡ eqb p.session s
  session_same s small =
      ap (λ z. same (take 8 z) (numeral 256 8 s)) record_session
      ∙ ap (λ z. same z (numeral 256 8 s)) (take_all 8 number (omega (arith, length_numeral 256 8 p.session)))
      ∙ both_ways (same number (numeral 256 8 s)) (eqb p.session s)
      (λ h. eq-eqb p.session s
      (sym (value_numeral 256 8 p.session g.session_small) ∙ ap (evaluate 256 0) (same_eq number (numeral 256 8 s) h) ∙ value_numeral 256 8 s small))
      (λ h. ap (λ z. same (numeral 256 8 z) (numeral 256 8 s)) (eqb-true p.session s h) ∙ same_self (numeral 256 8 s))

  -- where its text is
  text_from : (rest : List ℕ) → (get_or (port_record (some p) ++ rest) 33 0 ≡ length p.text)
      × (take (length p.text) (drop 34 (port_record (some p) ++ rest)) ≡ p.text)
  unfolding port_record
  text_from rest =
      let d : List ℕ = text_field 32 p.destination in
      let zs : List ℕ = replicate (64 - length p.text) 0 in
      let end : List ℕ = zs ++ (number ++ rest) in
      let laid : (d ++ (text_field 64 p.text ++ number)) ++ rest ≡ d ++ (length p.text ∷ (p.text ++ end)) =
      append_assoc d (text_field 64 p.text ++ number) rest
      ∙ ap (d ++◌) (append_assoc (text_field 64 p.text) number rest)
      ∙ ap (λ z. d ++ (length p.text ∷ z)) (append_assoc p.text zs (number ++ rest)) in
      let long : length d ≡ 33 = field_long 32 p.destination g.destination_sized in (
        ap (λ z. get_or z 33 0) laid ∙ get_or_at d (length p.text) (p.text ++ end) 0 33 long,
        ap (λ z. take (length p.text) (drop 34 z)) laid
            ∙ ap (take (length p.text)) (sym (drop-drop 1 33 (d ++ (length p.text ∷ (p.text ++ end))))
            ∙ ap (drop 1) (drop_at d (length p.text ∷ (p.text ++ end)) 33 long))
            ∙ take_at p.text end (length p.text) refl,
      )

-- ---- octets that are the slots of a good run

module _ (rows : List ℕ) (h : Slots rows) where
  abbrev slots : List (Option Port)
  slots = slots_at rows

  pub slots_good : GoodSlots slots
  slots_good = slots_record slots h.good

  pub slots_are : parts 106 8 rows ≡ map port_record slots
  slots_are = ap (parts 106 8) (sym h.laid) ∙ slots_parts slots slots_good

  pub slots_octets : length rows ≡ 848
  slots_octets =
      ap length (sym h.laid) ∙ joined_long 106 (map port_record slots) (slots_long slots slots_good.each)
      ∙ ap (◌* 106) (map_length slots ∙ slots_good.long)
    where
      map_length : (xs : List (Option Port)) → length (map port_record xs) ≡ length xs
      map_length [] = refl
      map_length (x ∷ xs) = ap suc (map_length xs)

  parts_long : Long 106 (parts 106 8 rows)
  parts_long = subst (Long 106) (sym slots_are) (slots_long slots slots_good.each)

  -- searches
  pub search_name : (d : List ℕ) → 0 < length d → first_from (is_named d) 0 (parts 106 8 rows) ≡ first_from (holds destination_of d) 0 slots
  search_name d some_octet =
      first_map (is_named d) (holds destination_of d) port_in
      (λ row. named_holds destination_of port_in thing_port shape_port named_port d (λ e. omega (arith, ap length e)) row) 0 (parts 106 8 rows)

  pub search_free : first_from (is_named []) 0 (parts 106 8 rows) ≡ first_from is_free 0 slots
  search_free =
      first_map_on (is_named []) is_free port_in (λ row. length row ≡ 106)
      (λ row l. free_holds destination_of port_in thing_port shape_port named_port row (omega arith)) 0 (parts 106 8 rows) parts_long

  -- row k
  pub row_k : (k : ℕ) → k < 8 → row_of_rows k rows ≡ port_record (get_or slots k none)
  row_k k less =
      sym (row_in 106 8 rows k less) ∙ ap (λ z. get_or z k []) slots_are
      ∙ map_at port_record slots k (omega (arith, slots_good.long)) none []

  -- ---- the slot that a port takes

  module _ (d : List ℕ) (some_octet : 0 < length d) (s : ℕ) where
    -- the destination is in slot k
    module _ (k : ℕ) (there : some k ≡ first_from (is_named d) 0 (parts 106 8 rows)) where
      there_slots : some k ≡ first_from (holds destination_of d) 0 slots
      there_slots = there ∙ search_name d some_octet

      at_k : (y : Option Port) → (k < length slots) × (replaced (holds destination_of d) y slots ≡ set slots k y)
          × (holds destination_of d (get_or slots k none) ≡ true)
      at_k y = found_here (holds destination_of d) y none k slots there_slots

      pub slot_inside : k < 8
      slot_inside = omega (arith, (at_k none).0, slots_good.long)

      slot_holds : (p : Port) × (get_or slots k none ≡ some p)
      slot_holds = by (get_or slots k none) refl (at_k none).2
        where
          by : (o : Option Port) → get_or slots k none ≡ o → holds destination_of d o ≡ true → (p : Port) × (get_or slots k none ≡ some p)
          by none e t = absurd (true≢false (sym t))
          by (some p) e t = (p, e)

      found_there : (p : Port) → get_or slots k none ≡ some p → found destination_of d slots ≡ some p
      found_there p e = found_first destination_of d k slots there_slots ∙ e

      port_good : (p : Port) → get_or slots k none ≡ some p → GoodPort p
      port_good p e = good_port_record p (every_found destination_of good_port d slots p slots_good.each (found_there p e))

      has_there : has destination_of d slots ≡ true
      has_there = let (p, e) = slot_holds in has_found destination_of d slots ∙ ap is_some (found_there p e)

      pub slot_held : s < sessions_max → (r : Result ℕ Refusal) → r ≡ when_held k (row_of s (row_of_rows k rows)) → GivesSlot d s slots r
      unfolding published
      slot_held small r is =
          let (p, e) = slot_holds in
          let compared : row_of s (row_of_rows k rows) ≡ eqb p.session s =
          ap (row_of s) (row_k k slot_inside ∙ ap port_record e) ∙ session_same p (port_good p e) s small in
          subst (GivesSlot d s slots) (sym (is ∙ ap (when_held k) compared)) (by p e (eqb p.session s) refl)
        where
          by : (p : Port) → get_or slots k none ≡ some p → (t : Bool) → eqb p.session s ≡ t → GivesSlot d s slots (when_held k t)
          by p e true f = (
            rw (found_there p e, has_there, f),
            slot_inside,
            λ t. ap (λ z. cond z (replaced (holds destination_of d) (some (record { destination = d; text = t; session = s })) slots)
                (replaced is_free (some (record { destination = d; text = t; session = s })) slots)) has_there
                ∙ (at_k (some (record { destination = d; text = t; session = s }))).1,
          )
          by p e false f = rw (found_there p e, f)

      -- its port
      pub port_at : (n : ℕ) → n ≡ get_or rows (k * 106 + 33) 0
          → (take n (drop (k * 106 + 33 + 1) rows) ≡ text_of (found destination_of d slots)) × (k * 106 + 33 + 1 + n ≤ length rows) × (0 < n)
          × (k * 106 + 33 + 1 ≡ place destination_of d slots * 106 + 34)
      port_at n read =
          let (p, e) = slot_holds in
          let g : GoodPort p = port_good p e in
          let from : drop (k * 106) rows ≡ port_record (some p) ++ drop 106 (drop (k * 106) rows) =
          sym (take-append-drop 106 (drop (k * 106) rows)) ∙ ap (◌++ drop 106 (drop (k * 106) rows)) (row_k k slot_inside ∙ ap port_record e) in
          let text = text_from p g (drop 106 (drop (k * 106) rows)) in
          let len : n ≡ length p.text = read ∙ sym (get_or-drop (k * 106) rows 33 0) ∙ ap (λ z. get_or z 33 0) from ∙ text.0 in
          let one : k * 106 + 34 ≡ k * 106 + 33 + 1 = omega arith in (
            ap₂ (λ m z. take m (drop z rows)) len (sym one) ∙ ap (take (length p.text)) (sym (drop-drop 34 (k * 106) rows))
                ∙ ap (λ z. take (length p.text) (drop 34 z)) from ∙ text.1
                ∙ sym (ap text_of (found_there p e)),
            omega (arith, len, g.text_sized.short, slots_octets, slot_inside),
            omega (arith, len, g.text_sized.some_octet),
            sym one ∙ ap (λ z. z * 106 + 34) (place_first destination_of d k slots there_slots),
          )

    -- it is in none
    module _ (nowhere : none ≡ first_from (is_named d) 0 (parts 106 8 rows)) where
      has_none : has destination_of d slots ≡ false
      has_none = told_any (holds destination_of d) 0 slots None (nowhere ∙ search_name d some_octet)

      pub no_port : [] ≡ text_of (found destination_of d slots)
      no_port = sym (ap text_of (found_none destination_of d slots has_none))

      pub slot_free : (q : CodeOption ℕ) → search_says q ≡ first_from (is_named []) 0 (parts 106 8 rows) → (r : Result ℕ Refusal) → r ≡ ok_or q NoPlace → GivesSlot d s slots r
      unfolding published
      slot_free q e r is = subst (GivesSlot d s slots) (sym is) (by q (e ∙ search_free))
        where
          none_there : found destination_of d slots ≡ none
          none_there = found_none destination_of d slots has_none

          by : (q : CodeOption ℕ) → search_says q ≡ first_from is_free 0 slots → GivesSlot d s slots (ok_or q NoPlace)
          by (Some k) e =
              let free : has_free slots ≡ true = told_any is_free 0 slots (Some k) e in (
                rw (none_there, has_none, free),
                omega (arith, (found_here is_free none none k slots e).0, slots_good.long),
                λ t. ap (λ z. cond z (replaced (holds destination_of d) (some (record { destination = d; text = t; session = s })) slots)
                    (replaced is_free (some (record { destination = d; text = t; session = s })) slots)) has_none
                    ∙ (found_here is_free (some (record { destination = d; text = t; session = s })) none k slots e).1,
              )
          by None e =
              let full : has_free slots ≡ false = told_any is_free 0 slots None e in
              rw (none_there, has_none, full)

  -- ---- the slots after publishing

  module _ (d t : List ℕ) (s : ℕ) where
    pub published_refused : (e : Refusal) → GivesSlot d s slots (Err e) → GivesPublished d t s rows (Err e) rows
    published_refused n e = rw e (refl, refl)

    pub published_accepted : (k : ℕ) → GivesSlot d s slots (Ok k) → (y : List ℕ) → y ≡ port_record (some (record { destination = d; text = t; session = s }))
        → GivesPublished d t s rows (Ok tt) (put_mid (k * 106) (k * 106 + 106 - k * 106) rows y)
    published_accepted k (e, less, is) y w =
        let p : Port = record { destination = d; text = t; session = s } in
        let after : put_mid (k * 106) (k * 106 + 106 - k * 106) rows y ≡ joined (map port_record (published p slots)) =
        put_at 106 8 rows y k slots_octets less
        ∙ ap₂ (λ a b. joined (set a k b)) slots_are w
        ∙ ap joined (set_map port_record slots k (some p) ∙ ap (map port_record) (sym (is t))) in
        rw e (refl, after)

-- ---- as the code has it

pub given_slot : (d : List ℕ) (s : ℕ) (rows : List ℕ) (r q : Result ℕ Refusal) → r ≡ q → GivesSlot d s (slots_at rows) r → GivesSlot d s (slots_at rows) q
given_slot d s rows r q e g = subst (GivesSlot d s (slots_at rows)) e g

pub row_part : (k : ℕ) (rows : List ℕ) → take (k * 106 + 106 - k * 106) (drop (k * 106) rows) ≡ row_of_rows k rows
row_part k rows = let wide : k * 106 + 106 - k * 106 ≡ 106 = omega arith in ap (λ n. take n (drop (k * 106) rows)) wide

pub slot_less : (d : List ℕ) (s : ℕ) (rows : List ℕ) (r : Result ℕ Refusal) (k : ℕ) → r ≡ Ok k → GivesSlot d s (slots_at rows) r → k < 8
slot_less d s rows r k e g = (given_slot d s rows r (Ok k) e g).1
