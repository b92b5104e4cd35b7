-- Laws of a run in its row and of the whole record, by the code's parts. Assumes nothing.
--     run_free, run_no_label, run_no_ports, run_rest      the test of a row
--     registry_short, registry_no_runs, registry_rest     the test of a record
--     withdrawn_put, run_without_long                     a session's ports withdrawn from a row
use mathlib.Core.Path.{◌≡◌, sym, ap, ap₂, ◌∙◌}
use mathlib.Core.Bool.{Bool, true, false, cond, ◌&&◌}
use mathlib.Core.List.{List, [], ◌∷◌, ◌++◌, map, append-nil}
use Prim.Native.Nat.{ℕ, ◌+◌, ◌<◌}
use native.Mathlib.Omega.{arith}
use lib.ListN.{length, take, drop, get_or, length-append, length-drop, drop_of_length-le}
use lib.Seq.{take_all, length-take-le}
use lib.Dec.{eqb}
use borrow.Rule.Slice.PartMut.{put_mid, mid_of}
use borrow.Author.Tests.{eq-eqb, ne_eqb}
use Rattle.headers.specs.Rows.{every}
use Rattle.headers.proofs.Rows.{octets_known}
use Rattle.stores.specs.Places.{is_zero}
use Rattle.registry.specs.Registry.{ports_max, runs_max}
use Rattle.registry.specs.Records.{parts, port_size, run_size, is_valid}
use Rattle.registry.specs.Tests.{are_distinct, are_apart, is_field, is_port, is_run, is_registry, row_without}
use Rattle.registry.specs.Steps.{rows_without, run_octets_without}
use Rattle.registry.proofs.Records.{Long, joined_long}
use Rattle.registry.proofs.Ports.{without_long}
use Rattle.registry.proofs.Testing.{parts_long, registry_valid}
use Rattle.registry.proofs.Apart.{ports_apart, runs_apart}

-- ---- the test of a row

module _ (xs : List ℕ) (long : length xs ≡ run_size) where
  abbrev rows : List ℕ
  rows = drop 33 xs

  abbrev rest : Bool
  rest = every is_port (parts port_size ports_max rows) && are_distinct (parts port_size ports_max rows)

  -- the rows, as the code takes them
  rows_part : take 848 rows ≡ rows
  rows_part = take_all 848 rows (omega (arith, length-drop 33 xs))

  part_long : length (take 848 rows) ≡ 848
  part_long = length-take-le 848 rows (omega (arith, length-drop 33 xs))

  pub run_free : get_or xs 0 0 ≡ 0 → (t : Bool) → t ≡ is_zero xs → t ≡ is_run xs
  unfolding is_run
  run_free e t is = is ∙ sym (ap (λ z. cond z (is_zero xs) (is_field (take 33 xs) && rest)) (eq-eqb (get_or xs 0 0) 0 e))

  module _ (used : get_or xs 0 0 ≡ 0 → ⊥) where
    parts_of : is_run xs ≡ (is_field (take 33 xs) && rest)
    unfolding is_run
    parts_of = ap (λ z. cond z (is_zero xs) (is_field (take 33 xs) && rest)) (ne_eqb (get_or xs 0 0) 0 used)

    pub run_no_label : is_field (take 33 xs) ≡ false → false ≡ is_run xs
    run_no_label e = sym (parts_of ∙ ap (◌&& rest) e)

    module _ (label : is_field (take 33 xs) ≡ true) where
      pub run_no_ports : every is_port (parts port_size ports_max (take 848 rows)) ≡ false → false ≡ is_run xs
      run_no_ports e =
          sym (parts_of ∙ ap (◌&& rest) label
          ∙ ap (◌&& are_distinct (parts port_size ports_max rows)) (ap (λ z. every is_port (parts port_size ports_max z)) (sym rows_part) ∙ e))

      pub run_rest : every is_port (parts port_size ports_max (take 848 rows)) ≡ true → (t : Bool)
          → t ≡ are_apart (parts port_size ports_max (take 848 rows)) → t ≡ is_run xs
      run_rest e t is =
          is ∙ ports_apart (parts port_size ports_max (take 848 rows)) (parts_long port_size 8 (take 848 rows) part_long) e
          ∙ ap (λ z. are_distinct (parts port_size ports_max z)) rows_part
          ∙ sym (parts_of ∙ ap (◌&& rest) label
          ∙ ap (◌&& are_distinct (parts port_size ports_max rows)) (ap (λ z. every is_port (parts port_size ports_max z)) (sym rows_part) ∙ e))

-- ---- the test of a record

module _ (xs : List ℕ) (octets : (i : ℕ) → get_or xs i 0 < 256) where
  abbrev all_runs : List (List ℕ)
  all_runs = parts run_size runs_max xs

  valid_as : is_valid xs ≡ (eqb (length xs) 3524 && (every is_run all_runs && are_distinct all_runs))
  unfolding is_registry
  valid_as = sym (registry_valid xs (octets_known xs octets))

  pub registry_short : (length xs ≡ 3524 → ⊥) → false ≡ is_valid xs
  registry_short h = sym (valid_as ∙ ap (◌&& (every is_run all_runs && are_distinct all_runs)) (ne_eqb (length xs) 3524 h))

  module _ (long : length xs ≡ 3524) where
    pub registry_no_runs : every is_run all_runs ≡ false → false ≡ is_valid xs
    registry_no_runs e = sym (valid_as ∙ ap₂ (λ a b. a && (b && are_distinct all_runs)) (eq-eqb (length xs) 3524 long) e)

    pub registry_rest : every is_run all_runs ≡ true → (t : Bool) → t ≡ are_apart all_runs → t ≡ is_valid xs
    registry_rest e t is =
        is ∙ runs_apart all_runs (parts_long run_size 4 xs long) e
        ∙ sym (valid_as ∙ ap₂ (λ a b. a && (b && are_distinct all_runs)) (eq-eqb (length xs) 3524 long) e)

-- ---- a session's ports withdrawn from a row

module _ (s : ℕ) where
  map_long : (rows : List (List ℕ)) → Long port_size rows → Long port_size (map (row_without s) rows)
  map_long [] l = tt
  map_long (x ∷ rows) l = (without_long s x l.0, map_long rows l.1)

  pub rows_without_long : (rows : List ℕ) → length rows ≡ 848 → length (rows_without s rows) ≡ 848
  rows_without_long rows long =
      joined_long port_size (map (row_without s) (parts port_size ports_max rows))
      (map_long (parts port_size ports_max rows) (parts_long port_size 8 rows long))

  pub run_without_long : (xs : List ℕ) → length xs ≡ run_size → length (run_octets_without s xs) ≡ run_size
  run_without_long xs long =
      length-append (take 33 xs) (rows_without s (drop 33 xs))
      ∙ ap₂ (◌+◌) (length-take-le 33 xs (omega arith)) (rows_without_long (drop 33 xs) (length-drop 33 xs ∙ omega arith))

  pub withdrawn_put : (xs ys : List ℕ) → length xs ≡ run_size → ys ≡ rows_without s (mid_of 33 848 xs) → put_mid 33 848 xs ys ≡ run_octets_without s xs
  withdrawn_put xs ys long is =
      let none : drop 848 (drop 33 xs) ≡ [] = drop_of_length-le (drop 33 xs) {i = 848} (omega (arith, length-drop 33 xs)) in
      ap (λ z. take 33 xs ++ (ys ++ z)) none
      ∙ ap (take 33 xs ++◌) (append-nil ys ∙ is ∙ ap (rows_without s) (rows_part xs long))
