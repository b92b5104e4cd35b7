-- Rows whose texts are laid out are apart by the field that they begin with exactly if they are by their texts. Assumes nothing.
--     front_is, port_front, run_front     a row that passes its test begins with a text laid out
--     ports_apart, runs_apart             so both tests for distinct rows say the same
use mathlib.Core.Path.{◌≡◌, refl, sym, ap, ap₂, ◌∙◌}
use mathlib.Core.Bool.{Bool, true, false, cond, ◌&&◌, ◌||◌, not}
use mathlib.Core.List.{List, [], ◌∷◌}
use Prim.Native.Nat.{ℕ, ◌≤◌}
use native.Mathlib.Omega.{arith}
use lib.ListN.{length, take, drop, replicate}
use lib.Seq.{length-take-le}
use lib.Dec.{eqb}
use Rattle.headers.specs.Rows.{every, any, same}
use Rattle.headers.proofs.Rows.{and_left, and_right, both_ways, same_eq, same_self}
use Rattle.stores.specs.Places.{is_zero}
use Rattle.stores.proofs.Filling.{zeros}
use Rattle.registry.specs.Registry.{ports_max}
use Rattle.registry.specs.Records.{parts, text_field, port_size, text_in, is_unused}
use Rattle.registry.specs.Tests.{is_named, begins_with, are_distinct, are_apart, is_field, is_port, is_run}
use Rattle.registry.proofs.Records.{Long}
use Rattle.registry.proofs.Testing.{Field, field_is, every_take, text_front, first_front, free_text}

-- a row that begins with a text laid out in a field, or a free one
pub record Front (row : List ℕ) : Type 0 where
  pub text : text_in (take 33 row) ≡ text_in row
  pub laid : text_field 32 (text_in row) ≡ take 33 row

-- the tests of a port and of a run begin so
front_is : (row : List ℕ) → 33 ≤ length row → (rest : Bool) → cond (is_unused row) (is_zero row) (is_field (take 33 row) && rest) ≡ true → Front row
front_is row long rest h = by (is_unused row) refl h
  where
    wide : length (take 33 row) ≡ 33
    wide = length-take-le 33 row long

    by : (u : Bool) → is_unused row ≡ u → cond u (is_zero row) (is_field (take 33 row) && rest) ≡ true → Front row
    by true e z =
        let none : text_in row ≡ [] = free_text row e in
        let first : is_unused (take 33 row) ≡ true = ap (λ n. eqb n 0) (first_front 32 row) ∙ e in
        record {
          text = free_text (take 33 row) first ∙ sym none;
          laid = ap (text_field 32) none ∙ ap (λ n. replicate n 0) (sym wide) ∙ sym (zeros (take 33 row) (every_take (λ x. eqb x 0) 33 row z));
        }
    by false e k =
        let f : Field 32 (take 33 row) = field_is 32 (take 33 row) wide (and_left (is_field (take 33 row)) rest k) in
        let text : text_in (take 33 row) ≡ text_in row = text_front 32 row (omega (arith, f.inside, first_front 32 row)) in
        record { text = text; laid = ap (text_field 32) (sym text) ∙ f.laid }

abbrev Fronts : List (List ℕ) → Type 0
Fronts [] = Unit {0}
Fronts (row ∷ rows) = Front row × Fronts rows

-- one field exactly if one text
same_front : (a b : List ℕ) → Front a → Front b → same (take 33 a) (take 33 b) ≡ same (text_in a) (text_in b)
same_front a b f g =
    both_ways (same (take 33 a) (take 33 b)) (same (text_in a) (text_in b))
    (λ s. ap (λ z. same z (text_in b)) (sym f.text ∙ ap text_in (same_eq (take 33 a) (take 33 b) s) ∙ g.text) ∙ same_self (text_in b))
    (λ s. ap (λ z. same z (take 33 b)) (sym f.laid ∙ ap (text_field 32) (same_eq (text_in a) (text_in b) s) ∙ g.laid) ∙ same_self (take 33 b))

any_front : (row : List ℕ) → Front row → (rows : List (List ℕ)) → Fronts rows
    → any (begins_with (take 33 row)) rows ≡ any (is_named (text_in row)) rows
any_front row f [] fs = refl
any_front row f (r ∷ rows) fs = ap₂ (◌||◌) (same_front r row fs.0 f) (any_front row f rows fs.1)

apart_as : (rows : List (List ℕ)) → Fronts rows → are_apart rows ≡ are_distinct rows
unfolding are_apart are_distinct
apart_as [] fs = refl
apart_as (row ∷ rows) fs = ap₂ (λ t z. (is_unused row || not t) && z) (any_front row fs.0 rows fs.1) (apart_as rows fs.1)

-- each row passes a test that begins so
module _ (w : ℕ) (wide : 33 ≤ w) (test : List ℕ → Bool) (one : (row : List ℕ) → 33 ≤ length row → test row ≡ true → Front row) where
  fronts : (rows : List (List ℕ)) → Long w rows → every test rows ≡ true → Fronts rows
  fronts [] long h = tt
  fronts (row ∷ rows) long h =
      (one row (omega (arith, long.0, wide)) (and_left (test row) (every test rows) h), fronts rows long.1 (and_right (test row) (every test rows) h))

port_front : (row : List ℕ) → 33 ≤ length row → is_port row ≡ true → Front row
unfolding is_port
port_front row long h = front_is row long (is_field (take 65 (drop 33 row))) h

run_front : (row : List ℕ) → 33 ≤ length row → is_run row ≡ true → Front row
unfolding is_run
run_front row long h =
    front_is row long (every is_port (parts port_size ports_max (drop 33 row)) && are_distinct (parts port_size ports_max (drop 33 row))) h

pub ports_apart : (rows : List (List ℕ)) → Long 106 rows → every is_port rows ≡ true → are_apart rows ≡ are_distinct rows
ports_apart rows long h = apart_as rows (fronts 106 (omega arith) is_port port_front rows long h)

pub runs_apart : (rows : List (List ℕ)) → Long 881 rows → every is_run rows ≡ true → are_apart rows ≡ are_distinct rows
runs_apart rows long h = apart_as rows (fronts 881 (omega arith) is_run run_front rows long h)
