-- What becomes of a use of an id, from the outcome of the searches. Assumes nothing.
--     first_free      the first free place, by the lengths
--     settles_..      what is settled in each case
use Rattle.std.proofs.Common.{◌≡◌, ℕ, suc, ◌-◌, ◌<◌, ◌≤◌, false, cond, eqb, List, [], ◌∷◌, length, drop, set, sym, refl, ap, ◌∙◌, arith, le-ltb, lt-ltb, ne_eqb}
use mathlib.Core.Option.{some}
use lib.Seq.{take-length}
use Rattle.headers.specs.Rows.{empty, same}
use Rattle.headers.proofs.Rows.{empty_eqb, empty_zero}
use Rattle.std.specs.Prelude.{Option as Maybe, Some, None, Result, Ok, Err, is_some as has_place}
use Rattle.stores.specs.Searches.{first_from, search_says}
use Rattle.sessions.specs.Stores.{ids, live, bad_length}
use Rattle.sessions.specs.Places.{Fits, when_needed, when_freed, when_entered, Settles}
use Rattle.sessions.specs.declared.refusals.Refusal.{Refusal}
use Rattle.sessions.specs.declared.store.Use.{Use}
use Rattle.sessions.specs.declared.store.Use.TheVariants.{Nothing, Need, Enter, Free}
use Rattle.stores.proofs.Searching.{told_any, found_at}
use Rattle.stores.proofs.Walking.{Before, first_place}
use Rattle.sessions.proofs.Walking.{Turn, part_fits, room, length_fits, empty_front}

-- the first free place, by the lengths
pub first_free : (w n j : ℕ) (s ls : List ℕ) → Fits w n s ls → first_from empty j (ids w s ls) ≡ first_from (λ l. eqb l 0) j ls
unfolding first_from ids
first_free w n j s [] f = refl
first_free w n j s (l ∷ ls) f =
    let one : Before w n 1 w = record { passed = omega (arith, f.lens_long); starts = omega arith } in
    let t : Turn f (first_place w n) l = record { more = omega (arith, f.lens_long); read = refl } in
    ap (λ b. cond b (some j) (first_from empty (suc j) (ids w (drop w s) ls))) (empty_front l s (omega (arith, room t, length_fits t)))
    ∙ ap (cond (eqb l 0) (some j)) (first_free w (n - 1) (suc j) (drop w s) ls (part_fits f one))

-- ---- what is settled

module _ (w : ℕ) (u : Use) (id : List ℕ) (is : List (List ℕ)) where
  pub settles_empty : length id ≡ 0 → Settles w u id is (Err Refusal.BadId)
  settles_empty h = rw (empty_zero id h)

  module _ (some_octets : length id ≡ 0 → ⊥) where
    not_empty : empty id ≡ false
    not_empty = empty_eqb id ∙ ne_eqb (length id) 0 some_octets

    pub settles_long : w < length id → Settles w u id is (Err Refusal.BadId)
    settles_long h = rw (not_empty, lt-ltb w (length id) h)

    module _ (short_enough : length id ≤ w) where
      fine : bad_length w id ≡ false
      fine = rw (not_empty, le-ltb w (length id) short_enough)

      pub settles_nothing : u ≡ Nothing → Settles w u id is (Ok None)
      settles_nothing e = rw e (rw fine, refl)

      needs : (found : Maybe ℕ) → live id is ≡ has_place found → Settles w Need id is (when_needed found)
      needs (Some k) h = (rw (fine, h), refl)
      needs None h = rw (fine, h)

      frees : (found : Maybe ℕ) → search_says found ≡ first_from (λ x. same x id) 0 is → live id is ≡ has_place found → Settles w Free id is (when_freed found)
      frees (Some k) told h = let (l, q) = found_at (λ x. same x id) [] k is told in (rw (fine, h), l, q)
      frees None told h = rw (fine, h)

      enters_it : (found free : Maybe ℕ) → search_says free ≡ first_from empty 0 is → live id is ≡ has_place found → Settles w Enter id is (when_entered found free)
      enters_it (Some k) free told h = rw (fine, h)
      enters_it None (Some k) told h =
          let (l, q) = found_at empty id k is told in
          (rw (fine, h, told_any empty 0 is (Some k) told), l, q ∙ ap (set is k) (sym (take-length id)))
      enters_it None None told h = rw (fine, h, told_any empty 0 is None told)

      module _ (found : Maybe ℕ) (told : search_says found ≡ first_from (λ x. same x id) 0 is) (r : Result (Maybe ℕ) Refusal) where
        lives : live id is ≡ has_place found
        lives = told_any (λ x. same x id) 0 is found told

        pub settles_need : u ≡ Need → r ≡ when_needed found → Settles w u id is r
        settles_need e k = rw (e, k) (needs found lives)

        pub settles_free : u ≡ Free → r ≡ when_freed found → Settles w u id is r
        settles_free e k = rw (e, k) (frees found told lives)

        pub settles_enter : u ≡ Enter → (free : Maybe ℕ) → search_says free ≡ first_from empty 0 is → r ≡ when_entered found free → Settles w u id is r
        settles_enter e free told_free k = rw (e, k) (enters_it found free told_free lives)
