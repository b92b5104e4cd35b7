-- Steps of a walk over the places of a store of ids, from the first on: the walk is before place k, at octet `at`. Assumes nothing.
--     ids_fit, fits_long, part_fits         a store that is lent, and what is left of a store
--     ids_end, clean_end                    behind the last place
--     Turn, next_place, room, length_fits   a turn has read the place's length: the place and its id lie inside the store
--     ids_at, clean_at                      what is left of the ids, and of the test on what is behind them, one place on
--     first_by                              what a search by `position` finds is the first
use Rattle.std.proofs.Common.{◌≡◌, ℕ, ◌+◌, ◌-◌, ◌*◌, ◌<◌, ◌≤◌, Bool, true, false, ◌&&◌, eqb, leb, List, [], ◌∷◌, length, get_or, take, drop, sym, refl, ap, ◌∙◌, add-mul, arith, length-drop, drop_of_length-le, length-take-le, drop-drop, leb-true}
use mathlib.Core.Option.{none, some}
use Rattle.std.specs.Prelude.{Option as CodeOption, Some, None, MatchOption, zero, suc}
use Rattle.std.specs.List.{AllWithin, HoldsAt}
use Rattle.headers.specs.Rows.{empty, every}
use Rattle.stores.specs.Searches.{first_from, search_says}
use Rattle.stores.proofs.Searching.{first_hit, first_miss, first_end}
use Rattle.headers.proofs.Rows.{and_left, every_step, every_drop, empty_eqb}
use Rattle.stores.specs.Places.{is_zero}
use Rattle.sessions.specs.Stores.{ids, clean}
use Rattle.sessions.specs.Places.{Fits}
use Rattle.stores.proofs.Walking.{drop_one, Before, next_place as next_after, room as room_at}

-- ---- rows

pub every_at : (f : ℕ → Bool) (xs : List ℕ) (k : ℕ) → k < length xs → every f xs ≡ true → f (get_or xs k 0) ≡ true
every_at f xs k h e = and_left (f (get_or xs k 0)) (every f (drop (k + 1) xs)) (sym (every_step f xs k h) ∙ every_drop f k xs e)

-- a front is empty exactly if it has length 0
pub empty_front : (l : ℕ) (xs : List ℕ) → l ≤ length xs → empty (take l xs) ≡ eqb l 0
empty_front l xs h = empty_eqb (take l xs) ∙ ap (λ n. eqb n 0) (length-take-le l xs h)

-- ---- where the walk stands

-- a store that is lent with lengths that fit
pub ids_fit : (w : ℕ) (s ls : List ℕ) → length s ≡ length ls * w → every (λ l. leb l w) ls ≡ true → Fits w (length ls) s ls
ids_fit w s ls e h = record { lens_long = refl; store_long = e; lens_short = h }

pub fits_long : {w n : ℕ} {s ls : List ℕ} → Fits w n s ls → length s ≡ length ls * w
fits_long {w} f = f.store_long ∙ ap (◌* w) (sym f.lens_long)

pub at_place : (w n k : ℕ) → k ≤ n → Before w n k (k * w)
at_place w n k h = record { passed = h; starts = refl }

module _ {w n : ℕ} {s ls : List ℕ} {k at : ℕ} (fits : Fits w n s ls) (b : Before w n k at) where
  -- what is left of a store is a store
  pub part_fits : Fits w (n - k) (drop at s) (drop k ls)
  part_fits =
      let all : n - k + k ≡ n = omega (arith, b.passed) in
      let split : n * w ≡ (n - k) * w + k * w = ap (◌* w) (sym all) ∙ add-mul (n - k) k w in
      record {
        lens_long = length-drop k ls ∙ ap (◌- k) fits.lens_long;
        store_long = length-drop at s ∙ omega (arith, fits.store_long, b.starts, split);
        lens_short = every_drop (λ l. leb l w) k ls fits.lens_short;
      }

  pub ids_end : n ≤ k → ids w (drop at s) (drop k ls) ≡ []
  unfolding ids
  ids_end h = ap (ids w (drop at s)) (drop_of_length-le ls {i = k} (omega (arith, fits.lens_long)))

  pub clean_end : n ≤ k → clean w (drop at s) (drop k ls) ≡ true
  unfolding clean
  clean_end h = ap (clean w (drop at s)) (drop_of_length-le ls {i = k} (omega (arith, fits.lens_long)))

-- ---- a turn that has read l, the length of place k

pub record Turn {w n : ℕ} {s ls : List ℕ} {k at : ℕ} (fits : Fits w n s ls) (stands : Before w n k at) (l : ℕ) : Type 0 where
  pub more : k < n
  pub read : l ≡ get_or ls k 0

module _ {w n : ℕ} {s ls : List ℕ} {k at l : ℕ} {fits : Fits w n s ls} {stands : Before w n k at} (t : Turn fits stands l) where
  pub next_place : Before w n (k + 1) (at + w)
  next_place = next_after stands t.more

  pub room : at + w ≤ length s
  room = room_at stands t.more s fits.store_long

  pub lens_room : k < length ls
  lens_room = omega (arith, t.more, fits.lens_long)

  pub length_fits : l ≤ w
  length_fits = omega (arith, t.read, leb-true (get_or ls k 0) w (every_at (λ x. leb x w) ls k lens_room fits.lens_short))

  pub lens_at : drop k ls ≡ l ∷ drop (k + 1) ls
  lens_at = drop_one ls k 0 lens_room ∙ ap (◌∷ drop (k + 1) ls) (sym t.read)

  -- the id, and the ids behind it
  abbrev pub id_at : List ℕ
  id_at = take l (drop at s)

  abbrev pub ids_behind : List (List ℕ)
  ids_behind = ids w (drop (at + w) s) (drop (k + 1) ls)

  pub ids_at : ids w (drop at s) (drop k ls) ≡ id_at ∷ ids_behind
  unfolding ids
  ids_at =
      ap (ids w (drop at s)) lens_at
      ∙ ap (λ z. take l (drop at s) ∷ ids w z (drop (k + 1) ls)) (drop-drop w at s)

  pub clean_at : (b : Bool) → is_zero (drop l (take w (drop at s))) ≡ b
      → clean w (drop at s) (drop k ls) ≡ b && clean w (drop (at + w) s) (drop (k + 1) ls)
  unfolding clean
  clean_at b is =
      ap (clean w (drop at s)) lens_at
      ∙ ap (λ z. is_zero (drop l (take w (drop at s))) && clean w z (drop (k + 1) ls)) (drop-drop w at s)
      ∙ ap (◌&& clean w (drop (at + w) s) (drop (k + 1) ls)) is

-- ---- a place of 32 octets, copied

-- ---- what a search by `position` finds is the first
pub first_by : {A : Type 0} (p : A → Bool) (xs : List A) (r : CodeOption ℕ)
    → MatchOption r (AllWithin (λ x. p x ≡ false) xs 0 (length xs)) (λ i. (i < length xs) × HoldsAt (λ x. p x ≡ true) xs i × AllWithin (λ x. p x ≡ false) xs 0 i)
    → search_says r ≡ first_from p 0 xs
first_by {A} p xs r = by r
  where
    nowhere : (k : ℕ) (xs : List A) → ((i : ℕ) (d : A) → i < length xs → p (get_or xs i d) ≡ false) → none ≡ first_from p k xs
    nowhere k [] h = sym (first_end p k)
    nowhere k (x ∷ xs) h = nowhere (k + 1) xs (λ i d l. h (suc i) d (omega (arith, l))) ∙ sym (first_miss p k x xs (h 0 x (omega arith)))

    there : (k i : ℕ) (xs : List A) → i < length xs → ((d : A) → p (get_or xs i d) ≡ true) → ((j : ℕ) (d : A) → j < i → p (get_or xs j d) ≡ false)
        → some (k + i) ≡ first_from p k xs
    there k i [] l h n = absurd (omega arith)
    there k zero (x ∷ xs) l h n =
        let e : k + zero ≡ k = omega arith in
        ap some e ∙ sym (first_hit p k x xs (h x))
    there k (suc i) (x ∷ xs) l h n =
        let e : k + suc i ≡ (k + 1) + i = omega arith in
        ap some e ∙ there (k + 1) i xs (omega arith) h (λ j d m. n (suc j) d (omega (arith, m))) ∙ sym (first_miss p k x xs (n 0 x (omega arith)))

    by : (r : CodeOption ℕ) → MatchOption r (AllWithin (λ x. p x ≡ false) xs 0 (length xs)) (λ i. (i < length xs) × HoldsAt (λ x. p x ≡ true) xs i × AllWithin (λ x. p x ≡ false) xs 0 i)
        → search_says r ≡ first_from p 0 xs
    by None h = nowhere 0 xs (λ k d l. h k d (omega arith) l)
    by (Some i) (l, h, n) =
        let e : i ≡ 0 + i = omega arith in
        ap some e ∙ there 0 i xs l h (λ j d m. n j d (omega arith) m)
