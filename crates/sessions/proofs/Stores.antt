-- Laws of ids in a flat store, over any width and any number of places. Assumes nothing.
--     length_ids, lengths_ids, laid_ids     the ids of a store, laid out, are the store
--     ids_laid, laid_clean, laid_valid      ids laid out are the ids of a store, which is valid where they are distinct
--     put_laid                              an id put in a place
--     valid_fits, valid_clean, valid_distinct   what a valid store is
--     used_length, used_short, used_distinct, used_live   the ids after a use of one
--     zeros_.., none_live                   a store of zeros has no id
use Rattle.std.proofs.Common.{◌≡◌, ℕ, zero, suc, ◌+◌, ◌-◌, ◌*◌, ◌<◌, ◌≤◌, Bool, true, false, cond, not, ◌&&◌, ◌||◌, eqb, ltb, leb, ◌≢◌, List, [], ◌∷◌, ◌++◌, length, get_or, take, drop, set, replicate, sym, refl, ap, ◌∙◌, ap₂, true≢false, append_assoc, suc-mul, zero-add, zero-mul, arith, length-append, length-drop, take-append-drop, length-take-le, drop-drop, take_at, take-add, drop_at, ltb-false, le-leb, leb-true}
use native.Mathlib.Nat.{sub-zero}
use lib.ListN.{length-replicate, length-map, replicate-append-replicate}
use lib.Dec.{leb-zero}
use borrow.Author.Tests.{not-true, not-false}
use Rattle.headers.specs.Rows.{empty, every, any, same, All}
use Rattle.headers.specs.Answers.{accepted, settle}
use Rattle.headers.proofs.Rows.{cond_case, and_left, and_right, or_false_left, or_false_right, same_eq, not_empty, empty_not, every_replicate}
use Rattle.stores.specs.Places.{padded, is_zero}
use Rattle.stores.specs.Searches.{replaced}
use Rattle.stores.proofs.Searching.{replaced_length}
use Rattle.stores.proofs.Filling.{padded_take}
use Rattle.sessions.specs.Stores.{ids, laid, lengths, short, clean, live, distinct, valid_store, used, enters, wants_live, use_checks}
use Rattle.sessions.specs.Places.{Fits, put_in}
use Rattle.sessions.specs.Histories.{by_use}
use Rattle.sessions.proofs.Rows.{or_later, or_else, or_swap, or_cond, cond_either, nil_apart, empty_apart, apart}
use Rattle.headers.proofs.Settling.{Passes, all_pass}
use Rattle.sessions.specs.declared.store.Use.{Use}
use Rattle.sessions.specs.declared.store.Use.TheVariants.{Nothing, Need, Enter, Free}

-- ---- a place and the places behind it

pub fits_nil : {w n : ℕ} {s : List ℕ} → Fits w n s [] → length s ≡ 0
fits_nil {w} {n} {s} f = f.store_long ∙ ap (◌* w) (sym f.lens_long) ∙ zero-mul w

pub fits_long : {w n : ℕ} {s : List ℕ} {l : ℕ} {ls : List ℕ} → Fits w n s (l ∷ ls) → length s ≡ length ls * w + w
fits_long {w} {n} {s} {l} {ls} f = f.store_long ∙ ap (◌* w) (sym f.lens_long) ∙ suc-mul (length ls) w

pub fits_first : {w n : ℕ} {s : List ℕ} {l : ℕ} {ls : List ℕ} → Fits w n s (l ∷ ls) → l ≤ w
fits_first {w} {n} {s} {l} {ls} f = leb-true l w (and_left (leb l w) (short w ls) f.lens_short)

pub fits_next : {w n : ℕ} {s : List ℕ} {l : ℕ} {ls : List ℕ} → Fits w n s (l ∷ ls) → Fits w (length ls) (drop w s) ls
fits_next {w} {n} {s} {l} {ls} f =
    record {
      lens_long = refl;
      store_long = length-drop w s ∙ omega (arith, fits_long f);
      lens_short = and_right (leb l w) (short w ls) f.lens_short;
    }

nil : (s : List ℕ) → length s ≡ 0 → s ≡ []
nil [] h = refl
nil (x ∷ s) h = absurd (omega arith)

-- ---- the ids of a store, laid out, are the store

pub length_ids : (w : ℕ) (s ls : List ℕ) → length (ids w s ls) ≡ length ls
unfolding ids
length_ids w s [] = refl
length_ids w s (l ∷ ls) = ap suc (length_ids w (drop w s) ls)

pub lengths_ids : (w n : ℕ) (s ls : List ℕ) → Fits w n s ls → lengths (ids w s ls) ≡ ls
unfolding ids
lengths_ids w n s [] f = refl
lengths_ids w n s (l ∷ ls) f =
    ap₂ (◌∷◌) (length-take-le l s (omega (arith, fits_first f, fits_long f))) (lengths_ids w (length ls) (drop w s) ls (fits_next f))

pub place_padded : (w n : ℕ) (s ls : List ℕ) → Fits w n s ls → clean w s ls ≡ true → (i : ℕ) → i < length ls → padded w (get_or (ids w s ls) i []) ≡ take
    w (drop (i * w) s)
unfolding ids clean
place_padded w n s [] f c i h = absurd (omega arith)
place_padded w n s (l ∷ ls) f c zero h =
    padded_take w l s (fits_first f) (omega (arith, fits_long f)) (and_left (is_zero (drop l (take w s))) (clean w (drop w s) ls) c) ∙ ap
    (λ k. take w (drop k s)) (sym (zero-mul w))
place_padded w n s (l ∷ ls) f c (suc i) h =
    let there : suc i * w ≡ w + i * w = omega (arith, suc-mul i w) in
    place_padded w (length ls) (drop w s) ls (fits_next f) (and_right (is_zero (drop l (take w s))) (clean w (drop w s) ls) c) i (omega arith)
    ∙ ap (take w) (drop-drop (i * w) w s ∙ ap (λ k. drop k s) (sym there))

pub laid_ids : (w n : ℕ) (s ls : List ℕ) → Fits w n s ls → clean w s ls ≡ true → laid w (ids w s ls) ≡ s
unfolding ids laid clean
laid_ids w n s [] f c = sym (nil s (fits_nil f))
laid_ids w n s (l ∷ ls) f c =
    ap₂ (◌++◌)
    (padded_take w l s (fits_first f) (omega (arith, fits_long f)) (and_left (is_zero (drop l (take w s))) (clean w (drop w s) ls) c))
    (laid_ids w (length ls) (drop w s) ls (fits_next f) (and_right (is_zero (drop l (take w s))) (clean w (drop w s) ls) c))
    ∙ take-append-drop w s

-- ---- an id put in a place

put_first : (w : ℕ) (s id : List ℕ) → put_in w s 0 id ≡ padded w id ++ drop w s
put_first w s id = simp (zero-mul, zero-add)

put_next : (w k : ℕ) (s id : List ℕ) → put_in w s (suc k) id ≡ take w s ++ put_in w (drop w s) k id
put_next w k s id =
    let there : suc k * w ≡ w + k * w = omega (arith, suc-mul k w) in
    let behind : suc k * w + w ≡ w + (k * w + w) = omega (arith, suc-mul k w) in
    ap₂ (λ a b. a ++ (padded w id ++ b))
    (ap (λ m. take m s) there ∙ take-add w (k * w) s)
    (ap (λ m. drop m s) behind ∙ sym (drop-drop (k * w + w) w s))
    ∙ append_assoc (take w s) (take (k * w) (drop w s)) (padded w id ++ drop (k * w + w) (drop w s))

put_store : (w n : ℕ) (s ls : List ℕ) → Fits w n s ls → clean w s ls ≡ true → (k : ℕ) → k < length ls → (id : List ℕ)
    → put_in w s k id ≡ laid w (set (ids w s ls) k id)
unfolding ids laid clean
put_store w n s [] f c k h id = absurd (omega arith)
put_store w n s (l ∷ ls) f c zero h id =
    put_first w s id
    ∙ ap (padded w id ++◌) (sym (laid_ids w (length ls) (drop w s) ls (fits_next f) (and_right (is_zero (drop l (take w s))) (clean w (drop w s) ls) c)))
put_store w n s (l ∷ ls) f c (suc k) h id =
    put_next w k s id
    ∙ ap₂ (◌++◌)
    (sym (padded_take w l s (fits_first f) (omega (arith, fits_long f)) (and_left (is_zero (drop l (take w s))) (clean w (drop w s) ls) c)))
    (put_store w (length ls) (drop w s) ls (fits_next f) (and_right (is_zero (drop l (take w s))) (clean w (drop w s) ls) c) k (omega arith) id)

pub lengths_set : (is : List (List ℕ)) (k : ℕ) (id : List ℕ) → lengths (set is k id) ≡ set (lengths is) k (length id)
lengths_set [] k id = refl
lengths_set (x ∷ is) zero id = refl
lengths_set (x ∷ is) (suc k) id = ap (length x ∷◌) (lengths_set is k id)

pub put_laid : (w n : ℕ) (s ls : List ℕ) → Fits w n s ls → clean w s ls ≡ true → (k : ℕ) → k < n → (id : List ℕ) → length id ≤ w
    → (put_in w s k id ≡ laid w (set (ids w s ls) k id)) × (set ls k (length id) ≡ lengths (set (ids w s ls) k id))
put_laid w n s ls f c k h id e = (
  put_store w n s ls f c k (omega (arith, f.lens_long)) id,
  sym (lengths_set (ids w s ls) k id ∙ ap (λ z. set z k (length id)) (lengths_ids w n s ls f)),
)

-- ---- what a valid store is

module _ (w : ℕ) (s ls : List ℕ) (h : valid_store w s ls ≡ true) where
  rest_valid : clean w s ls && distinct (ids w s ls) ≡ true
  unfolding valid_store
  rest_valid = and_right (short w ls) (clean w s ls && distinct (ids w s ls)) h

  pub valid_short : short w ls ≡ true
  unfolding valid_store
  valid_short = and_left (short w ls) (clean w s ls && distinct (ids w s ls)) h

  pub valid_clean : clean w s ls ≡ true
  valid_clean = and_left (clean w s ls) (distinct (ids w s ls)) rest_valid

  pub valid_distinct : distinct (ids w s ls) ≡ true
  valid_distinct = and_right (clean w s ls) (distinct (ids w s ls)) rest_valid

  pub valid_fits : (n : ℕ) → length ls ≡ n → length s ≡ n * w → Fits w n s ls
  valid_fits n long store = record { lens_long = long; store_long = store; lens_short = valid_short }

-- ---- ids laid out

-- ids that fit into places of w octets
abbrev pub are_short : ℕ → List (List ℕ) → Bool
are_short w is = every (λ x. leb (length x) w) is

module _ (w : ℕ) (x : List ℕ) (is : List (List ℕ)) (h : are_short w (x ∷ is) ≡ true) where
  first_short : length x ≤ w
  first_short = leb-true (length x) w (and_left (leb (length x) w) (are_short w is) h)

  rest_short : are_short w is ≡ true
  rest_short = and_right (leb (length x) w) (are_short w is) h

  padded_long : length (padded w x) ≡ w
  padded_long = length-append x (replicate (w - length x) 0) ∙ ap (length x +◌) (length-replicate (w - length x) 0) ∙ omega (arith, first_short)

  drop_first : drop w (padded w x ++ laid w is) ≡ laid w is
  drop_first = drop_at (padded w x) (laid w is) w padded_long

  id_first : take (length x) (padded w x ++ laid w is) ≡ x
  id_first = ap (take (length x)) (append_assoc x (replicate (w - length x) 0) (laid w is)) ∙ take_at x (replicate (w - length x) 0 ++ laid w is)
      (length x) refl

  clean_first : is_zero (drop (length x) (take w (padded w x ++ laid w is))) ≡ true
  clean_first =
      ap (λ z. is_zero (drop (length x) z)) (take_at (padded w x) (laid w is) w padded_long)
      ∙ ap is_zero (drop_at x (replicate (w - length x) 0) (length x) refl)
      ∙ every_replicate (λ y. eqb y 0) (w - length x) 0 refl

pub ids_laid : (w : ℕ) (is : List (List ℕ)) → are_short w is ≡ true → ids w (laid w is) (lengths is) ≡ is
unfolding ids laid
ids_laid w [] h = refl
ids_laid w (x ∷ is) h =
    ap₂ (◌∷◌) (id_first w x is h) (ap (λ z. ids w z (lengths is)) (drop_first w x is h) ∙ ids_laid w is (rest_short w x is h))

pub laid_clean : (w : ℕ) (is : List (List ℕ)) → are_short w is ≡ true → clean w (laid w is) (lengths is) ≡ true
unfolding laid clean
laid_clean w [] h = refl
laid_clean w (x ∷ is) h =
    ap₂ (◌&&◌) (clean_first w x is h) (ap (λ z. clean w z (lengths is)) (drop_first w x is h) ∙ laid_clean w is (rest_short w x is h))

pub length_laid : (w : ℕ) (is : List (List ℕ)) → are_short w is ≡ true → length (laid w is) ≡ length is * w
unfolding laid
length_laid w [] h = sym (zero-mul w)
length_laid w (x ∷ is) h =
    length-append (padded w x) (laid w is)
    ∙ ap₂ (◌+◌) (padded_long w x is h) (length_laid w is (rest_short w x is h))
    ∙ omega (arith, suc-mul (length is) w)

lengths_short : (w : ℕ) (is : List (List ℕ)) → short w (lengths is) ≡ are_short w is
lengths_short w [] = refl
lengths_short w (x ∷ is) = ap (leb (length x) w &&◌) (lengths_short w is)

pub short_lengths : (w : ℕ) (is : List (List ℕ)) → are_short w is ≡ true → short w (lengths is) ≡ true
short_lengths w is h = lengths_short w is ∙ h

-- the ids of a store are short
pub ids_short : (w n : ℕ) (s ls : List ℕ) → Fits w n s ls → are_short w (ids w s ls) ≡ true
ids_short w n s ls f = sym (lengths_short w (ids w s ls)) ∙ ap (short w) (lengths_ids w n s ls f) ∙ f.lens_short

pub laid_valid : (w : ℕ) (is : List (List ℕ)) → are_short w is ≡ true → distinct is ≡ true → valid_store w (laid w is) (lengths is) ≡ true
unfolding valid_store
laid_valid w is h d =
    ap₂ (◌&&◌) (short_lengths w is h) (ap₂ (◌&&◌) (laid_clean w is h) (ap distinct (ids_laid w is h) ∙ d))

pub laid_fits : (w n : ℕ) (is : List (List ℕ)) → are_short w is ≡ true → length is ≡ n → Fits w n (laid w is) (lengths is)
laid_fits w n is h e =
    record { lens_long = length-map is length ∙ e; store_long = length_laid w is h ∙ ap (◌* w) e; lens_short = short_lengths w is h }

-- ---- the first that passes a test, replaced

module _ (p : List ℕ → Bool) (y : List ℕ) where
  pub replaced_short : (w : ℕ) (xs : List (List ℕ)) → leb (length y) w ≡ true → are_short w xs ≡ true → are_short w (replaced p y xs) ≡ true
  unfolding replaced
  replaced_short w [] k h = refl
  replaced_short w (x ∷ xs) k h =
      cond_case (λ z. are_short w z ≡ true) (p x)
      (λ e. ap₂ (◌&&◌) k (rest_short w x xs h))
      (λ e. ap₂ (◌&&◌) (and_left (leb (length x) w) (are_short w xs) h) (replaced_short w xs k (rest_short w x xs h)))

  -- what was not there, and is not the new one, is not there
  replaced_none : (x : List ℕ) (xs : List (List ℕ)) → live x xs ≡ false → same y x ≡ false → live x (replaced p y xs) ≡ false
  unfolding replaced
  replaced_none x [] h k = refl
  replaced_none x (z ∷ xs) h k =
      cond_case (λ l. live x l ≡ false) (p z)
      (λ e. ap₂ (◌||◌) k (or_false_right (same z x) (live x xs) h))
      (λ e. ap₂ (◌||◌) (or_false_left (same z x) (live x xs) h) (replaced_none x xs (or_false_right (same z x) (live x xs) h) k))

  pub replaced_distinct : (xs : List (List ℕ)) → empty y || not (live y xs) ≡ true → distinct xs ≡ true → distinct (replaced p y xs) ≡ true
  unfolding replaced distinct
  replaced_distinct [] h d = refl
  replaced_distinct (x ∷ xs) h d =
      let later : empty y || not (live y xs) ≡ true = or_later (empty y) (same x y) (live y xs) h in
      let rest : distinct xs ≡ true = and_right (empty x || not (live x xs)) (distinct xs) d in
      let first : empty x || not (live x xs) ≡ true = and_left (empty x || not (live x xs)) (distinct xs) d in
      cond_case (λ l. distinct l ≡ true) (p x)
      (λ e. ap₂ (◌&&◌) later rest)
      (λ e. ap₂ (◌&&◌) (or_else (empty x) (live x xs) (live x (replaced p y xs)) first (λ f g. replaced_none x xs g (apart x y (live y xs) f h)))
      (replaced_distinct xs later rest))

  -- where one passes, the new one is there, with all others that were
  pub replaced_live : (x : List ℕ) (xs : List (List ℕ)) → any p xs ≡ true → ((z : List ℕ) → p z ≡ true → same z x ≡ false)
      → live x (replaced p y xs) ≡ same y x || live x xs
  unfolding replaced
  replaced_live x [] h other = absurd (true≢false (sym h))
  replaced_live x (z ∷ xs) h other =
      cond_case (λ l. live x l ≡ same y x || (same z x || live x xs)) (p z)
      (λ e. sym (ap (λ t. same y x || (t || live x xs)) (other z e)))
      (λ e. ap (same z x ||◌) (replaced_live x xs (sym (ap (◌|| any p xs) e) ∙ h) other) ∙ or_swap (same z x) (same y x) (live x xs))

-- an id freed is there no more
pub freed_live : (x : List ℕ) (xs : List (List ℕ)) → distinct xs ≡ true → x ≢ [] → live x (replaced (λ z. same z x) [] xs) ≡ false
unfolding replaced distinct
freed_live x [] d n = refl
freed_live x (z ∷ xs) d n =
    cond_case (λ l. live x l ≡ false) (same z x)
    (λ e. ap₂ (◌||◌) (nil_apart x n)
    (not-true (live x xs)
    (sym (ap (◌|| not (live x xs)) (empty_not x n)) ∙ ap (λ t. empty t || not (live t xs)) (sym (same_eq z x e)) ∙ and_left (empty z || not (live z xs))
    (distinct xs) d)))
    (λ e. ap₂ (◌||◌) e (freed_live x xs (and_right (empty z || not (live z xs)) (distinct xs) d) n))

-- ---- the ids after a use of one

pub used_length : (u : Use) (id : List ℕ) (is : List (List ℕ)) → length (used u id is) ≡ length is
used_length Enter id is = replaced_length empty id is
used_length Free id is = replaced_length (λ x. same x id) [] is
used_length Need id is = refl
used_length Nothing id is = refl

pub used_short : (w : ℕ) (u : Use) (id : List ℕ) (is : List (List ℕ)) → leb (length id) w ≡ true → are_short w is ≡ true → are_short w (used u id is) ≡ true
used_short w Enter id is k h = replaced_short empty id w is k h
used_short w Free id is k h = replaced_short (λ x. same x id) [] w is (leb-zero w) h
used_short w Need id is k h = h
used_short w Nothing id is k h = h

module _ (w : ℕ) (u : Use) (id : List ℕ) (is : List (List ℕ)) (values v : List ℕ) (e : settle (use_checks w u id is) values ≡ accepted v) where
  pass : All Passes (use_checks w u id is)
  pass = all_pass (use_checks w u id is) values v e

  -- it is neither empty nor too long
  pub use_some : id ≢ []
  use_some = not_empty id (or_false_left (empty id) (ltb w (length id)) pass.0)

  pub use_short : leb (length id) w ≡ true
  use_short = le-leb (length id) w (ltb-false w (length id) (or_false_right (empty id) (ltb w (length id)) pass.0))

  pub use_new : enters u && live id is ≡ false
  use_new = let (short_enough, past_44) = pass in past_44.0

  pub use_live : wants_live u && not (live id is) ≡ false
  use_live = let (short_enough, past_44) = pass in let (new, past_45) = past_44 in past_45.0

  pub use_room : enters u && not (any empty is) ≡ false
  use_room = let (short_enough, past_44) = pass in let (new, past_45) = past_44 in let (there, past_46) = past_45 in past_46.0

pub used_distinct : (w : ℕ) (u : Use) (id : List ℕ) (is : List (List ℕ)) (values v : List ℕ) → settle (use_checks w u id is) values ≡ accepted v
    → distinct is ≡ true → distinct (used u id is) ≡ true
used_distinct w Enter id is values v e d =
    replaced_distinct empty id is
    (ap₂ (λ a b. a || not b) (empty_not id (use_some w Enter id is values v e)) (use_new w Enter id is values v e)) d
used_distinct w Free id is values v e d = replaced_distinct (λ x. same x id) [] is refl d
used_distinct w Need id is values v e d = d
used_distinct w Nothing id is values v e d = d

pub used_live : (w : ℕ) (u : Use) (id : List ℕ) (is : List (List ℕ)) (values v : List ℕ) → settle (use_checks w u id is) values ≡ accepted v
    → distinct is ≡ true → (x : List ℕ) → x ≢ [] → live x (used u id is) ≡ cond (same id x) (by_use u (live x is)) (live x is)
used_live w Enter id is values v e d x n =
    replaced_live empty id x is (not-false (any empty is) (use_room w Enter id is values v e)) (λ z h. empty_apart z x n h)
    ∙ or_cond (same id x) (live x is)
used_live w Free id is values v e d x n =
    cond_case (λ t. live x (used Free id is) ≡ t) (same id x)
    (λ h. ap (λ t. live x (replaced (λ z. same z t) [] is)) (same_eq id x h) ∙ freed_live x is d n)
    (λ h. replaced_live (λ z. same z id) [] x is (not-false (live id is) (use_live w Free id is values v e)) (λ z k. ap (λ t. same t x) (same_eq z id k) ∙ h)
    ∙ ap (◌|| live x is) (nil_apart x n))
used_live w Need id is values v e d x n = sym (cond_either (same id x) (live x is))
used_live w Nothing id is values v e d x n = sym (cond_either (same id x) (live x is))

-- ---- a store of zeros

laid_none : (w n : ℕ) → laid w (replicate n []) ≡ replicate (n * w) 0
unfolding laid
laid_none w zero = sym (ap (λ m. replicate m 0) (zero-mul w))
laid_none w (suc n) =
    let long : w + n * w ≡ suc n * w = omega (arith, suc-mul n w) in
    ap₂ (λ m z. replicate m 0 ++ z) (sub-zero w) (laid_none w n)
    ∙ replicate-append-replicate w (n * w) 0
    ∙ ap (λ m. replicate m 0) long

lengths_none : (n : ℕ) → lengths (replicate n []) ≡ replicate n 0
lengths_none zero = refl
lengths_none (suc n) = ap (0 ∷◌) (lengths_none n)

none_short : (w n : ℕ) → are_short w (replicate n []) ≡ true
none_short w zero = refl
none_short w (suc n) = ap₂ (◌&&◌) (leb-zero w) (none_short w n)

none_distinct : (n : ℕ) → distinct (replicate n []) ≡ true
unfolding distinct
none_distinct zero = refl
none_distinct (suc n) = none_distinct n

pub none_live : (n : ℕ) (x : List ℕ) → x ≢ [] → live x (replicate n []) ≡ false
none_live zero x n = refl
none_live (suc m) x n = ap₂ (◌||◌) (nil_apart x n) (none_live m x n)

pub zeros_ids : (w n : ℕ) → ids w (replicate (n * w) 0) (replicate n 0) ≡ replicate n []
zeros_ids w n = ap₂ (ids w) (sym (laid_none w n)) (sym (lengths_none n)) ∙ ids_laid w (replicate n []) (none_short w n)

pub zeros_valid : (w n : ℕ) → valid_store w (replicate (n * w) 0) (replicate n 0) ≡ true
zeros_valid w n =
    ap₂ (valid_store w) (sym (laid_none w n)) (sym (lengths_none n)) ∙ laid_valid w (replicate n []) (none_short w n) (none_distinct n)
