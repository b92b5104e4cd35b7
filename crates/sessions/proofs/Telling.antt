-- Ids told apart by the keys of their places. Assumes nothing.
--     live_keyed                          the key of an id's place is among those of the places that hold it
--     again_..                            whether an id is among others, by the tests in turn
--     all_keys, front_keys                the keys of a store, as they are put
--     apart_distinct                      where no two keys are alike, the ids are distinct
--     Turn's here_.., rest_..             a turn of a walk: what it knows of the place's key and of those after it
use Rattle.std.proofs.Common.{◌≡◌, ℕ, zero, suc, ◌+◌, ◌-◌, ◌*◌, ◌<◌, ◌≤◌, Bool, true, false, not, ◌&&◌, ◌||◌, eqb, List, [], ◌∷◌, ◌++◌, length, get_or, take, drop, replicate, sym, refl, ap, ◌∙◌, subst, ap₂, true≢false, suc-mul, zero-mul, add-one, arith, length-drop, drop-drop, take_at, eq-eqb}
use native.Mathlib.Nat.{sub-zero}
use lib.ListN.{get_or-append}
use lib.Seq.{drop-append-le}
use Rattle.headers.specs.Rows.{any, empty, same}
use Rattle.headers.proofs.Rows.{and_left, and_right, same_eq, refuted, empty_not, or_yes}
use Rattle.stores.specs.Places.{padded, is_zero}
use Rattle.std.specs.Prelude.{Option as Maybe, is_some as has_place}
use Rattle.stores.specs.Searches.{first_from, search_says}
use Rattle.sessions.specs.Stores.{ids, clean, live, distinct}
use Rattle.sessions.specs.Places.{Fits, Clean, Keyed, again}
use Rattle.stores.specs.Compaction.{rows}
use Rattle.stores.specs.Keys.{key, keys, with_keys, apart}
use Rattle.sessions.proofs.Rows.{or_either}
use Rattle.stores.proofs.Rows.{not_both}
use Rattle.stores.proofs.Searching.{told_any}
use Rattle.stores.proofs.Filling.{padded_take}
use Rattle.sessions.proofs.Stores.{fits_first, fits_long, fits_next}
use Rattle.stores.proofs.Keying.{keys_long, keys_turn, with_keys_all}
use Rattle.stores.proofs.Walking.{Before, drop_one}
use Rattle.sessions.proofs.Walking.{Turn, room, length_fits, id_at, ids_behind, ids_at, lens_at, part_fits, next_place, empty_front}

-- ---- an id that is there, by the keys

live_32 : (n : ℕ) (s ls : List ℕ) → Fits 32 n s ls → clean 32 s ls ≡ true → (id : List ℕ) → live id (ids 32 s ls) ≡ true → any
    (λ x. eqb x (key (padded 32 id))) (keys s ls) ≡ true
unfolding ids clean rows
live_32 n s [] f c id h = absurd (true≢false (sym h))
live_32 n s (l ∷ ls) f c id h =
    or_either (same (take l s) id) (live id (ids 32 (drop 32 s) ls)) h
    (λ e. ap (◌|| any (λ x. eqb x (key (padded 32 id))) (keys (drop 32 s) ls)) (eq-eqb (key (take 32 s)) (key (padded 32 id)) (ap key (sym (here e)))))
    (λ e. ap (eqb (key (take 32 s)) (key (padded 32 id)) ||◌) (live_32 (length ls) (drop 32 s) ls (fits_next f)
    (and_right (is_zero (drop l (take 32 s))) (clean 32 (drop 32 s) ls) c) id e)
    ∙ or_yes (eqb (key (take 32 s)) (key (padded 32 id))))
  where
    here : same (take l s) id ≡ true → padded 32 id ≡ take 32 s
    here e =
        ap (padded 32) (sym (same_eq (take l s) id e))
        ∙ padded_take 32 l s (fits_first f) (omega (arith, fits_long f)) (and_left (is_zero (drop l (take 32 s))) (clean 32 (drop 32 s) ls) c)

pub live_keyed : (w n : ℕ) (s ls : List ℕ) → Clean w n s ls → (id : List ℕ) → live id (ids w s ls) ≡ true → any (λ x. eqb x (key (padded w id)))
    (keys s ls) ≡ true
live_keyed w n s ls c id =
    subst (λ z. Fits z n s ls → clean z s ls ≡ true → live id (ids z s ls) ≡ true → any (λ x. eqb x (key (padded z id))) (keys s ls) ≡ true) (sym c.wide)
    (λ f e. live_32 n s ls f e id) c.fits c.clean_yes

-- ---- ids that differ, by the keys

apart_32 : (n : ℕ) (s ls : List ℕ) → Fits 32 n s ls → clean 32 s ls ≡ true → apart (keys s ls) ls ≡ true → distinct (ids 32 s ls) ≡ true
unfolding ids clean rows apart distinct
apart_32 n s [] f c h = refl
apart_32 n s (l ∷ ls) f c h =
    let rest_clean = and_right (is_zero (drop l (take 32 s))) (clean 32 (drop 32 s) ls) c in
    ap₂ (◌&&◌) (or_either (eqb l 0) (not alike) (and_left (eqb l 0 || not alike) (apart (keys (drop 32 s) ls) ls) h)
    (λ e. ap (◌|| not again_live) (empty_front l s (omega (arith, fits_first f, fits_long f)) ∙ e))
    (λ e. ap (empty (take l s) ||◌) (ap not (refuted again_live (λ q. true≢false (sym e ∙ ap not (found rest_clean q))))) ∙ or_yes (empty (take l s))))
    (apart_32 (length ls) (drop 32 s) ls (fits_next f) rest_clean (and_right (eqb l 0 || not alike) (apart (keys (drop 32 s) ls) ls) h))
  where
    alike : Bool
    alike = any (λ x. eqb x (key (take 32 s))) (keys (drop 32 s) ls)

    again_live : Bool
    again_live = live (take l s) (ids 32 (drop 32 s) ls)

    found : clean 32 (drop 32 s) ls ≡ true → again_live ≡ true → alike ≡ true
    found e q =
        ap (λ p. any (λ x. eqb x (key p)) (keys (drop 32 s) ls)) (sym (padded_take 32 l s (fits_first f) (omega (arith, fits_long f))
        (and_left (is_zero (drop l (take 32 s))) (clean 32 (drop 32 s) ls) c)))
        ∙ live_32 (length ls) (drop 32 s) ls (fits_next f) e (take l s) q

pub apart_distinct : (w n : ℕ) (s ls : List ℕ) → Clean w n s ls → apart (keys s ls) ls ≡ true → distinct (ids w s ls) ≡ true
apart_distinct w n s ls c h =
    subst (λ z. Fits z n s ls → clean z s ls ≡ true → distinct (ids z s ls) ≡ true) (sym c.wide) (λ f e. apart_32 n s ls f e h) c.fits c.clean_yes

-- ---- whether an id is among others

some_id : (id : List ℕ) (others : List (List ℕ)) → (length id ≡ 0 → ⊥) → again id others ≡ live id others
some_id id others n = ap (λ t. not t && live id others) (empty_not id (λ e. n (ap length e)))

pub again_found : (id : List ℕ) (others : List (List ℕ)) → (length id ≡ 0 → ⊥) → (r : Maybe ℕ) (found : Bool) → search_says r ≡ first_from
    (λ x. same x id) 0 others → found ≡ has_place r
    → found ≡ again id others
again_found id others n r found told is = is ∙ sym (told_any (λ x. same x id) 0 others r told) ∙ sym (some_id id others n)

pub again_missed : {w n : ℕ} {s ls ks : List ℕ} {k : ℕ} {id : List ℕ} → Keyed w n s ls ks k id → (length id ≡ 0 → ⊥) → false ≡ any (λ x. eqb x k) ks →
    false ≡ again id (ids w s ls)
again_missed {w} {n} {s} {ls} {ks} {k} {id} q e miss =
    let none : any (λ x. eqb x (key (padded w id))) (keys s ls) ≡ false = ap₂ (λ a b. any (λ x. eqb x a) b) (sym q.key_is) (sym q.keys_are) ∙ sym miss in
    sym (some_id id (ids w s ls) e ∙ refuted (live id (ids w s ls)) (λ h. true≢false (sym (live_keyed w n s ls q.store id h) ∙ none)))

-- ---- the keys of places, in a row

module _ {w n : ℕ} {s ls : List ℕ} (c : Clean w n s ls) where
  -- there is room for all
  pub all_keys : with_keys s ls (replicate 64 0) ≡ keys s ls ++ drop (length ls) (replicate 64 0)
  all_keys =
      let long = c.fits.store_long ∙ ap₂ (◌*◌) (sym c.fits.lens_long) c.wide in
      with_keys_all s ls (replicate 64 0) long (omega (arith, c.fits.lens_long, c.few))

  -- and they are at the front
  pub front_keys : (ks : List ℕ) → ks ≡ with_keys s ls (replicate 64 0) → take (n - 0) (drop 0 ks) ≡ keys s ls
  front_keys ks e =
      ap (take (n - 0)) (e ∙ all_keys)
      ∙ take_at (keys s ls) (drop (length ls) (replicate 64 0)) (n - 0) (keys_long s ls ∙ c.fits.lens_long ∙ sym (sub-zero n))

-- those from place j on
keys_drop : (j : ℕ) (s ls : List ℕ) → drop j (keys s ls) ≡ keys (drop (j * 32) s) (drop j ls)
unfolding rows
keys_drop zero s ls = ap (λ z. keys (drop z s) ls) (sym (zero-mul 32))
keys_drop (suc j) s [] = refl
keys_drop (suc j) s (l ∷ ls) =
    let e : 32 + j * 32 ≡ suc j * 32 = omega (arith, suc-mul j 32) in
    keys_drop j (drop 32 s) ls ∙ ap (λ z. keys z (drop j ls)) (drop-drop (j * 32) 32 s ∙ ap (λ z. drop z s) e)

-- ---- a turn that has read l, the length of place k

module _ {w n : ℕ} {s ls : List ℕ} {k at l : ℕ} {fits : Fits w n s ls} {stands : Before w n k at} (t : Turn fits stands l)
    (c : clean w (drop at s) (drop k ls) ≡ true) where
  both_clean : is_zero (drop l (take w (drop at s))) && clean w (drop w (drop at s)) (drop (k + 1) ls) ≡ true
  unfolding clean
  both_clean = sym (ap (clean w (drop at s)) (lens_at t)) ∙ c

  pub rest_clean : clean w (drop (at + w) s) (drop (k + 1) ls) ≡ true
  rest_clean =
      ap (λ z. clean w z (drop (k + 1) ls)) (sym (drop-drop w at s)) ∙ and_right (is_zero (drop l (take w (drop at s))))
      (clean w (drop w (drop at s)) (drop (k + 1) ls)) both_clean

  -- the place's octets are its id and 0 after it
  here_padded : padded w (id_at t) ≡ take w (drop at s)
  here_padded =
      padded_take w l (drop at s) (length_fits t) (simp length-drop (omega (arith, room t)))
      (and_left (is_zero (drop l (take w (drop at s)))) (clean w (drop w (drop at s)) (drop (k + 1) ls)) both_clean)

  module _ (wide : w ≡ 32) (few : n ≤ 64) (ks z : List ℕ) (are : ks ≡ keys s ls ++ z) where
    inside : k < length (keys s ls)
    inside = omega (arith, keys_long s ls, fits.lens_long, t.more)

    start : at ≡ k * 32
    start = stands.starts ∙ ap (k *◌) wide

    -- its key
    pub here_key : get_or ks k 0 ≡ key (padded w (id_at t))
    here_key =
        let e : 32 ≡ at + 32 - at = omega arith in
        let row : drop k (keys s ls) ≡ key (take (at + 32 - at) (drop at s)) ∷ keys (drop (at + 32) s) (drop (k + 1) ls) =
        keys_drop k s ls ∙ ap (λ z. keys (drop z s) (drop k ls)) (sym start) ∙ keys_turn s ls k at (omega (arith, fits.lens_long, t.more)) in
        let first : get_or (keys s ls) k 0 ≡ key (take (at + 32 - at) (drop at s)) = ap (λ r. get_or r 0 0) (sym (drop_one (keys s ls) k 0 inside) ∙ row) in
        ap (λ r. get_or r k 0) are ∙ get_or-append (keys s ls) z 0 k inside ∙ first
        ∙ ap (λ m. key (take m (drop at s))) (sym e) ∙ ap (λ m. key (take m (drop at s))) (sym wide) ∙ ap key (sym here_padded)

    -- and the keys after it, as the code takes a part
    rest_keys : take (n - (k + 1)) (drop (k + 1) ks) ≡ keys (drop (at + w) s) (drop (k + 1) ls)
    rest_keys =
        let there : (k + 1) * 32 ≡ at + w = ap (◌* 32) (add-one k) ∙ suc-mul k 32 ∙ omega (arith, start, wide) in
        let behind : drop (k + 1) (keys s ls) ≡ keys (drop (at + w) s) (drop (k + 1) ls) = keys_drop (k + 1) s ls ∙ ap
        (λ m. keys (drop m s) (drop (k + 1) ls)) there in
        let long : length (keys (drop (at + w) s) (drop (k + 1) ls)) ≡ n - (k + 1) = keys_long (drop (at + w) s) (drop (k + 1) ls) ∙ length-drop (k + 1)
        ls ∙ ap (◌- (k + 1)) fits.lens_long in
        ap (λ r. take (n - (k + 1)) (drop (k + 1) r)) are
        ∙ ap (take (n - (k + 1))) (drop-append-le (k + 1) (keys s ls) z (omega (arith, inside)) ∙ ap (◌++ z) behind)
        ∙ take_at (keys (drop (at + w) s) (drop (k + 1) ls)) z (n - (k + 1)) long

    pub rest_keyed : (h : ℕ) → h ≡ get_or ks k 0 → (octets lens id : List ℕ) → octets ≡ drop (at + w) s → lens ≡ drop (k + 1) ls → id ≡ id_at t
        → Keyed w (length lens) octets lens (take (n - (k + 1)) (drop (k + 1) ks)) h id
    rest_keyed h e octets lens id p q same =
        let f = part_fits fits (next_place t) in
        rw (p, q, same) (record {
          store = record {
            fits = record { lens_long = refl; store_long = f.store_long ∙ ap (◌* w) (sym f.lens_long); lens_short = f.lens_short };
            clean_yes = rest_clean;
            wide = wide;
            few = omega (arith, few, f.lens_long);
          };
          keys_are = rest_keys;
          key_is = e ∙ here_key;
        })

  -- what is left of the test, one place on
  pub distinct_next : (r : Bool) → r ≡ again (id_at t) (ids_behind t) → distinct (ids w (drop at s) (drop k ls)) ≡ not r && distinct (ids_behind t)
  unfolding distinct
  distinct_next r e =
      ap distinct (ids_at t)
      ∙ ap (◌&& distinct (ids_behind t)) (not_both (empty (id_at t)) (live (id_at t) (ids_behind t)) ∙ ap not (sym e))
