-- Keys told apart by marks. Assumes nothing.
--     not_among              a key whose slot is not marked is not among marked ones
--     Marking, marking_..    a loop over the places, from the last to the first
use mathlib.Core.Path.{◌≡◌, refl, sym, ap, ap₂, ◌∙◌}
use mathlib.Core.Bool.{Bool, true, false, ◌&&◌, ◌||◌, not, true≢false}
use mathlib.Core.List.{List, [], ◌∷◌}
use Prim.Native.Nat.{ℕ, zero, suc, ◌+◌, ◌-◌, ◌≤◌, ◌<◌}
use native.Mathlib.Omega.{arith}
use lib.Dec.{eqb}
use lib.ListN.{length, drop, get_or, set, replicate, length-set, length-replicate}
use lib.Seq.{drop-length, drop-drop, get_or-drop, get_or-set_same, get_or-set_other}
use borrow.Author.Tests.{eqb-true, eqb-false, eq-eqb}
use Rattle.headers.specs.Rows.{any}
use Rattle.headers.proofs.Rows.{and_left, and_right, and_no, and_yes, refuted, every_also}
use Rattle.stores.specs.Keys.{slot, marked, apart}
use Rattle.stores.proofs.Rows.{not_both}
use Rattle.stores.proofs.Walking.{drop_one, part_from, part_drop}

-- the slot of a key has a mark
abbrev mark_at : List ℕ → ℕ → Bool
mark_at ms k = not (eqb (get_or ms (slot k) 0) 0)

pub not_among : (ms ks : List ℕ) (k : ℕ) → marked ms ks ≡ true → get_or ms (slot k) 0 ≡ 0 → any (λ x. eqb x k) ks ≡ false
not_among ms [] k h e = refl
not_among ms (x ∷ ks) k h e =
    ap (◌|| any (λ y. eqb y k) ks) (refuted (eqb x k) (λ q. true≢false (sym (and_left (mark_at ms x) (marked ms ks) h)
    ∙ ap (mark_at ms) (eqb-true x k q) ∙ ap not (eq-eqb (get_or ms (slot k) 0) 0 e))))
    ∙ not_among ms ks k (and_right (mark_at ms x) (marked ms ks) h) e

-- a mark more keeps the others
still_marked : (ms ks : List ℕ) (j : ℕ) → j < length ms → marked ms ks ≡ true → marked (set ms j 1) ks ≡ true
still_marked ms ks j inside h = every_also (mark_at ms) (mark_at (set ms j 1)) (λ k e. by k (eqb (slot k) j) refl e) ks h
  where
    by : (k : ℕ) (t : Bool) → eqb (slot k) j ≡ t → mark_at ms k ≡ true → mark_at (set ms j 1) k ≡ true
    by k true q e = ap (λ z. not (eqb (get_or (set ms j 1) z 0) 0)) (eqb-true (slot k) j q) ∙ ap (λ z. not (eqb z 0)) (get_or-set_same ms j 1 0 inside)
    by k false q e = ap (λ z. not (eqb z 0)) (get_or-set_other ms j (slot k) 1 0 (eqb-false (slot k) j q)) ∙ e

-- ---- the test on places, one place before

apart_free : (ks : List ℕ) → apart ks [] ≡ true
unfolding apart
apart_free [] = refl
apart_free (k ∷ ks) = refl

-- a place that is not free has the key of a later one
abbrev clash : ℕ → ℕ → List ℕ → Bool
clash l k ks = not (eqb l 0) && any (λ x. eqb x k) ks

apart_cons : (k : ℕ) (ks ls : List ℕ) → apart (k ∷ ks) ls ≡ not (clash (get_or ls 0 0) k ks) && apart ks (drop 1 ls)
unfolding apart
apart_cons k ks [] = sym (apart_free ks)
apart_cons k ks (l ∷ ls) = ap (◌&& apart ks ls) (not_both (eqb l 0) (any (λ x. eqb x k) ks))

-- places that are not apart are not so with others before them
apart_from : (i : ℕ) (ks ls : List ℕ) → apart (drop i ks) (drop i ls) ≡ false → apart ks ls ≡ false
unfolding apart
apart_from zero ks ls h = h
apart_from (suc i) [] ls h = h
apart_from (suc i) (k ∷ ks) [] h = sym (apart_free (drop i ks)) ∙ h
apart_from (suc i) (k ∷ ks) (l ∷ ls) h =
    ap ((eqb l 0 || not (any (λ x. eqb x k) ks)) &&◌) (apart_from i ks ls h) ∙ and_no (eqb l 0 || not (any (λ x. eqb x k) ks))

-- ---- a loop that is before place i, seen from the end: the places from i on are marked, and apart

pub record Marking (ks ls ms : List ℕ) (i : ℕ) : Type 0 where
  pub inside : i ≤ length ks
  pub long : length ms ≡ 1024
  pub all_marked : marked ms (drop i ks) ≡ true
  pub all_apart : apart (drop i ks) (drop i ls) ≡ true

pub marking_none : (ks ls : List ℕ) → Marking ks ls (replicate 1024 0) (length ks)
unfolding apart
marking_none ks ls =
    record {
      inside = omega arith;
      long = length-replicate {A = ℕ} 1024 0;
      all_marked = ap (marked (replicate 1024 0)) (drop-length ks);
      all_apart = ap (λ z. apart z (drop (length ks) ls)) (drop-length ks);
    }

pub marking_all : {ks ls ms : List ℕ} {i : ℕ} → Marking ks ls ms i → i ≤ 0 → true ≡ apart ks ls
marking_all {ks} {ls} {ms} {i} st h =
    let e : i ≡ 0 = omega (arith, h) in
    sym (ap (λ z. apart (drop z ks) (drop z ls)) (sym e) ∙ st.all_apart)

module _ {ks ls ms : List ℕ} {i : ℕ} (st : Marking ks ls ms i) (more : 0 < i) where
  back : i - 1 + 1 ≡ i
  back = omega (arith, more)

  later : part_from (i - 1 + 1) ks ≡ drop i ks
  later = part_drop (i - 1 + 1) ks ∙ ap (λ z. drop z ks) back

  pub later_marked : marked ms (part_from (i - 1 + 1) ks) ≡ true
  later_marked = ap (marked ms) later ∙ st.all_marked

  keys_back : drop (i - 1) ks ≡ get_or ks (i - 1) 0 ∷ drop i ks
  keys_back = drop_one ks (i - 1) 0 (omega (arith, more, st.inside)) ∙ ap (λ z. get_or ks (i - 1) 0 ∷ drop z ks) back

  module _ (l k : ℕ) (r : Bool) (len_is : l ≡ get_or ls (i - 1) 0) (key_is : k ≡ get_or ks (i - 1) 0) (told : r ≡ clash l k (part_from (i - 1 + 1) ks)) where
    apart_back : apart (drop (i - 1) ks) (drop (i - 1) ls) ≡ not r
    apart_back =
        let same_len : get_or (drop (i - 1) ls) 0 0 ≡ l = get_or-drop (i - 1) ls 0 0 ∙ ap (λ z. get_or ls z 0) (omega arith) ∙ sym len_is in
        let rest : drop 1 (drop (i - 1) ls) ≡ drop i ls = drop-drop 1 (i - 1) ls ∙ ap (λ z. drop z ls) back in
        ap (λ z. apart z (drop (i - 1) ls)) keys_back
        ∙ apart_cons (get_or ks (i - 1) 0) (drop i ks) (drop (i - 1) ls)
        ∙ ap₂ (λ a b. not a && b) (ap₂ (λ a b. clash a b (drop i ks)) same_len (sym key_is) ∙ ap (clash l k) (sym later) ∙ sym told)
        (ap (apart (drop i ks)) rest ∙ st.all_apart)
        ∙ and_yes (not r)

    pub marking_clash : r ≡ true → false ≡ apart ks ls
    marking_clash e = sym (apart_from (i - 1) ks ls (apart_back ∙ ap not e))

    pub marking_next : r ≡ false → (j : ℕ) → j ≡ slot k → j < 1024 → Marking ks ls (set ms j 1) (i - 1)
    marking_next e j is below =
        let room : j < length ms = omega (arith, st.long, below) in
        let here : mark_at (set ms j 1) (get_or ks (i - 1) 0) ≡ true =
        ap (mark_at (set ms j 1)) (sym key_is) ∙ ap (λ z. not (eqb (get_or (set ms j 1) z 0) 0)) (sym is)
        ∙ ap (λ z. not (eqb z 0)) (get_or-set_same ms j 1 0 room) in
        record {
          inside = omega (arith, st.inside);
          long = length-set ms j 1 ∙ st.long;
          all_marked = ap (marked (set ms j 1)) keys_back ∙ ap₂ (◌&&◌) here (still_marked ms (drop i ks) j room st.all_marked);
          all_apart = apart_back ∙ ap not e;
        }
