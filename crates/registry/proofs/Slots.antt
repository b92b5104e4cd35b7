-- Laws of slots that hold things with names, over any thing. Assumes nothing.
--     has_found, found_none, found_name       whether a thing is found, and its name
--     ..-here, found_other                    what is found after a replacement
--     found_map, found_keep                   and after a change of every slot
--     distinct_.., length_.., every_..        what replacements and changes keep
use mathlib.Core.Path.{◌≡◌, refl, sym, ◌∙◌, ap, ap₂}
use mathlib.Core.Bool.{Bool, true, false, cond, ◌&&◌, ◌||◌, not, true≢false}
use mathlib.Core.Option.{Option, none, some}
use mathlib.Core.List.{List, [], ◌∷◌, map}
use Prim.Native.Nat.{ℕ, suc, ◌+◌}
use native.Mathlib.Omega.{arith}
use lib.ListN.{length}
use borrow.Author.Tests.{not-true}
use Rattle.headers.specs.Rows.{every, any, same}
use Rattle.headers.proofs.Rows.{cond_case, and_left, and_right, or_false_left, or_false_right, same_eq, same_self, same_apart}
use Rattle.stores.specs.Searches.{first_from, replaced}
use Rattle.registry.specs.Slots.{is_free, holds, has_free, has, found, place, distinct}

abbrev pub is_some : {A : Type 0} → Option A → Bool
is_some none = false
is_some (some a) = true

pub none_some : {A : Type 0} (a : A) → none ≡ some a → ⊥
none_some a e = true≢false (ap is_some (sym e))

module _ {A : Type 0} (p : A → Bool) (y : A) where
  pub every_replaced : (q : A → Bool) (xs : List A) → q y ≡ true → every q xs ≡ true → every q (replaced p y xs) ≡ true
  unfolding replaced
  every_replaced q [] k h = refl
  every_replaced q (x ∷ xs) k h =
      cond_case (λ z. every q z ≡ true) (p x)
      (λ e. ap₂ (◌&&◌) k (and_right (q x) (every q xs) h))
      (λ e. ap₂ (◌&&◌) (and_left (q x) (every q xs) h) (every_replaced q xs k (and_right (q x) (every q xs) h)))

module _ {A : Type 0} (f : A → A) where
  pub length_mapped : (xs : List A) → length (map f xs) ≡ length xs
  length_mapped [] = refl
  length_mapped (x ∷ xs) = ap suc (length_mapped xs)

  pub every_mapped : (q : A → Bool) → ((x : A) → q x ≡ true → q (f x) ≡ true) → (xs : List A) → every q xs ≡ true → every q (map f xs) ≡ true
  every_mapped q keeps [] h = refl
  every_mapped q keeps (x ∷ xs) h =
      ap₂ (◌&&◌) (keeps x (and_left (q x) (every q xs) h)) (every_mapped q keeps xs (and_right (q x) (every q xs) h))

module _ {A : Type 0} (name : A → List ℕ) where
  -- ---- what is found

  pub has_found : (x : List ℕ) (slots : List (Option A)) → has name x slots ≡ is_some (found name x slots)
  has_found x [] = refl
  has_found x (none ∷ slots) = has_found x slots
  has_found x (some a ∷ slots) = by (same (name a) x) (has_found x slots)
    where
      by : (t : Bool) → has name x slots ≡ is_some (found name x slots) → t || has name x slots ≡ is_some (cond t (some a) (found name x slots))
      by true go = refl
      by false go = go

  pub found_none : (x : List ℕ) (slots : List (Option A)) → has name x slots ≡ false → found name x slots ≡ none
  found_none x slots h = by (found name x slots) (sym (has_found x slots) ∙ h)
    where
      by : (o : Option A) → is_some o ≡ false → o ≡ none
      by none e = refl
      by (some a) e = absurd (true≢false e)

  pub found_name : (x : List ℕ) (slots : List (Option A)) (a : A) → found name x slots ≡ some a → name a ≡ x
  found_name x [] a h = absurd (none_some a h)
  found_name x (none ∷ slots) a h = found_name x slots a h
  found_name x (some b ∷ slots) a h = by (same (name b) x) refl h (found_name x slots a)
    where
      by : (t : Bool) → same (name b) x ≡ t → cond t (some b) (found name x slots) ≡ some a → (found name x slots ≡ some a → name a ≡ x) → name a ≡ x
      by true e k go = let n : b ≡ a = cc in ap name (sym n) ∙ same_eq (name b) x e
      by false e k go = go k

  -- the first that holds it is at its place
  place_from : (x : List ℕ) (j k : ℕ) (slots : List (Option A)) → some k ≡ first_from (holds name x) j slots → k ≡ j + place name x slots
  unfolding first_from
  place_from x j k [] e = absurd (none_some k (sym e))
  place_from x j k (s ∷ slots) e = by (holds name x s) e (place_from x (suc j) k slots)
    where
      by : (t : Bool) → some k ≡ cond t (some j) (first_from (holds name x) (suc j) slots)
          → (some k ≡ first_from (holds name x) (suc j) slots → k ≡ suc j + place name x slots) → k ≡ j + cond t 0 (suc (place name x slots))
      by true h go = let q : k ≡ j = cc in omega (arith, q)
      by false h go = omega (arith, go h)

  pub place_first : (x : List ℕ) (k : ℕ) (slots : List (Option A)) → some k ≡ first_from (holds name x) 0 slots → k ≡ place name x slots
  place_first x k slots e = omega (arith, place_from x 0 k slots e)

  -- a slot holds by one name alone
  pub holds_one : (s : Option A) (x y : List ℕ) → holds name x s ≡ true → same x y ≡ false → holds name y s ≡ false
  holds_one none x y h k = refl
  holds_one (some a) x y h k = ap (λ z. same z y) (same_eq (name a) x h) ∙ k

  pub free_holds : (s : Option A) (x : List ℕ) → is_free s ≡ true → holds name x s ≡ false
  free_holds none x h = refl
  free_holds (some a) x h = absurd (true≢false (sym h))

  -- ---- after a replacement

  pub found_other : (p : Option A → Bool) (y : Option A) (x : List ℕ) → ((s : Option A) → p s ≡ true → holds name x s ≡ false) → holds name x y ≡ false
      → (slots : List (Option A)) → found name x (replaced p y slots) ≡ found name x slots
  unfolding replaced
  found_other p y x apart new [] = refl
  found_other p y x apart new (s ∷ slots) =
      cond_case (λ z. found name x z ≡ cond (holds name x s) s (found name x slots)) (p s)
      (λ e. ap (λ t. cond t y (found name x slots)) new ∙ sym (ap (λ t. cond t s (found name x slots)) (apart s e)))
      (λ e. ap (cond (holds name x s) s) (found_other p y x apart new slots))

  pub again_here : (b : A) (slots : List (Option A)) → has name (name b) slots ≡ true
      → found name (name b) (replaced (holds name (name b)) (some b) slots) ≡ some b
  unfolding replaced
  again_here b [] h = absurd (true≢false (sym h))
  again_here b (s ∷ slots) h = by (holds name (name b) s) refl h (again_here b slots)
    where
      by : (t : Bool) → holds name (name b) s ≡ t → t || has name (name b) slots ≡ true
          → (has name (name b) slots ≡ true → found name (name b) (replaced (holds name (name b)) (some b) slots) ≡ some b)
          → found name (name b) (cond t (some b ∷ slots) (s ∷ replaced (holds name (name b)) (some b) slots)) ≡ some b
      by true e k go = ap (λ t. cond t (some b) (found name (name b) slots)) (same_self (name b))
      by false e k go = ap (λ t. cond t s (found name (name b) (replaced (holds name (name b)) (some b) slots))) e ∙ go k

  pub new_here : (b : A) (slots : List (Option A)) → has_free slots ≡ true → has name (name b) slots ≡ false
      → found name (name b) (replaced is_free (some b) slots) ≡ some b
  unfolding replaced
  new_here b [] f h = absurd (true≢false (sym f))
  new_here b (none ∷ slots) f h = ap (λ t. cond t (some b) (found name (name b) slots)) (same_self (name b))
  new_here b (some a ∷ slots) f h =
      ap (λ t. cond t (some a) (found name (name b) (replaced is_free (some b) slots))) (or_false_left (same (name a) (name b)) (has name (name b) slots) h)
      ∙ new_here b slots f (or_false_right (same (name a) (name b)) (has name (name b) slots) h)

  -- the first of a row of distinct things: no other has its name
  pub first_alone : (a : A) (x : List ℕ) (slots : List (Option A)) → distinct name (some a ∷ slots) ≡ true → same (name a) x ≡ true → has name x slots ≡ false
  first_alone a x slots d e =
      ap (λ z. has name z slots) (sym (same_eq (name a) x e))
      ∙ not-true (has name (name a) slots) (and_left (not (has name (name a) slots)) (distinct name slots) d)

  pub rest_distinct : (s : Option A) (slots : List (Option A)) → distinct name (s ∷ slots) ≡ true → distinct name slots ≡ true
  rest_distinct none slots d = d
  rest_distinct (some a) slots d = and_right (not (has name (name a) slots)) (distinct name slots) d

  pub freed_here : (x : List ℕ) (slots : List (Option A)) → distinct name slots ≡ true → found name x (replaced (holds name x) none slots) ≡ none
  unfolding replaced
  freed_here x [] d = refl
  freed_here x (none ∷ slots) d = freed_here x slots d
  freed_here x (some a ∷ slots) d = by (same (name a) x) refl (freed_here x slots (rest_distinct (some a) slots d))
    where
      by : (t : Bool) → same (name a) x ≡ t → found name x (replaced (holds name x) none slots) ≡ none
          → found name x (cond t (none ∷ slots) (some a ∷ replaced (holds name x) none slots)) ≡ none
      by true e go = found_none x slots (first_alone a x slots d e)
      by false e go = ap (λ t. cond t (some a) (found name x (replaced (holds name x) none slots))) e ∙ go

  -- ---- after a change of every slot

  -- one that keeps each name
  module _ (f : Option A → Option A) (nothing : f none ≡ none) (keeps : (s : Option A) (x : List ℕ) → holds name x (f s) ≡ holds name x s) where
    pub found_map : (x : List ℕ) (slots : List (Option A)) → found name x (map f slots) ≡ f (found name x slots)
    found_map x [] = sym nothing
    found_map x (s ∷ slots) =
        ap (λ t. cond t (f s) (found name x (map f slots))) (keeps s x) ∙ by (holds name x s) (found_map x slots)
      where
        by : (t : Bool) → found name x (map f slots) ≡ f (found name x slots) → cond t (f s) (found name x (map f slots)) ≡ f (cond t s (found name x slots))
        by true go = refl
        by false go = go

    pub has_map : (x : List ℕ) (slots : List (Option A)) → has name x (map f slots) ≡ has name x slots
    has_map x [] = refl
    has_map x (s ∷ slots) = ap₂ (◌||◌) (keeps s x) (has_map x slots)

  -- one that frees some
  module _ (f : Option A → Option A) (q : A → Bool) (nothing : f none ≡ none) (frees : (a : A) → f (some a) ≡ cond (q a) none (some a)) where
    holds_keep : (s : Option A) (x : List ℕ) → holds name x s ≡ false → holds name x (f s) ≡ false
    holds_keep none x h = ap (holds name x) nothing
    holds_keep (some a) x h = ap (holds name x) (frees a) ∙ cond_case (λ z. holds name x z ≡ false) (q a) (λ e. refl) (λ e. h)

    has_keep : (x : List ℕ) (slots : List (Option A)) → has name x slots ≡ false → has name x (map f slots) ≡ false
    has_keep x [] h = refl
    has_keep x (s ∷ slots) h =
        ap₂ (◌||◌) (holds_keep s x (or_false_left (holds name x s) (has name x slots) h))
        (has_keep x slots (or_false_right (holds name x s) (has name x slots) h))

    pub found_keep : (x : List ℕ) (slots : List (Option A)) → distinct name slots ≡ true → found name x (map f slots) ≡ f (found name x slots)
    found_keep x [] d = sym nothing
    found_keep x (none ∷ slots) d = ap (λ z. cond (holds name x z) z (found name x (map f slots))) nothing ∙ found_keep x slots d
    found_keep x (some a ∷ slots) d =
        ap (λ z. cond (holds name x z) z (found name x (map f slots))) (frees a)
        ∙ by (same (name a) x) refl (q a) refl (found_keep x slots (rest_distinct (some a) slots d))
      where
        by : (t : Bool) → same (name a) x ≡ t → (u : Bool) → q a ≡ u → found name x (map f slots) ≡ f (found name x slots)
            → cond (holds name x (cond u none (some a))) (cond u none (some a)) (found name x (map f slots)) ≡ f (cond t (some a) (found name x slots))
        by true e true g go = found_none x (map f slots) (has_keep x slots (first_alone a x slots d e)) ∙ sym (frees a ∙ ap (λ z. cond z none (some a)) g)
        by true e false g go = ap (λ z. cond z (some a) (found name x (map f slots))) e ∙ sym (frees a ∙ ap (λ z. cond z none (some a)) g)
        by false e true g go = go
        by false e false g go = ap (λ z. cond z (some a) (found name x (map f slots))) e ∙ go

    pub distinct_keep : (slots : List (Option A)) → distinct name slots ≡ true → distinct name (map f slots) ≡ true
    distinct_keep [] d = refl
    distinct_keep (none ∷ slots) d = ap (λ z. distinct name (z ∷ map f slots)) nothing ∙ distinct_keep slots d
    distinct_keep (some a ∷ slots) d =
        ap (λ z. distinct name (z ∷ map f slots)) (frees a)
        ∙ cond_case (λ z. distinct name (z ∷ map f slots) ≡ true) (q a)
        (λ e. distinct_keep slots (rest_distinct (some a) slots d))
        (λ e. ap₂ (λ t u. not t && u) (has_keep (name a) slots (first_alone a (name a) slots d (same_self (name a))))
        (distinct_keep slots (rest_distinct (some a) slots d)))

  -- ---- distinct things stay so

  has_other : (p : Option A → Bool) (y : Option A) (x : List ℕ) → holds name x y ≡ false → (slots : List (Option A)) → has name x slots ≡ false
      → has name x (replaced p y slots) ≡ false
  unfolding replaced
  has_other p y x new [] h = refl
  has_other p y x new (s ∷ slots) h =
      cond_case (λ z. has name x z ≡ false) (p s)
      (λ e. ap₂ (◌||◌) new (or_false_right (holds name x s) (has name x slots) h))
      (λ e. ap₂ (◌||◌) (or_false_left (holds name x s) (has name x slots) h) (has_other p y x new slots (or_false_right (holds name x s) (has name x slots) h)))

  pub distinct_freed : (p : Option A → Bool) (slots : List (Option A)) → distinct name slots ≡ true → distinct name (replaced p none slots) ≡ true
  unfolding replaced
  distinct_freed p [] d = refl
  distinct_freed p (none ∷ slots) d = cond_case (λ z. distinct name z ≡ true) (p none) (λ e. d) (λ e. distinct_freed p slots d)
  distinct_freed p (some a ∷ slots) d =
      cond_case (λ z. distinct name z ≡ true) (p (some a))
      (λ e. rest_distinct (some a) slots d)
      (λ e. ap₂ (λ t u. not t && u)
      (has_other p none (name a) refl slots (first_alone a (name a) slots d (same_self (name a)))) (distinct_freed p slots (rest_distinct (some a) slots d)))

  pub distinct_new : (p : Option A → Bool) (b : A) (slots : List (Option A)) → has name (name b) slots ≡ false → distinct name slots ≡ true
      → distinct name (replaced p (some b) slots) ≡ true
  unfolding replaced
  distinct_new p b [] h d = refl
  distinct_new p b (none ∷ slots) h d =
      cond_case (λ z. distinct name z ≡ true) (p none) (λ e. ap₂ (λ t u. not t && u) h d) (λ e. distinct_new p b slots h d)
  distinct_new p b (some a ∷ slots) h d =
      let apart : same (name a) (name b) ≡ false = or_false_left (same (name a) (name b)) (has name (name b) slots) h in
      let later : has name (name b) slots ≡ false = or_false_right (same (name a) (name b)) (has name (name b) slots) h in
      let rest : distinct name slots ≡ true = rest_distinct (some a) slots d in
      cond_case (λ z. distinct name z ≡ true) (p (some a))
      (λ e. ap₂ (λ t u. not t && u) later rest)
      (λ e. ap₂ (λ t u. not t && u)
      (has_other p (some b) (name a) (same_apart (name a) (name b) apart) slots (first_alone a (name a) slots d (same_self (name a))))
      (distinct_new p b slots later rest))

  pub distinct_again : (b : A) (slots : List (Option A)) → distinct name slots ≡ true → distinct name (replaced (holds name (name b)) (some b) slots) ≡ true
  unfolding replaced
  distinct_again b [] d = refl
  distinct_again b (none ∷ slots) d = distinct_again b slots d
  distinct_again b (some a ∷ slots) d =
      let rest : distinct name slots ≡ true = rest_distinct (some a) slots d in
      cond_case (λ z. distinct name z ≡ true) (same (name a) (name b))
      (λ e. ap₂ (λ t u. not t && u) (first_alone a (name b) slots d e) rest)
      (λ e. ap₂ (λ t u. not t && u)
      (has_other (holds name (name b)) (some b) (name a) (same_apart (name a) (name b) e) slots (first_alone a (name a) slots d (same_self (name a))))
      (distinct_again b slots rest))

  module _ (f : Option A → Option A) (nothing : f none ≡ none) (keeps : (s : Option A) (x : List ℕ) → holds name x (f s) ≡ holds name x s) where
    pub distinct_map : (slots : List (Option A)) → distinct name slots ≡ true → distinct name (map f slots) ≡ true
    distinct_map [] d = refl
    distinct_map (none ∷ slots) d = ap (λ z. distinct name (z ∷ map f slots)) nothing ∙ distinct_map slots d
    distinct_map (some a ∷ slots) d = by (f (some a)) (keeps (some a)) (distinct_map slots (rest_distinct (some a) slots d))
      where
        by : (o : Option A) → ((x : List ℕ) → holds name x o ≡ same (name a) x) → distinct name (map f slots) ≡ true → distinct name (o ∷ map f slots) ≡ true
        by none k go = go
        by (some b) k go =
            let one : name a ≡ name b = same_eq (name a) (name b) (sym (k (name b)) ∙ same_self (name b)) in
            ap₂ (λ t u. not t && u)
            (has_map f nothing keeps (name b) slots ∙ ap (λ z. has name z slots) (sym one) ∙ first_alone a (name a) slots d (same_self (name a)))
            go

    pub nothing_free : (slots : List (Option A)) → has_free (map f slots) ≡ any (λ s. is_free (f s)) slots
    nothing_free [] = refl
    nothing_free (s ∷ slots) = ap (is_free (f s) ||◌) (nothing_free slots)
