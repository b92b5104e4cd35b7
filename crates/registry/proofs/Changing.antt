-- Rows changed one by one, and one row put in the place of another. Assumes nothing.
--     Walked, walked_first, walked_next                 a walk that changes each row
--     put_row, row_in, set_map                          a row put in place k
use mathlib.Core.Path.{◌≡◌, refl, sym, ap, ap₂, ◌∙◌}
use mathlib.Core.List.{List, [], ◌∷◌, ◌++◌, map, append_assoc}
use Prim.Native.Nat.{ℕ, zero, suc, ◌+◌, ◌-◌, ◌*◌, ◌≤◌, ◌<◌}
use native.Mathlib.Nat.{zero-add, zero-mul, suc-mul}
use native.Mathlib.Omega.{arith}
use lib.ListN.{length, take, drop, set, get_or, length-append, length-take, length-drop}
use lib.Seq.{take_at, drop_at, take-add, drop-drop}
use borrow.Rule.Slice.PartMut.{put_mid, mid_of}
use Rattle.stores.proofs.Walking.{after_row}
use Rattle.stores.specs.Compaction.{joined}
use Rattle.registry.specs.Records.{parts}
use Rattle.registry.specs.Tests.{Rows}
use Rattle.registry.proofs.Walking.{row_at, parts_first, parts_at, row_room}
use Rattle.registry.proofs.Testing.{parts_whole}

-- ---- each row changed by f: d₀ as it was, d as it is before row k

pub record Walked (f : List ℕ → List ℕ) (w n : ℕ) (d₀ d : List ℕ) (k : ℕ) : Type 0 where
  pub passed : k ≤ n
  pub as_long : length d ≡ length d₀
  pub done : take (k * w) d ++ joined (map f (parts w (n - k) (drop (k * w) d₀))) ≡ joined (map f (parts w n d₀))
  pub kept : drop (k * w) d ≡ drop (k * w) d₀

pub walked_first : (f : List ℕ → List ℕ) (w n : ℕ) (d : List ℕ) → Walked f w n d d 0
walked_first f w n d =
    record {
      passed = omega arith;
      as_long = refl;
      done = ap (λ m. take m d ++ joined (map f (parts w (n - 0) (drop (0 * w) d)))) (zero-mul w) ∙ ap (λ z. joined (map f z)) (sym (parts_first w n d));
      kept = refl;
    }

module _ {f : List ℕ → List ℕ} {w n k : ℕ} {d₀ d : List ℕ} (r : Rows w n d₀) (h : Walked f w n d₀ d k) where
  pub walked_room : k < n → k * w + w ≤ length d
  walked_room more = omega (arith, row_room r more, h.as_long)

  module _ (more : k < n) (ys : List ℕ) (is : ys ≡ f (mid_of (k * w) (k * w + w - k * w) d)) (long : length ys ≡ w) where
    changed : List ℕ
    changed = put_mid (k * w) (k * w + w - k * w) d ys

    front_long : length (take (k * w) d ++ ys) ≡ (k + 1) * w
    front_long = simp (length-append, length-take) (omega (arith, walked_room more, long, after_row w k))

    changed_is : changed ≡ (take (k * w) d ++ ys) ++ drop ((k + 1) * w) d
    unfolding changed
    changed_is =
        let wide : k * w + w - k * w ≡ w = omega arith in
        ap (λ z. take (k * w) d ++ (ys ++ drop z (drop (k * w) d))) wide
        ∙ ap (λ z. take (k * w) d ++ (ys ++ z)) (drop-drop w (k * w) d ∙ ap (λ i. drop i d) (after_row w k))
        ∙ sym (append_assoc (take (k * w) d) ys (drop ((k + 1) * w) d))

    kept_on : drop ((k + 1) * w) d ≡ drop ((k + 1) * w) d₀
    kept_on =
        ap (λ i. drop i d) (sym (after_row w k)) ∙ sym (drop-drop w (k * w) d) ∙ ap (drop w) h.kept
        ∙ drop-drop w (k * w) d₀ ∙ ap (λ i. drop i d₀) (after_row w k)

    row_same : mid_of (k * w) (k * w + w - k * w) d ≡ row_at (k * w) (k * w + w) d₀
    row_same = ap (take (k * w + w - k * w)) h.kept

    pub walked_next : Walked f w n d₀ (put_mid (k * w) (k * w + w - k * w) d ys) (k + 1)
    unfolding changed
    walked_next =
        record {
          passed = omega (arith, more);
          as_long =
              ap length changed_is ∙ length-append (take (k * w) d ++ ys) (drop ((k + 1) * w) d)
              ∙ omega (arith, front_long, length-drop ((k + 1) * w) d, walked_room more, after_row w k, h.as_long);
          done =
              ap (◌++ joined (map f (parts w (n - (k + 1)) (drop ((k + 1) * w) d₀)))) (ap (take ((k + 1) * w)) changed_is
              ∙ take_at (take (k * w) d ++ ys) (drop ((k + 1) * w) d) ((k + 1) * w) front_long)
              ∙ append_assoc (take (k * w) d) ys (joined (map f (parts w (n - (k + 1)) (drop ((k + 1) * w) d₀))))
              ∙ ap (λ z. take (k * w) d ++ (z ++ joined (map f (parts w (n - (k + 1)) (drop ((k + 1) * w) d₀))))) (is ∙ ap f row_same)
              ∙ ap (λ z. take (k * w) d ++ joined (map f z)) (sym (parts_at r more))
              ∙ h.done;
          kept =
              ap (drop ((k + 1) * w)) changed_is
              ∙ drop_at (take (k * w) d ++ ys) (drop ((k + 1) * w) d) ((k + 1) * w) front_long ∙ kept_on;
        }

-- ---- one row put in place k

abbrev pub put_row : ℕ → List ℕ → ℕ → List ℕ → List ℕ
put_row w xs k y = take (k * w) xs ++ (y ++ drop (k * w + w) xs)

put_next : (w k : ℕ) (xs y : List ℕ) → put_row w xs (suc k) y ≡ take w xs ++ put_row w (drop w xs) k y
put_next w k xs y =
    let there : suc k * w ≡ w + k * w = omega (arith, suc-mul k w) in
    let later : suc k * w + w ≡ w + (k * w + w) = omega (arith, suc-mul k w) in
    ap₂ (λ a b. a ++ (y ++ b)) (ap (λ m. take m xs) there ∙ take-add w (k * w) xs) (ap (λ m. drop m xs) later ∙ sym (drop-drop (k * w + w) w xs))
    ∙ append_assoc (take w xs) (take (k * w) (drop w xs)) (y ++ drop (k * w + w) (drop w xs))

pub put_set : (w n : ℕ) (xs : List ℕ) → length xs ≡ n * w → (k : ℕ) → k < n → (y : List ℕ) → put_row w xs k y ≡ joined (set (parts w n xs) k y)
put_set w zero xs e k h y = absurd (omega arith)
put_set w (suc n) xs e zero h y =
    simp (zero-mul, zero-add) (ap (y ++◌) (sym (parts_whole w n (drop w xs) (length-drop w xs ∙ omega (arith, suc-mul n w)))))
put_set w (suc n) xs e (suc k) h y =
    put_next w k xs y ∙ ap (take w xs ++◌) (put_set w n (drop w xs) (length-drop w xs ∙ omega (arith, suc-mul n w)) k (omega arith) y)

pub row_in : (w n : ℕ) (xs : List ℕ) (k : ℕ) → k < n → get_or (parts w n xs) k [] ≡ take w (drop (k * w) xs)
row_in w zero xs k h = absurd (omega arith)
row_in w (suc n) xs zero h = simp zero-mul
row_in w (suc n) xs (suc k) h =
    let there : w + k * w ≡ suc k * w = omega (arith, suc-mul k w) in
    row_in w n (drop w xs) k (omega arith) ∙ ap (take w) (drop-drop (k * w) w xs ∙ ap (λ m. drop m xs) there)

pub set_map : {A B : Type 0} (f : A → B) (xs : List A) (k : ℕ) (a : A) → set (map f xs) k (f a) ≡ map f (set xs k a)
set_map f [] k a = refl
set_map f (x ∷ xs) zero a = refl
set_map f (x ∷ xs) (suc k) a = ap (f x ∷◌) (set_map f xs k a)

pub map_at : {A B : Type 0} (f : A → B) (xs : List A) (k : ℕ) → k < length xs → (a : A) (b : B) → get_or (map f xs) k b ≡ f (get_or xs k a)
map_at f [] k h a b = absurd (omega arith)
map_at f (x ∷ xs) zero h a b = refl
map_at f (x ∷ xs) (suc k) h a b = map_at f xs k (omega arith) a b

-- what the code writes at k * w
pub put_at : (w n : ℕ) (xs y : List ℕ) (k : ℕ) → length xs ≡ n * w → k < n → put_mid (k * w) (k * w + w - k * w) xs y ≡ joined (set (parts w n xs) k y)
put_at w n xs y k e h =
    let wide : k * w + w - k * w ≡ w = omega arith in
    ap (λ z. take (k * w) xs ++ (y ++ drop z (drop (k * w) xs))) wide
    ∙ ap (λ z. take (k * w) xs ++ (y ++ z)) (drop-drop w (k * w) xs)
    ∙ put_set w n xs e k h y
