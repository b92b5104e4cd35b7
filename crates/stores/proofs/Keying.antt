-- Keys of places, one place on. Assumes nothing.
--     keys_long, keys_turn        the keys of a store
--     Keyed, keyed_..             a loop that puts them
--     with_keys_all               what is put where the sizes fit
use mathlib.Core.Path.{◌≡◌, refl, ap, ap₂, sym, ◌∙◌}
use mathlib.Core.List.{List, [], ◌∷◌, ◌++◌}
use Prim.Native.Nat.{ℕ, suc, ◌+◌, ◌-◌, ◌*◌, ◌≤◌, ◌<◌}
use native.Mathlib.Omega.{arith}
use lib.ListN.{length, take, drop, set, length-map, drop_of_length-le}
use lib.Seq.{drop-drop}
use borrow.Author.Tests.{eq-eqb, le-leb}
use Rattle.headers.proofs.Put.{Partly, partly_none, partly_done, partly_here, partly_store}
use Rattle.stores.specs.Compaction.{rows}
use Rattle.stores.specs.Keys.{key, keys, with_keys}
use Rattle.stores.proofs.Walking.{drop_one, after_row, row_room}

rows_long : (w : ℕ) (s ls : List ℕ) → length (rows w s ls) ≡ length ls
unfolding rows
rows_long w s [] = refl
rows_long w s (l ∷ ls) = ap suc (rows_long w (drop w s) ls)

pub keys_long : (s ls : List ℕ) → length (keys s ls) ≡ length ls
keys_long s ls = length-map (rows 32 s ls) key ∙ rows_long 32 s ls

keys_end : (s ls : List ℕ) (k at : ℕ) → length ls ≤ k → keys (drop at s) (drop k ls) ≡ []
unfolding rows
keys_end s ls k at h = ap (keys (drop at s)) (drop_of_length-le ls h)

pub keys_turn : (s ls : List ℕ) (k at : ℕ) → k < length ls
    → keys (drop at s) (drop k ls) ≡ key (take (at + 32 - at) (drop at s)) ∷ keys (drop (at + 32) s) (drop (k + 1) ls)
unfolding rows
keys_turn s ls k at h =
    let e : 32 ≡ at + 32 - at = omega arith in
    ap (keys (drop at s)) (drop_one ls k 0 h)
    ∙ ap₂ (λ a b. key (take a (drop at s)) ∷ keys b (drop (k + 1) ls)) e (drop-drop 32 at s)

-- ---- a loop that puts keys is before place k

pub record Keyed (s ls d₀ d : List ℕ) (k : ℕ) : Type 0 where
  pub passed : k ≤ length ls
  pub partly : Partly (keys s ls) (keys (drop (k * 32) s) (drop k ls)) d₀ d k

pub keyed_first : (s ls d : List ℕ) → length ls ≤ length d → Keyed s ls d d 0
keyed_first s ls d h = record { passed = omega arith; partly = partly_none (keys s ls) d (omega (arith, h, keys_long s ls)) }

pub keyed_put : (s ls d₀ d : List ℕ) (k : ℕ) → Keyed s ls d₀ d k → length ls ≤ k → d ≡ keys s ls ++ drop (length ls) d₀
keyed_put s ls d₀ d k st h = (partly_done st.partly (keys_end s ls k (k * 32) h)).1 ∙ ap (λ z. keys s ls ++ drop z d₀) (keys_long s ls)

module _ {s ls d₀ d : List ℕ} {k : ℕ} (st : Keyed s ls d₀ d k) (long : length s ≡ length ls * 32) (more : k < length ls) where
  turn : keys (drop (k * 32) s) (drop k ls) ≡ key (take (k * 32 + 32 - k * 32) (drop (k * 32) s)) ∷ keys (drop ((k + 1) * 32) s) (drop (k + 1) ls)
  turn =
      keys_turn s ls k (k * 32) more
      ∙ ap (λ z. key (take (k * 32 + 32 - k * 32) (drop (k * 32) s)) ∷ keys (drop z s) (drop (k + 1) ls)) (after_row 32 k)

  pub keyed_room : k * 32 + 32 ≤ length s
  keyed_room = row_room 32 (length ls) k s long more

  pub keyed_here : k < length d
  keyed_here = partly_here st.partly _ _ turn

  pub keyed_next : (v : ℕ) → v ≡ key (take (k * 32 + 32 - k * 32) (drop (k * 32) s)) → Keyed s ls d₀ (set d k v) (k + 1)
  keyed_next v e =
      record {
        passed = omega (arith, more);
        partly = partly_store st.partly v _ (turn ∙ ap (◌∷ keys (drop ((k + 1) * 32) s) (drop (k + 1) ls)) (sym e));
      }

-- ---- what is put where the sizes fit

module _ (s ls d : List ℕ) where
  pub with_keys_all : length s ≡ length ls * 32 → length ls ≤ length d → with_keys s ls d ≡ keys s ls ++ drop (length ls) d
  with_keys_all h k = rw (eq-eqb (length s) (length ls * 32) h, le-leb (length ls) (length d) k)
