-- Rows that stay, moved together: a walk over the rows of a store, of which the first are passed. Assumes nothing.
--     kept-whole, kept_end       before the first row and after the last
--     kept_turn                  one row on
--     Stands, stands_..          a loop that moves them
--     kept_in_all                what is put where the sizes fit
use mathlib.Core.Path.{◌≡◌, refl, sym, ap, ap₂, subst, ◌∙◌}
use mathlib.Core.Bool.{Bool, true, false, cond}
use mathlib.Core.List.{List, [], ◌∷◌, ◌++◌}
use Prim.Native.Nat.{ℕ, suc, ◌+◌, ◌-◌, ◌*◌, ◌≤◌, ◌<◌}
use native.Mathlib.Nat.{suc-mul, zero-mul}
use native.Mathlib.Numerals.{add-one}
use native.Mathlib.Omega.{arith}
use lib.ListN.{length, take, drop, get_or, length-append, length-take, length-drop, drop_of_length-le}
use lib.Seq.{drop-drop, length-take-le}
use borrow.Author.Tests.{eq-eqb, le-leb}
use borrow.Rule.Slice.PartMut.{put_mid, mid_of}
use Rattle.headers.specs.Answers.{Puts}
use Rattle.headers.proofs.Put.{Partly, partly_none, partly_done, partly_inside, partly_fits, partly_put}
use Rattle.headers.proofs.Rows.{cond_case}
use Rattle.stores.specs.Compaction.{rows, joined, stays_at, kept, if_kept, kept_octets, kept_in, Compacts}
use Rattle.stores.specs.declared.compaction.Range.{Range}
use Rattle.stores.proofs.Walking.{drop_one, after_row, row_room}

-- what stays is no longer than the store
pub kept_long : (g : Range) (w i : ℕ) (s ps : List ℕ) → length s ≡ length ps * w → length (kept_octets g w i s ps) ≤ length s
unfolding rows kept
kept_long g w i s [] h = omega arith
kept_long g w i s (p ∷ ps) h =
    let long : length s ≡ length ps * w + w = h ∙ suc-mul (length ps) w in
    let rest = kept_long g w (suc i) (drop w s) ps (length-drop w s ∙ omega (arith, long)) in
    let less : length (kept_octets g w (suc i) (drop w s) ps) ≤ length s - w = omega (arith, rest, length-drop w s) in
    cond_case (λ z. length (joined z) ≤ length s) (stays_at g i p)
    (λ e. omega (arith, less, length-append (take w s) (kept_octets g w (suc i) (drop w s) ps), length-take-le w s (omega (arith, long)), long))
    (λ e. omega (arith, less))

-- after the last row
pub kept_end : (g : Range) (w i at : ℕ) (s ps : List ℕ) → length ps ≤ i → kept_octets g w i (drop at s) (drop i ps) ≡ []
unfolding rows kept
kept_end g w i at s ps h = ap (kept_octets g w i (drop at s)) (drop_of_length-le ps h)

-- one row on
pub kept_turn : (g : Range) (w i at : ℕ) (s ps : List ℕ) → i < length ps → (t : Bool) → t ≡ stays_at g i (get_or ps i 0)
    → kept_octets g w i (drop at s) (drop i ps) ≡ if_kept t (take (at + w - at) (drop at s)) ++ kept_octets g w (i + 1) (drop (at + w) s) (drop (i + 1) ps)
unfolding rows kept
kept_turn g w i at s ps h t is =
    let e : w ≡ at + w - at = omega arith in
    ap (kept_octets g w i (drop at s)) (drop_one ps i 0 h)
    ∙ by (stays_at g i (get_or ps i 0))
    ∙ ap₂ (λ a b. a ++ b) (ap₂ (λ a b. if_kept a (take b (drop at s))) (sym is) e)
    (ap₂ (λ a b. kept_octets g w a b (drop (i + 1) ps)) (sym (add-one i)) (drop-drop w at s))
  where
    more : List (List ℕ)
    more = kept g (suc i) (drop (i + 1) ps) (rows w (drop w (drop at s)) (drop (i + 1) ps))

    by : (t : Bool) → joined (cond t (take w (drop at s) ∷ more) more) ≡ if_kept t (take w (drop at s)) ++ joined more
    by true = refl
    by false = refl

-- ---- the loop is before row i, with `end` octets written

pub record Stands (g : Range) (w : ℕ) (s ps d₀ d : List ℕ) (i end : ℕ) : Type 0 where
  pub passed : i ≤ length ps
  pub partly : Partly (kept_octets g w 0 s ps) (kept_octets g w i (drop (i * w) s) (drop i ps)) d₀ d end

pub stands_first : (g : Range) (w : ℕ) (s ps d : List ℕ) → Compacts w s ps d → Stands g w s ps d d 0 0
stands_first g w s ps d c =
    record {
      passed = omega arith;
      partly = subst (λ (n : ℕ). Partly (kept_octets g w 0 s ps) (kept_octets g w 0 (drop n s) ps) d d 0) (sym (zero-mul w))
          (partly_none (kept_octets g w 0 s ps) d (omega (arith, kept_long g w 0 s ps c.store_long, c.room)));
    }

pub stands_done : (g : Range) (w : ℕ) (s ps d₀ d : List ℕ) (i end : ℕ) → Stands g w s ps d₀ d i end → length ps ≤ i
    → Puts (kept_octets g w 0 s ps) end d₀ d
stands_done g w s ps d₀ d i end st h = partly_done st.partly (kept_end g w i (i * w) s ps h)

module _ {g : Range} {w : ℕ} {s ps d₀ d : List ℕ} {i end : ℕ} (st : Stands g w s ps d₀ d i end)
    (long : length s ≡ length ps * w) (more : i < length ps) where
  pub stands_room : i * w + w ≤ length s
  stands_room = row_room w (length ps) i s long more

  pub stands_inside : end ≤ length d
  stands_inside = partly_inside st.partly

  module _ (t : Bool) (is : t ≡ stays_at g i (get_or ps i 0)) where
    abbrev row : List ℕ
    row = if_kept t (take (i * w + w - i * w) (drop (i * w) s))

    turn : kept_octets g w i (drop (i * w) s) (drop i ps) ≡ row ++ kept_octets g w (i + 1) (drop ((i + 1) * w) s) (drop (i + 1) ps)
    turn = kept_turn g w i (i * w) s ps more t is ∙ ap (λ z. row ++ kept_octets g w (i + 1) (drop z s) (drop (i + 1) ps)) (after_row w i)

    pub stands_fits : length row ≤ length (mid_of end (length d - end) d)
    stands_fits = partly_fits st.partly row _ turn

    pub stands_next : (n : ℕ) (ys : List ℕ) → Puts row n (mid_of end (length d - end) d) ys
        → Stands g w s ps d₀ (put_mid end (length d - end) d ys) (i + 1) (end + n)
    stands_next n ys (e, p) = record { passed = omega (arith, more); partly = partly_put st.partly row _ turn n ys e p }

    pub stands_end : (n : ℕ) → n ≡ length row → end + n ≤ length d
    stands_end n e = omega (arith, e, stands_fits, mid_length)
      where
        mid_length : length (mid_of end (length d - end) d) ≤ length d - end
        mid_length = simp (length-take, length-drop) (omega arith)

-- ---- what is put where the sizes fit

module _ (g : Range) (w : ℕ) (s ps d : List ℕ) where
  pub kept_in_all : Compacts w s ps d → kept_in g w s ps d ≡ kept_octets g w 0 s ps
  kept_in_all c = rw (eq-eqb (length s) (length ps * w) c.store_long, le-leb (length s) (length d) c.room)
