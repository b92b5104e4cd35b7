-- Laws of choices by tests, and of rows that are not the same. Assumes nothing.
use Rattle.std.proofs.Common.{◌≡◌, ℕ, Bool, true, false, cond, not, ◌||◌, ◌≢◌, List, [], ◌∷◌, sym, refl, ap, true≢false}
use borrow.Author.Tests.{not-true}
use Rattle.headers.specs.Rows.{empty, same}
use Rattle.headers.proofs.Rows.{or_false_left, same_apart, not_empty}

-- ---- choices of tests

pub or_later : (a b c : Bool) → a || not (b || c) ≡ true → a || not c ≡ true
or_later true b c h = refl
or_later false true c h = absurd (true≢false (sym h))
or_later false false c h = h

pub or_else : (a b c : Bool) → a || not b ≡ true → (a ≡ false → b ≡ false → c ≡ false) → a || not c ≡ true
or_else true b c h k = refl
or_else false b c h k = ap not (k refl (not-true b h))

pub or_swap : (a b c : Bool) → a || (b || c) ≡ b || (a || c)
or_swap true true c = refl
or_swap true false c = refl
or_swap false b c = refl

pub or_cond : (a b : Bool) → a || b ≡ cond a true b
or_cond true b = refl
or_cond false b = refl

pub or_either : {A : Type 0} (a b : Bool) → a || b ≡ true → (a ≡ true → A) → (b ≡ true → A) → A
or_either true b h f g = f refl
or_either false b h f g = g h

pub cond_either : (a b : Bool) → cond a b b ≡ b
cond_either true b = refl
cond_either false b = refl

-- ---- rows that are not the same

pub nil_apart : (x : List ℕ) → x ≢ [] → same [] x ≡ false
nil_apart [] n = absurd (n refl)
nil_apart (a ∷ x) n = refl

pub empty_apart : (z x : List ℕ) → x ≢ [] → empty z ≡ true → same z x ≡ false
empty_apart [] x n e = nil_apart x n
empty_apart (a ∷ z) x n e = absurd (true≢false (sym e))

pub apart : (x y : List ℕ) (c : Bool) → empty x ≡ false → empty y || not (same x y || c) ≡ true → same y x ≡ false
apart x [] c e h = nil_apart x (not_empty x e)
apart x (b ∷ y) c e h = same_apart x (b ∷ y) (or_false_left (same x (b ∷ y)) c (not-true (same x (b ∷ y) || c) h))
