-- Where a header's first value is, by the notes of a block. Assumes nothing.
--     noted_located                     a header is located where the notes say
--     present_has                       whether it is there
--     located_there, value_there        a header that is there is located, and its value is there
use Rattle.std.proofs.Common.{◌≡◌, ℕ, true, List, sym, refl, ap, ◌∙◌, subst, true≢false}
use mathlib.Core.Option.{some}
use Rattle.headers.specs.Block.{entries, listed}
use Rattle.sessions.specs.Headers.{value_of, is_some, has}
use Rattle.std.specs.Prelude.{Option as Maybe, Some, None, is_some as is_located}
use Rattle.sessions.specs.Notes.{value_at, located_value, located, Locates, AllNoted}
use Rattle.sessions.specs.declared.command.Header.{Header}
use Rattle.sessions.specs.declared.notes.Located.{Located}
use Rattle.sessions.specs.declared.notes.Notes.{Notes}

-- whether it is located
pub located_some : (block : List ℕ) (r : Maybe Located) → is_some (located_value block r) ≡ is_located r
located_some block (Some r) = refl
located_some block None = refl

module _ {block : List ℕ} {h : Header} {r : Maybe Located} (l : Locates block h r) where
  pub present_has : is_located r ≡ has h (listed (entries block))
  present_has = sym (located_some block r) ∙ ap is_some l.first

-- a header that is there is located
pub located_there : {block : List ℕ} {h : Header} {r : Maybe Located} → Locates block h r → r ≡ None → has h (listed (entries block)) ≡ true → ⊥
located_there {block} {h} {r} l e q = true≢false (sym q ∙ sym (present_has l) ∙ ap is_located e)

-- its value is what is there
pub value_there : {block : List ℕ} {h : Header} {r : Located} → Locates block h (Some r) → (v : List ℕ) → value_of h (listed (entries block)) ≡ some v →
    value_at block r ≡ v
value_there {block} {h} {r} l v e =
    let there : some (value_at block r) ≡ some v = l.first ∙ e in
    let same : value_at block r ≡ v = cc in same

-- by the notes
module _ {block : List ℕ} {r : Notes} (all : AllNoted block r) (h : Header) {l : Maybe Located} (e : l ≡ located r h) where
  pub noted_located : Locates block h l
  noted_located = subst (Locates block h) (sym e) (all h).first
