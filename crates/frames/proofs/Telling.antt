-- What telling a version does to a stream parser that calls leave: between items it is taken, inside an item not. Assumes nothing.
use mathlib.Core.Path.{◌≡◌, refl, sym, ◌∙◌, ap}
use mathlib.Core.Bool.{Bool, true, false, cond, ◌&&◌, ◌||◌, not}
use mathlib.Core.List.{List, [], ◌∷◌}
use Prim.Native.Nat.{ℕ}
use native.Mathlib.Omega.{arith}
use lib.Dec.{eqb}
use borrow.Author.Tests.{ne_eqb}
use Rattle.headers.proofs.Rows.{and_no}
use Rattle.frames.specs.declared.version.Version.{Version}
use Rattle.frames.specs.declared.version.Version.TheVariants.{V11, V12}
use Rattle.frames.specs.declared.state.Scan.{Scan}
use Rattle.frames.specs.Streams.{is_resumable, version_of, by_version, is_taken, tell_state}
use Rattle.frames.proofs.Resuming.{resumed}
use Rattle.frames.proofs.Feeding.{none_read, Stands, stands_fresh, held, resumable, same_version}

-- where it is not taken, nothing changes
pub not_taken : (ver : Version) (st : Scan) → is_taken st ≡ false → tell_state ver st ≡ st
unfolding tell_state
not_taken ver st h = rw h refl

-- where it is, the record has that version
pub is_told_so : (ver : Version) (st : Scan) → is_taken st ≡ true → tell_state ver st ≡ by_version ver st
unfolding tell_state
is_told_so ver st h = rw h refl

-- by the code's tests
module _ (st : Scan) where
  pub taken_by : not (is_resumable st) || not (eqb st.phase 0) ≡ false → is_taken st ≡ true
  unfolding is_taken
  taken_by h = by (is_resumable st) (eqb st.phase 0) h
    where
      by : (a b : Bool) → not a || not b ≡ false → a && b ≡ true
      by true true h = refl
      by true false h = sym h
      by false b h = sym h

  pub untaken_by : not (is_resumable st) || not (eqb st.phase 0) ≡ true → is_taken st ≡ false
  unfolding is_taken
  untaken_by h = by (is_resumable st) (eqb st.phase 0) h
    where
      by : (a b : Bool) → not a || not b ≡ true → a && b ≡ false
      by true true h = sym h
      by true false h = refl
      by false b h = refl

-- with an invalid record it is not
pub invalid_untold : (st : Scan) → is_resumable st ≡ false → is_taken st ≡ false
unfolding is_taken
invalid_untold st h = rw h refl

-- nor where the phase is not that before the first octet
pub inside_untold : (st : Scan) → (st.phase ≡ 0 → ⊥) → is_taken st ≡ false
unfolding is_taken
inside_untold st h = rw (ne_eqb st.phase 0 h) (and_no (is_resumable st))

-- the version of a record that stands in it
pub version_is : (ver : Version) {st : Scan} {buffer xs : List ℕ} → Stands ver st buffer xs → version_of st ≡ ver
version_is V11 s = rw (same_version V11 s) refl
version_is V12 s = rw (same_version V12 s) refl

module _ (ver : Version) {st : Scan} {buffer : List ℕ} where
  -- "told inside an item .. it changes nothing"
  pub told_inside : (x : ℕ) (xs : List ℕ) → Stands ver st buffer (x ∷ xs) → is_taken st ≡ false
  told_inside x xs s = inside_untold st (λ e. omega (arith, held ver s, ((resumed st (resumable ver s)).0.fresh_word e).1))

  -- between items it is taken, and the parser is then one before the first octet in that version
  pub told_between : Stands ver st buffer [] → is_taken st ≡ true
  unfolding is_taken
  told_between s = rw (resumable ver s, ap (λ z. z.phase) s.state) refl

  pub stands_told : (other : Version) → Stands ver st buffer [] → Stands other (tell_state other st) buffer []
  unfolding tell_state
  stands_told other s =
      let is : tell_state other st ≡ none_read other = ap (λ t. cond t (by_version other st) st) (told_between s) ∙ ap (by_version other) s.state in
      rw is (stands_fresh other buffer s.room)
