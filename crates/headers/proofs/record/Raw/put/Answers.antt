-- `record::Raw::put` meets its contract: the octets that are known, and the others decoded after them.
use mathlib.Core.Path.{◌≡◌, refl, sym, ap, subst, ◌∙◌}
use mathlib.Core.List.{List, [], ◌++◌, append-nil}
use Prim.Native.Nat.{ℕ, ◌+◌, ◌-◌, ◌≤◌, ◌<◌}
use native.Mathlib.Omega.{arith}
use lib.ListN.{length, take, drop, length-drop}
use lib.Seq.{length-take-le, take_all}
use borrow.Rule.Slice.PartMut.{put_mid, mid_of}
use Rattle.headers.specs.Escapes.{decode}
use Rattle.headers.specs.Stretches.{kept}
use Rattle.headers.specs.Rows.{copied}
use Rattle.headers.specs.Answers.{Puts}
use Rattle.headers.specs.declared.text.Style.{Style}
use Rattle.headers.proofs.Coding.{kept_all}
use Rattle.headers.proofs.Put.{Partly, partly_inside, partly_fits, partly_put, partly_done}
use Rattle.headers.proofs.Copying.{partly_copied}
use Rattle.headers.proofs.record.Raw.put.Goals as goal

module _ (s : Style) (k : ℕ) (raw d front : List ℕ) (room : length (kept k s raw) ≤ length d) where
  -- all of it is known
  alone : length raw ≤ k → front ≡ copied d 0 raw → Partly raw [] d front (length raw)
  alone h is =
      partly_copied raw raw [] d front (omega (arith, ap length (kept_all s k raw h), room)) (append-nil raw) is

  all : length raw ≤ k → front ≡ copied d 0 raw → Puts (kept k s raw) (length raw) d front
  all h is = subst (λ z. Puts z (length raw) d front) (sym (kept_all s k raw h)) (partly_done (alone h is) refl)

  -- what is known is put, and the rest is left to decode
  module _ (h : k < length raw) (is : front ≡ copied d 0 (take (k - 0) raw)) where
    abbrev rest : List ℕ
    rest = decode s (drop k raw)

    begun : Partly (kept k s raw) rest d front k
    begun =
        let none : k - 0 ≡ k = omega arith in
        subst (Partly (kept k s raw) rest d front) (length-take-le k raw (omega arith))
        (partly_copied (kept k s raw) (take k raw) rest d front room refl (is ∙ ap (λ n. copied d 0 (take n raw)) none))

    -- all the rest of the raw text is given
    given : decode s (take (length raw - k) (drop k raw)) ≡ rest
    given = ap (decode s) (take_all (length raw - k) (drop k raw) (omega (arith, length-drop k raw)))

    fits : length (decode s (take (length raw - k) (drop k raw))) ≤ length (mid_of k (length front - k) front)
    fits = omega (arith, ap length given, partly_fits begun rest [] (sym (append-nil rest)))

    ended : (n : ℕ) (after : List ℕ) → Puts (decode s (take (length raw - k) (drop k raw))) n (mid_of k (length front - k) front) after
        → Partly (kept k s raw) [] d (put_mid k (length front - k) front after) (k + n)
    ended n after (e, w) =
        partly_put begun rest [] (sym (append-nil rest)) n after (e ∙ ap length given)
        (w ∙ ap (λ z. z ++ drop (length z) (mid_of k (length front - k) front)) given)

pub shape_of-d-then-self : goal.shape_of-d-then-self
shape_of-d-then-self c =
    let a = c.args in
    (alone a.self.style a.self.known a.self.text.now a.d.now _ c.requires c.if-self.true c.copy.ensures).as_long

pub returns-then-self : goal.returns-then-self
returns-then-self c =
    let a = c.args in
    all a.self.style a.self.known a.self.text.now a.d.now _ c.requires c.if-self.true c.copy.ensures

pub slice_bounds-put_decoded-count : goal.slice_bounds-put_decoded-count
slice_bounds-put_decoded-count c =
    let a = c.args in
    partly_inside (begun a.self.style a.self.known a.self.text.now a.d.now _ c.requires c.if-self.false c.copy-2.ensures)

pub slice_bounds-put_decoded-start : goal.slice_bounds-put_decoded-start
slice_bounds-put_decoded-start c =
    let a = c.args in
    partly_inside (begun a.self.style a.self.known a.self.text.now a.d.now _ c.requires c.if-self.false c.copy-2.ensures)

pub put_decoded-requires : goal.put_decoded-requires
put_decoded-requires c =
    let a = c.args in
    fits a.self.style a.self.known a.self.text.now a.d.now _ c.requires c.if-self.false c.copy-2.ensures

pub overflow_add-result : goal.overflow_add-result
overflow_add-result c =
    let a = c.args in
    let e = ended a.self.style a.self.known a.self.text.now a.d.now _ c.requires c.if-self.false c.copy-2.ensures _ _ c.put_decoded.ensures in
    omega (arith, partly_inside e, e.as_long)

pub shape_of-d : goal.shape_of-d
shape_of-d c =
    let a = c.args in
    (ended a.self.style a.self.known a.self.text.now a.d.now _ c.requires c.if-self.false c.copy-2.ensures _ _ c.put_decoded.ensures).as_long

pub returns : goal.returns
returns c =
    let a = c.args in
    partly_done (ended a.self.style a.self.known a.self.text.now a.d.now _ c.requires c.if-self.false c.copy-2.ensures _ _ c.put_decoded.ensures) refl
