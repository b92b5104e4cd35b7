-- A call of the stream parser that is given more than an item does what one does that is given the octets up to the item's end, so that a
-- caller may cut a piece there, and tell a version between its parts. Assumes nothing.
--     fed_alone     the answer, the record and the buffer are the same
use mathlib.Core.Path.{◌≡◌, sym, ◌∙◌, ap, subst}
use mathlib.Core.Bool.{true}
use mathlib.Core.List.{List, [], ◌++◌, append-nil}
use Prim.Native.Nat.{ℕ, ◌+◌, ◌-◌}
use native.Mathlib.Omega.{arith}
use lib.ListN.{length, take, drop, take-append-drop}
use lib.Seq.{take_at, take-append-add, length-take-le, take-length}
use Rattle.headers.specs.Rows.{every, is_octet}
use Rattle.headers.proofs.Rows.{every_append, every_left}
use Rattle.frames.specs.declared.state.Scan.{Scan}
use Rattle.frames.specs.declared.version.Version.{Version}
use Rattle.frames.specs.Grammar.{octets}
use Rattle.frames.specs.Replies.{Complete, used_of}
use Rattle.frames.specs.Parsing.{parsed}
use Rattle.frames.specs.Exactness.{Claims}
use Rattle.frames.specs.Streams.{feed_answer, feed_state, feed_buffer, reach}
use Rattle.frames.proofs.Exact.{exact}
use Rattle.frames.proofs.Feeding.{Stands, told_used, item_answer, item_within, item_stands, fed_buffer, so_far_octets}

module _ (ver : Version) {st : Scan} {buffer xs : List ℕ} (s : Stands ver st buffer xs) (piece : List ℕ) (o : every is_octet piece ≡ true)
    {k u c h i l : ℕ} (e : parsed ver (xs ++ piece) ≡ Complete k u c h i l) where
  -- the octets of the piece up to the item's end
  abbrev up_to_end : List ℕ
  up_to_end = take (u - length xs) piece

  ours : every is_octet up_to_end ≡ true
  ours = every_left is_octet up_to_end (drop (u - length xs) piece) (rw take-append-drop o)

  same_front : xs ++ up_to_end ≡ take u (xs ++ piece)
  same_front =
      let (beyond, inside) = item_within ver s piece o e in
      let all : length xs + (u - length xs) ≡ u = omega arith in
      sym (take-append-add xs piece (u - length xs)) ∙ ap (λ n. take n (xs ++ piece)) all

  alone_parsed : parsed ver (xs ++ up_to_end) ≡ Complete k u c h i l
  alone_parsed =
      let all = so_far_octets ver s piece o in
      let (t, rest, b, q, only, not) = subst (Claims ver (xs ++ piece)) e (exact ver (xs ++ piece) all).claims in
      let long : length (octets t) ≡ u = sym (told_used ver t) ∙ ap used_of q in
      let item : octets t ≡ xs ++ up_to_end = sym (take_at (octets t) rest u long) ∙ ap (take u) b.1 ∙ sym same_front in
      (exact ver (xs ++ up_to_end) (every_append is_octet xs up_to_end s.of_octets ours)).complete t [] (b.0, append-nil (octets t) ∙ item) ∙ q

  -- what such a call leaves in the buffer
  left_so : (ys : List ℕ) (p : every is_octet ys ≡ true) → parsed ver (xs ++ ys) ≡ Complete k u c h i l
      → feed_buffer st buffer ys ≡ take u (xs ++ ys) ++ drop u buffer
  left_so ys p q = fed_buffer ver s ys p ∙ ap (λ r. take (reach r (length (xs ++ ys))) (xs ++ ys) ++ drop (reach r (length (xs ++ ys))) buffer) q

  -- a call that is given more than the item answers and leaves what one does that is given the octets up to the item's end
  pub fed_alone : (feed_answer st buffer up_to_end ≡ feed_answer st buffer piece)
      × (feed_state st buffer up_to_end ≡ feed_state st buffer piece)
      × (feed_buffer st buffer up_to_end ≡ feed_buffer st buffer piece)
  fed_alone =
      let inside = (item_within ver s piece o e).1 in
      let long : length (xs ++ up_to_end) ≡ u = ap length same_front ∙ length-take-le u (xs ++ piece) inside in
      let both : take u (xs ++ up_to_end) ≡ take u (xs ++ piece) =
      ap (λ n. take n (xs ++ up_to_end)) (sym long) ∙ take-length (xs ++ up_to_end) ∙ same_front in (
        item_answer ver s up_to_end ours alone_parsed ∙ sym (item_answer ver s piece o e),
        (item_stands ver s up_to_end ours alone_parsed).state ∙ sym (item_stands ver s piece o e).state,
        left_so up_to_end ours alone_parsed ∙ ap (◌++ drop u buffer) both ∙ sym (left_so piece o e),
      )
