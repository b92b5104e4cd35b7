-- `put::put_frame` meets its contract: the word, the lines, the added line, the empty line and the body, each behind what is written.
use mathlib.Core.Path.{◌≡◌, refl, sym, ap, ◌∙◌}
use mathlib.Core.Bool.{Bool, true, false, cond}
use mathlib.Core.List.{List, [], ◌∷◌, ◌++◌, append_assoc, append-nil}
use Prim.Native.Nat.{ℕ, ◌+◌, ◌-◌}
use native.Mathlib.Omega.{arith}
use lib.ListN.{length, drop, set, length-append}
use borrow.Rule.Slice.PartMut.{mid_of, put_mid}
use Rattle.headers.specs.Block.{Entry, entries, listed}
use Rattle.headers.specs.Stretches.{unescaped}
use Rattle.headers.specs.declared.text.Style.{Style}
use Rattle.frames.specs.Scanning.{word_of}
use Rattle.frames.specs.Encoding.{written_lines}
use Rattle.frames.specs.Writing.{added_octets, octets_of}
use Rattle.headers.proofs.Put.{Partly, partly_first, partly_done, partly_put, partly_store}
use Rattle.frames.proofs.put.put_frame.Goals as goal

-- the lines are the same in the style that they are written in
lines_are : (p : Bool) (s t : Style) (es : List Entry) → s ≡ t → (p ≡ true → written_lines t es ≡ written_lines unescaped es) → written_lines (cond p unescaped s) es ≡ written_lines s es
lines_are true s t es e h = sym (h refl) ∙ ap (λ z. written_lines z es) (sym e)
lines_are false s t es e h = refl

-- the parts, each with what stands behind it; what the target holds after each call, where that ends, and what is left to write
pub returns : goal.returns
returns c =
    let q = c.args.request.now in
    let d = c.args.d.now in
    let s = c.style-style.result in
    let es = listed (entries q.block.now) in
    let W = word_of q.command in
    let L = written_lines s es in
    let A = added_octets s c.args.image.adds (length q.body.now) in
    let B : List ℕ = q.body.now ++ (0 ∷ []) in
    let whole : List ℕ = W ++ (10 ∷ (L ++ (A ++ (10 ∷ B)))) in
    let is : whole ≡ octets_of q c.args.image.adds =
    ap (λ t. W ++ (10 ∷ (written_lines t es ++ (added_octets t c.args.image.adds (length q.body.now) ++ (10 ∷ B))))) c.style-style.ensures in
    let p = c.put_word-at in
    let l = c.put_lines-at in
    let a = c.put_added-at in
    let b = c.put_body in
    let same : written_lines c.line_style-lines.result es ≡ L =
    ap (λ t. written_lines t es) c.line_style-lines.ensures ∙ lines_are c.args.image.plain s _ es c.style-style.ensures c.requires.3 in
    let worded : Partly whole (L ++ (A ++ (10 ∷ B))) d p.new.d p.result =
    partly_first whole (W ++ (10 ∷ [])) (L ++ (A ++ (10 ∷ B))) d p.new.d p.result
    (omega (arith, c.requires.2, ap length is))
    (append_assoc W (10 ∷ []) (L ++ (A ++ (10 ∷ B))))
    (p.ensures.0 ∙ sym (length-append W (10 ∷ [])))
    (p.ensures.1 ∙ ap (λ z. (W ++ (10 ∷ [])) ++ drop z d) (sym (length-append W (10 ∷ [])))) in
    let lined =
    partly_put worded L (A ++ (10 ∷ B)) refl l.result l.new.d (l.ensures.0 ∙ ap length same)
    (l.ensures.1 ∙ ap (λ z. z ++ drop (length z) (mid_of p.result (length p.new.d - p.result) p.new.d)) same) in
    let added = partly_put lined A (10 ∷ B) refl a.result a.new.d a.ensures.0 a.ensures.1 in
    let lines_in = put_mid p.result (length p.new.d - p.result) p.new.d l.new.d in
    let lines_end = p.result + l.result in
    let added_in = put_mid lines_end (length lines_in - lines_end) lines_in a.new.d in
    let added_end = lines_end + a.result in
    let head = set added_in added_end 10 in
    let headed = partly_store added 10 B refl in
    let framed =
    partly_put headed B [] (sym (append-nil B)) (length B) b.new.d refl
    (b.ensures ∙ ap (λ z. B ++ drop z (mid_of (added_end + 1) (length head - (added_end + 1)) head)) (sym (length-append q.body.now (0 ∷ [])))) in
    (partly_done framed refl).1 ∙ ap (λ z. z ++ drop (length z) d) is
