-- `record::put_record` meets its contract: the name and the value, each behind what is written, and the head before them.
use mathlib.Core.Path.{◌≡◌, refl, sym, ap, ap₂, ◌∙◌}
use mathlib.Core.List.{◌++◌, append_assoc}
use Prim.Native.Nat.{◌+◌}
use native.Mathlib.Omega.{arith}
use lib.ListN.{length, take, drop, length-append, take-append-drop}
use lib.Seq.{length-take-le}
use Rattle.headers.specs.Stretches.{kept}
use Rattle.headers.specs.Lines.{entry_of}
use Rattle.headers.specs.Block.{record_head}
use Rattle.headers.proofs.Put.{put_grow, put_front}
use Rattle.headers.proofs.Blocks.{length_record}
use Rattle.headers.proofs.record.put_record.Goals as goal

pub returns : goal.returns
returns c = let a = c.args in
    let d = a.d.now in
    let N = kept a.name.known a.name.style a.name.text.now in
    let W = kept a.value.known a.value.style a.value.text.now in
    let p = c.put-n in
    let q = c.put-v in
    let F = take 6 d in
    let front : length F ≡ 6 = length-take-le 6 d (omega (arith, c.requires)) in
    let long = length_record (entry_of N W) in
    let g₁ = put_grow d d F N _ 6 (length N) (sym (take-append-drop 6 d)) front refl (omega arith) p.ensures.1 in
    let g₂ =
    put_grow d _ (F ++ N) W _ (6 + p.result) (length W) (g₁ ∙ ap (λ z. (F ++ N) ++ drop (6 + z) d) (sym p.ensures.0))
    (omega (arith, front, length-append F N, p.ensures.0)) refl (omega arith) q.ensures.1 in
    let placed =
    put_front d _ F (N ++ W) (record_head p.result q.result) _ 6 (6 + p.result + length W)
    (g₂ ∙ ap (◌++ drop (6 + p.result + length W) d) (append_assoc F N W)) front c.put_head.ensures in (
      omega (arith, long, p.ensures.0, q.ensures.0),
      placed
          ∙ ap₂ (λ x y. (record_head x y ++ (N ++ W)) ++ drop (6 + x + length W) d) p.ensures.0 q.ensures.0
          ∙ ap (λ z. (record_head (length N) (length W) ++ (N ++ W)) ++ drop z d) (sym long),
    )
