-- `record::write_decoded` meets its contract: nothing is known, and all is decoded.
use mathlib.Core.Path.{refl, ap₂, ◌∙◌}
use lib.ListN.{length}
use Rattle.headers.specs.Answers.{left_in}
use Rattle.headers.proofs.Settling.{kept_record, kept_answer}
use Rattle.headers.proofs.record.write_decoded.Goals as goal

pub returns : goal.returns
returns c =
    let a = c.args in
    let w = c.write_known.ensures in
    let answer = kept_answer a.style 0 0 a.name.now a.value.now refl refl (length a.d.now) in
    (w.0 ∙ answer, w.1 ∙ ap₂ (λ x y. left_in x y a.d.now) answer (kept_record a.style 0 0 a.name.now a.value.now refl refl))
