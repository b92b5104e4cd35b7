-- `decode::write_line_record` meets its contract: octets that are known to have no backslash are decoded as themselves.
use lib.ListN.{length}
use mathlib.Core.Path.{ap₂, ◌∙◌}
use Rattle.headers.specs.Answers.{left_in}
use Rattle.headers.proofs.Settling.{kept_record, kept_answer}
use Rattle.frames.proofs.decode.write_line_record.Goals as goal

pub returns : goal.returns
returns c =
    let a = c.args in
    let w = c.write_known.ensures in
    let answer = kept_answer a.style a.known.name a.known.value a.name.now a.value.now c.requires.0.clear c.requires.1.clear (length a.d.now) in
    (w.0 ∙ answer, w.1 ∙ ap₂ (λ x y. left_in x y a.d.now) answer (kept_record a.style a.known.name a.known.value a.name.now a.value.now c.requires.0.clear c.requires.1.clear))
