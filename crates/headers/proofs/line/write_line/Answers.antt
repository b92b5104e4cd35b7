-- `line::write_line` meets its contract: what cannot be written is refused, and other entries as any are.
use mathlib.Core.Path.{◌≡◌, sym, ap, ◌∙◌}
use lib.ListN.{length}
use Rattle.std.specs.Prelude.{Err}
use Rattle.headers.specs.Lines.{entry_of}
use Rattle.headers.specs.Answers.{refused, line_answer, encoded_answer, length_says, line_says, written_says}
use Rattle.headers.specs.declared.line.LineError.{LineError}
use Rattle.headers.proofs.Results.{err_gives}
use Rattle.headers.proofs.Settling.{refusal, length_refused, length_accepted, line_no, line_as}
use Rattle.headers.proofs.line.write_line.Goals as goal
use Rattle.headers.proofs.line.write_line.Goals.{In_ok-line_length}

pub returns-in_err-line_length : goal.returns-in_err-line_length
returns-in_err-line_length c = let a = c.args in
    let e = entry_of a.name.now a.value.now in
    let (one, two) = refusal _ 53 _ _ (line_no a.style e (length a.d.now) (length_refused a.style e 53 (sym (ap length_says c.in_err-line_length.was) ∙ c.line_length.ensures))) in
    (err_gives line_says (refused 53) (λ u. u ≡ LineError.Unwritable) (λ u q. ap (λ z. line_says (Err z)) q) _ c.from_residual.ensures.1 ∙ one, two)

-- where the entry can be written
as_any : (c : In_ok-line_length) → let a = c.args in let e = entry_of a.name.now a.value.now in
    line_answer a.style (length a.d.now) e ≡ encoded_answer a.style (length a.d.now) e
as_any c = let a = c.args in
    let e = entry_of a.name.now a.value.now in
    line_as a.style e (length a.d.now) (length_accepted a.style e c.in_ok-line_length.field-0 (sym (ap length_says c.in_ok-line_length.was) ∙ c.line_length.ensures)).0

pub returns-in_err-write_encoded : goal.returns-in_err-write_encoded
returns-in_err-write_encoded c =
    rw (as_any (goal.at.returns-in_err-write_encoded c).In_ok-line_length) (
      err_gives line_says (refused 56) (λ u. u ≡ LineError.TooShort) (λ u q. ap (λ z. line_says (Err z)) q) _ c.from_residual-in_err-write_encoded.ensures.1
          ∙ sym (ap written_says c.in_err-write_encoded.was) ∙ c.write_encoded.ensures.0,
      c.write_encoded.ensures.1,
    )

pub returns : goal.returns
returns c =
    rw (as_any (goal.at.returns c).In_ok-line_length) (
      sym (ap written_says c.in_ok-write_encoded.was) ∙ c.write_encoded.ensures.0,
      c.write_encoded.ensures.1,
    )
