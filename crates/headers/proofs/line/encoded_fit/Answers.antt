-- `line::encoded_fit` meets its contract: where twice the text fits, so does the encoded.
use mathlib.Core.Path.{sym, ◌∙◌}
use Rattle.headers.proofs.Coding.{encode_fits}
use Rattle.headers.proofs.line.encoded_fit.Goals as goal

pub returns-then-both_fit : goal.returns-then-both_fit
returns-then-both_fit c = let a = c.args in
    sym (encode_fits a.style a.name.now a.value.now a.most (sym c.both_fit.ensures ∙ c.if-both_fit.true))

pub returns : goal.returns
returns c = rw (c.encoded_length.ensures, c.encoded_length-2.ensures) at c.both_fit-2.ensures
