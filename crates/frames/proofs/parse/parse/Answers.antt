-- `parse::parse` meets its contract: the reply is read off the state after all octets.
use native.Mathlib.Omega.{arith}
use mathlib.Core.Path.{◌≡◌, sym, ◌∙◌, ap, subst}
use mathlib.Core.Bool.{true}
use Rattle.frames.specs.Scanning.{scan, nothing_read}
use Rattle.frames.specs.Grammar.{crlf}
use Rattle.frames.specs.Streams.{is_numbered}
use Rattle.frames.proofs.Running.{replied}
use Rattle.frames.proofs.Numbers.{numbered_on, numbered_first}
use Rattle.frames.proofs.parse.parse.Goals as goal

-- where it is refused, its number is one of the table
pub reply-requires : goal.reply-requires
reply-requires c =
    let a = c.args in
    let begins = c.nothing_read-begin.ensures ∙ ap nothing_read c.has_crlf.ensures in
    subst (λ st. is_numbered st ≡ true) (sym (c.run.ensures.0 ∙ ap (λ z. scan z a.octets.now) begins)) (numbered_on a.octets.now _ (numbered_first (crlf a.version))).known

pub returns : goal.returns
returns c =
    let a = c.args in
    let xs = a.octets.now in
    let begins = c.nothing_read-begin.ensures ∙ ap nothing_read c.has_crlf.ensures in
    replied a.version xs (λ i. omega (arith, c.type_inv.octets i)) c.run.result
    (c.run.ensures.0 ∙ ap (λ z. scan z xs) begins) _ c.reply.ensures
