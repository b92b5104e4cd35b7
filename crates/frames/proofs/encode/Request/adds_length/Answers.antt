-- `encode::Request::adds_length` meets its contract: the octets before the first octet 0 are not all of the body exactly if it holds one.
use mathlib.Core.Path.{◌≡◌, sym, ◌∙◌, ap}
use mathlib.Core.Bool.{false, ◌&&◌, ◌||◌, not}
use lib.Dec.{eqb}
use Rattle.std.specs.Prelude.{is_some}
use Rattle.headers.specs.Rows.{empty, any}
use Rattle.frames.proofs.Writing.{adds_told, adds_needed}
use Rattle.frames.proofs.encode.Request.adds_length.Goals as goal

pub returns : goal.returns
returns c =
    let q = c.args.self.now in
    let body = q.body.now in
    let no : is_some c.args.declared ≡ false = sym c.is_some.ensures ∙ c.if-is_some.false in
    adds_needed _ _ c.long_span.ensures
    ∙ ap (λ b. any (eqb 0) body || (b && not (empty body))) (sym c.if-self.false)
    ∙ ap (λ b. not b && (any (eqb 0) body || (q.counted && not (empty body)))) (sym no)
    ∙ adds_told q.block.now c.args.declared c.requires body q.counted
