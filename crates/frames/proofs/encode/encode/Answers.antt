-- `encode::encode` meets its contract: what settle answers, and the image where that is a length.
use native.Mathlib.Omega.{arith}
use lib.ListN.{length, drop}
use mathlib.Core.Path.{◌≡◌, sym, ◌∙◌, ap, subst}
use mathlib.Core.List.{◌++◌}
use Rattle.headers.specs.Block.{entries, listed}
use Rattle.headers.proofs.Settling.{acceptance}
use Rattle.frames.specs.Grammar.{crlf}
use Rattle.frames.specs.Encoding.{Call, encode_image}
use Rattle.frames.specs.Writing.{Ready, Settles, image_of}
use Rattle.frames.specs.declared.encode.Request.{Request}
use Rattle.frames.proofs.Settled.{Writes, writes}
use Rattle.frames.proofs.encode.encode.Goals as goal
use Rattle.frames.proofs.encode.encode.Goals.{In_ok-image}

-- the call
abbrev request : (c : In_ok-image) → Request
request c = let a = c.args in record { version = a.version; command = a.command; block = a.block; body = a.body; counted = a.counted }

abbrev call : (c : In_ok-image) → Call
call c = let a = c.args in record { command = a.command; block = a.block.now; body = a.body.now; counted = a.counted }

-- what settle says of its image
ready : (c : In_ok-image) → Ready (request c) (length c.args.target.now) c.in_ok-image.image
ready c = subst (Settles (request c) (length c.args.target.now)) c.in_ok-image.was c.settle.ensures

settled : (c : In_ok-image) → Writes c.args.version (call c) (length c.args.target.now) c.in_ok-image.image.len
settled c = writes c.args.version (call c) (length c.args.target.now) c.in_ok-image.image.len (ready c).answered

-- the octets that are written are the definition's
image_told : (c : In_ok-image) → let k = call c in image_of (crlf c.args.version) k.command (listed (entries k.block)) c.in_ok-image.image.adds k.body ≡ encode_image c.args.version k
image_told c =
    let k = call c in
    ap (λ b. image_of (crlf c.args.version) k.command (listed (entries k.block)) b k.body) (ready c).added ∙ sym (settled c).written

pub put_frame-requires : goal.put_frame-requires
put_frame-requires c =
    let at = (goal.at.put_frame-requires c).In_ok-image in
    let w = settled at in
    (w.known, w.block_read, omega (arith, ap length (image_told at), w.long, w.fits), (ready at).plain)

pub returns : goal.returns
returns c =
    let at = (goal.at.returns c).In_ok-image in
    let target = c.args.target.now in
    let put = c.put_frame.ensures ∙ ap (λ z. z ++ drop (length z) target) (image_told at) in
    record {
      answered = (ready at).answered;
      written = (acceptance _ _ (encode_image c.args.version (call at)) target _ (settled at).answer put).1;
    }
