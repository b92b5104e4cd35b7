-- `exports::parse_packed` meets its contract: the reply's numbers are small, so that they read back.
use mathlib.Core.Path.{sym, ◌∙◌, ap, subst}
use Rattle.frames.specs.Exactness.{Exact}
use Rattle.frames.specs.Answers.{packed, unpacked, Small}
use Rattle.frames.proofs.Packing.{packed_back, small_packs, reply_small}
use Rattle.frames.proofs.exports.parse_packed.Goals as goal

pub pack-requires : goal.pack-requires
pack-requires c = small_packs _ (reply_small c.args.version _ _ c.parse.ensures.1)

pub returns : goal.returns
returns c =
    let h = c.parse.ensures.0 in
    let k = c.pack.ensures ∙ ap packed h in
    let back = ap unpacked k ∙ packed_back _ (subst Small h (reply_small c.args.version _ _ c.parse.ensures.1)) in
    (k, back, subst (Exact c.args.version _) (h ∙ sym back) c.parse.ensures.1)
