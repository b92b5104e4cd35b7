-- `Replaying::read` meets its contract: no more octets are taken than are held. Assumes nothing.
use mathlib.Core.Path.{◌≡◌, sym, ◌∙◌, ap}
use native.Mathlib.Omega.{arith}
use Rattle.frames.specs.Streams.{replied, feed_answer}
use Rattle.frames.specs.Answers.{parsed_says, fed_says}
use Rattle.listing.proofs.Taking.{taken_within}
use Rattle.listing.proofs.replay.Replaying.read.Goals as goal

pub pass-requires : goal.pass-requires
pass-requires c =
    let s = c.args.self.now in
    let held = c.held.result.now in
    let t = c.in_ok-taken.taken in
    let told : replied (parsed_says t.reply) t.octets ≡ feed_answer s.parser.scan s.buffer held =
    ap fed_says (sym c.in_ok-taken.was) ∙ c.feed-step.ensures.0 in
    omega (arith, taken_within s.parser.scan s.buffer held _ _ told, c.held.ensures.length)
