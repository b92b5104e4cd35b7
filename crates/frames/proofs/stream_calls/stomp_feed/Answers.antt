-- `stream_calls::stomp_feed` meets its contract: a reply is packed, and the record that is left is written.
use mathlib.Core.Path.{sym, ◌∙◌, ap}
use Rattle.frames.specs.Answers.{fed_says}
use Rattle.frames.specs.Streams.{feed_answer}
use Rattle.frames.proofs.Records.{replies}
use Rattle.frames.proofs.stream_calls.stomp_feed.Goals as goal

pub write_record-requires : goal.write_record-requires
write_record-requires c =
    let a = c.args in
    (replies _ _ _ _ _ (ap fed_says (sym c.in-Ok.is) ∙ c.feed-step.ensures.0 ∙ ap (λ z. feed_answer z a.buffer.now a.piece.now) c.read_record-scan.ensures)).long

pub pack_taken-requires : goal.pack_taken-requires
pack_taken-requires c =
    let a = c.args in
    let r = replies _ _ _ _ _ (ap fed_says (sym c.in-Ok.is) ∙ c.feed-step.ensures.0 ∙ ap (λ z. feed_answer z a.buffer.now a.piece.now) c.read_record-scan.ensures) in
    (r.packs, r.few)
