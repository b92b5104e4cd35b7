-- `stream_calls::stomp_feed_tell` meets its contract: the record is written anew where the version is taken.
use mathlib.Core.Path.{◌≡◌, refl, sym, ◌∙◌, ap}
use mathlib.Core.Bool.{true, false}
use Rattle.std.specs.Prelude.{Option, is_some, unwrap_or}
use Rattle.frames.specs.declared.stream.StreamParser.{StreamParser}
use Rattle.frames.specs.Streams.{is_taken, tell_state}
use Rattle.frames.specs.Records.{record_of, read_record, told_record}
use Rattle.frames.proofs.Records.{taken_long}
use Rattle.frames.proofs.stream_calls.stomp_feed_tell.Goals as goal

pub write_record-requires : goal.write_record-requires
write_record-requires c =
    let yes : is_taken (read_record c.args.state.now) ≡ true = ap is_taken (sym c.read_record-scan.ensures) ∙ sym c.tell.ensures.0 ∙ ap is_some c.in-Some.is in
    taken_long _ yes

pub returns-in-Some : goal.returns-in-Some
unfolding told_record
returns-in-Some c =
    let state = c.args.state.now in
    let yes : is_taken (read_record state) ≡ true = ap is_taken (sym c.read_record-scan.ensures) ∙ sym c.tell.ensures.0 ∙ ap is_some c.in-Some.is in
    let left =
    ap (λ (r : Option StreamParser). (unwrap_or r (record { scan = c.read_record-scan.result })).scan) (sym c.in-Some.is) ∙ c.tell.ensures.1
    ∙ ap (tell_state c.of_options.result) c.read_record-scan.ensures ∙ ap (λ v. tell_state v (read_record state)) c.of_options.ensures in
    (rw yes refl, rw yes (c.write_record.ensures ∙ ap record_of left))

pub returns-in-None : goal.returns-in-None
unfolding told_record
returns-in-None c =
    let no : is_taken (read_record c.args.state.now) ≡ false = ap is_taken (sym c.read_record-scan.ensures) ∙ sym c.tell.ensures.0 ∙ ap is_some c.in-None.is in
    (rw no refl, rw no refl)
