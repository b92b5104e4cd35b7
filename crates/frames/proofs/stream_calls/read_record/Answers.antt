use mathlib.Core.Path.{refl, sym, ◌∙◌}
use Rattle.frames.specs.Records.{read_record}
use Rattle.frames.proofs.Records.{record_long}
use Rattle.frames.proofs.stream_calls.read_record.Goals as goal

-- src/stream_calls.rt:68:9
pub fields-requires : goal.fields-requires
fields-requires c = record_long _ (sym c.is_record.ensures ∙ c.if-is_record.true)

-- src/stream_calls.rt:68:9
pub returns-then-is_record : goal.returns-then-is_record
unfolding read_record
returns-then-is_record c = rw (sym c.is_record.ensures ∙ c.if-is_record.true) c.fields.ensures

-- src/stream_calls.rt:64:1
pub returns : goal.returns
unfolding read_record
returns c = rw (sym c.is_record.ensures ∙ c.if-is_record.false) refl
