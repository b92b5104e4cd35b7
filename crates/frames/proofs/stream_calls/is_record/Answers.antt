-- `stream_calls::is_record` meets its contract.
use mathlib.Core.Path.{refl}
use borrow.Author.Tests.{ne_eqb, eq-eqb}
use Rattle.frames.specs.Records.{is_record}
use Rattle.frames.proofs.stream_calls.is_record.Goals as goal

pub returns-then-r-ne16 : goal.returns-then-r-ne16
unfolding is_record
returns-then-r-ne16 c = rw (ne_eqb _ _ c.if-r-ne16.true) refl

pub returns : goal.returns
unfolding is_record
returns c = rw (eq-eqb _ _ c.if-r-ne16.false) refl
