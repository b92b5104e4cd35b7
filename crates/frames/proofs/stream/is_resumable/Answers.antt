-- `stream::is_resumable` meets its contract: the tests are the rule's.
use borrow.Author.Tests.{lt-leb, le-leb, lt-ltb, le-ltb}
use mathlib.Core.Path.{◌≡◌, refl, sym, ◌∙◌}
use mathlib.Core.Bool.{true}
use Rattle.frames.specs.Validity.{is_valid}
use Rattle.frames.specs.Streams.{is_resumable}
use Rattle.frames.proofs.Resuming.{valid_test}
use Rattle.frames.proofs.stream.is_resumable.Goals as goal
use Rattle.frames.proofs.stream.is_resumable.Goals.{Else-not-is_valid}

pub returns-then-not-is_valid : goal.returns-then-not-is_valid
unfolding is_resumable
returns-then-not-is_valid c =
    let v = c.is_valid in
    rw (sym (valid_test c.args.st v.result v.ensures) ∙ c.if-not-is_valid.true)

-- past the first test the state is valid
valid : (c : Else-not-is_valid) → is_valid c.args.st ≡ true
valid c =
    let v = c.is_valid in
    sym (valid_test c.args.st v.result v.ensures) ∙ c.if-not-is_valid.false

pub returns-then-st-gt-HELD : goal.returns-then-st-gt-HELD
unfolding is_resumable
returns-then-st-gt-HELD c = rw (valid (goal.at.returns-then-st-gt-HELD c).Else-not-is_valid, lt-leb _ _ c.if-st-gt-HELD.true)

pub returns-then-not-fits_version : goal.returns-then-not-fits_version
unfolding is_resumable
returns-then-not-fits_version c =
    let w = c.fits_version in
    rw (valid (goal.at.returns-then-not-fits_version c).Else-not-is_valid, le-leb _ _ c.if-st-gt-HELD.false, sym w.ensures ∙ c.if-not-fits_version.true)

pub returns-then-st-lt-HEART_BEAT_READ : goal.returns-then-st-lt-HEART_BEAT_READ
unfolding is_resumable
returns-then-st-lt-HEART_BEAT_READ c =
    let w = c.fits_version in
    rw (
      valid (goal.at.returns-then-st-lt-HEART_BEAT_READ c).Else-not-is_valid,
      le-leb _ _ c.if-st-gt-HELD.false,
      sym w.ensures ∙ c.if-not-fits_version.false,
      lt-ltb _ _ c.if-st-lt-HEART_BEAT_READ.true,
    )

pub returns : goal.returns
unfolding is_resumable
returns c =
    let w = c.fits_version in
    rw (
      valid (goal.at.returns c).Else-not-is_valid,
      le-leb _ _ c.if-st-gt-HELD.false,
      sym w.ensures ∙ c.if-not-fits_version.false,
      le-ltb _ _ c.if-st-lt-HEART_BEAT_READ.false,
      c.is_some.ensures,
      c.of_number.ensures.0,
    ) refl
