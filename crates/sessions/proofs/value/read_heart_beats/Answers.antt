-- `value::read_heart_beats` meets its contract: its numbers are read before and behind the first comma.
use Rattle.std.proofs.Common.{◌≡◌, ℕ, sym}
use mathlib.Core.Option.{some}
use Rattle.headers.specs.Answers.{read_says}
use Rattle.std.specs.Prelude.{Option as Maybe, Some, None}
use Rattle.sessions.specs.Values.{both, heart_beats}
use Rattle.sessions.proofs.Values.{heart_beats_none, heart_beats_front, heart_beats_both}
use Rattle.sessions.proofs.value.read_heart_beats.Goals as goal
use Rattle.sessions.proofs.value.read_heart_beats.Goals.{After-read_decimal-2}

pub returns-then-value-comma : goal.returns-then-value-comma
returns-then-value-comma c =
    let e = c.end_of-comma in
    sym (heart_beats_none c.args.value.now e.result e.ensures.0
    c.if-value-comma.true)

pub returns-in_err-sends : goal.returns-in_err-sends
returns-in_err-sends c =
    let e = c.end_of-comma in
    rw c.from_residual.ensures (sym (heart_beats_front c.args.value.now e.result e.ensures.0 c.if-value-comma.false c.read_decimal.result
    c.read_decimal.ensures c.in_err-sends.was))

-- where the first number is read, what the second comes to
known : (c : After-read_decimal-2) (b : Maybe ℕ) → c.read_decimal-2.result ≡ b
    → heart_beats c.args.value.now ≡ both
    (some c.in_ok-sends.sends) (read_says b)
known c b q =
    let e = c.end_of-comma in
    heart_beats_both c.args.value.now e.result e.ensures.0 c.if-value-comma.false c.read_decimal.result
    c.read_decimal.ensures
    c.read_decimal-2.result c.read_decimal-2.ensures (Some c.in_ok-sends.sends) b c.in_ok-sends.was q

pub returns-in_err-wants : goal.returns-in_err-wants
returns-in_err-wants c =
    rw c.from_residual-in_err-wants.ensures (sym (known (goal.at.returns-in_err-wants c).After-read_decimal-2 None c.in_err-wants.was))

pub returns : goal.returns
returns c = sym (known (goal.at.returns c).After-read_decimal-2 (Some c.in_ok-wants.wants) c.in_ok-wants.was)
