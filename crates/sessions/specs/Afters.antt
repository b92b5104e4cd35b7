-- What a call of a session gives: the session after it, and the answer, by what is answered.
use Rattle.std.specs.Prelude.{Result, ⊤}
use Rattle.sessions.specs.declared.session.After.{After}
use Rattle.sessions.specs.declared.session.Acceptance.{Acceptance}
use Rattle.sessions.specs.declared.refusals.Refusal.{Refusal}

abbrev pub Outcome : Type 0
Outcome = After (Result Acceptance Refusal)

abbrev pub Recording : Type 0
Recording = After (Result ⊤ Refusal)
