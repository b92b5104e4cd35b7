-- What the answers of a session's calls say: document 01's number, and the values of an accepted answer. Assumes nothing.
use Rattle.std.specs.Prelude.{ℕ, Bool, true, false, List, [], ◌∷◌, Option, Some, None, Result, Ok, Err}
use Rattle.headers.specs.Answers.{Answer, accepted, refused}
use Rattle.sessions.specs.Refusals.{number_of}
use Rattle.sessions.specs.declared.refusals.Refusal.{Refusal}
use Rattle.sessions.specs.declared.refusals.InvalidRecord.{InvalidRecord}
use Rattle.sessions.specs.declared.session.Acceptance.{Acceptance}
use Rattle.sessions.specs.declared.session.Pending.{Pending}

-- yes is 1, no is 0
abbrev pub bit : Bool → ℕ
bit true = 1
bit false = 0

-- what an accepted answer says: whether a receipt is owed, and how many later entries follow the first destination, id and transaction
abbrev pub acceptance_says : Acceptance → List ℕ
acceptance_says a = bit a.receipt ∷ a.later_destinations ∷ a.later_ids ∷ a.later_transactions ∷ []

-- of a frame or a heart-beat: accepted, with what that says; or the number
abbrev pub answer_says : Result Acceptance Refusal → Answer
answer_says (Ok a) = accepted (acceptance_says a)
answer_says (Err e) = refused (number_of e)

-- of making a session
abbrev pub making_says : Result Unit Refusal → Answer
making_says (Ok u) = accepted []
making_says (Err e) = refused (number_of e)

-- of the question whether the peer is timed out
abbrev pub timed_out_says : Result Bool InvalidRecord → Answer
timed_out_says (Ok b) = accepted (bit b ∷ [])
timed_out_says (Err e) = refused 38

-- of recording a delivery
abbrev pub delivery_says : Result Unit Refusal → Answer
delivery_says (Ok u) = accepted []
delivery_says (Err e) = refused (number_of e)

-- of the question for a pending delivery: one is held, or there is none
abbrev pub pending_says : Result (Option Pending) InvalidRecord → Answer
pending_says (Ok (Some p)) = accepted (1 ∷ [])
pending_says (Ok None) = accepted (0 ∷ [])
pending_says (Err e) = refused 38
