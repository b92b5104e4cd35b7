-- What an answer says tells it apart from every other of its kind. Assumes nothing.
--     answer_once, making_once, delivery_once, timed_out_once     one law for each kind of answer
use Rattle.std.proofs.Common.{◌≡◌, ℕ, Bool, true, false, cond, eqb, [], ◌∷◌, refl, ap}
use Rattle.headers.specs.Answers.{Answer, accepted, refused}
use Rattle.headers.proofs.Answers.{once}
use Rattle.sessions.specs.Answers.{bit, answer_says, making_says, timed_out_says, delivery_says}
use Rattle.std.specs.Prelude.{Result, Ok, Err}
use Rattle.sessions.specs.Refusals.{number_of}
use Rattle.sessions.specs.declared.refusals.Refusal.{Refusal}
use Rattle.sessions.specs.declared.refusals.InvalidRecord.{InvalidRecord}
use Rattle.sessions.specs.declared.session.Acceptance.{Acceptance}

-- whether a receipt is owed, from the number that says so
unbit : (b : Bool) → eqb (bit b) 1 ≡ b
unbit true = refl
unbit false = refl

abbrev acceptance : Bool → ℕ → ℕ → ℕ → Acceptance
acceptance b d i t = record { receipt = b; later_destinations = d; later_ids = i; later_transactions = t }

-- the refusal of a number
abbrev refusal_of : ℕ → Refusal
refusal_of k =
    cond (eqb k 31) Refusal.BadVersions
    (cond (eqb k 32) Refusal.NoVersion
    (cond (eqb k 33) Refusal.BadHeartBeat
    (cond (eqb k 34) Refusal.BadOffer
    (cond (eqb k 38) Refusal.Invalid
    (cond (eqb k 39) Refusal.Malformed
    (cond (eqb k 40) Refusal.Closed
    (cond (eqb k 41) Refusal.FromServer
    (cond (eqb k 42) Refusal.OutOfPhase
    (cond (eqb k 43) Refusal.Missing
    (cond (eqb k 44) Refusal.BadId
    (cond (eqb k 45) Refusal.Live
    (cond (eqb k 46) Refusal.NotLive
    (cond (eqb k 47) Refusal.Full
    (cond (eqb k 49) Refusal.UnknownMode
    (cond (eqb k 60) Refusal.NotPending
    (cond (eqb k 61) Refusal.AllPending
    (cond (eqb k 62) Refusal.BadLabel
    (cond (eqb k 63) Refusal.NotOpen
    Refusal.NoSubscription))))))))))))))))))

numbered : (x : Refusal) → refusal_of (number_of x) ≡ x
numbered Refusal.BadVersions = refl
numbered Refusal.NoVersion = refl
numbered Refusal.BadHeartBeat = refl
numbered Refusal.BadOffer = refl
numbered Refusal.Invalid = refl
numbered Refusal.Malformed = refl
numbered Refusal.Closed = refl
numbered Refusal.FromServer = refl
numbered Refusal.OutOfPhase = refl
numbered Refusal.Missing = refl
numbered Refusal.BadId = refl
numbered Refusal.Live = refl
numbered Refusal.NotLive = refl
numbered Refusal.Full = refl
numbered Refusal.UnknownMode = refl
numbered Refusal.NotPending = refl
numbered Refusal.AllPending = refl
numbered Refusal.BadLabel = refl
numbered Refusal.NotOpen = refl
numbered Refusal.NoSubscription = refl

abbrev answered : Answer → Result Acceptance Refusal
answered (accepted (n ∷ d ∷ i ∷ t ∷ more)) = Ok (acceptance (eqb n 1) d i t)
answered (accepted (n ∷ d ∷ i ∷ [])) = Err Refusal.Invalid
answered (accepted (n ∷ d ∷ [])) = Err Refusal.Invalid
answered (accepted (n ∷ [])) = Err Refusal.Invalid
answered (accepted []) = Err Refusal.Invalid
answered (refused k) = Err (refusal_of k)

pub answer_once : (r s : Result Acceptance Refusal) → answer_says r ≡ answer_says s → r ≡ s
answer_once =
    once answer_says answered
    (elim [
      | Ok a ↦ ap (λ b. Ok (acceptance b a.later_destinations a.later_ids a.later_transactions)) (unbit a.receipt)
      | Err x ↦ ap Err (numbered x)
    ])

-- done, or a refusal
abbrev done : Answer → Result Unit Refusal
done (accepted values) = Ok tt
done (refused k) = Err (refusal_of k)

pub making_once : (r s : Result Unit Refusal) → making_says r ≡ making_says s → r ≡ s
making_once = once making_says done (elim [ Ok u ↦ refl | Err x ↦ ap Err (numbered x) ])

pub delivery_once : (r s : Result Unit Refusal) → delivery_says r ≡ delivery_says s → r ≡ s
delivery_once = once delivery_says done (elim [ Ok u ↦ refl | Err x ↦ ap Err (numbered x) ])

abbrev timed_out : Answer → Result Bool InvalidRecord
timed_out (accepted []) = Ok false
timed_out (accepted (n ∷ more)) = Ok (eqb n 1)
timed_out (refused k) = Err (record {})

pub timed_out_once : (r s : Result Bool InvalidRecord) → timed_out_says r ≡ timed_out_says s → r ≡ s
timed_out_once = once timed_out_says timed_out (elim [ Ok b ↦ ap Ok (unbit b) | Err x ↦ refl ])
