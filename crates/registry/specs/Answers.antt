-- What the answers of the registry's calls say, case by case, and the numbers that C gets. Assumes nothing.
use Rattle.std.specs.Prelude.{cond, ◌≡◌, List, [], ◌∷◌, ℕ, ◌+◌, ◌*◌, ◌/◌, ◌%◌, ◌≤◌, ◌<◌, eqb, ltb, length, take, drop, Option, Some, None, Result, Ok, Err, ⊤}
use Rattle.headers.specs.Answers.{Answer, accepted, refused}
use Rattle.headers.specs.declared.block.Span.{Span}
use Rattle.registry.specs.declared.refusals.Refusal.{Refusal}
use Rattle.registry.specs.declared.refusals.Refusal.TheVariants.{InvalidRecord, BadSize, NotOpen, OtherSession, NoPlace, AlreadyOpen, FourOpen}

-- ---- what the answers say

-- "89 unsound register", "90 bad size, 91 run not open, 92 held by another session, 93 new destination and the run's places all taken",
-- "94 already open, 95 four open"
abbrev pub number_of : Refusal → ℕ
number_of InvalidRecord = 89
number_of BadSize = 90
number_of NotOpen = 91
number_of OtherSession = 92
number_of NoPlace = 93
number_of AlreadyOpen = 94
number_of FourOpen = 95

abbrev pub done_says : Result ⊤ Refusal → Answer
done_says (Ok done) = accepted []
done_says (Err e) = refused (number_of e)

-- a port's text is a part of the record
abbrev pub asked_says : List ℕ → Result (Option Span) Refusal → Answer
asked_says reg (Ok (Some p)) = accepted (take p.len (drop p.start reg))
asked_says reg (Ok None) = accepted []
asked_says reg (Err e) = refused (number_of e)

-- a port's text is inside the record, and a refusal's number is small
abbrev pub Bounded : Result (Option Span) Refusal → Type 0
Bounded (Ok (Some p)) = (0 < p.len) × (p.start + p.len ≤ 3524)
Bounded (Ok None) = Unit {0}
Bounded (Err e) = (0 < number_of e) × (number_of e < 256)

-- a port's text begins at that place of the record, and is all in it
abbrev pub StartsAt : List ℕ → ℕ → Result (Option Span) Refusal → Type 0
StartsAt reg start (Ok (Some p)) = (p.start ≡ start) × (p.start + p.len ≤ length reg)
StartsAt reg start (Ok None) = Unit {0}
StartsAt reg start (Err e) = Unit {0}

-- ---- the numbers that C gets: 0 where accepted or where there is no port, the number of a refusal, or 65,536 times the length of
-- the port's text and where it starts in the record

abbrev pub answer_number : Answer → ℕ
answer_number (accepted values) = 0
answer_number (refused n) = n

-- the answer to asking, with where the text begins
abbrev pub packed_ask : Answer → ℕ → ℕ
packed_ask (accepted []) start = 0
packed_ask (accepted (x ∷ text)) start = length (x ∷ text) * 65536 + start
packed_ask (refused n) start = n

-- the same as the code has it
abbrev pub asked_number : Result (Option Span) Refusal → ℕ
asked_number (Ok (Some p)) = p.len * 65536 + p.start
asked_number (Ok None) = 0
asked_number (Err e) = number_of e

-- read back
abbrev pub asked_read : List ℕ → ℕ → Answer
asked_read reg n = cond (ltb n 65536) (cond (eqb n 0) (accepted []) (refused n)) (accepted (take (n / 65536) (drop (n % 65536) reg)))
