-- The numbers of what a session refuses (document 01, "One client's session"). Assumes nothing.
use Rattle.std.specs.Prelude.{ℕ, Result, Ok, Err}
use Rattle.sessions.specs.declared.refusals.Refusal.{Refusal}

abbrev pub number_of : Refusal → ℕ
number_of Refusal.BadVersions = 31
number_of Refusal.NoVersion = 32
number_of Refusal.BadHeartBeat = 33
number_of Refusal.BadOffer = 34
number_of Refusal.Invalid = 38
number_of Refusal.Malformed = 39
number_of Refusal.Closed = 40
number_of Refusal.FromServer = 41
number_of Refusal.OutOfPhase = 42
number_of Refusal.Missing = 43
number_of Refusal.BadId = 44
number_of Refusal.Live = 45
number_of Refusal.NotLive = 46
number_of Refusal.Full = 47
number_of Refusal.UnknownMode = 49
number_of Refusal.NotPending = 60
number_of Refusal.AllPending = 61
number_of Refusal.BadLabel = 62
number_of Refusal.NotOpen = 63
number_of Refusal.NoSubscription = 64

-- the number of what may be refused, 0 where it is not
abbrev pub refused_number : {A : Type 0} → Result A Refusal → ℕ
refused_number (Ok x) = 0
refused_number (Err e) = number_of e
