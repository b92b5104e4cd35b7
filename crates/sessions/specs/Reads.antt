-- What the readers of header values and blocks give, in the code's types. Assumes nothing.
use Rattle.std.specs.Prelude.{ℕ, Bool, ◌||◌, List, [], ◌∷◌, Option as Maybe, Some, None}
use Rattle.std.proofs.Math.Option.{Option, none, some}
use Rattle.headers.specs.Rows.{same}
use Rattle.sessions.specs.Values.{HeartBeats}
use Rattle.sessions.specs.Opening.{flag}
use Rattle.sessions.specs.declared.value.Beats.{Beats}

-- the version 1.d, by the digit d
abbrev pub version : ℕ → List ℕ
version d = 49 ∷ 46 ∷ d ∷ []

-- flags with an item counted
abbrev pub counted : List Bool → List ℕ → List Bool
counted fs p = (flag fs 0 || same p (version 48)) ∷ (flag fs 1 || same p (version 49)) ∷ (flag fs 2 || same p (version 50)) ∷ []

abbrev pub versions_say : Maybe (List Bool) → Option (List Bool)
versions_say None = none
versions_say (Some flags) = some flags

abbrev pub heart_beats_say : Maybe Beats → Option HeartBeats
heart_beats_say None = none
heart_beats_say (Some r) = some (record { sends = r.sends; wants = r.wants })

abbrev pub mode_says : Maybe ℕ → Option ℕ
mode_says None = none
mode_says (Some m) = some m
