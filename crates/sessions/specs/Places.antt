-- What the functions over a store give, in the code's types. Assumes nothing.
use Rattle.std.specs.Prelude.{◌≡◌, ℕ, ◌+◌, ◌*◌, ◌<◌, ◌≤◌, Bool, true, not, ◌&&◌, List, [], ◌++◌, length, take, drop, slice_set, Option, Some, None, Result, Ok, Err}
use Rattle.headers.specs.Answers.{accepted, refused, settle}
use Rattle.headers.specs.Rows.{empty}
use Rattle.stores.specs.Places.{padded}
use Rattle.sessions.specs.Stores.{short, clean, live, used, use_checks}
use Rattle.stores.specs.Keys.{key, keys}
use Rattle.sessions.specs.declared.store.Use.{Use}
use Rattle.sessions.specs.declared.store.Use.TheVariants.{Nothing, Need, Enter, Free}
use Rattle.sessions.specs.Refusals.{number_of}
use Rattle.sessions.specs.declared.refusals.Refusal.{Refusal}

-- a store of n places of w octets, with lengths that fit
pub record Fits (w n : ℕ) (s ls : List ℕ) : Type 0 where
  pub lens_long : length ls ≡ n
  pub store_long : length s ≡ n * w
  pub lens_short : short w ls ≡ true

-- of at most 64 places of 32 octets, with nothing after the ids
pub record Clean (w n : ℕ) (s ls : List ℕ) : Type 0 where
  pub fits : Fits w n s ls
  pub clean_yes : clean w s ls ≡ true
  pub wide : w ≡ 32
  pub few : n ≤ 64

-- with the keys of its places, and the key of a place that holds the id
pub record Keyed (w n : ℕ) (s ls ks : List ℕ) (k : ℕ) (id : List ℕ) : Type 0 where
  pub store : Clean w n s ls
  pub keys_are : ks ≡ keys s ls
  pub key_is : k ≡ key (padded w id)

-- an id, not an empty one, is among others
abbrev pub again : List ℕ → List (List ℕ) → Bool
again id others = not (empty id) && live id others

-- what becomes of an id that must be live, by where it was found
abbrev pub when_needed : Option ℕ → Result (Option ℕ) Refusal
when_needed (Some k) = Ok None
when_needed None = Err Refusal.NotLive

-- of one that is freed
abbrev pub when_freed : Option ℕ → Result (Option ℕ) Refusal
when_freed (Some k) = Ok (Some k)
when_freed None = Err Refusal.NotLive

-- of one that is entered, by where it was found and by the first free place
abbrev pub when_entered : Option ℕ → Option ℕ → Result (Option ℕ) Refusal
when_entered (Some k) free = Err Refusal.Live
when_entered None (Some k) = Ok (Some k)
when_entered None None = Err Refusal.Full

-- how many octets of an id its place gets
abbrev pub stored : Use → ℕ → ℕ
stored Enter n = n
stored Free n = 0
stored Need n = 0
stored Nothing n = 0

-- the store with an id in place k
abbrev pub put_in : ℕ → List ℕ → ℕ → List ℕ → List ℕ
put_in w s k id = take (k * w) s ++ (padded w id ++ drop (k * w + w) s)

-- what becomes of a use of an id
abbrev pub Settles : ℕ → Use → List ℕ → List (List ℕ) → Result (Option ℕ) Refusal → Type 0
Settles w u id is (Err e) = settle (use_checks w u id is) [] ≡ refused (number_of e)
Settles w u id is (Ok None) = (settle (use_checks w u id is) [] ≡ accepted []) × (used u id is ≡ is)
Settles w u id is (Ok (Some k)) =
    (settle (use_checks w u id is) [] ≡ accepted []) × (k < length is) × (used u id is ≡ slice_set is k (take (stored u (length id)) id))
