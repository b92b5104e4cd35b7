-- Ids in a flat store (document 01, "One client's session"): places of w octets one after another, with a length for each. The first
-- octets of a place, as many as its length says, are its id; a place of length 0 is free. Over any width and any number of places;
-- nothing here knows of a session. Assumes nothing.
use Rattle.std.specs.Prelude.{ℕ, Bool, true, false, not, ◌&&◌, ◌||◌, List, [], ◌∷◌, ◌++◌, map, length, take, drop, nat_le, nat_lt}
use Rattle.headers.specs.Rows.{empty, every, any, same}
use Rattle.headers.specs.Answers.{Check}
use Rattle.stores.specs.Searches.{replaced}
use Rattle.stores.specs.Places.{padded, is_zero}
use Rattle.sessions.specs.declared.store.Use.{Use}
use Rattle.sessions.specs.declared.store.Use.TheVariants.{Nothing, Need, Enter, Free}

-- The view: the ids in their places, [] in a free one.
unfoldable pub ids : ℕ → List ℕ → List ℕ → List (List ℕ)
ids w s [] = []
ids w s (l ∷ ls) = take l s ∷ ids w (drop w s) ls

-- The layout of a view: each id and zero octets behind it up to w, and the lengths.
unfoldable pub laid : ℕ → List (List ℕ) → List ℕ
laid w [] = []
laid w (id ∷ more) = padded w id ++ laid w more

abbrev pub lengths : List (List ℕ) → List ℕ
lengths ids = map length ids

-- "length over 32"
abbrev pub short : ℕ → List ℕ → Bool
short w ls = every (λ l. nat_le l w) ls

-- "non-zero unused octets": those of a place behind its id
unfoldable pub clean : ℕ → List ℕ → List ℕ → Bool
clean w s [] = true
clean w s (l ∷ ls) = is_zero (drop l (take w s)) && clean w (drop w s) ls

-- the id is one of them
abbrev pub live : List ℕ → List (List ℕ) → Bool
live id ids = any (λ x. same x id) ids

-- "two equal live ids of one kind"
unfoldable pub distinct : List (List ℕ) → Bool
distinct [] = true
distinct (id ∷ more) = (empty id || not (live id more)) && distinct more

unfoldable pub valid_store : ℕ → List ℕ → List ℕ → Bool
valid_store w s ls = short w ls && (clean w s ls && distinct (ids w s ls))

-- What a call makes of an id: Enter a new one ("A new id takes the first free place"), Free a live one ("free one, to be used
-- again"), Need it live, or Nothing.
abbrev pub used : Use → List ℕ → List (List ℕ) → List (List ℕ)
used Enter id ids = replaced empty id ids
used Free id ids = replaced (λ x. same x id) [] ids
used Need id ids = ids
used Nothing id ids = ids

abbrev pub enters : Use → Bool
enters Enter = true
enters Free = false
enters Need = false
enters Nothing = false

abbrev pub wants_live : Use → Bool
wants_live Enter = false
wants_live Free = true
wants_live Need = true
wants_live Nothing = false

-- it enters or frees one
abbrev pub changes : Use → Bool
changes Enter = true
changes Free = true
changes Need = false
changes Nothing = false

-- "44 the id that names a subscription or transaction is empty or over 32; 45 id already live; 46 not live; 47 all places live"
abbrev pub bad_length : ℕ → List ℕ → Bool
bad_length w id = empty id || nat_lt w (length id)

abbrev pub live_again : Use → List ℕ → List (List ℕ) → Bool
live_again u id ids = enters u && live id ids

abbrev pub not_live : Use → List ℕ → List (List ℕ) → Bool
not_live u id ids = wants_live u && not (live id ids)

abbrev pub no_room : Use → List (List ℕ) → Bool
no_room u ids = enters u && not (any empty ids)

abbrev pub use_checks : ℕ → Use → List ℕ → List (List ℕ) → List Check
use_checks w u id ids =
    record { fails = bad_length w id; number = 44 } ∷
    record { fails = live_again u id ids; number = 45 } ∷
    record { fails = not_live u id ids; number = 46 } ∷
    record { fails = no_room u ids; number = 47 } ∷
    []
