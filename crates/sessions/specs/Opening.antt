-- What both sides come to at the opening of a connection, and the clock (document 01, "Opening a connection"). Assumes nothing.
use Rattle.std.specs.Prelude.{ℕ, ◌+◌, ◌-◌, ◌*◌, ◌%◌, ◌^◌, max, Bool, false, cond, not, ◌&&◌, ◌||◌, List, [], ◌∷◌, ◌==◌, nat_lt, slice_index_or}
use Rattle.frames.specs.Grammar.{v1_1, v1_2}
use Rattle.frames.specs.declared.version.Version.{Version}

-- "The versions both sides have are kept as three yes-or-no marks in an array": flags for 1.0, 1.1 and 1.2
abbrev pub flag : List Bool → ℕ → Bool
flag fs k = slice_index_or fs k false

abbrev pub shared_flags : List Bool → List Bool → List Bool
shared_flags a b = (flag a 0 && flag b 0) ∷ (flag a 1 && flag b 1) ∷ (flag a 2 && flag b 2) ∷ []

abbrev pub none_shared : List Bool → Bool
none_shared fs = not (flag fs 0 || (flag fs 1 || flag fs 2))

-- "the highest is chosen": ten times its number, or 0 where there is none
abbrev pub highest : List Bool → ℕ
highest fs = cond (flag fs 2) 12 (cond (flag fs 1) 11 (cond (flag fs 0) 10 0))

-- the version flags that a server may offer: making refuses "where 1.0 is marked, or neither 1.1 nor 1.2" (document 02, C-18)
abbrev pub may_offer : List Bool → Bool
may_offer fs = not (flag fs 0) && (flag fs 1 || flag fs 2)

-- flags all of which are among others
abbrev pub all_among : List Bool → List Bool → Bool
all_among fs gs = (not (flag fs 0) || flag gs 0) && ((not (flag fs 1) || flag gs 1) && (not (flag fs 2) || flag gs 2))

-- the protocol version of the highest flag: 1.2 too where no version is chosen yet, since "all up to the end of the opening frame is read
-- by 1.2 rules, the rest by the version chosen"
abbrev pub chosen : List Bool → Version
chosen fs = cond (flag fs 1 && not (flag fs 2)) v1_1 v1_2

-- "0 if the client's first or the server's second is 0, else the larger": the interval from the side that can send every a
-- milliseconds to the side that wants to hear every b
abbrev pub interval : ℕ → ℕ → ℕ
interval a b = cond (a == 0 || b == 0) 0 (max a b)

-- "Time passed is now minus then, modulo 2^32."
abbrev pub passed : ℕ → ℕ → ℕ
passed time earlier = (time + 2 ^ 32 - earlier) % 2 ^ 32

-- "the client-to-server interval is not 0 and more than twice that interval has passed since last-heard"
abbrev pub overdue : ℕ → ℕ → ℕ → Bool
overdue every time heard = not (every == 0) && nat_lt (every * 2) (passed time heard)
