-- The lines of a listing (document 01, "Checked examples", its last paragraphs). Assumes nothing.
use Rattle.std.specs.Prelude.{Bool, cond, List, [], ◌∷◌, ◌++◌, ℕ, ◌+◌, length, drop, eqb, ltb, Option as Maybe, Some, None, Result, Ok, Err}
use Rattle.headers.specs.Rows.{octets_of}
use Rattle.headers.specs.Numbers.{shortest}
use Rattle.frames.specs.Replies.{Reply, Complete, Incomplete, Invalid}
use Rattle.frames.specs.declared.parse.Item.{Item}
use Rattle.frames.specs.declared.parse.Item.TheVariants.{HeartBeat, Frame}
use Rattle.frames.specs.Answers.{item_says}
use Rattle.listing.specs.declared.line.Refused.{Refused}

-- numbers in decimal, a blank between two, a line end behind the last
abbrev pub numbers : List ℕ → List ℕ
numbers [] = []
numbers (n ∷ []) = shortest n ++ (10 ∷ [])
numbers (n ∷ m ∷ ms) = shortest n ++ (32 ∷ numbers (m ∷ ms))

-- the words of a listing, with the blank or the line end behind them
abbrev pub beat : List ℕ
beat = octets_of "beat "

abbrev pub frame : List ℕ
frame = octets_of "frame "

abbrev pub refused : List ℕ
refused = octets_of "refused "

abbrev pub more : List ℕ
more = octets_of "more\n"

abbrev pub end : List ℕ
end = octets_of "end\n"

-- what stands behind a number of a row: a blank, or a line end behind the last
abbrev pub behind_at : ℕ → ℕ → ℕ
behind_at i n = cond (ltb (i + 1) n) 32 10

-- "A line has the item's start, then its octets for a beat, or command, octets, headers, body start and body length. The last line
-- is `refused` as here, or the start reached with `more`, or with `end` where nothing is left."
abbrev pub complete_behind : (kind used command headers body len : ℕ) → List ℕ
complete_behind kind used command headers body len =
    cond (eqb kind 1) (beat ++ numbers (used ∷ [])) (frame ++ numbers (command ∷ used ∷ headers ∷ body ∷ len ∷ []))

abbrev pub line_behind : Reply → Bool → List ℕ
line_behind (Complete kind used command headers body len) nothing_left = complete_behind kind used command headers body len
line_behind Incomplete nothing_left = cond nothing_left end more
line_behind (Invalid number offset) nothing_left = refused ++ numbers (number ∷ offset ∷ [])

abbrev pub item_behind : Item → List ℕ
item_behind (HeartBeat n) = beat ++ numbers (n ∷ [])
item_behind (Frame f) = frame ++ numbers (f.command ∷ f.len ∷ f.headers ∷ f.body ∷ f.body_len ∷ [])

-- the reply that a line tells of
abbrev pub reply_says : Result (Maybe Item) Refused → Reply
reply_says (Ok (Some i)) = item_says i
reply_says (Ok None) = Incomplete
reply_says (Err r) = Invalid r.number r.offset

unfoldable pub line_of : ℕ → Reply → Bool → List ℕ
line_of start r nothing_left = shortest start ++ (32 ∷ line_behind r nothing_left)

-- What a call that writes a line answers, and leaves in a buffer: the line where there is room for any, else nothing.
abbrev pub line_used : ℕ → List ℕ → ℕ
line_used room l = cond (ltb room 160) 0 (length l)

abbrev pub line_left : List ℕ → List ℕ → List ℕ
line_left d l = cond (ltb (length d) 160) d (l ++ drop (length l) d)
