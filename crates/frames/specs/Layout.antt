-- Where the parts of a frame's head stand, read off its octets: what decoding goes by. That these are the parts of the parse tree is
-- proofs/Heads.antt. Assumes nothing.
use Rattle.std.specs.Prelude.{Bool, cond, List, [], ◌∷◌, ℕ, zero, suc, ◌+◌, take, drop, get_or, eqb}
use Rattle.headers.specs.Block.{Entry}
use Rattle.frames.specs.Grammar.{Line}
use Rattle.frames.specs.Decoding.{line_entries}
use Rattle.frames.specs.declared.decode.HeadLines.{HeadLines}
use Rattle.headers.specs.Stretches.{span, plain_in}
use Rattle.headers.specs.declared.plain.Stops.{Stops}

-- what follows a line end at the front
abbrev pub end_width : List ℕ → ℕ
end_width xs = cond (eqb (get_or xs 0 0) 13) 2 1

abbrev pub behind_end : List ℕ → List ℕ
behind_end xs = drop (end_width xs) xs

-- the octet that ends text beside 10: 13 where it begins a line end
abbrev pub line_cr : Bool → ℕ
line_cr w = cond w 13 10

module _ (cr : ℕ) where
  -- what ends text: 10, cr or c
  abbrev pub line_stops : ℕ → Stops
  line_stops c = record { cr = cr; colon = c; back = 10; top = 255 }

  -- the same and a backslash
  abbrev pub back_stops : ℕ → Stops
  back_stops c = record { cr = cr; colon = c; back = 92; top = 255 }

  -- how many octets are before the first 10, cr or c
  abbrev pub stop_span : ℕ → List ℕ → ℕ
  stop_span c xs = span (plain_in (line_stops c)) xs

  -- the name of the line at the front, what follows its colon, its value, and what follows its line end
  abbrev pub front_name : List ℕ → List ℕ
  front_name xs = take (stop_span 58 xs) xs

  abbrev pub behind_colon : List ℕ → List ℕ
  behind_colon xs = drop (stop_span 58 xs + 1) xs

  abbrev pub front_value : List ℕ → List ℕ
  front_value xs = take (stop_span 10 (behind_colon xs)) (behind_colon xs)

  abbrev pub at_end : List ℕ → List ℕ
  at_end xs = drop (stop_span 10 xs) xs

  abbrev pub behind_line : List ℕ → List ℕ
  behind_line xs = behind_end (at_end (behind_colon xs))

  abbrev pub front_line : List ℕ → Line
  front_line xs = record { name = front_name xs; value = front_value xs; cr = eqb (get_or (at_end (behind_colon xs)) 0 0) 13 }

  -- the first n lines
  unfoldable pub front_lines : ℕ → List ℕ → List Line
  front_lines zero xs = []
  front_lines (suc n) xs = front_line xs ∷ front_lines n (behind_line xs)

  -- what follows the line of the command
  abbrev pub behind_word : List ℕ → List ℕ
  behind_word xs = behind_end (at_end xs)

-- the entries of a frame's lines, decoded, as the code tells of them
abbrev pub entries_of : HeadLines → List Entry
entries_of l = line_entries l.style (front_lines l.cr l.count (drop l.from l.frame.now))
