-- Header lines (document 01, "Items on the wire", "Sizes", "Writing"): raw lines from entries, and entries from raw lines.
-- Assumes nothing.
use Rattle.std.specs.Prelude.{Bool, ◌&&◌, not, List, [], ◌∷◌, ◌++◌, ℕ, ◌+◌, length, leb}
use Rattle.headers.specs.Rows.{octets_of, empty, every}
use Rattle.headers.specs.Text.{is_utf8}
use Rattle.headers.specs.Escapes.{decode, encode, writable}
use Rattle.headers.specs.Block.{Entry}
use Rattle.headers.specs.declared.text.Style.{Style}
use Rattle.headers.specs.declared.text.Field.{Field}
use Rattle.headers.specs.declared.text.Field.TheVariants.{Name, Value}

-- "512 octets in a raw header line, its line end not counted"
abbrev pub line_max : ℕ
line_max = 512

abbrev pub entry_of : List ℕ → List ℕ → Entry
entry_of n v = record { name = n; value = v }

-- the entry that a raw name and a raw value stand for
abbrev pub decoded_entry : Style → List ℕ → List ℕ → Entry
decoded_entry s n v = entry_of (decode s n) (decode s v)

-- name, colon and value: the length of a line that is not raw
abbrev pub line_length : Entry → ℕ
line_length e = length e.name + 1 + length e.value

-- the raw line of an entry: name, colon, value, its line end not counted
abbrev pub raw_line : Style → Entry → List ℕ
raw_line s e = encode s e.name ++ (58 ∷ encode s e.value)

-- the same with its line end, octet 10
abbrev pub written_line : Style → Entry → List ℕ
written_line s e = encode s e.name ++ (58 ∷ (encode s e.value ++ (10 ∷ [])))

-- the text can be written in this field: each octet can be, and it is UTF-8
abbrev pub can_stand : Style → Field → List ℕ → Bool
can_stand s f xs = every (writable s f) xs && is_utf8 xs

-- the entry can be written: not "an empty name, a raw line over 512, or in CONNECT/CONNECTED holds 10, 13 or a colon", the colon only
-- in the name (C-12); nor "where a name or value is not UTF-8" (C-17)
abbrev pub can_write : Style → Entry → Bool
can_write s e = not (empty e.name) && (can_stand s Name e.name && (can_stand s Value e.value && leb (length (raw_line s e)) line_max))

-- the header name `content-length`
abbrev pub content_length : List ℕ
content_length = octets_of "content-length"
