-- Streams laid end to end (document 02, C-23: a write is an accepted call of encode here, a beat a heart-beat, the mark is counted, judging
-- is parsing and unpacking is decoding). Assumes nothing.
use Rattle.std.specs.Prelude.{◌≡◌, Bool, true, List, [], ◌∷◌, ◌++◌, ℕ, ◌+◌, length, take, drop}
use Rattle.std.proofs.Math.Option.{some}
use Rattle.headers.specs.Rows.{every, is_octet}
use Rattle.headers.specs.Block.{Entry, entries, image}
use Rattle.headers.specs.Answers.{Answer, left_in}
use Rattle.frames.specs.Grammar.{Command, number, crlf, end, EndOk}
use Rattle.frames.specs.declared.version.Version.{Version}
use Rattle.frames.specs.Replies.{Complete}
use Rattle.frames.specs.Parsing.{parsed}
use Rattle.frames.specs.Decoding.{decode_answer, Decodes}
use Rattle.frames.specs.Encoding.{Call, command_of, written_entries, image_length, Encodes}
use Rattle.frames.specs.Streams.{Event, version_at, after_octets, Found, found}

-- ---- The row that is written

-- what is laid down, in a version: a heart-beat, with the 13 or without; or the first n octets of what a call of encode left in its
-- target, where n is the length that it answered
pub data Written : Type 0 where
  beat : (ver : Version) (cr : Bool) → Written
  write : (ver : Version) (k : Call) (before after : List ℕ) (n : ℕ) → Written

-- "The edition and the mark are known for each item": its version. The mark is the call's.
abbrev pub edition : Written → Version
edition (beat ver cr) = ver
edition (write ver k before after n) = ver

-- its octets, and those of a row, "laid end to end"
abbrev pub laid : Written → List ℕ
laid (beat ver cr) = end cr
laid (write ver k before after n) = take n after

abbrev pub laid_row : List Written → List ℕ
laid_row [] = []
laid_row (w ∷ ws) = laid w ++ laid_row ws

-- "accepted writes and beats, in either edition": a beat is a line end that its version has; of a write encode answered the length n,
-- and its block and body are octets
abbrev pub IsAccepted : Written → Type 0
IsAccepted (beat ver cr) = EndOk (crlf ver) cr
IsAccepted (write ver k before after n) =
    Encodes ver k before (image_length n) after × (every is_octet k.block ≡ true) × (every is_octet k.body ≡ true)

-- ---- What it means that an item is what was written

-- "Entries read are those written plus the added length line where C-16 adds it." An item that was found is the frame of a call: the
-- reply has the call's command, as many headers, and the body's start and length, of which the item's octets are the call's body; and
-- decoding the item's octets in that version, into any block, gives the entries.
pub record IsFrame (ver : Version) (k : Call) (f : Found) : Type 0 where
  pub command : Command
  pub command_is : command_of k.command ≡ some command
  pub given : List Entry
  pub given_are : entries k.block ≡ some given
  pub read : List Entry
  pub read_are : read ≡ written_entries given k.body k.counted
  pub start : ℕ
  pub replies : f.reply ≡ Complete 2 (length f.octets) (number command) (length read) start (length k.body)
  pub ends : length f.octets ≡ start + length k.body + 1
  pub body_is : take (length k.body) (drop start f.octets) ≡ k.body
  pub decodes : (before after : List ℕ) (answer : Answer) → Decodes ver f.octets before answer after
      → (answer ≡ decode_answer (length before) (some read)) × (after ≡ left_in (decode_answer (length before) (some read)) (image read) before)

-- in its version, "with exactly its octets"
abbrev pub IsWritten : Written → Found → Type 0
IsWritten (beat ver cr) f = f ≡ found ver (Complete 1 (length (end cr)) 0 0 0 0) (end cr)
IsWritten (write ver k before after n) f = (f.version ≡ ver) × (f.octets ≡ take n after) × IsFrame ver k f

-- "as that same row": as many items, each what was written there. No two rows of items are (`same_row_once`, proofs/EndToEnd.antt).
pub data SameRow : List Written → List Found → Type 0 where
  no_item : SameRow [] []
  one_more : {w : Written} {ws : List Written} {f : Found} {fs : List Found} → IsWritten w f → SameRow ws fs → SameRow (w ∷ ws) (f ∷ fs)

-- ---- How a row is read

-- by parse, one item after another, each in its version, until "nothing is left over"
pub data Judged : List Version → List ℕ → List Found → Type 0 where
  nothing_left : Judged [] [] []
  item_first : {ver : Version} {vers : List Version} {xs : List ℕ} {fs : List Found} {kind used command headers start len : ℕ}
      → parsed ver xs ≡ Complete kind used command headers start len
      → Judged vers (drop used xs) fs
      → Judged (ver ∷ vers) xs (found ver (Complete kind used command headers start len) (take used xs) ∷ fs)

-- by the stream parser: whatever pieces the octets arrive in, the version of each item is the last that is told before its first octet
abbrev pub ToldRow : Version → List Written → List Event → Type 0
ToldRow ver [] es = Unit {0}
ToldRow ver (w ∷ ws) es = (version_at ver es ≡ edition w) × ToldRow (edition w) ws (after_octets (length (laid w)) es)
