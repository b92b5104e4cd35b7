-- Parsing a stream as it arrives, piece by piece (C-13: its reader is the stream parser here, its hold the buffer, the place the
-- offset). Assumes nothing.
use Rattle.std.specs.Prelude.{◌≡◌, Bool, cond, ◌&&◌, ◌||◌, not, List, [], ◌∷◌, ◌++◌, ℕ, ◌-◌, min, length, take, drop, eqb, leb, ltb}
use Rattle.std.proofs.Math.Seq.{paste}
use Rattle.headers.specs.Rows.{any, empty}
use Rattle.frames.specs.Grammar.{v1_1, v1_2, crlf}
use Rattle.frames.specs.declared.version.Version.{Version}
use Rattle.frames.specs.Refusals.{order, numbered, no_10}
use Rattle.frames.specs.Replies.{Reply, Complete, Incomplete, Invalid}
use Rattle.frames.specs.Parsing.{parsed}
use Rattle.frames.specs.Scanning.{scan, nothing_read, scan_reply}
use Rattle.frames.specs.Validity.{is_valid}
use Rattle.frames.specs.declared.state.Scan.{Scan}

-- ---- One call

-- "a lent hold of 49,228 octets": as many as the longest item has
abbrev pub buffer_min : ℕ
buffer_min = 49228

-- What a call answers: parse's reply and how many octets of the piece it takes; or a number of its own.
pub data Feeding : Type 0 where
  replied : (reply : Reply) (taken : ℕ) → Feeding
  refused : (number : ℕ) → Feeding

-- a number of the refusal table
abbrev pub is_number : ℕ → Bool
is_number k = any (λ r. eqb k (numbered r)) order

-- a record that is refused has such a number
abbrev pub is_numbered : Scan → Bool
is_numbered st = not (eqb st.phase 16) || is_number st.code

-- the phases after a 13 that begins a line end; and a record at one of them, or refused there
abbrev pub cr_phase : ℕ → Bool
cr_phase p = eqb p 1 || (eqb p 3 || (eqb p 10 || eqb p 11))

abbrev pub after_cr : Scan → Bool
after_cr st = cr_phase st.phase || eqb st.code (numbered no_10)

-- "By the 1.1 specification the line end is octet 10 alone", "2 is never given in 1.1": whether the record is one that its
-- version can have
abbrev pub fits_version : Scan → Bool
fits_version st = st.crlf || not (after_cr st)

-- "71 unsound reader record": the rule. A record is how far the item under way is read, or the refusal that is repeated. It is valid
-- where it passes the test for states of a run, it counts at most 49,227 octets, its version can have it, no whole item is in it, and a
-- refusal's number is one of the table.
unfoldable pub is_resumable : Scan → Bool
is_resumable st =
    is_valid st
    && (leb st.at 49227 && (fits_version st && (ltb st.phase 14 || (eqb st.phase 16 && is_number st.code))))

-- a whole item is found
abbrev pub is_whole : Scan → Bool
is_whole st = eqb st.phase 14 || eqb st.phase 15

-- "Refusals, in this order, before any other and with nothing taken or changed: 70 hold shorter than 49,228, 71 unsound reader
-- record": what a call gives where neither fits, and otherwise
abbrev pub checked : {A : Type 0} → Scan → List ℕ → A → A → A → A
checked st buffer short invalid fed = cond (ltb (length buffer) buffer_min) short (cond (is_resumable st) fed invalid)

module _ (st : Scan) (buffer piece : List ℕ) where
  -- "the judge's reply and how many octets it takes": the octets that the count went on by. A refused parser stays as it is, so that
  -- it repeats the refusal and takes nothing.
  unfoldable pub feed_answer : Feeding
  feed_answer = checked st buffer (refused 70) (refused 71) (replied (scan_reply (scan st piece)) ((scan st piece).at - st.at))

  -- the record left: before the first octet of the next item where one was found
  unfoldable pub feed_state : Scan
  feed_state = checked st buffer st st (cond (is_whole (scan st piece)) (nothing_read st.crlf) (scan st piece))

  -- the buffer left: the octets taken are after those that were counted, the rest is as before. They all have room where the
  -- record was left by calls from a fresh one; otherwise as many of them as have.
  unfoldable pub feed_buffer : List ℕ
  feed_buffer = checked st buffer buffer buffer (paste buffer st.at piece (min ((scan st piece).at - st.at) (length buffer - st.at)))

-- "the piece up to the end of the item under way .., or up to the place refused, or else whole": how far m octets of an item, those
-- held and the piece, are taken, by the reply to them. That a call does so where octets are held is proofs/Feeding.antt (fed-answer,
-- fed-buffer).
abbrev pub reach : Reply → ℕ → ℕ
reach (Complete kind used command headers start len) m = used
reach Incomplete m = m
reach (Invalid k n) m = n

-- ---- The protocol version that it reads by (C-18; a fresh one reads by 1.2)

-- the version that a record reads by, and the record with another
abbrev pub version_of : Scan → Version
version_of st = cond st.crlf v1_2 v1_1

abbrev pub by_version : Version → Scan → Scan
by_version ver st = record {
  phase = st.phase;
  command = st.command;
  lines = st.lines;
  matched = st.matched;
  sized = st.sized;
  size = st.size;
  len = st.len;
  at = st.at;
  code = st.code;
  rest = st.rest;
  crlf = crlf ver;
}

-- "C-13's reader is told it between items; told inside an item, after its refusal or with an unsound record, it changes nothing": whether
-- what it is told is taken, and the record left. What that means for a stream parser that calls leave is proofs/Telling.antt.
unfoldable pub is_taken : Scan → Bool
is_taken st = is_resumable st && eqb st.phase 0

unfoldable pub tell_state : Version → Scan → Scan
tell_state ver st = cond (is_taken st) (by_version ver st) st

-- ---- Many calls: a stream in pieces, and the versions told between them

-- what a caller does: hand in a piece, or tell a version
pub data Event : Type 0 where
  arrives : List ℕ → Event
  tells : Version → Event

-- the octets of a row of events, laid end to end
abbrev pub octets_in : List Event → List ℕ
octets_in [] = []
octets_in (arrives piece ∷ es) = piece ++ octets_in es
octets_in (tells ver ∷ es) = octets_in es

-- "C-13's agreement judges each item in the edition told": the version of an item that begins with these events, the last that is told
-- before its first octet, or where none is told the version before
abbrev pub version_at : Version → List Event → Version
version_at ver [] = ver
version_at ver (arrives piece ∷ es) = cond (empty piece) (version_at ver es) ver
version_at ver (tells other ∷ es) = version_at other es

-- the events that are left after n octets; what is told among these octets, inside an item, counts no more
abbrev pub after_octets : ℕ → List Event → List Event
after_octets n [] = []
after_octets n (arrives piece ∷ es) = cond (leb n (length piece)) (arrives (drop n piece) ∷ es) (after_octets (n - length piece) es)
after_octets n (tells ver ∷ es) = cond (eqb n 0) (tells ver ∷ es) (after_octets n es)

-- an item that was found: the version it was read by, what is replied of it, and its octets
pub record Found : Type 0 where
  pub version : Version
  pub reply : Reply
  pub octets : List ℕ

abbrev pub found : Version → Reply → List ℕ → Found
found ver r xs = record { version = ver; reply = r; octets = xs }

-- how a stream ends: the octets of an item that is not whole, perhaps none; or the first refusal and the item's octets before it
pub data End : Type 0 where
  unfinished : List ℕ → End
  invalid : (number offset : ℕ) → List ℕ → End

-- "judging the whole stream one item after another", each in the version told. There is one outcome (`parses_once`,
-- proofs/Agreement.antt).
pub data Parses : Version → List Event → List Found → End → Type 0 where
  at_end : {ver : Version} {es : List Event} → parsed (version_at ver es) (octets_in es) ≡ Incomplete → Parses ver es [] (unfinished (octets_in es))
  at_refusal : {ver : Version} {es : List Event} {k n : ℕ}
      → parsed (version_at ver es) (octets_in es) ≡ Invalid k n
      → Parses ver es [] (invalid k n (take n (octets_in es)))
  at_item : {ver : Version} {es : List Event} {kind used command headers start len : ℕ} {items : List Found} {end : End}
      → parsed (version_at ver es) (octets_in es) ≡ Complete kind used command headers start len
      → Parses (version_at ver es) (after_octets used es) items end
      → Parses ver es (found (version_at ver es) (Complete kind used command headers start len) (take used (octets_in es)) ∷ items) end

-- The same by calls: pieces are handed in one after another. Where more octets are wanted the piece was taken whole; where an item is
-- found it is at the buffer's front, and what was not taken of the piece is handed in again; where octets are refused, those before
-- the offset are at the buffer's front; and at the end those of the item that is not whole. There is one outcome (`feeds_once`), and
-- it is that of parsing the whole (`agreement`).
pub data Feeds : Scan → List ℕ → List Event → List Found → End → Type 0 where
  no_event : {st : Scan} {buffer : List ℕ} → Feeds st buffer [] [] (unfinished (take st.at buffer))
  wants_more : {st : Scan} {buffer piece : List ℕ} {es : List Event} {items : List Found} {end : End}
      → feed_answer st buffer piece ≡ replied Incomplete (length piece)
      → Feeds (feed_state st buffer piece) (feed_buffer st buffer piece) es items end
      → Feeds st buffer (arrives piece ∷ es) items end
  finds_item : {st : Scan} {buffer piece : List ℕ} {es : List Event} {items : List Found} {end : End} {kind used command headers start len taken : ℕ}
      → feed_answer st buffer piece ≡ replied (Complete kind used command headers start len) taken
      → Feeds (feed_state st buffer piece) (feed_buffer st buffer piece) (arrives (drop taken piece) ∷ es) items end
      → Feeds st buffer (arrives piece ∷ es)
      (found (version_of st) (Complete kind used command headers start len) (take used (feed_buffer st buffer piece)) ∷ items) end
  refuses : {st : Scan} {buffer piece : List ℕ} {es : List Event} {k n taken : ℕ}
      → feed_answer st buffer piece ≡ replied (Invalid k n) taken
      → Feeds st buffer (arrives piece ∷ es) [] (invalid k n (take n (feed_buffer st buffer piece)))
  is_told : {st : Scan} {buffer : List ℕ} {ver : Version} {es : List Event} {items : List Found} {end : End}
      → Feeds (tell_state ver st) buffer es items end
      → Feeds st buffer (tells ver ∷ es) items end
