-- The stream parser's record as octets, and the answer of stomp_feed in one number, for C. Assumes nothing.
use Rattle.std.specs.Prelude.{Bool, true, false, cond, ◌&&◌, not, List, [], ◌∷◌, ℕ, ◌+◌, ◌*◌, ◌/◌, ◌%◌, ◌≤◌, length, get_or, eqb, leb, ltb}
use Rattle.frames.specs.Replies.{Reply, Complete, Incomplete, Invalid}
use Rattle.frames.specs.declared.state.Scan.{Scan}
use Rattle.frames.specs.declared.version.Version.{Version}
use Rattle.frames.specs.Streams.{Feeding, replied, refused, is_taken, tell_state}

-- ---- The record: 16 octets, all 0 before the first octet of a stream

-- 1 for yes
abbrev pub mark : Bool → ℕ
mark true = 1
mark false = 0

-- phase, command, lines, octets matched, whether a length is declared, number, then two octets each, high first: length, octets of
-- the line or body, octets of the item; the protocol version, 0 for 1.2 and 1 for 1.1; one that is 0, how far a character is read, and
-- one that is 0
unfoldable pub record_of : Scan → List ℕ
record_of st =
    st.phase ∷ st.command % 256 ∷ st.lines % 256 ∷ st.matched % 256 ∷ mark st.sized ∷ st.code % 256
    ∷ st.size / 256 % 256 ∷ st.size % 256 ∷ st.len / 256 % 256 ∷ st.len % 256 ∷ st.at / 256 % 256 ∷ st.at % 256
    ∷ mark (not st.crlf) ∷ 0 ∷ st.rest ∷ 0 ∷ []

-- which octets are such a record
unfoldable pub is_record : List ℕ → Bool
is_record xs =
    eqb (length xs) 16
    && (leb (get_or xs 4 0) 1 && (leb (get_or xs 12 0) 1 && (eqb (get_or xs 13 0) 0 && eqb (get_or xs 15 0) 0)))

abbrev pub pair_at : List ℕ → ℕ → ℕ
pair_at xs i = get_or xs i 0 * 256 + get_or xs (i + 1) 0

abbrev pub fields : List ℕ → Scan
fields xs =
    record {
      phase = get_or xs 0 0;
      command = get_or xs 1 0;
      lines = get_or xs 2 0;
      matched = get_or xs 3 0;
      sized = eqb (get_or xs 4 0) 1;
      code = get_or xs 5 0;
      size = pair_at xs 6;
      len = pair_at xs 8;
      at = pair_at xs 10;
      rest = get_or xs 14 0;
      crlf = eqb (get_or xs 12 0) 0;
    }

-- other octets count as a record of no known phase, which 71 refuses
abbrev pub no_record : Scan
no_record = record {
  phase = 255;
  command = 0;
  lines = 0;
  matched = 0;
  sized = false;
  size = 0;
  len = 0;
  at = 0;
  code = 0;
  rest = 0;
  crlf = true;
}

unfoldable pub read_record : List ℕ → Scan
read_record xs = cond (is_record xs) (fields xs) no_record

-- the record after a call: as before where it is refused with a number of its own
abbrev pub record_left : Feeding → Scan → List ℕ → List ℕ
record_left (replied r n) st before = record_of st
record_left (refused k) st before = before

-- the record after a version is told: as before where that is not taken
unfoldable pub told_record : Version → List ℕ → List ℕ
told_record ver before = cond (is_taken (read_record before)) (record_of (tell_state ver (read_record before))) before

-- ---- The answer in one number: the kind of the reply, the octets taken, and the reply's numbers. Of a frame its length is left out:
-- it is the body's start, the body's length and 1, added up. 70 and 71 are refusals at offset 0 with nothing taken.
abbrev pub packed_taken : Reply → ℕ → ℕ
packed_taken (Complete kind used command headers start len) n =
    cond (eqb kind 1) (1 + 4 * (n + 65536 * used)) (2 + 4 * (n + 65536 * (command % 16 + 16 * (headers + 64 * (start + 65536 * len)))))
packed_taken Incomplete n = 4 * n
packed_taken (Invalid k at) n = 3 + 4 * (n + 65536 * (k % 256 + 256 * at))

abbrev pub packed_feed : Feeding → ℕ
packed_feed (replied r n) = packed_taken r n
packed_feed (refused k) = packed_taken (Invalid k 0) 0

-- its fields read back
abbrev pub unpacked_item : ℕ → ℕ → Feeding
unpacked_item n a =
    replied (Complete 2 (a / 16 / 64 % 65536 + a / 16 / 64 / 65536 + 1) (a % 16) (a / 16 % 64) (a / 16 / 64 % 65536) (a / 16 / 64 / 65536)) n

abbrev pub unpacked_refusal : ℕ → ℕ → ℕ → Feeding
unpacked_refusal n k at = cond (ltb k 70) (replied (Invalid k at) n) (refused k)

abbrev pub unpacked_feed : ℕ → Feeding
unpacked_feed p =
    cond (eqb (p % 4) 0) (replied Incomplete (p / 4))
    (cond (eqb (p % 4) 1) (replied (Complete 1 (p / 4 / 65536) 0 0 0 0) (p / 4 % 65536))
    (cond (eqb (p % 4) 2) (unpacked_item (p / 4 % 65536) (p / 4 / 65536))
    (unpacked_refusal (p / 4 % 65536) (p / 4 / 65536 % 256) (p / 4 / 65536 / 256))))

-- numbers so small that the sum fits
abbrev pub Packable : Reply → Type 0
Packable (Complete kind used command headers start len) = (used ≤ 70000) × (headers ≤ 32) × (start ≤ 70000) × (len ≤ 32768)
Packable Incomplete = Unit {0}
Packable (Invalid k at) = at ≤ 70000
