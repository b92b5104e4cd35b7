-- Document 01's examples P1 to P13, in its order, then those of the requests of document 02, and what each of them claims. That all
-- hold is proofs/Examples.antt.
-- Assumes nothing.
use Rattle.std.specs.Prelude.{◌≡◌, Bool, true, false, List, [], ◌∷◌, ◌++◌, ℕ, take, drop}
use Rattle.std.proofs.Math.Option.{Option, none, some}
use Prim.Native.String.{String}
use Rattle.headers.specs.Rows.{All, octets_of}
use Rattle.headers.specs.Block.{Entry}
use Rattle.headers.specs.Answers.{accepted, find_answer}
use Rattle.frames.specs.Grammar.{Tree, v1_1, v1_2}
use Rattle.frames.specs.Answers.{version_in, is_counted}
use Rattle.frames.specs.declared.version.Version.{Version}
use Rattle.frames.specs.Replies.{Reply, Complete, Incomplete, Invalid}
use Rattle.frames.specs.Parsing.{parsed}
use Rattle.frames.specs.Exactness.{Exact}
use Rattle.frames.specs.Decoding.{decode_answer, decoded_records, tree_entries, Reading}
use Rattle.frames.specs.Encoding.{Call, encode_answer, encode_image}

-- An example: its label, the protocol version, octets, and what parsing them replies. Where the documents say it, also the header block that
-- they decode to and its length; the images that the frame is encoded to again, not counted (false) or counted (true, C-16), and
-- their lengths; a header's name, its value in the block and how many later entries have the name (C-19).
pub record Example : Type 0 where
  pub label : String
  pub version : Version
  pub input : List ℕ
  pub reply : Reply
  pub block : Option (ℕ × List ℕ)
  pub images : List (Bool × ℕ × List ℕ)
  pub looked_up : Option (List ℕ × List ℕ × ℕ)

-- an example of parsing alone, in a version; with a header's value too
abbrev parses_in : Version → String → List ℕ → Reply → Example
parses_in ver label input reply =
    record { label = label; version = ver; input = input; reply = reply; block = none; images = []; looked_up = none }

abbrev parses : String → List ℕ → Reply → Example
parses label input reply = parses_in v1_2 label input reply

-- an example of version 1.1
abbrev parses_1_1 : String → List ℕ → Reply → Example
parses_1_1 label input reply = parses_in v1_1 label input reply

abbrev with_octets : String → List ℕ → ℕ → Example → Example
with_octets name value later e =
    record {
      label = e.label;
      version = e.version;
      input = e.input;
      reply = e.reply;
      block = e.block;
      images = e.images;
      looked_up = some (octets_of name, value, later);
    }

abbrev finding : String → String → Example → Example
finding name value e = with_octets name (octets_of value) 0 e

abbrev overwritten : String → String → ℕ → Example → Example
overwritten name value later e = with_octets name (octets_of value) later e

unfoldable pub examples : List Example
examples =
    parses "P1" [] Incomplete ∷
    parses "P2" (octets_of "\n") (Complete 1 1 0 0 0 0) ∷
    parses "P3" (octets_of "\r\n") (Complete 1 2 0 0 0 0) ∷
    parses "P4" (octets_of "\rS") (Invalid 2 1) ∷
    parses "P5" (octets_of "SENT") (Invalid 1 3) ∷
    record {
      label = "P6";
      version = v1_2;
      input = octets_of "SEND\ndestination:/p\n\nok\0";
      reply = Complete 2 24 12 1 21 2;
      block = some (19, 72 ∷ 68 ∷ 0 ∷ 11 ∷ 0 ∷ 2 ∷ octets_of "destination/p");
      images =
          (false, 24, octets_of "SEND\ndestination:/p\n\nok\0") ∷
          (true, 41, octets_of "SEND\ndestination:/p\ncontent-length:2\n\nok\0") ∷
          [];
      looked_up = none;
    } ∷
    finding "id" "a:b" (parses "P7" (octets_of "ACK\nid:a\\cb\n\n\0") (Complete 2 14 2 1 13 0)) ∷
    parses "P8" (octets_of "ACK\nid:a\\t") (Invalid 10 9) ∷
    parses "P9" (octets_of "ACK\n\nx") (Invalid 7 5) ∷
    parses "P10" (octets_of "SEND\ncontent-length:1\n\n\0\0") (Complete 2 25 12 1 23 1) ∷
    parses "P11" (octets_of "SEND\ncontent-length:32769") (Invalid 6 24) ∷
    parses "P12" (octets_of "ACK\ncontent-length:1") (Invalid 6 19) ∷
    overwritten "run" "b" 1 (parses "P13" (octets_of "MESSAGE\nrun:b\nrun:a\n\n\0") (Complete 2 22 9 2 21 0)) ∷
    parses "C-11, empty name" (octets_of "ACK\n:") (Invalid 3 4) ∷
    parses "C-11, second colon" (octets_of "ACK\na:b:") (Invalid 8 7) ∷
    parses "C-11, second colon in a content-length" (octets_of "SEND\ncontent-length:1:") (Invalid 8 21) ∷
    parses "C-11, line end before the colon" (octets_of "ACK\na\n") (Invalid 9 5) ∷
    parses "C-11, 13 before the colon" (octets_of "ACK\na\r") (Invalid 9 5) ∷
    parses "C-11, escape of a colon before the colon" (octets_of "ACK\na\\:") (Invalid 10 6) ∷
    parses "C-11, escape of a colon after it" (octets_of "ACK\nid:a\\:") (Invalid 10 9) ∷
    parses "C-11, escape cut before the colon" (octets_of "ACK\na\\\n") (Invalid 10 6) ∷
    parses "C-11, escape cut by 13" (octets_of "ACK\nid:\\\r") (Invalid 10 8) ∷
    finding "passcode" "a:b:" (parses "C-12, colons in CONNECT" (octets_of "CONNECT\npasscode:a:b:\n\n\0") (Complete 2 24 5 1 23 0)) ∷
    finding "session" ":" (parses "C-12, a colon alone in CONNECTED" (octets_of "CONNECTED\nsession::\n\n\0") (Complete 2 22 6 1 21 0)) ∷
    parses "C-12, a second colon in STOMP" (octets_of "STOMP\npasscode:a:") (Invalid 8 16) ∷
    parses "C-12, empty name in CONNECT" (octets_of "CONNECT\n:") (Invalid 3 8) ∷
    parses "C-12, colon after a content-length" (octets_of "CONNECT\ncontent-length:0:") (Invalid 6 24) ∷
    with_octets "id" (195 ∷ 169 ∷ []) 0 (parses "C-17, two octets" (octets_of "ACK\nid:" ++ (195 ∷ 169 ∷ octets_of "\n\n\0")) (Complete 2 12 2 1 11 0)) ∷
    with_octets "id" (226 ∷ 130 ∷ 172 ∷ []) 0 (parses "C-17, three octets" (octets_of "ACK\nid:" ++ (226 ∷ 130 ∷ 172 ∷ octets_of "\n\n\0")) (Complete 2 13 2 1 12 0)) ∷
    with_octets "id" (240 ∷ 159 ∷ 140 ∷ 138 ∷ []) 0
    (parses "C-17, four octets" (octets_of "ACK\nid:" ++ (240 ∷ 159 ∷ 140 ∷ 138 ∷ octets_of "\n\n\0")) (Complete 2 14 2 1 13 0)) ∷
    parses "C-17, a character that is not whole" (octets_of "ACK\nid:" ++ (226 ∷ 130 ∷ [])) Incomplete ∷
    parses "C-17, a cut character" (octets_of "ACK\nid:" ++ (195 ∷ octets_of "\n")) (Invalid 11 8) ∷
    parses "C-17, an octet of no character" (octets_of "ACK\nid:" ++ (255 ∷ [])) (Invalid 11 7) ∷
    parses "C-17, a tail alone, in a name" (octets_of "ACK\n" ++ (128 ∷ [])) (Invalid 11 4) ∷
    parses "C-17, longer than it need be" (octets_of "ACK\nid:" ++ (224 ∷ 159 ∷ [])) (Invalid 11 8) ∷
    parses "C-17, half of a surrogate pair" (octets_of "ACK\nid:" ++ (237 ∷ 160 ∷ [])) (Invalid 11 8) ∷
    parses "C-17, beyond U+10FFFF" (octets_of "ACK\nid:" ++ (244 ∷ 144 ∷ [])) (Invalid 11 8) ∷
    parses "C-17, no character after a backslash" (octets_of "ACK\nid:\\" ++ (255 ∷ [])) (Invalid 11 8) ∷
    parses "C-17, a character after a backslash" (octets_of "ACK\nid:\\" ++ (195 ∷ [])) (Invalid 10 8) ∷
    parses "C-17, no character after 13" (octets_of "ACK\r" ++ (255 ∷ [])) (Invalid 2 4) ∷
    parses "C-17, no character in a content-length" (octets_of "SEND\ncontent-length:" ++ (255 ∷ [])) (Invalid 11 20) ∷
    parses "C-17, a character in a content-length" (octets_of "SEND\ncontent-length:" ++ (195 ∷ [])) (Invalid 6 20) ∷
    parses "C-17, a body is not checked" (octets_of "SEND\n\n" ++ (255 ∷ 0 ∷ [])) (Complete 2 8 12 0 6 1) ∷
    parses_1_1 "C-18, nothing" [] Incomplete ∷
    parses_1_1 "C-18, a heart-beat" (octets_of "\n") (Complete 1 1 0 0 0 0) ∷
    parses_1_1 "C-18, 13 first" (octets_of "\r") (Invalid 1 0) ∷
    parses_1_1 "C-18, 13 10 is no heart-beat" (octets_of "\r\n") (Invalid 1 0) ∷
    parses_1_1 "C-18, 13 after a command" (octets_of "ACK\r\n") (Invalid 1 3) ∷
    parses_1_1 "C-18, an empty line with 13" (octets_of "ACK\n\r\n") (Invalid 9 5) ∷
    parses_1_1 "C-18, 13 after the value of a content-length" (octets_of "SEND\ncontent-length:1\r\n") (Invalid 6 21) ∷
    parses_1_1 "C-18, 13 after a backslash" (octets_of "ACK\nid:\\\r") (Invalid 10 8) ∷
    parses_1_1 "C-18, the escape of 13" (octets_of "ACK\nid:a\\r") (Invalid 10 9) ∷
    finding "id" "\n:\\" (parses_1_1 "C-18, the other escapes" (octets_of "ACK\nid:\\n\\c\\\\\n\n\0") (Complete 2 16 2 1 15 0)) ∷
    finding "\r" "\r" (parses_1_1 "C-18, 13 alone as name and value" (octets_of "ACK\n\r:\r\n\n\0") (Complete 2 10 2 1 9 0)) ∷
    finding "message-id" "7\r" (parses_1_1 "C-18, ACK by subscription and message-id"
    (octets_of "ACK\nsubscription:0\nmessage-id:7\r\n\n\0") (Complete 2 35 2 2 34 0)) ∷
    finding "passcode" "a:\r" (parses_1_1 "C-18, a colon and 13 in CONNECT" (octets_of "CONNECT\npasscode:a:\r\n\n\0") (Complete 2 23 5 1 22 0)) ∷
    record {
      label = "C-18, a raw 13 is written back";
      version = v1_1;
      input = octets_of "SEND\ndestination:/p\r\n\nok\0";
      reply = Complete 2 25 12 1 22 2;
      block = some (20, 72 ∷ 68 ∷ 0 ∷ 11 ∷ 0 ∷ 3 ∷ octets_of "destination/p\r");
      images =
          (false, 25, octets_of "SEND\ndestination:/p\r\n\nok\0") ∷
          (true, 42, octets_of "SEND\ndestination:/p\r\ncontent-length:2\n\nok\0") ∷
          [];
      looked_up = none;
    } ∷
    parses "C-18, the same octets in version 1.2" (octets_of "SEND\ndestination:/p\r\n\nok\0") (Complete 2 25 12 1 22 2) ∷
    []

-- ---- What an example claims

-- what is claimed of a value; nothing where there is none
abbrev pub Given : {A : Type 0} → Option A → (A → Type 0) → Type 0
Given none P = Unit {0}
Given (some a) P = P a

-- its header block: decoding the entries into n octets answers n, and the records are xs
abbrev pub DecodesTo : Option (List Entry) → ℕ × List ℕ → Type 0
DecodesTo es (n, xs) = (decode_answer n es ≡ accepted (n ∷ [])) × (decoded_records es ≡ xs)

-- "Written again": encoding a call into n octets answers n, and the image is xs
abbrev pub EncodesTo : Version → Call → ℕ × List ℕ → Type 0
EncodesTo ver k (n, xs) = (encode_answer ver k n ≡ accepted (n ∷ [])) × (encode_image ver k ≡ xs)

-- the same of the call with the reply's command, the block, the body that the reply's numbers cut from the input, counted or not
abbrev pub EncodesAgain : Version → List ℕ → Reply → List ℕ → Bool × ℕ × List ℕ → Type 0
EncodesAgain ver input (Complete kind used command headers start len) block (counted, n, xs) =
    EncodesTo ver (record { command = command; block = block; body = take len (drop start input); counted = counted }) (n, xs)
EncodesAgain ver input Incomplete block (counted, n, xs) = ⊥
EncodesAgain ver input (Invalid number offset) block (counted, n, xs) = ⊥

-- looking the name up in the block gives the start and length of the value there
abbrev pub Finds : List ℕ → List ℕ × List ℕ × ℕ → Type 0
Finds block (name, value, later) =
    (start : ℕ) × (len : ℕ) × (find_answer block name ≡ accepted (start ∷ len ∷ later ∷ [])) × (take len (drop start block) ≡ value)

-- Parsing the input gives the reply, the reply is exact, and of the input's parse tree holds what the example says further. Where the
-- input is no item, tree is none.
pub record Holds (e : Example) : Type 0 where
  pub parses : parsed e.version e.input ≡ e.reply
  pub exactly : Exact e.version e.input e.reply
  pub tree : Option Tree
  pub reading : Reading e.version e.input tree
  pub decodes : Given e.block (DecodesTo (tree_entries e.version tree))
  pub encodes : All (EncodesAgain e.version e.input e.reply (decoded_records (tree_entries e.version tree))) e.images
  pub finds : Given e.looked_up (Finds (decoded_records (tree_entries e.version tree)))

-- ---- The options of the calls for C

-- The bit of value 1 asks for a length line (C-16), that of value 2 for version 1.1 (C-18); the others are not looked at.
pub record Options : Type 0 where
  pub none_set : (version_in 0 ≡ v1_2) × (is_counted 0 ≡ false)
  pub counted_set : (version_in 1 ≡ v1_2) × (is_counted 1 ≡ true)
  pub version_set : (version_in 2 ≡ v1_1) × (is_counted 2 ≡ false)
  pub both_set : (version_in 3 ≡ v1_1) × (is_counted 3 ≡ true)
  pub another_set : (version_in 4 ≡ v1_2) × (is_counted 4 ≡ false)
  pub all_set : (version_in 4294967295 ≡ v1_1) × (is_counted 4294967295 ≡ true)
