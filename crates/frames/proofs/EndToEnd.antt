-- Accepted writes and beats, laid end to end, are read as the row that was written, nothing left over (document 02, C-23). Assumes
-- nothing.
--     laid_out         by parse, one item after another
--     fed_back         by a fresh stream parser that is told each item's version, whatever pieces the octets arrive in
--     told_each        events that tell so: for each item its version, then its octets
--     judged_once      parsing one item after another has one outcome
--     same_row_once    no two rows of items are what was written
--     decoded_row      of a write at any place, what the reply says is the body, and what decoding gives
use mathlib.Core.Path.{◌≡◌, refl, sym, ◌∙◌, ap, ap₂, subst}
use mathlib.Core.Bool.{Bool, true, false}
use mathlib.Core.Option.{some}
use mathlib.Core.List.{List, [], ◌∷◌, ◌++◌, map, append-nil}
use Prim.Native.Nat.{ℕ, suc, ◌+◌, ◌-◌, ◌≤◌, ◌<◌}
use native.Mathlib.Omega.{arith}
use lib.ListN.{length, take, drop, get_or, length-append}
use lib.Seq.{take_at, take-append_seam, drop-append_seam, drop-append-le, drop-length, drop-nil}
use lib.Dec.{leb, eqb}
use borrow.Author.Tests.{leb-true, leb-false, eqb-true}
use Rattle.headers.specs.Rows.{All, every, is_octet}
use Rattle.headers.specs.Block.{Entry, entries}
use Rattle.headers.specs.Answers.{Answer, accepted, refused, left_in}
use Rattle.headers.proofs.Rows.{cond_case, every_append}
use Rattle.frames.specs.Grammar.{Command, number, word, style, end, head, heart_beat, frame, octets}
use Rattle.frames.specs.declared.version.Version.{Version}
use Rattle.frames.specs.Replies.{Reply, Complete, Incomplete, Invalid}
use Rattle.frames.specs.Parsing.{parsed}
use Rattle.frames.specs.Decoding.{Decodes}
use Rattle.frames.specs.Encoding.{Call, command_of, written_entries, written_lines, frame_image, encode_answer, encode_image}
use Rattle.frames.specs.Encoding.{image_length, indexed, encode_index, Encodes}
use Rattle.frames.specs.Streams.{Event, arrives, tells, octets_in, version_at, after_octets, Found, found, unfinished}
use Rattle.frames.specs.Streams.{Parses, at_end, at_item, Feeds}
use Rattle.frames.specs.EndToEnd.{Written, beat, write, edition, laid, laid_row, IsAccepted, IsFrame, IsWritten}
use Rattle.frames.specs.EndToEnd.{SameRow, no_item, one_more, Judged, nothing_left, item_first, ToldRow}
use Rattle.frames.proofs.Images.{image_head, image_octets, image_told, encoded_call, encoded_reading}
use Rattle.frames.proofs.RoundTrips.{Gives, parsed_reading, parsed_image, decoded_image}
use Rattle.frames.proofs.Unique.{body_back}
use Rattle.frames.proofs.Feeding.{none_read, none_more, parsed_more}
use Rattle.frames.proofs.Agreement.{after_beyond, after_inside, after_told, rest_of, agreement, parses_once}

-- ---- what encode wrote is the frame of the call

-- where the body of an image starts; it is cut there, and octet 0 ends it
module _ (ver : Version) (c : Command) (es : List Entry) (body : List ℕ) (counted : Bool) where
  abbrev body_start : ℕ
  body_start = length (word c) + length (written_lines (style ver c) (written_entries es body counted)) + 2

  image_ends : length (frame_image ver c es body counted) ≡ body_start + length body + 1
  image_ends = simp length-append (omega arith)

  image_body : take (length body) (drop body_start (frame_image ver c es body counted)) ≡ body
  image_body =
      let h = image_head ver c es body counted in
      let numbers = image_told ver c es body counted in
      let start : length (head h ++ end false) ≡ body_start = cc in
      let whole = append-nil (octets (frame h false body)) ∙ image_octets ver c es body counted in
      sym (ap₂ (λ m z. take (length body) (drop m z)) start whole) ∙ body_back ver h false body []

module _ (ver : Version) (k : Call) (room : ℕ) (values : List ℕ) (a : encode_answer ver k room ≡ accepted values)
    (o : every is_octet k.block ≡ true) (p : every is_octet k.body ≡ true) where
  image_frame : IsFrame ver k (found ver (parsed ver (encode_image ver k)) (encode_image ver k))
  image_frame =
      let call = encoded_call ver k room values a in
      let (c, es) : Command × List Entry = (call.command, call.all_entries) in
      record {
        command = c;
        command_is = call.command_is;
        given = es;
        given_are = call.entries_are;
        read = written_entries es k.body k.counted;
        read_are = refl;
        start = body_start ver c es k.body k.counted;
        replies = parsed_image ver k room values a o p;
        ends = rw call.image_is (image_ends ver c es k.body k.counted);
        body_is = rw call.image_is (image_body ver c es k.body k.counted);
        decodes = λ before after answer d. decoded_image ver k room values a o p d;
      }

  image_of_octets : every is_octet (encode_image ver k) ≡ true
  image_of_octets = let r = encoded_reading ver k room values (encoded_call ver k room values a) o p in rw r.1 at r.0.1

-- of a call that answered a length, as many octets of the target are the image
pub record Image (ver : Version) (k : Call) (before after : List ℕ) (n : ℕ) : Type 0 where
  pub values : List ℕ
  pub answer : encode_answer ver k (length before) ≡ accepted values
  pub is : take n after ≡ encode_image ver k

image_laid : (ver : Version) (k : Call) (before after : List ℕ) (n : ℕ) → Encodes ver k before (image_length n) after → Image ver k before after n
image_laid ver k before after n x = by (encode_answer ver k (length before)) refl x.answered x.written
  where
    by : (a : Answer) → encode_answer ver k (length before) ≡ a → image_length n ≡ indexed a (encode_index ver k)
        → after ≡ left_in a (encode_image ver k) before → Image ver k before after n
    by (accepted values) q e f =
        let first : n ≡ get_or values 0 0 = cc in
        let long = first ∙ ap (λ v. get_or v 0 0) (encoded_call ver k (length before) values q).values_are in
        record { values = values; answer = q; is = ap (take n) f ∙ take_at (encode_image ver k) _ n (sym long) }
    by (refused m) q e f = let y : ◌≡◌ {A = ℕ} 0 1 = cc in absurd (omega arith)

-- ---- what is laid down is one item, and is what was written

-- the item: what parse replies to its octets alone
abbrev item : Written → Found
item w = found (edition w) (parsed (edition w) (laid w)) (laid w)

pub record Read (w : Written) : Type 0 where
  pub kind : ℕ
  pub command : ℕ
  pub headers : ℕ
  pub start : ℕ
  pub len : ℕ
  pub replies : parsed (edition w) (laid w) ≡ Complete kind (length (laid w)) command headers start len
  pub of_octets : every is_octet (laid w) ≡ true
  pub is : IsWritten w (item w)

reads : (w : Written) → IsAccepted w → Read w
reads (beat ver cr) a =
    record { kind = 1; command = 0; headers = 0; start = 0; len = 0; replies = reply; of_octets = small cr; is = ap (λ r. found ver r (end cr)) reply }
  where
    small : (cr : Bool) → every is_octet (end cr) ≡ true
    small true = refl
    small false = refl

    reply : parsed ver (end cr) ≡ Complete 1 (length (end cr)) 0 0 0 0
    reply = parsed_reading ver (end cr) (heart_beat cr) ((a, small cr), refl)
reads (write ver k before after n) (x, o, p) =
    let i = image_laid ver k before after n x in
    let small = image_of_octets ver k (length before) i.values i.answer o p in
    let f : IsFrame ver k (item (write ver k before after n)) =
    subst (λ xs. IsFrame ver k (found ver (parsed ver xs) xs)) (sym i.is) (image_frame ver k (length before) i.values i.answer o p) in
    record {
      kind = 2;
      command = number f.command;
      headers = length f.read;
      start = f.start;
      len = length k.body;
      replies = f.replies;
      of_octets = ap (every is_octet) i.is ∙ small;
      is = (refl, refl, f);
    }

module _ {w : Written} (r : Read w) where
  abbrev reply : Reply
  reply = Complete r.kind (length (laid w)) r.command r.headers r.start r.len

  -- octets behind it change nothing
  reply_first : (rest : List ℕ) → parsed (edition w) (laid w ++ rest) ≡ reply
  reply_first rest =
      let never : parsed (edition w) (laid w) ≡ Incomplete → ⊥ = λ e. let f = r.replies in let y : ◌≡◌ {A = ℕ} 0 1 = cc in omega arith in
      parsed_more (edition w) (laid w) rest never ∙ r.replies

  item_is : {ver : Version} {xs : List ℕ} → ver ≡ edition w → xs ≡ laid w → found ver reply xs ≡ item w
  item_is v e = λ i. found (v i) (sym r.replies i) (e i)

  -- it has an octet
  some_octet : 0 < length (laid w)
  some_octet = by (laid w) r.replies
    where
      by : (xs : List ℕ) → parsed (edition w) xs ≡ reply → 0 < length xs
      by [] e = let f = none_more (edition w) in let y : ◌≡◌ {A = ℕ} 0 1 = cc in absurd (omega arith)
      by (x ∷ xs) e = omega arith

same_row : (row : List Written) → All IsAccepted row → SameRow row (map item row)
same_row [] a = no_item
same_row (w ∷ row) (a, rest) = one_more (reads w a).is (same_row row rest)

-- ---- by parse

judged_row : (row : List Written) → All IsAccepted row → Judged (map edition row) (laid_row row) (map item row)
judged_row [] a = nothing_left
judged_row (w ∷ row) (a, rest) =
    let r = reads w a in
    let behind = subst (λ z. Judged (map edition row) z (map item row)) (sym (drop-append_seam (laid w) (laid_row row))) (judged_row row rest) in
    subst (λ f. Judged (map edition (w ∷ row)) (laid_row (w ∷ row)) (f ∷ map item row)) (item_is r refl (take-append_seam (laid w) (laid_row row)))
    (item_first (reply_first r (laid_row row)) behind)

-- "the images laid end to end must be judged and unpacked as that same row, each item with exactly its octets, nothing left over"
pub laid_out : (row : List Written) → All IsAccepted row → (items : List Found) × Judged (map edition row) (laid_row row) items × SameRow row items
laid_out row a = (map item row, judged_row row a, same_row row a)

-- there is one outcome
pub judged_once : {vers : List Version} {xs : List ℕ} {fs gs : List Found} → Judged vers xs fs → Judged vers xs gs → fs ≡ gs
judged_once nothing_left nothing_left = refl
judged_once (item_first {vers = vers} {xs = xs} {fs = is} {used = u} e p) (item_first {fs = js} {used = v} f q) =
    let same : v ≡ u = cc in
    let a : is ≡ js = judged_once p (subst (λ n. Judged vers (drop n xs) js) same q) in
    cc

-- ---- by the stream parser

-- the octets that are left after some
octets_after : (n : ℕ) (es : List Event) → octets_in (after_octets n es) ≡ drop n (octets_in es)
octets_after n [] = sym (drop-nil n)
octets_after n (arrives piece ∷ es) =
    cond_case (λ z. octets_in z ≡ drop n (piece ++ octets_in es)) (leb n (length piece))
    (λ t. sym (drop-append-le n piece (octets_in es) (leb-true n (length piece) t)))
    (λ t. octets_after (n - length piece) es ∙ sym (rest_of piece (octets_in es) n (omega (arith, leb-false n (length piece) t))))
octets_after n (tells ver ∷ es) =
    cond_case (λ z. octets_in z ≡ drop n (octets_in es)) (eqb n 0) (λ t. rw (eqb-true n 0 t)) (λ t. octets_after n es)

-- each item is parsed in the version told before its first octet
parses_row : (row : List Written) → All IsAccepted row → (ver : Version) (es : List Event) → octets_in es ≡ laid_row row → ToldRow ver row es
    → Parses ver es (map item row) (unfinished [])
parses_row [] a ver es e t =
    let reply = ap (parsed (version_at ver es)) e ∙ none_more (version_at ver es) in
    subst (λ z. Parses ver es [] (unfinished z)) e (at_end {ver = ver} {es = es} reply)
parses_row (w ∷ row) (a, rest) ver es e (v, t) =
    let r = reads w a in
    let n = length (laid w) in
    let left : octets_in (after_octets n es) ≡ laid_row row = octets_after n es ∙ ap (drop n) e ∙ drop-append_seam (laid w) (laid_row row) in
    let others = parses_row row rest (edition w) (after_octets n es) left t in
    let behind = subst (λ z. Parses z (after_octets n es) (map item row) (unfinished [])) (sym v) others in
    subst (λ f. Parses ver es (f ∷ map item row) (unfinished [])) (item_is r v (ap (take n) e ∙ take-append_seam (laid w) (laid_row row)))
    (at_item (ap₂ parsed v e ∙ reply_first r (laid_row row)) behind)

row_octets : (row : List Written) → All IsAccepted row → every is_octet (laid_row row) ≡ true
row_octets [] a = refl
row_octets (w ∷ row) (a, rest) = every_append is_octet (laid w) (laid_row row) (reads w a).of_octets (row_octets row rest)

-- The same by a fresh stream parser, whatever pieces the octets arrive in, that is told the version of each item before its first octet:
-- "The edition and the mark are known for each item."
pub fed_back : (row : List Written) → All IsAccepted row → (ver : Version) (buffer : List ℕ) (es : List Event) → 49228 ≤ length buffer
    → octets_in es ≡ laid_row row → ToldRow ver row es
    → (items : List Found) × Feeds (none_read ver) buffer es items (unfinished []) × SameRow row items
fed_back row a ver buffer es room e t =
    let (items, last, feeds, q) = agreement ver buffer es room (ap (every is_octet) e ∙ row_octets row a) in
    let (i, d) = parses_once q (parses_row row a ver es e t) in
    (map item row, subst (Feeds (none_read ver) buffer es (map item row)) d (subst (λ z. Feeds (none_read ver) buffer es z last) i feeds), same_row row a)

-- ---- events that tell each version

-- for each item its version is told, and then its octets arrive in one piece
abbrev pub one_by_one : List Written → List Event
one_by_one [] = []
one_by_one (w ∷ ws) = tells (edition w) ∷ arrives (laid w) ∷ one_by_one ws

each_octets : (row : List Written) → octets_in (one_by_one row) ≡ laid_row row
each_octets [] = refl
each_octets (w ∷ row) = ap (laid w ++◌) (each_octets row)

-- a row with an empty piece before it tells the same
told_later : (row : List Written) → All IsAccepted row → (ver : Version) (es : List Event) → ToldRow ver row es → ToldRow ver row (arrives [] ∷ es)
told_later [] a ver es t = tt
told_later (w ∷ row) (a, rest) ver es (v, t) =
    let n = length (laid w) in
    let all : n - 0 ≡ n = omega arith in
    let passed = after_beyond [] es n (some_octet (reads w a)) ∙ ap (λ m. after_octets m es) all in
    (v, subst (ToldRow (edition w) row) (sym passed) t)

-- what is told first of one item, and what is left behind it
begins_told : (ver : Version) (xs : List ℕ) (es : List Event) → 0 < length xs
    → (version_at ver (tells ver ∷ arrives xs ∷ es) ≡ ver) × (after_octets (length xs) (tells ver ∷ arrives xs ∷ es) ≡ arrives [] ∷ es)
begins_told ver [] es h = absurd (omega arith)
begins_told ver (x ∷ xs) es h =
    let n = length (x ∷ xs) in
    (refl, after_told ver (arrives (x ∷ xs) ∷ es) n h ∙ after_inside (x ∷ xs) es n (omega arith) ∙ ap (λ z. arrives z ∷ es) (drop-length (x ∷ xs)))

each_told : (row : List Written) → All IsAccepted row → (ver : Version) → ToldRow ver row (one_by_one row)
each_told [] a ver = tt
each_told (w ∷ row) (a, rest) ver =
    let (v, left) = begins_told (edition w) (laid w) (one_by_one row) (some_octet (reads w a)) in
    (v, subst (ToldRow (edition w) row) (sym left) (told_later row rest (edition w) (one_by_one row) (each_told row rest (edition w))))

-- so `fed_back` has such events for every row
pub told_each : (row : List Written) (ver : Version)
    → (octets_in (one_by_one row) ≡ laid_row row) × (All IsAccepted row → ToldRow ver row (one_by_one row))
told_each row ver = (each_octets row, λ a. each_told row a ver)

-- ---- what was written fixes the items

-- the reply to octets that are a frame, by the call
abbrev pub reply_of : Call → Command → List Entry → List ℕ → Reply
reply_of k c es xs =
    Complete 2 (length xs) (number c) (length (written_entries es k.body k.counted)) (length xs - length k.body - 1) (length k.body)

module _ {ver : Version} {k : Call} {f : Found} {es : List Entry} (x : IsFrame ver k f) (q : entries k.block ≡ some es) where
  -- "Entries read are those written plus the added length line where C-16 adds it."
  frame_entries : x.read ≡ written_entries es k.body k.counted
  frame_entries = let given : x.given ≡ es = cc (x.given_are, q) in x.read_are ∙ ap (λ z. written_entries z k.body k.counted) given

  frame_reply : {c : Command} → command_of k.command ≡ some c → f.reply ≡ reply_of k c es f.octets
  frame_reply {c} p =
      let command : x.command ≡ c = cc (x.command_is, p) in
      let start : x.start ≡ length f.octets - length k.body - 1 = omega (arith, x.ends) in
      x.replies ∙ (λ i. Complete 2 (length f.octets) (number (command i)) (length (frame_entries i)) (start i) (length k.body))

written_once : (w : Written) {f g : Found} → IsWritten w f → IsWritten w g → f ≡ g
written_once (beat ver cr) x y = x ∙ sym y
written_once (write ver k before after n) {f} {g} (v, o, x) (u, p, y) =
    let same : f.octets ≡ g.octets = o ∙ sym p in
    let theirs = frame_reply y y.given_are y.command_is in
    let reply : f.reply ≡ g.reply = frame_reply x y.given_are y.command_is ∙ ap (reply_of k y.command y.given) same ∙ sym theirs in
    λ i. found ((v ∙ sym u) i) (reply i) (same i)

-- the guard of `SameRow`: no two rows of items are what was written
pub same_row_once : {row : List Written} {fs gs : List Found} → SameRow row fs → SameRow row gs → fs ≡ gs
same_row_once no_item no_item = refl
same_row_once (one_more {w = w} x p) (one_more y q) = ap₂ (◌∷◌) (written_once w x y) (same_row_once p q)

-- ---- one item of the row

-- the octets that the reply says are the body
abbrev pub body_by : Reply → List ℕ → List ℕ
body_by (Complete kind used command headers start len) xs = take len (drop start xs)
body_by Incomplete xs = []
body_by (Invalid k n) xs = []

-- the item at the place of a write or a beat
item_at : (row : List Written) (w : Written) (rest : List Written) {items : List Found} → SameRow (row ++ (w ∷ rest)) items
    → (fs : List Found) × (f : Found) × (gs : List Found) × (items ≡ fs ++ (f ∷ gs)) × (length fs ≡ length row) × IsWritten w f
item_at [] w rest (one_more {f = f} {fs = gs} x p) = ([], f, gs, refl, refl, x)
item_at (v ∷ row) w rest (one_more {f = e} x p) =
    let (fs, f, gs, split, long, is) = item_at row w rest p in (e ∷ fs, f, gs, ap (e ∷◌) split, ap suc long, is)

-- Of a write at any place, with the entries of its block: the item there has exactly the octets laid down, the octets that its reply says
-- are the body are the call's body, and decoding it gives the entries written and the added one.
pub decoded_row : (row : List Written) (ver : Version) (k : Call) (before after : List ℕ) (n : ℕ) (rest : List Written)
    → {items : List Found} {es : List Entry} → SameRow (row ++ (write ver k before after n ∷ rest)) items → entries k.block ≡ some es
    → (fs : List Found) × (f : Found) × (gs : List Found) × (items ≡ fs ++ (f ∷ gs)) × (length fs ≡ length row)
    × (f.octets ≡ take n after) × (body_by f.reply f.octets ≡ k.body)
    × ((block left : List ℕ) (answer : Answer) → Decodes ver f.octets block answer left
    → Gives ver (written_entries es k.body k.counted) block answer left)
decoded_row row ver k before after n rest same q =
    let (fs, f, gs, split, long, (v, o, x)) = item_at row (write ver k before after n) rest same in
    let body = ap (λ r. body_by r f.octets) x.replies ∙ x.body_is in
    (fs, f, gs, split, long, o, body, λ block left answer d. subst (λ z. Gives ver z block answer left) (frame_entries x q) (x.decodes block left answer d))
