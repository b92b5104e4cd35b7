-- The round trips by what the calls answered: a frame that parse and decode read, encoded again from what they gave; and the front of
-- the target that encode leaves, parsed and decoded. Assumes nothing.
--     one                     what parsing told: the octets are one frame
--     call_again, again_is    the call with what parse and decode gave is the call of the frame's tree
--     again_refused           it is refused only with 52 or 56
--     again_refused_default   not counted, only with 56
--     front_is                the first octets of the target, as many as encode answered, are the image
--     front_parsed            parsing them is Complete, with the numbers of the call
--     front_decoded           decoding them gives the block's entries and the added one, and nothing else
use mathlib.Core.Path.{◌≡◌, refl, sym, ◌∙◌, ap, ap₂, subst}
use mathlib.Core.Logic.{◌⊎◌}
use mathlib.Core.Bool.{Bool, true, false, cond}
use mathlib.Core.Option.{some}
use mathlib.Core.List.{List, [], ◌∷◌, ◌++◌, append-nil}
use Prim.Native.Nat.{ℕ, ◌+◌, ◌<◌}
use native.Mathlib.Omega.{arith}
use lib.ListN.{length, take, drop, get_or}
use lib.Seq.{take-append_seam}
use lib.Dec.{ltb}
use Rattle.headers.specs.Rows.{every, is_octet}
use Rattle.headers.specs.Block.{Entry, image}
use Rattle.headers.specs.Answers.{Answer, accepted, refused, left_in}
use Rattle.frames.specs.Grammar.{number, word, style, lines_max, head, end}
use Rattle.frames.specs.declared.version.Version.{Version}
use Rattle.frames.specs.Replies.{Complete}
use Rattle.frames.specs.Parsing.{parsed}
use Rattle.frames.specs.Decoding.{decode_answer, head_entries, Decodes}
use Rattle.frames.specs.Encoding.{Call, adds_length, written_entries, written_lines, encode_answer, encode_image}
use Rattle.frames.proofs.Exact.{exact}
use Rattle.frames.proofs.Readings.{OneFrame, one_frame}
use Rattle.frames.proofs.Rewriting.{call_of, rewrite_refused_only, rewrite_refused_default}
use Rattle.frames.proofs.Images.{Encoded, encoded_call}
use Rattle.frames.proofs.RoundTrips.{Gives, decoded_reading, parsed_image, decoded_image}
use Rattle.frames.proofs.Unique.{body_back}

-- the length that decoding answers is that of the records
decode_length : (room m : ℕ) (es : List Entry) → decode_answer room (some es) ≡ accepted (m ∷ []) → m ≡ length (image es)
unfolding decode_answer
decode_length room m es e = by (ltb room (length (image es))) e
  where
    by : (t : Bool) → cond t (refused 21) (accepted (length (image es) ∷ [])) ≡ accepted (m ∷ []) → m ≡ length (image es)
    by true e = let z : ◌≡◌ {A = ℕ} 0 1 = cc in absurd (omega arith)
    by false e = cc

module _ (ver : Version) {xs before after : List ℕ} {c n s l m : ℕ} (o : every is_octet xs ≡ true) (p : parsed ver xs ≡ Complete 2 (length xs) c n s l) (d : Decodes ver xs before (accepted (m ∷ [])) after) where
  -- the call with what parse and decode gave, counted or not
  abbrev pub call_again : Bool → Call
  call_again counted = record { command = c; block = take m after; body = take l (drop s xs); counted = counted }

  -- what parsing told: the octets are one frame
  pub one : OneFrame ver xs c n s l
  one = one_frame ver (exact ver xs o) p (λ e. let z : ◌≡◌ {A = ℕ} 2 1 = e in omega arith) refl

  -- it is the call of the frame's tree: its command, its decoded entries, its body
  pub again_is : (counted : Bool) → call_again counted ≡ call_of ver one.h one.b counted
  again_is counted =
      let es = head_entries ver one.h in
      let (a, w) = decoded_reading ver one.h one.e one.b (one.valid, one.whole) d in
      let long : m ≡ length (image es) = decode_length (length before) m es (sym a) in
      let block : take m after ≡ image es = ap₂ take long (w ∙ ap (λ z. left_in z (image es) before) (sym a)) ∙ take-append_seam (image es) _ in
      let body : take l (drop s xs) ≡ one.b =
      ap₂ (λ i j. take i (drop j xs)) one.body_long one.body_at ∙ ap (λ z. take (length one.b) (drop (length (head one.h ++ end one.e)) z)) (sym (append-nil _ ∙ one.whole)) ∙ body_back ver one.h one.e one.b [] in
      λ i. record { command = one.command_is i; block = block i; body = body i; counted = counted }

  -- it is refused only with 52 or 56
  pub again_refused : (counted : Bool) (room k : ℕ) → encode_answer ver (call_again counted) room ≡ refused k
      → ((k ≡ 52) × (length one.h.entries ≡ lines_max) × (adds_length (head_entries ver one.h) one.b counted ≡ true))
      ⊎ ((k ≡ 56) × (room < length (encode_image ver (call_of ver one.h one.b counted))))
  again_refused counted room k r = rewrite_refused_only ver one.h one.e one.b one.valid counted room k (ap (λ z. encode_answer ver z room) (sym (again_is counted)) ∙ r)

  -- not counted, only with 56
  pub again_refused_default : (room k : ℕ) → encode_answer ver (call_again false) room ≡ refused k → (k ≡ 56) × (room < length (encode_image ver (call_of ver one.h one.b false)))
  again_refused_default room k r = rewrite_refused_default ver one.h one.e one.b one.valid room k (ap (λ z. encode_answer ver z room) (sym (again_is false)) ∙ r)

module _ (ver : Version) (k : Call) (before after : List ℕ) (n : ℕ) (a : encode_answer ver k (length before) ≡ accepted (n ∷ [])) (w : after ≡ left_in (encode_answer ver k (length before)) (encode_image ver k) before) where
  -- the command and the entries of the call
  abbrev call : Encoded ver k (length before) (n ∷ [])
  call = encoded_call ver k (length before) (n ∷ []) a

  long : n ≡ length (encode_image ver k)
  long = ap (λ l. get_or l 0 0) call.values_are

  pub front_is : take n after ≡ encode_image ver k
  front_is = ap₂ take long (w ∙ ap (λ z. left_in z (encode_image ver k) before) a) ∙ take-append_seam (encode_image ver k) _

  module _ (o : every is_octet k.block ≡ true) (p : every is_octet k.body ≡ true) where
    pub front_parsed : parsed ver (take n after)
        ≡ Complete 2 n (number call.command) (length (written_entries call.all_entries k.body k.counted))
        (length (word call.command) + length (written_lines (style ver call.command) (written_entries call.all_entries k.body k.counted)) + 2) (length k.body)
    front_parsed =
        let c = call.command in
        let es = written_entries call.all_entries k.body k.counted in
        ap (parsed ver) front_is ∙ parsed_image ver k (length before) (n ∷ []) a o p
        ∙ ap (λ z. Complete 2 z (number c) (length es) (length (word c) + length (written_lines (style ver c) es) + 2) (length k.body)) (sym long)

    pub front_decoded : {block left : List ℕ} {answer : Answer} → Decodes ver (take n after) block answer left
        → Gives ver (written_entries call.all_entries k.body k.counted) block answer left
    front_decoded {block} {left} {answer} d =
        decoded_image ver k (length before) (n ∷ []) a o p (subst (λ z. Decodes ver z block answer left) front_is d)
