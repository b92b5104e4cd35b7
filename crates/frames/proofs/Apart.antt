-- What an answer says tells it apart from every other of its type. Assumes nothing.
use mathlib.Core.Path.{◌≡◌, refl, ap}
use mathlib.Core.Bool.{cond}
use mathlib.Core.List.{[], ◌∷◌}
use Prim.Native.Nat.{ℕ}
use lib.Dec.{eqb}
use Rattle.std.specs.Prelude.{Option, Some, None, Result, Ok, Err}
use Rattle.headers.specs.Answers.{Answer, accepted, refused}
use Rattle.headers.proofs.Answers.{once}
use Rattle.frames.specs.Refusals.{numbered}
use Rattle.frames.specs.Replies.{Reply, Complete, Incomplete, Invalid}
use Rattle.frames.specs.Encoding.{Encoding, image_length, refusal}
use Rattle.frames.specs.Streams.{Feeding, replied}
use Rattle.frames.specs.Streams as streams
use Rattle.frames.specs.Answers.{row_of, parsed_says, fed_says, decoded_says, encoded_says}
use Rattle.frames.specs.declared.parse.Item.{Item}
use Rattle.frames.specs.declared.parse.Reason.{Reason}
use Rattle.frames.specs.declared.parse.Refusal.{Refusal}
use Rattle.frames.specs.declared.stream.Taken.{Taken}
use Rattle.frames.specs.declared.stream.FeedError.{FeedError}
use Rattle.frames.specs.declared.decode.DecodeError.{DecodeError}
use Rattle.frames.specs.declared.encode.EncodeError.{EncodeError}

abbrev reason : ℕ → Reason
reason k =
    cond (eqb k 1) Reason.NoCommand
    (cond (eqb k 2) Reason.No10
    (cond (eqb k 3) Reason.Nameless
    (cond (eqb k 4) Reason.LongLine
    (cond (eqb k 5) Reason.ManyLines
    (cond (eqb k 6) Reason.BadLength
    (cond (eqb k 7) Reason.PastBody
    (cond (eqb k 8) Reason.SecondColon
    (cond (eqb k 9) Reason.NoColon
    (cond (eqb k 10) Reason.WrongEscape Reason.NotUtf8)))))))))

reason_back : (r : Reason) → reason (numbered (row_of r)) ≡ r
reason_back = elim [ Reason.NoCommand ↦ refl | Reason.No10 ↦ refl | Reason.Nameless ↦ refl | Reason.LongLine ↦ refl | Reason.ManyLines ↦ refl | Reason.BadLength ↦ refl | Reason.PastBody ↦ refl | Reason.SecondColon ↦ refl | Reason.NoColon ↦ refl | Reason.WrongEscape ↦ refl | Reason.NotUtf8 ↦ refl ]

abbrev parsed : Reply → Result (Option Item) Refusal
parsed (Complete k u c h s l) = cond (eqb k 1) (Ok (Some (Item.HeartBeat u))) (Ok (Some (Item.Frame (record { len = u; command = c; headers = h; body = s; body_len = l }))))
parsed Incomplete = Ok None
parsed (Invalid k n) = Err (record { reason = reason k; offset = n })

parsed_back : (r : Result (Option Item) Refusal) → parsed (parsed_says r) ≡ r
parsed_back (Ok (Some (Item.HeartBeat n))) = refl
parsed_back (Ok (Some (Item.Frame f))) = refl
parsed_back (Ok None) = refl
parsed_back (Err r) = ap (λ w. Err (record { reason = w; offset = r.offset })) (reason_back r.reason)

pub parsed_once : (r s : Result (Option Item) Refusal) → parsed_says r ≡ parsed_says s → r ≡ s
parsed_once = once parsed_says parsed parsed_back

abbrev fed : Feeding → Result Taken FeedError
fed (replied r n) = Ok (record { reply = parsed r; octets = n })
fed (streams.refused k) = Err (cond (eqb k 70) FeedError.ShortBuffer FeedError.InvalidParser)

-- the reply inside is taken back as it is by itself
fed_back : (f : Result Taken FeedError) → fed (fed_says f) ≡ f
fed_back (Ok t) = ap (λ r. Ok (record { reply = r; octets = t.octets })) (parsed_back t.reply)
fed_back (Err FeedError.ShortBuffer) = refl
fed_back (Err FeedError.InvalidParser) = refl

pub fed_once : (r s : Result Taken FeedError) → fed_says r ≡ fed_says s → r ≡ s
fed_once = once fed_says fed fed_back

abbrev decoded : Answer → Result ℕ DecodeError
decoded (accepted []) = Err DecodeError.NotFrame
decoded (accepted (n ∷ more)) = Ok n
decoded (refused k) = Err (cond (eqb k 20) DecodeError.NotFrame DecodeError.TooShort)

decoded_back : (r : Result ℕ DecodeError) → decoded (decoded_says r) ≡ r
decoded_back (Ok n) = refl
decoded_back (Err DecodeError.NotFrame) = refl
decoded_back (Err DecodeError.TooShort) = refl

pub decoded_once : (r s : Result ℕ DecodeError) → decoded_says r ≡ decoded_says s → r ≡ s
decoded_once = once decoded_says decoded decoded_back

abbrev encoded : Encoding → Result ℕ EncodeError
encoded (image_length n) = Ok n
encoded (refusal k i) =
    Err (cond (eqb k 50) EncodeError.UnknownCommand
    (cond (eqb k 51) EncodeError.Malformed
    (cond (eqb k 52) EncodeError.TooManyLines
    (cond (eqb k 53) (EncodeError.Unwritable i)
    (cond (eqb k 54) EncodeError.BadBody
    (cond (eqb k 55) EncodeError.WrongLength EncodeError.TooShort))))))

encoded_back : (r : Result ℕ EncodeError) → encoded (encoded_says r) ≡ r
encoded_back (Ok n) = refl
encoded_back (Err EncodeError.UnknownCommand) = refl
encoded_back (Err EncodeError.Malformed) = refl
encoded_back (Err EncodeError.TooManyLines) = refl
encoded_back (Err (EncodeError.Unwritable i)) = refl
encoded_back (Err EncodeError.BadBody) = refl
encoded_back (Err EncodeError.WrongLength) = refl
encoded_back (Err EncodeError.TooShort) = refl

pub encoded_once : (r s : Result ℕ EncodeError) → encoded_says r ≡ encoded_says s → r ≡ s
encoded_once = once encoded_says encoded encoded_back
