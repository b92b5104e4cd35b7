-- `record::write_known` meets its contract: it has no room, or the record is put.
use mathlib.Core.Path.{◌≡◌, refl, sym, ap, ap₂, ◌∙◌}
use mathlib.Core.Bool.{true, false, cond, not}
use mathlib.Core.List.{List, [], ◌∷◌, ◌++◌}
use Prim.Native.Nat.{ℕ, ◌+◌, ◌≤◌, ◌<◌}
use native.Mathlib.Omega.{arith}
use lib.ListN.{length, drop}
use lib.Dec.{ltb}
use borrow.Author.Tests.{ltb-true, ltb-false, not-true, not-false}
use Rattle.headers.specs.Block.{Entry, entry_record, is_short}
use Rattle.headers.specs.Lines.{entry_of, decoded_entry}
use Rattle.headers.specs.Stretches.{unescaped}
use Rattle.headers.specs.Answers.{Answer, accepted, refused, settle, lacks_room, decoded_answer}
use Rattle.headers.proofs.Rows.{and_left, and_right, or_false_left, or_false_right}
use Rattle.headers.proofs.Coding.{decode_off}
use Rattle.headers.proofs.Blocks.{length_record}
use Rattle.headers.proofs.Settling.{refusal, acceptance}
use Rattle.headers.proofs.record.write_known.Goals as goal

-- without escapes the decoded entry is the entry
as_is : (n v : List ℕ) → decoded_entry unescaped n v ≡ entry_of n v
as_is n v = ap₂ entry_of (decode_off unescaped refl n) (decode_off unescaped refl v)

abbrev answer : ℕ → Entry → Answer
answer room e = settle (record { fails = lacks_room room e; number = 21 } ∷ []) (length (entry_record e) ∷ [])

plain : (room : ℕ) (n v : List ℕ) → decoded_answer unescaped room n v ≡ answer room (entry_of n v)
unfolding decoded_answer
plain room n v = ap (answer room) (as_is n v)

lacking : (room : ℕ) (n v : List ℕ) → not (lacks_room room (entry_of n v)) ≡ false → decoded_answer unescaped room n v ≡ refused 21
lacking room n v h = plain room n v ∙ ap (λ t. cond t (refused 21) (accepted (length (entry_record (entry_of n v)) ∷ []))) (not-false _ h)

roomy : (room : ℕ) (n v : List ℕ) → not (lacks_room room (entry_of n v)) ≡ true → decoded_answer unescaped room n v ≡ accepted (length (entry_record (entry_of n v)) ∷ [])
roomy room n v h = plain room n v ∙ ap (λ t. cond t (refused 21) (accepted (length (entry_record (entry_of n v)) ∷ []))) (not-true _ h)

fits : (room : ℕ) (n v : List ℕ) → not (lacks_room room (entry_of n v)) ≡ true → (6 + length n + length v ≤ room) × (length n < 65536) × (length v < 65536)
fits room n v h =
    let e = entry_of n v in
    let long = ltb room (length (entry_record e)) in
    let short : is_short e ≡ true = not-false _ (or_false_right long (not (is_short e)) (not-true _ h)) in (
      omega (arith, length_record e, ltb-false room (length (entry_record e)) (or_false_left long (not (is_short e)) (not-true _ h))),
      ltb-true (length n) 65536 (and_left _ (ltb (length v) 65536) short),
      ltb-true (length v) 65536 (and_right (ltb (length n) 65536) _ short),
    )

pub returns-then-not-have_room : goal.returns-then-not-have_room
returns-then-not-have_room c = refusal _ 21 _ _ (lacking _ _ _ (sym c.have_room.ensures ∙ c.if-not-have_room.true))

pub put_record-requires : goal.put_record-requires
put_record-requires c = fits _ _ _ (sym c.have_room.ensures ∙ c.if-not-have_room.false)

pub returns : goal.returns
returns c =
    let d = c.args.d.now in
    let put = c.put_record.ensures in
    let has = sym c.have_room.ensures ∙ c.if-not-have_room.false in
    rw put.0 (acceptance _ _ _ d _ (roomy _ _ _ has) (put.1 ∙ ap (λ e. entry_record e ++ drop (length (entry_record e)) d) (sym (as_is _ _))))
