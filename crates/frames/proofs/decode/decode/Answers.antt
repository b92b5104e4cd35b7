-- `decode::decode` meets its contract: parse tells whether it is exactly one frame; its entries are measured, then written.
use Prim.Native.Nat.{ℕ, ◌≤◌}
use native.Mathlib.Omega.{arith}
use lib.ListN.{length}
use mathlib.Core.Path.{◌≡◌, refl, sym, ◌∙◌, ap}
use Rattle.headers.specs.Rows.{All}
use Rattle.std.specs.Prelude.{Some, Ok}
use mathlib.Core.List.{List}
use Rattle.headers.specs.Block.{Entry, image, Short}
use Rattle.frames.specs.declared.parse.Item.{Item}
use Rattle.frames.specs.Scanning.{style_of}
use Rattle.frames.specs.Answers.{parsed_says}
use Rattle.frames.proofs.Readings.{OneFrame, one_frame, not_frame}
use Rattle.frames.proofs.Decoding.{not_complete, decodes_none, each_short, Settled, settled, ample}
use Rattle.frames.specs.Layout.{line_cr, entries_of}
use Rattle.frames.specs.declared.decode.HeadLines.{HeadLines}
use Rattle.frames.proofs.decode.decode.Goals as goal
use Rattle.frames.proofs.decode.decode.Goals.{Joined-block-lt-BLOCK, After-style_of, Then-item-frame, Else-item-frame, then-block-lt-BLOCK+else-block-measure, else-block-lt-BLOCK}

pub returns-in_default : goal.returns-in_default
returns-in_default c =
    let s = c.args in
    decodes_none s.version s.block.now (not_frame s.version _ c.parse.ensures.1 refl (not_complete _ c.parse.result (λ f e. grind arith)))

pub returns-in_default-2 : goal.returns-in_default-2
returns-in_default-2 c =
    let s = c.args in
    decodes_none s.version s.block.now (not_frame s.version _ c.parse.ensures.1 refl (not_complete _ c.parse.result (λ f e. grind arith)))

pub returns-in_default-3 : goal.returns-in_default-3
returns-in_default-3 c =
    let s = c.args in
    decodes_none s.version s.block.now (not_frame s.version _ c.parse.ensures.1 (ap parsed_says c.in_default.is) tt)

-- the reply is that frame
told : (c : Then-item-frame) → c.parse.result ≡ Ok (Some (Item.Frame c.in-Ok-Some-Frame.item))
told c = cc

pub returns-then-item-frame : goal.returns-then-item-frame
returns-then-item-frame c =
    let s = c.args in
    decodes_none s.version s.block.now
    (not_frame s.version _ c.parse.ensures.1
    (ap parsed_says (told c)) (λ all. absurd (c.if-item-frame.true all)))

-- what is known of its entries
one : (c : Else-item-frame) → let i = c.in-Ok-Some-Frame.item in
    OneFrame c.args.version c.args.frame.now i.command i.headers i.body i.body_len
one c =
    let is : c.parse.result ≡ Ok (Some (Item.Frame c.in-Ok-Some-Frame.item)) = cc in
    let two : (◌≡◌ {A = ℕ} 2 1) → ⊥ = λ e. omega (arith, e) in
    one_frame c.args.version c.parse.ensures.1 (ap parsed_says is) two c.if-item-frame.false

-- the lines of the head, as they are told
abbrev lines : (c : After-style_of) → HeadLines
lines c = record { frame = c.args.frame; from = c.first_line.result; count = c.in-Ok-Some-Frame.item.headers; cr = c.or_10-cr.result; style = c.style_of.result }

known : (c : After-style_of) → OneFrame c.args.version c.args.frame.now c.in-Ok-Some-Frame.item.command c.in-Ok-Some-Frame.item.headers c.in-Ok-Some-Frame.item.body c.in-Ok-Some-Frame.item.body_len
    → All Short (entries_of (lines c))
    × (16544 ≤ length c.args.block.now → length (image (entries_of (lines c))) ≤ length c.args.block.now)
    × ((total : ℕ) → total ≡ length (image (entries_of (lines c))) → Settled c.args.version c.args.frame.now c.args.block.now (entries_of (lines c)) total)
known c f =
    let cr_is = c.or_10-cr.ensures ∙ ap line_cr c.has_crlf-crlf.ensures in
    let style_is = c.style_of.ensures ∙ ap (λ w. style_of w c.in-Ok-Some-Frame.item.command) c.has_crlf-crlf.ensures in
    let from_is = c.first_line.ensures.1 in
    (each_short _ f _ _ _ cr_is style_is from_is, ample _ f _ _ _ cr_is style_is from_is c.args.block.now, settled _ f _ _ _ cr_is style_is from_is _)

pub returns-then-block-measure : goal.returns-then-block-measure
returns-then-block-measure c =
    let at = goal.at.returns-then-block-measure c in
    ((known at.After-style_of (one at.Else-item-frame)).2 c.measure.result c.measure.ensures).short c.if-block-measure.true

-- there is room for them: for those of any frame, or for so many octets as were measured
room : (c : Joined-block-lt-BLOCK) (es : List Entry)
    → (16544 ≤ length c.args.block.now → length (image es) ≤ length c.args.block.now)
    → ((total : ℕ) → total ≡ length (image es) → Settled c.args.version c.args.frame.now c.args.block.now es total)
    → es ≡ entries_of (record { frame = c.args.frame; from = c.first_line.result; count = c.in-Ok-Some-Frame.item.headers; cr = c.or_10-cr.result; style = c.style_of.result })
    → length (image es) ≤ length c.args.block.now
room c es any each is =
    elim c.if-block-lt-BLOCK.branch [ then-block-lt-BLOCK+else-block-measure w ↦ (each w.measure.result (w.measure.ensures ∙ ap (λ z. length (image z)) (sym is))).room w.if-block-measure.false | else-block-lt-BLOCK w ↦ any w.if-block-lt-BLOCK.false ]

pub put_records-requires : goal.put_records-requires
put_records-requires c =
    let at = goal.at.put_records-requires c in
    let (short, any, each) = known at.After-style_of (one at.Else-item-frame) in
    (c.first_line.ensures.0, room at.Joined-block-lt-BLOCK _ any each refl, short)

pub returns : goal.returns
returns c =
    let at = goal.at.returns c in
    let (short, any, each) = known at.After-style_of (one at.Else-item-frame) in
    (each c.put_records.result c.put_records.ensures.0).whole
    (omega (arith, room at.Joined-block-lt-BLOCK _ any each refl, c.put_records.ensures.0)) _ c.put_records.ensures.1
