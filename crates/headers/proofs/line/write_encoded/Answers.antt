-- `line::write_encoded` meets its contract: encoded where there are escapes, and copied where there are none.
use mathlib.Core.Path.{◌≡◌, sym, ap, ap₂, ◌∙◌}
use mathlib.Core.Bool.{false}
use mathlib.Core.List.{List, ◌++◌}
use native.Mathlib.Omega.{arith}
use Prim.Native.Nat.{ℕ, ◌+◌, ◌≤◌}
use lib.ListN.{length, drop, length-append}
use borrow.Author.Tests.{leb-true, leb-false}
use Rattle.headers.specs.Escapes.{encode}
use Rattle.headers.specs.Lines.{entry_of, written_line}
use Rattle.headers.specs.Stretches.{plain_line}
use Rattle.headers.proofs.Coding.{encode_off}
use Rattle.headers.proofs.Settling.{refusal, acceptance, line_long, encoded_short, encoded_yes}
use Rattle.headers.proofs.line.write_encoded.Goals as goal
use Rattle.headers.proofs.line.write_encoded.Goals.{Else-not-both_fit, Else-not-encoded_fit}

plain_long : (name value : List ℕ) → length (plain_line name value) ≡ length name + length value + 2
plain_long name value = simp length-append (omega arith)

long_1 : (c : goal.Then-d-lt2) → length ((written_line c.args.style (entry_of c.args.name.now c.args.value.now))) ≡ length (encode c.args.style c.args.name.now) + 1 + length (encode c.args.style c.args.value.now) + 1
long_1 c = line_long c.args.style (entry_of c.args.name.now c.args.value.now)

pub returns-then-d-lt2 : goal.returns-then-d-lt2
returns-then-d-lt2 c =
    refusal _ 56 _ _ (encoded_short c.args.style (entry_of c.args.name.now c.args.value.now) (length c.args.d.now) (omega (arith, long_1 c)))

long_2 : (c : goal.Then-not-encoded_fit) → length ((written_line c.args.style (entry_of c.args.name.now c.args.value.now))) ≡ length (encode c.args.style c.args.name.now) + 1 + length (encode c.args.style c.args.value.now) + 1
long_2 c = line_long c.args.style (entry_of c.args.name.now c.args.value.now)

pub returns-then-not-encoded_fit : goal.returns-then-not-encoded_fit
returns-then-not-encoded_fit c =
    refusal _ 56 _ _ (encoded_short c.args.style (entry_of c.args.name.now c.args.value.now) (length c.args.d.now) (omega (arith, long_2 c, leb-false, sym c.encoded_fit.ensures ∙ c.if-not-encoded_fit.true)))

long_3 : (c : Else-not-encoded_fit) → length ((written_line c.args.style (entry_of c.args.name.now c.args.value.now))) ≡ length (encode c.args.style c.args.name.now) + 1 + length (encode c.args.style c.args.value.now) + 1
long_3 c = line_long c.args.style (entry_of c.args.name.now c.args.value.now)

-- where the test passes, there is room
room : (c : Else-not-encoded_fit) → length ((written_line c.args.style (entry_of c.args.name.now c.args.value.now))) ≤ length c.args.d.now
room c = omega (arith, long_3 c, leb-true, sym c.encoded_fit.ensures ∙ c.if-not-encoded_fit.false)

pub put_line-requires : goal.put_line-requires
put_line-requires c = room (goal.at.put_line-requires c).Else-not-encoded_fit

pub returns-then-style : goal.returns-then-style
returns-then-style c =
    let put = c.put_line.ensures in
    rw put.0 (acceptance _ _ _ c.args.d.now _ (encoded_yes c.args.style (entry_of c.args.name.now c.args.value.now) (length c.args.d.now) (room (goal.at.returns-then-style c).Else-not-encoded_fit)) put.1)

-- the line is name and value as they are
as_is_1 : (c : goal.Then-not-both_fit) → c.args.style.escapes ≡ false → plain_line c.args.name.now c.args.value.now ≡ (written_line c.args.style (entry_of c.args.name.now c.args.value.now))
as_is_1 c e = ap₂ plain_line (sym (encode_off c.args.style e c.args.name.now)) (sym (encode_off c.args.style e c.args.value.now))

pub returns-then-not-both_fit : goal.returns-then-not-both_fit
returns-then-not-both_fit c =
    let same = ap length (as_is_1 c c.if-style.false) in
    refusal _ 56 _ _ (encoded_short c.args.style (entry_of c.args.name.now c.args.value.now) (length c.args.d.now) (omega (arith, same, plain_long c.args.name.now c.args.value.now, leb-false, sym c.both_fit.ensures ∙ c.if-not-both_fit.true)))

roomy : (c : Else-not-both_fit) → let a = c.args in length a.name.now + length a.value.now + 2 ≤ length a.d.now
roomy c = omega (arith, leb-true, sym c.both_fit.ensures ∙ c.if-not-both_fit.false, c.if-d-lt2.false)

pub put_plain_line-requires : goal.put_plain_line-requires
put_plain_line-requires c = roomy (goal.at.put_plain_line-requires c).Else-not-both_fit

-- the line is name and value as they are
as_is_2 : (c : goal.After-slice_known-2-1) → c.args.style.escapes ≡ false → plain_line c.args.name.now c.args.value.now ≡ (written_line c.args.style (entry_of c.args.name.now c.args.value.now))
as_is_2 c e = ap₂ plain_line (sym (encode_off c.args.style e c.args.name.now)) (sym (encode_off c.args.style e c.args.value.now))

pub returns : goal.returns
returns c =
    let put = c.put_plain_line.ensures in
    let same = as_is_2 c c.if-style.false in
    rw (put.0 ∙ ap length same)
    (acceptance _ _ _ c.args.d.now _
    (encoded_yes c.args.style (entry_of c.args.name.now c.args.value.now) (length c.args.d.now) (omega (arith, ap length same, plain_long c.args.name.now c.args.value.now, roomy (goal.at.returns c).Else-not-both_fit)))
    (put.1 ∙ ap (λ z. z ++ drop (length z) c.args.d.now) same))
