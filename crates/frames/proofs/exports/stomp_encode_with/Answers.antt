-- `exports::stomp_encode_with` meets its contract: each answer packed, and read back.
use Prim.Native.Nat.{ℕ}
use native.Mathlib.Omega.{arith}
use mathlib.Core.Path.{◌≡◌, refl, subst, ap, ◌∙◌}
use Rattle.std.specs.Prelude.{Result, Ok, Err, Option, unwrap_or}
use Rattle.frames.specs.Encoding.{Call, Encodes}
use Rattle.frames.specs.Answers.{encode_number, named_entry, encode_entry, encoded_says, version_in, is_counted}
use Rattle.frames.specs.declared.encode.EncodeError.{EncodeError}
use Rattle.headers.proofs.Rows.{octets_known}
use Rattle.frames.proofs.Packed.{length_back, refusal_back, encode_small, number_few, entry_small}
use Rattle.frames.proofs.exports.stomp_encode_with.Goals as goal
use Rattle.frames.proofs.exports.stomp_encode_with.Goals.{After-encode}

abbrev call : (c : After-encode) → Call
call c = let a = c.args in record { command = a.command; block = a.block.now; body = a.body.now; counted = is_counted a.options }

-- what encode answers and leaves, of the answer that was told
encodes : (c : After-encode) (f : Result ℕ EncodeError) → c.encode.result ≡ f → Encodes (version_in c.args.options) (call c) c.args.target.now (encoded_says f) c.encode.new.target
encodes c f e =
    let h = subst (λ v. Encodes v (call c) c.args.target.now (encoded_says c.encode.result) c.encode.new.target) c.of_options.ensures c.encode.ensures in
    subst (λ g. Encodes (version_in c.args.options) (call c) c.args.target.now (encoded_says g) c.encode.new.target) e h

-- the index, or 0
named : (e : EncodeError) {o : Option ℕ} {n : ℕ} → n ≡ unwrap_or o 0 → o ≡ named_entry e → n ≡ encode_entry e
named e h k = h ∙ ap (λ o. unwrap_or o 0) k

pub overflow_add-result : goal.overflow_add-result
overflow_add-result c =
    let e = c.in-Err.e in
    let at = (goal.at.overflow_add-result c).After-encode in
    let small = entry_small _ (call at) _ e (encodes at (Err e) c.in-Err.is).answered in
    let told = named e c.unwrap_or.ensures c.entry.ensures in
    omega (arith, number_few e, c.number.ensures, told, small)

pub returns-in-Ok : goal.returns-in-Ok
returns-in-Ok c =
    let at = (goal.at.returns-in-Ok c).After-encode in
    let d = encodes at (Ok c.in-Ok.n) c.in-Ok.is in
    let k = call at in
    let small =
    encode_small _ k _ c.in-Ok.n (octets_known k.block (λ i. omega (arith, c.type_inv.block i))) (octets_known k.body (λ i. omega (arith, c.type_inv.body i))) d.answered in
    rw (length_back _ small) (d, refl)

pub returns-in-Err : goal.returns-in-Err
returns-in-Err c =
    let e = c.in-Err.e in
    let at = (goal.at.returns-in-Err c).After-encode in
    let d = encodes at (Err e) c.in-Err.is in
    rw (c.from.ensures, c.number.ensures, named e c.unwrap_or.ensures c.entry.ensures, refusal_back (encode_number e) (encode_entry e) (number_few e).0 (entry_small _ (call at) _ e d.answered)) (d, refl)
