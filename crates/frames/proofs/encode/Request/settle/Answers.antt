-- `encode::Request::settle` meets its contract: the command, the block, and what its entries come to.
use mathlib.Core.Path.{◌≡◌, refl, sym, ◌∙◌, ap, subst}
use mathlib.Core.Bool.{false}
use borrow.Author.Rules.{rules}
use Rattle.std.specs.Prelude.{Result, Ok, Err, IsErrAnd}
use Rattle.headers.specs.Answers.{is_block}
use Rattle.headers.specs.Block.{entries, listed}
use Rattle.frames.specs.Encoding.{refusal}
use Rattle.frames.specs.Answers.{encode_number, encode_entry, encoded_says}
use Rattle.frames.specs.Writing.{Told, Tells, Sums, call_of, call_answer, Settles}
use Rattle.frames.specs.declared.encode.EncodeError.{EncodeError}
use Rattle.frames.specs.declared.encode.Image.{Image}
use Rattle.frames.specs.declared.encode.Request.{Request}
use Prim.Native.Nat.{ℕ}
use Rattle.frames.proofs.Writing.{entries_not}
use Rattle.frames.proofs.Sums.{sums_plain}
use Rattle.frames.proofs.Settled.{unknown_command, known_command, no_command, no_block}
use Rattle.frames.proofs.encode.Request.settle.Goals as goal
use Rattle.frames.proofs.encode.Request.settle.Goals.{In_ok-declared}

pub returns-then-self : goal.returns-then-self
returns-then-self c =
    let q = c.args.self.now in
    sym (no_command q.version (call_of q) c.args.room (unknown_command q.command c.if-self.true))

-- what `?` hands on
malformed : (q : Request) (room : ℕ) (r : Result Image EncodeError) → IsErrAnd r (λ e. e ≡ EncodeError.Malformed) → refusal 51 0 ≡ call_answer q room → Settles q room r
malformed q room (Ok i) h k = absurd (search rules)
malformed q room (Err e) h k = subst (λ z. refusal (encode_number z) (encode_entry z) ≡ call_answer q room) (sym h) k

pub returns-in_err-declared : goal.returns-in_err-declared
returns-in_err-declared c =
    let q = c.args.self.now in
    let (d, n, p) = known_command q.command c.if-self.false in
    let none : is_block q.block.now ≡ false = subst (Tells q.block.now) c.in_err-declared.was c.declared_length.ensures in
    malformed q c.args.room c.from_residual.result c.from_residual.ensures.1 (sym (no_block q.version (call_of q) c.args.room d p (entries_not q.block.now none)))

-- what is told of the content-length
told : (c : In_ok-declared) → Told c.args.self.now.block.now c.in_ok-declared.declared
told c =
    let block = c.args.self.now.block.now in
    subst (Tells block) c.in_ok-declared.was c.declared_length.ensures

pub checked_length-requires : goal.checked_length-requires
checked_length-requires c =
    record {
      command = c.if-self.false;
      told = told (goal.at.checked_length-requires c).In_ok-declared;
      summed = subst (λ s. Sums s (listed (entries c.args.self.now.block.now)) c.sum-sums.result) c.style.ensures c.sum-sums.ensures;
      added = c.adds_length-adds.ensures;
    }

pub returns : goal.returns
returns c =
    let q = c.args.self.now in
    let sums = subst (λ s. Sums s (listed (entries q.block.now)) c.sum-sums.result) c.style.ensures c.sum-sums.ensures in
    let (few, all) = c.checked_length.ensures.1 c.in_ok-len.len c.in_ok-len.was in
    record {
      answered = ap encoded_says (sym c.in_ok-len.was) ∙ c.checked_length.ensures.0;
      added = c.adds_length-adds.ensures;
      plain = λ h. sums_plain _ _ _ sums few q.block.now (told (goal.at.returns c).In_ok-declared).validity refl all (sym c.is_plain-plain.ensures ∙ h);
    }
