-- What a call for C relies on: a record that is resumed has 16 octets, and the answer fits one number. Assumes nothing.
use mathlib.Core.Path.{◌≡◌, refl, sym, ◌∙◌, ap, ap₂, subst}
use mathlib.Core.Bool.{Bool, true, false, cond, not}
use mathlib.Core.List.{List, [], ◌∷◌, ◌++◌, append-nil}
use Prim.Native.Nat.{ℕ, ◌+◌, ◌-◌, ◌/◌, ◌%◌, ◌≤◌}
use native.Mathlib.Omega.{arith}
use lib.ListN.{length, take, drop, drop_of_length-le}
use lib.Seq.{paste, take_all}
use lib.Dec.{eqb, ltb}
use borrow.Author.Tests.{eqb-true, le-leb}
use Rattle.headers.specs.Rows.{copied}
use Rattle.headers.proofs.Copying.{copied_all}
use Rattle.headers.proofs.Rows.{and_left, cond_case}
use Rattle.frames.specs.declared.state.Scan.{Scan}
use Rattle.frames.specs.Replies.{Reply}
use Rattle.frames.specs.Scanning.{Valid, scan, scan_reply}
use Rattle.frames.specs.Validity.{is_valid}
use Rattle.frames.specs.Streams.{replied, refused, is_resumable, feed_answer, is_taken}
use Rattle.frames.specs.Records.{mark, record_of, is_record, fields, no_record, read_record, Packable}
use Rattle.frames.proofs.Bounds.{bounded}
use Rattle.frames.proofs.Checks.{run_passes, valid_decides}
use Rattle.frames.proofs.Resuming.{resumed}

pub record_long : (xs : List ℕ) → is_record xs ≡ true → length xs ≡ 16
unfolding is_record
record_long xs h = eqb-true (length xs) 16 (and_left (eqb (length xs) 16) _ h)

-- a valid state's reply is small
reply_packs : (st : Scan) → Valid st → Packable (scan_reply st)
reply_packs st v =
    let b = bounded st v in
    cond_case Packable (eqb st.phase 14) (λ t. (omega arith, omega arith, omega arith, omega arith))
    (λ t. cond_case Packable (eqb st.phase 15) (λ u. (omega arith, omega arith, omega arith, omega arith)) (λ u. cond_case Packable (eqb st.phase 16) (λ q. omega arith) (λ q. tt)))

-- a record that is taken up is one
known_record : (xs : List ℕ) → is_resumable (read_record xs) ≡ true → length xs ≡ 16
unfolding read_record is_resumable is_valid
known_record xs h = by (is_record xs) refl h
  where
    by : (t : Bool) → is_record xs ≡ t → is_resumable (cond t (fields xs) no_record) ≡ true → length xs ≡ 16
    by true e k = record_long xs e
    by false e k = let z : ◌≡◌ {A = ℕ} 0 1 = cc in absurd (omega arith)

-- an answer that is a reply
pub record Replies (xs : List ℕ) (r : Reply) (n : ℕ) : Type 0 where
  pub long : length xs ≡ 16
  pub packs : Packable r
  pub few : n ≤ 70000

pub replies : (xs buffer piece : List ℕ) (r : Reply) (n : ℕ) → replied r n ≡ feed_answer (read_record xs) buffer piece → Replies xs r n
unfolding feed_answer
replies xs buffer piece r n h = by (ltb (length buffer) 49228) (is_resumable (read_record xs)) refl h
  where
    st : Scan
    st = read_record xs

    by : (t u : Bool) → is_resumable st ≡ u → replied r n ≡ cond t (refused 70) (cond u (replied (scan_reply (scan st piece)) ((scan st piece).at - st.at)) (refused 71)) → Replies xs r n
    by true u e k = let z : ◌≡◌ {A = ℕ} 0 1 = cc in absurd (omega arith)
    by false false e k = let z : ◌≡◌ {A = ℕ} 0 1 = cc in absurd (omega arith)
    by false true e k =
        let same : r ≡ scan_reply (scan st piece) = cc in
        let took : n ≡ (scan st piece).at - st.at = cc in
        let v = (valid_decides (scan st piece)).pass (run_passes st piece (resumed st e).0) in
        record { long = known_record xs e; packs = subst Packable (sym same) (reply_packs (scan st piece) v); few = omega (arith, (bounded (scan st piece) v).small_at) }

-- a copy over all of a list
pub pasted : (d s : List ℕ) (n : ℕ) → length d ≡ n → length s ≡ n → paste d 0 s n ≡ s
pasted d s n e f =
    let none : drop (0 + n) d ≡ [] = drop_of_length-le d {i = 0 + n} (omega arith) in
    ap (λ z. (([] ++ take n s) ++ z)) none ∙ append-nil (take n s) ∙ take_all n s (omega arith)

-- the octets of a record, copied
abbrev pub row : Scan → ℕ → ℕ → List ℕ
row st m v =
    st.phase ∷ st.command % 256 ∷ st.lines % 256 ∷ st.matched % 256 ∷ m ∷ st.code % 256
    ∷ st.size / 256 % 256 ∷ st.size % 256 ∷ st.len / 256 % 256 ∷ st.len % 256 ∷ st.at / 256 % 256 ∷ st.at % 256
    ∷ v ∷ 0 ∷ st.rest ∷ 0 ∷ []

pub laid : (d : List ℕ) (st : Scan) (m v : ℕ) (xs : List ℕ) → length d ≡ 16 → m ≡ mark st.sized → v ≡ mark (not st.crlf)
    → xs ≡ copied d 0 (row st m v) → xs ≡ record_of st
unfolding record_of
laid d st m v xs e f g h =
    h ∙ copied_all d 0 (row st m v) (le-leb (0 + 16) (length d) (omega arith)) ∙ pasted d (row st m v) 16 e refl ∙ ap₂ (row st) f g

-- a record that is told a version is one
pub taken_long : (xs : List ℕ) → is_taken (read_record xs) ≡ true → length xs ≡ 16
unfolding is_taken
taken_long xs h = known_record xs (and_left (is_resumable (read_record xs)) _ h)
