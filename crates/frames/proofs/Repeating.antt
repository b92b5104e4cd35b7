-- What a stream parser leaves. Assumes nothing.
--     stops             a refusal leaves a parser that is stopped at it
--     repeats           which repeats it, takes nothing and writes nothing
--     left_resumable    71 refuses nothing that calls from a fresh parser leave
use mathlib.Core.Path.{◌≡◌, refl, sym, ◌∙◌, ap, subst}
use mathlib.Core.Bool.{Bool, true, false}
use mathlib.Core.Logic.{◌⊎◌, inl, inr}
use mathlib.Core.List.{List, [], ◌∷◌, ◌++◌}
use Prim.Native.Nat.{ℕ, ◌-◌, ◌≤◌, min}
use native.Mathlib.Omega.{arith}
use lib.ListN.{length, take, length-append, length-take, replicate, length-replicate}
use lib.Seq.{paste-zero, take_at}
use lib.Dec.{ltb}
use borrow.Author.Tests.{le-leb, le-ltb, ltb-false}
use Rattle.headers.specs.Rows.{every, is_octet}
use Rattle.headers.proofs.Rows.{cond_case}
use Rattle.frames.specs.declared.version.Version.{Version}
use Rattle.frames.specs.Replies.{Reply, Complete, Incomplete, Invalid}
use Rattle.frames.specs.Parsing.{parsed}
use Rattle.frames.specs.Exactness.{Claims}
use Rattle.frames.specs.Scanning.{scan, nothing_read}
use Rattle.frames.specs.Validity.{is_valid}
use Rattle.frames.specs.declared.state.Scan.{Scan}
use Rattle.frames.proofs.Exact.{exact}
use Rattle.frames.proofs.Numbers.{number_known}
use Rattle.frames.proofs.Running.{scan_ended}
use Rattle.frames.proofs.Sizes.{viable_short}
use Rattle.frames.proofs.Checks.{first_run_passes}
use Rattle.frames.specs.Grammar.{v1_2, crlf}
use Rattle.frames.specs.Streams.{replied, is_number, fits_version, is_resumable, is_whole, feed_answer, feed_state, feed_buffer, is_taken, tell_state}
use Rattle.frames.proofs.Counting.{scan_counts}
use Rattle.frames.proofs.Endings.{first_fits}
use Rattle.frames.proofs.Telling.{not_taken, inside_untold, told_inside, stands_told}
use Rattle.frames.proofs.Feeding.{Stands, stands_fresh, resumable, more_stands, item_stands, refused_state, so_far_octets}

-- stopped at a refusal
pub record Stopped (st : Scan) (k n : ℕ) : Type 0 where
  pub ends : st.phase ≡ 16
  pub number : st.code ≡ k
  pub offset : st.at ≡ n
  pub resumes : is_resumable st ≡ true

module _ {st : Scan} {k n : ℕ} (s : Stopped st k n) (buffer piece : List ℕ) (room : 49228 ≤ length buffer) where
  long_enough : ltb (length buffer) 49228 ≡ false
  long_enough = le-ltb (length buffer) 49228 room

  stays : scan st piece ≡ st
  stays = scan_ended piece st (omega (arith, s.ends))

  -- "Afterwards the reader repeats that refusal, taking and writing nothing."
  pub repeats : (feed_answer st buffer piece ≡ replied (Invalid k n) 0) × (feed_state st buffer piece ≡ st) × (feed_buffer st buffer piece ≡ buffer)
  unfolding feed_answer feed_state feed_buffer
  repeats =
      let none : st.at - st.at ≡ 0 = omega arith in
      let few : min (st.at - st.at) (length buffer - st.at) ≡ 0 = omega arith in (
        rw (long_enough, s.resumes, stays, none, s.ends, s.number, s.offset) refl,
        rw (long_enough, s.resumes, stays, s.ends) refl,
        rw (long_enough, s.resumes, stays, few) (sym (paste-zero buffer st.at piece)),
      )

module _ (ver : Version) where
  module _ {st : Scan} {buffer xs : List ℕ} (s : Stands ver st buffer xs) (piece : List ℕ) (o : every is_octet piece ≡ true) {k n : ℕ} (e : parsed ver (xs ++ piece) ≡ Invalid k n) where
    -- a refusal leaves a parser that is stopped at it
    pub stops : Stopped (feed_state st buffer piece) k n
    unfolding is_resumable
    stops =
        let all = xs ++ piece in
        let (l, m, none) = subst (Claims ver all) e (exact ver all (so_far_octets ver s piece o)).claims in
        let (left, p, c, a) = refused_state ver s piece o e in
        let st' = feed_state st buffer piece in
        let few : st'.at ≤ 49227 = omega (arith, l.inside, viable_short ver (take n all) l.longest, length-take n all, a) in
        let known : is_number st'.code ≡ true = ap is_number (c ∙ sym m.first.number) ∙ number_known m.first.reason in
        let valid : is_valid st' ≡ true = ap is_valid left ∙ first_run_passes (crlf ver) all in
        let fits : fits_version st' ≡ true = ap fits_version left ∙ first_fits (crlf ver) all in
        record { ends = p; number = c; offset = a; resumes = rw (valid, le-leb st'.at 49227 few, fits, known, p) refl }

-- a parser that is stopped is told nothing
pub stopped_untold : {st : Scan} {k n : ℕ} → Stopped st k n → (ver : Version) → (is_taken st ≡ false) × (tell_state ver st ≡ st)
stopped_untold {st} s ver =
    let none = inside_untold st (λ e. omega (arith, s.ends)) in
    (none, not_taken ver st none)

-- ---- 71's rule

-- a record that calls from a fresh parser leave, whatever buffers they were given and whatever versions it was told
pub data Left : Scan → Type 0 where
  left_fresh : Left (nothing_read true)
  left_call : {st : Scan} → Left st → (buffer piece : List ℕ) → every is_octet piece ≡ true → Left (feed_state st buffer piece)
  left_told : {st : Scan} → Left st → (ver : Version) → Left (tell_state ver st)

-- octets of an item, at the front of a buffer that is long enough
abbrev some_buffer : List ℕ → List ℕ
some_buffer xs = xs ++ replicate 49228 0

abbrev Kept : Scan → Type 0
Kept st = ((ver : Version) × (xs : List ℕ) × Stands ver st (some_buffer xs) xs) ⊎ ((k : ℕ) × (n : ℕ) × Stopped st k n)

elsewhere : (ver : Version) {st : Scan} {b xs : List ℕ} → Stands ver st b xs → Stands ver st (some_buffer xs) xs
elsewhere ver {st} {b} {xs} s =
    record {
      state = s.state;
      more = s.more;
      of_octets = s.of_octets;
      front = take_at xs (replicate 49228 0) (length xs) refl;
      room = omega (arith, length-append xs (replicate 49228 0), length-replicate {A = ℕ} 49228 0);
    }

same_state : (st : Scan) (b b' piece : List ℕ) → 49228 ≤ length b → 49228 ≤ length b' → feed_state st b piece ≡ feed_state st b' piece
unfolding feed_state
same_state st b b' piece h h' = rw (le-ltb (length b) 49228 h, le-ltb (length b') 49228 h') refl

kept_call : {st : Scan} → Kept st → (buffer piece : List ℕ) → every is_octet piece ≡ true → 49228 ≤ length buffer → Kept (feed_state st buffer piece)
kept_call (inr (k, n, s)) buffer piece o h = inr (k, n, subst (λ z. Stopped z k n) (sym (repeats s buffer piece h).1) s)
kept_call {st} (inl (ver, xs, s)) buffer piece o h = subst Kept (same_state st (some_buffer xs) buffer piece s.room h) (by (parsed ver (xs ++ piece)) refl)
  where
    by : (r : Reply) → parsed ver (xs ++ piece) ≡ r → Kept (feed_state st (some_buffer xs) piece)
    by Incomplete e = inl (ver, xs ++ piece, elsewhere ver (more_stands ver s piece o e))
    by (Complete k u c g i l) e = inl (ver, [], elsewhere ver (item_stands ver s piece o e))
    by (Invalid k n) e = inr (k, n, stops ver s piece o e)

kept_told : {st : Scan} → Kept st → (ver : Version) → Kept (tell_state ver st)
kept_told (inr (k, n, s)) ver = inr (k, n, subst (λ z. Stopped z k n) (sym (stopped_untold s ver).1) s)
kept_told (inl (before, [], s)) ver = inl (ver, [], stands_told before ver s)
kept_told {st} (inl (before, x ∷ xs, s)) ver =
    inl (before, x ∷ xs, subst (λ z. Stands before z (some_buffer (x ∷ xs)) (x ∷ xs)) (sym (not_taken ver st (told_inside before x xs s))) s)

kept : {st : Scan} → Left st → Kept st
unfolding feed_state
kept left_fresh = inl (v1_2, [], stands_fresh v1_2 (some_buffer []) (omega (arith, length-replicate {A = ℕ} 49228 0)))
kept (left_call {st = st} l buffer piece o) = by (ltb (length buffer) 49228) refl (kept l)
  where
    by : (t : Bool) → ltb (length buffer) 49228 ≡ t → Kept st → Kept (feed_state st buffer piece)
    by true e k = rw e k
    by false e k = kept_call k buffer piece o (ltb-false (length buffer) 49228 e)
kept (left_told l ver) = kept_told (kept l) ver

-- "refuses nothing calls from a fresh reader leave"
pub left_resumable : {st : Scan} → Left st → is_resumable st ≡ true
left_resumable l = by (kept l)
  where
    by : {st : Scan} → Kept st → is_resumable st ≡ true
    by (inl (ver, xs, s)) = resumable ver s
    by (inr (k, n, s)) = s.resumes

-- numbers of a record that are small
pub left_few : {st : Scan} → Left st → (st.matched ≤ 15) × (st.command ≤ 15)
unfolding feed_state tell_state
left_few left_fresh = (omega arith, omega arith)
left_few (left_call {st = st} l buffer piece o) =
    let before = left_few l in
    cond_case Few (ltb (length buffer) 49228) (λ t. before)
    (λ t. cond_case Few (is_resumable st) (λ u. cond_case Few (is_whole (scan st piece)) (λ q. (omega arith, omega arith)) (λ q. (scan_counts piece st).few before)) (λ u. before))
  where
    Few : Scan → Type 0
    Few z = (z.matched ≤ 15) × (z.command ≤ 15)
left_few (left_told {st = st} l ver) =
    let before = left_few l in cond_case Few (is_taken st) (λ t. before) (λ t. before)
  where
    Few : Scan → Type 0
    Few z = (z.matched ≤ 15) × (z.command ≤ 15)
