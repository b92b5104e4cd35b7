-- Octets passed at a go: the state that some octets lead to, and what an octet of a word or a length does. Assumes nothing.
use mathlib.Core.Path.{◌≡◌, refl, sym, ◌∙◌, ap, subst}
use mathlib.Core.Bool.{Bool, true, false, cond}
use mathlib.Core.List.{List}
use Prim.Native.Nat.{ℕ, ◌+◌, ◌-◌, ◌*◌, ◌≤◌, ◌<◌}
use native.Mathlib.Omega.{arith}
use lib.ListN.{length, take, drop, get_or}
use lib.Dec.{eqb}
use borrow.Author.Tests.{eq-eqb, ne_eqb, le-leb, lt-ltb}
use Rattle.headers.specs.Lines.{content_length}
use Rattle.headers.specs.declared.text.Field.TheVariants.{Name as in_name, Value as in_value}
use Rattle.headers.proofs.Rows.{cond_case}
use Rattle.headers.proofs.Decimals.{digit_apart}
use Rattle.frames.specs.declared.state.Scan.{Scan}
use Rattle.headers.specs.Stretches.{plain_in}
use Rattle.frames.specs.Scanning.{style_of, most_of, next_command, to_phase, in_line, on_word, on_name, on_length, scan_step, scan, Valid, text_stops, skip, Ahead, Passed}
use Rattle.frames.proofs.Parts.{octet_at}
use Rattle.frames.proofs.Upto.{upto_at}
use Rattle.frames.proofs.Steps.{room, room_name}
use Rattle.frames.proofs.Validity.{valid_step}
use Rattle.frames.proofs.Gliding.{reads_plain}
use Rattle.frames.proofs.Running.{scan_next}

-- ---- The state that some octets lead to

-- st' is passed to, and the next octet stands at j
abbrev pub Gone : List ℕ → ℕ → Scan → Scan → ℕ → Type 0
Gone s i st st' j = Passed s i st st' × (j ≡ i + (st'.at - st.at))

module _ {s : List ℕ} {i : ℕ} {st : Scan} where
  pub passed_none : i ≤ length s → Valid st → Gone s i st st i
  passed_none h v =
      let here : i ≡ i + (st.at - st.at) = omega arith in
      (record { onward = omega arith; within = omega arith; kept = v; same_end = ap (λ n. scan st (drop n s)) here }, here)

  pub passed_start : i ≤ length s → Valid st → Gone s i st st (i + 0)
  passed_start h v = ((passed_none h v).0, omega arith)

  -- a stretch
  pub passed_ahead : {k : ℕ} {st' : Scan} → Ahead s i st k → st' ≡ skip k st → Passed s i st st'
  passed_ahead {k} a e =
      let here : i + k ≡ i + (st.at + k - st.at) = omega arith in
      subst (Passed s i st) (sym e)
      (record { onward = omega arith; within = omega (arith, a.within); kept = a.kept; same_end = a.same_end ∙ ap (λ n. scan (skip k st) (drop n s)) here })

  -- one octet more
  pub passed_step : {j : ℕ} {st' st'' : Scan} → Gone s i st st' j → j < length s → st'' ≡ scan_step st' (get_or s j 0) → st''.at ≡ st'.at + 1 → Gone s i st st'' (j + 1)
  passed_step {j} {st'} {st''} (p, here) h e a =
      let on = p.onward in
      let next : j + 1 ≡ i + (st''.at - st.at) = omega arith in (
        record {
          onward = omega arith;
          within = omega arith;
          kept = subst Valid (sym e) (valid_step st' p.kept (get_or s j 0));
          same_end =
              p.same_end
              ∙ ap (λ n. scan st' (drop n s)) (sym here)
              ∙ scan_next s j st' h
              ∙ ap (λ z. scan z (drop (j + 1) s)) (sym e)
              ∙ ap (λ n. scan st'' (drop n s)) next;
        },
        next,
      )

-- an octet more of a part of the row that begins where the stretch does
pub passed_more : {s : List ℕ} {i : ℕ} {st : Scan} (n k : ℕ) {st' st'' : Scan} → Gone s i st st' (i + k) → k < length (take n (drop i s))
    → st'' ≡ scan_step st' (get_or (take n (drop i s)) k 0) → st''.at ≡ st'.at + 1 → Gone s i st st'' (i + (k + 1))
passed_more {s} {i} {st} n k {st'} {st''} p h e a =
    let (inside, octet) = octet_at n s i k h in
    let on : i + k + 1 ≡ i + (k + 1) = omega arith in
    subst (Gone s i st st'') on (passed_step p inside (e ∙ ap (scan_step st') octet) a)

-- two stretches, one after the other
pub passed_then : {s : List ℕ} {i j : ℕ} {st st' st'' : Scan} → Passed s i st st' → j ≡ i + (st'.at - st.at) → Passed s j st' st'' → Passed s i st st''
passed_then {s} {i} {j} {st} {st'} {st''} p here q =
    let a = p.onward in
    let b = q.onward in
    let w = q.within in
    let there : j + (st''.at - st'.at) ≡ i + (st''.at - st.at) = omega arith in
    record {
      onward = omega arith;
      within = omega arith;
      kept = q.kept;
      same_end = p.same_end ∙ ap (λ n. scan st' (drop n s)) (sym here) ∙ q.same_end ∙ ap (λ n. scan st'' (drop n s)) there;
    }

-- ---- What an octet of a word or a length does

-- the letters of content-length, and digits, stand for themselves
letter_plain : (w b : Bool) (m : ℕ) → m < 14 → plain_in (record { cr = cond w 13 10; colon = 58; back = cond b 92 10; top = 127 }) (get_or content_length m 0) ≡ true
letter_plain true true m h = upto_at (λ n. plain_in (record { cr = 13; colon = 58; back = 92; top = 127 }) (get_or content_length n 0)) 14 m refl h
letter_plain true false m h = upto_at (λ n. plain_in (record { cr = 13; colon = 58; back = 10; top = 127 }) (get_or content_length n 0)) 14 m refl h
letter_plain false true m h = upto_at (λ n. plain_in (record { cr = 10; colon = 58; back = 92; top = 127 }) (get_or content_length n 0)) 14 m refl h
letter_plain false false m h = upto_at (λ n. plain_in (record { cr = 10; colon = 58; back = 10; top = 127 }) (get_or content_length n 0)) 14 m refl h

digit_plain : (w c b : Bool) (x : ℕ) → 48 ≤ x → x ≤ 57 → plain_in (record { cr = cond w 13 10; colon = cond c 58 10; back = cond b 92 10; top = 127 }) x ≡ true
digit_plain w c b x h l =
    let (lf, cr, colon, slash) = digit_apart x h l in
    simp (lf, either w 13 lf cr, either c 58 lf colon, either b 92 lf slash, le-leb x 127 (omega arith))
  where
    either : (t : Bool) (k : ℕ) → eqb x 10 ≡ false → eqb x k ≡ false → eqb x (cond t k 10) ≡ false
    either t k lf h = cond_case (λ z. eqb x z ≡ false) t (λ u. h) (λ u. lf)

module _ (st : Scan) (x : ℕ) where
  -- a letter of a command
  pub word_on : {c : ℕ} → st.phase ≡ 2 → c ≡ next_command st.command st.at x → (c ≡ 0 → ⊥) → scan_step st x ≡ to_phase st 2 c
  unfolding scan_step on_word
  word_on {c} e same n = simp (e, ← same, ne_eqb c 0 n)

  -- a letter of content-length
  pub name_on : st.phase ≡ 5 → st.matched < 14 → st.len < 511 → x ≡ get_or content_length st.matched 0 → scan_step st x ≡ in_line st 5 (st.matched + 1) st.size (st.len + 1)
  unfolding scan_step on_name
  name_on e m h same =
      let y = style_of st.crlf st.command in
      let t : plain_in (text_stops y in_name) x ≡ true = rw same (letter_plain y.crlf y.escapes st.matched m) in
      simp (e, reads_plain y in_name x t, room_name 0 511 st.len refl, lt-ltb st.len 511 h, lt-ltb st.matched 14 m, eq-eqb x _ same)

  -- a digit of its value
  pub digit_on : st.phase ≡ 9 → st.len < 512 → 48 ≤ x → x ≤ 57 → st.size * 10 + (x - 48) ≤ most_of st.command → scan_step st x ≡ in_line st 9 0 (st.size * 10 + (x - 48)) (st.len + 1)
  unfolding scan_step on_length
  digit_on e h l u m =
      let y = style_of st.crlf st.command in
      simp (e, reads_plain y in_value x (digit_plain y.crlf y.escapes y.escapes x l u), room 0 512 st.len refl, lt-ltb st.len 512 h, le-leb 48 x l, le-leb x 57 u, le-leb (st.size * 10 + (x - 48)) (most_of st.command) m)
