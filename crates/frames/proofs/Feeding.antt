-- One call of a stream parser, where octets of an item stand read: the reply is that to all octets of the item so far. Assumes nothing.
--     Stands     xs of the item under way are read, and stand at the buffer's front
--     fed        what a call then answers and leaves
use mathlib.Core.Path.{◌≡◌, refl, sym, ◌∙◌, ap, ap₂, subst}
use mathlib.Core.Bool.{Bool, true, false, cond}
use mathlib.Core.List.{List, [], ◌++◌}
use Prim.Native.Nat.{ℕ, ◌+◌, ◌-◌, ◌≤◌, ◌<◌, min}
use native.Mathlib.Omega.{arith}
use native.Mathlib.Decide.{dec_lt}
use lib.ListN.{length, take, drop, length-append, length-take, length-drop, take-append-drop}
use lib.Seq.{paste, take-append-le, take-append-add, take_at, length-take-le, take-length}
use lib.Dec.{eqb, ltb}
use borrow.Author.Tests.{eqb-true, eqb-false, ne_eqb, le-leb, lt-ltb, le-ltb}
use Rattle.headers.specs.Rows.{every, is_octet}
use Rattle.headers.proofs.Rows.{cond_case, every_append}
use Rattle.frames.specs.Grammar.{crlf, Tree, heart_beat, frame, octets}
use Rattle.frames.specs.declared.version.Version.{Version}
use Rattle.frames.specs.Replies.{Reply, Complete, Incomplete, Invalid, told, used_of}
use Rattle.frames.specs.Parsing.{parsed}
use Rattle.frames.specs.Exactness.{Begins, Claims, Exact}
use Rattle.frames.specs.Scanning.{scan, nothing_read, scan_reply}
use Rattle.frames.specs.Validity.{is_valid}
use Rattle.frames.specs.declared.state.Scan.{Scan}
use Rattle.frames.proofs.Scanning.{scanned}
use Rattle.frames.proofs.Exact.{exact}
use Rattle.frames.proofs.Running.{scan_ended}
use Rattle.frames.proofs.Sizes.{item_short, viable_short, incomplete_short}
use Rattle.frames.proofs.Checks.{valid_decides, first_run_passes}
use Rattle.frames.specs.Streams.{replied, reach, fits_version, is_resumable, is_whole, feed_answer, feed_state, feed_buffer}
use Rattle.frames.proofs.Counting.{scan_counts, scan_append}
use Rattle.frames.proofs.Endings.{first_fits}

-- ---- what a state shows

-- by the phase
data Shows (st : Scan) : Reply → Type 0 where
  shows_beat : st.phase ≡ 14 → Shows st (Complete 1 st.at 0 0 0 0)
  shows_frame : st.phase ≡ 15 → Shows st (Complete 2 st.at st.command st.lines (st.at - 1 - st.len) st.len)
  shows_refusal : st.phase ≡ 16 → Shows st (Invalid st.code st.at)
  shows_more : st.phase < 14 → Shows st Incomplete

shows : (st : Scan) → st.phase ≤ 16 → Shows st (scan_reply st)
shows st h =
    cond_case (Shows st) (eqb st.phase 14) (λ t. shows_beat (eqb-true st.phase 14 t))
    (λ t. cond_case (Shows st) (eqb st.phase 15) (λ u. shows_frame (eqb-true st.phase 15 u))
    (λ u. cond_case (Shows st) (eqb st.phase 16) (λ q. shows_refusal (eqb-true st.phase 16 q))
    (λ q. shows_more (omega (arith, eqb-false st.phase 14 t, eqb-false st.phase 15 u, eqb-false st.phase 16 q)))))

abbrev pub is_item : Reply → Bool
is_item (Complete kind used command headers start len) = true
is_item Incomplete = false
is_item (Invalid k n) = false

reached : (st : Scan) (m : ℕ) {r : Reply} → Shows st r → (st.phase < 14 → st.at ≡ m) → st.at ≡ reach r m
reached st m (shows_beat e) h = refl
reached st m (shows_frame e) h = refl
reached st m (shows_refusal e) h = refl
reached st m (shows_more e) h = h e

whole : (st : Scan) {r : Reply} → Shows st r → is_whole st ≡ is_item r
whole st (shows_beat e) = rw e refl
whole st (shows_frame e) = rw e refl
whole st (shows_refusal e) = rw e refl
whole st (shows_more e) = rw (ne_eqb st.phase 14 (λ q. omega arith), ne_eqb st.phase 15 (λ q. omega arith)) refl

-- a reply other than Incomplete is given at an end
ended : (st : Scan) {r : Reply} → Shows st r → (r ≡ Incomplete → ⊥) → 13 < st.phase
ended st (shows_beat e) h = omega arith
ended st (shows_frame e) h = omega arith
ended st (shows_refusal e) h = omega arith
ended st (shows_more e) h = absurd (h refl)

known : (w : Bool) (xs : List ℕ) → (scan (nothing_read w) xs).phase ≤ 16
known w xs = ((valid_decides (scan (nothing_read w) xs)).pass (first_run_passes w xs)).known

module _ (ver : Version) where
  -- before the first octet, in this version
  abbrev pub none_read : Scan
  none_read = nothing_read (crlf ver)

  -- the state after xs shows the reply to xs
  after : (xs : List ℕ) → Shows (scan none_read xs) (parsed ver xs)
  after xs = subst (Shows (scan none_read xs)) (scanned ver xs) (shows (scan none_read xs) (known (crlf ver) xs))

  -- and counts how far they are taken
  count : (xs : List ℕ) → (scan none_read xs).at ≡ reach (parsed ver xs) (length xs)
  count xs = reached (scan none_read xs) (length xs) (after xs) (λ h. omega (arith, (scan_counts xs none_read).whole h))

  -- octets behind an item or a refused octet change nothing
  pub parsed_more : (xs ys : List ℕ) → (parsed ver xs ≡ Incomplete → ⊥) → parsed ver (xs ++ ys) ≡ parsed ver xs
  parsed_more xs ys h =
      sym (scanned ver (xs ++ ys))
      ∙ ap scan_reply (scan_append xs ys none_read ∙ scan_ended ys (scan none_read xs) (ended (scan none_read xs) (after xs) h))
      ∙ scanned ver xs

  -- ---- how far octets are taken

  pub told_used : (t : Tree) → used_of (told t) ≡ length (octets t)
  told_used (heart_beat e) = refl
  told_used (frame h e b) = refl

  pub reach_within : (zs : List ℕ) (r : Reply) → Exact ver zs r → (reach r (length zs) ≤ length zs) × (reach r (length zs) ≤ 49228)
  reach_within zs (Complete k u c h s l) x =
      let (t, rest, b, e, only, not) = x.claims in
      let long = ap used_of e in
      (omega (arith, long, told_used t, ap length b.1, length-append (octets t) rest), omega (arith, long, told_used t, item_short ver (octets t) (t, b.0, refl)))
  reach_within zs Incomplete x = (omega arith, omega (arith, viable_short ver zs x.claims.0))
  reach_within zs (Invalid k n) x =
      let l = x.claims.0 in (omega (arith, l.inside), omega (arith, l.inside, viable_short ver (take n zs) l.longest, length-take n zs))

  -- the front of octets that an item is, where it is not longer than the first of them
  front_item : (xs piece : List ℕ) (t : Tree) (rest : List ℕ) → Begins ver (xs ++ piece) t rest → length (octets t) ≤ length xs → Begins ver xs t (drop (length (octets t)) xs)
  front_item xs piece t rest (v, e) h =
      let front : octets t ≡ take (length (octets t)) xs = sym (take_at (octets t) rest (length (octets t)) refl) ∙ ap (take (length (octets t))) e ∙ take-append-le (length (octets t)) xs piece h in
      (v, ap (◌++ drop (length (octets t)) xs) front ∙ take-append-drop (length (octets t)) xs)

  -- what could still be finished ends before the item does
  pub item_beyond : (xs piece : List ℕ) → every is_octet xs ≡ true → every is_octet piece ≡ true → parsed ver xs ≡ Incomplete
      → {k u c h s l : ℕ} → parsed ver (xs ++ piece) ≡ Complete k u c h s l → length xs < u
  item_beyond xs piece o p more {k} {u} {c} {h} {s} {l} e =
      let (t, rest, b, q, only, not) = subst (Claims ver (xs ++ piece)) e (exact ver (xs ++ piece) (every_append is_octet xs piece o p)).claims in
      by t rest b q (dec_lt (length xs) u)
    where
      never : (t : Tree) → told t ≡ Incomplete → ⊥
      never (heart_beat z) w = let y : ◌≡◌ {A = ℕ} 0 1 = cc in omega arith
      never (frame z a b) w = let y : ◌≡◌ {A = ℕ} 0 1 = cc in omega arith

      by : (t : Tree) (rest : List ℕ) → Begins ver (xs ++ piece) t rest → told t ≡ Complete k u c h s l → Dec (length xs < u) → length xs < u
      by t rest b q (yes g) = g
      by t rest b q (no g) =
          let long = ap used_of q in
          absurd (never t (sym ((exact ver xs o).complete t _ (front_item xs piece t rest b (omega (arith, long, told_used t)))) ∙ more))

  -- ---- where a parser stands

  pub record Stands (st : Scan) (buffer xs : List ℕ) : Type 0 where
    pub state : st ≡ scan none_read xs
    pub more : parsed ver xs ≡ Incomplete
    pub of_octets : every is_octet xs ≡ true
    pub front : take (length xs) buffer ≡ xs
    pub room : 49228 ≤ length buffer

  -- of no octets nothing can be said yet
  pub none_more : parsed ver [] ≡ Incomplete
  none_more = sym (scanned ver [])

  -- a fresh one
  pub stands_fresh : (buffer : List ℕ) → 49228 ≤ length buffer → Stands none_read buffer []
  stands_fresh buffer h = record { state = refl; more = none_more; of_octets = refl; front = refl; room = h }

  module _ {st : Scan} {buffer xs : List ℕ} (s : Stands st buffer xs) where
    pub held : st.at ≡ length xs
    held = ap (λ z. z.at) s.state ∙ count xs ∙ ap (λ r. reach r (length xs)) s.more

    -- a run keeps the version
    pub same_version : st.crlf ≡ crlf ver
    same_version = ap (λ z. z.crlf) s.state ∙ (scan_counts xs none_read).same_ends

    goes_on : st.phase < 14
    goes_on = by (scan none_read xs) (after xs) s.state
      where
        by : (z : Scan) → Shows z (parsed ver xs) → st ≡ z → st.phase < 14
        by z w e = other (parsed ver xs) w s.more
          where
            other : (r : Reply) → Shows z r → r ≡ Incomplete → st.phase < 14
            other r (shows_beat q) i = let y : ◌≡◌ {A = ℕ} 0 1 = cc in absurd (omega arith)
            other r (shows_frame q) i = let y : ◌≡◌ {A = ℕ} 0 1 = cc in absurd (omega arith)
            other r (shows_refusal q) i = let y : ◌≡◌ {A = ℕ} 0 1 = cc in absurd (omega arith)
            other r (shows_more q) i = omega (arith, ap (λ z. z.phase) e)

    -- 71's rule refuses no such record
    pub resumable : is_resumable st ≡ true
    unfolding is_resumable
    resumable =
        let short = incomplete_short ver xs (parsed ver xs) (exact ver xs s.of_octets) s.more in
        let fits : fits_version st ≡ true = ap fits_version s.state ∙ first_fits (crlf ver) xs in
        rw (ap is_valid s.state ∙ first_run_passes (crlf ver) xs, le-leb st.at 49227 (omega (arith, held)), fits, lt-ltb st.phase 14 goes_on) refl

    -- ---- a call

    module _ (piece : List ℕ) (o : every is_octet piece ≡ true) where
      -- the octets of the item so far, the reply to them, and how far they are taken
      abbrev pub so_far : List ℕ
      so_far = xs ++ piece

      abbrev pub reply : Reply
      reply = parsed ver so_far

      abbrev pub upto : ℕ
      upto = reach reply (length so_far)

      next : scan st piece ≡ scan none_read so_far
      next = ap (λ z. scan z piece) s.state ∙ sym (scan_append xs piece none_read)

      next_at : (scan st piece).at ≡ upto
      next_at = ap (λ z. z.at) next ∙ count so_far

      pub so_far_octets : every is_octet so_far ≡ true
      so_far_octets = every_append is_octet xs piece s.of_octets o

      pub within : (length xs ≤ upto) × (upto ≤ length so_far) × (upto ≤ 49228)
      within =
          let (a, b) = reach_within so_far reply (exact ver so_far so_far_octets) in
          (omega (arith, (scan_counts piece st).onward, held, next_at), a, b)

      long_enough : ltb (length buffer) 49228 ≡ false
      long_enough = le-ltb (length buffer) 49228 s.room

      -- the reply is that to all octets of the item so far, and the piece is taken as far as they are
      pub fed_answer : feed_answer st buffer piece ≡ replied reply (upto - length xs)
      unfolding feed_answer
      fed_answer = rw (long_enough, resumable) (ap₂ replied (ap scan_reply next ∙ scanned ver so_far) (ap₂ (◌-◌) next_at held))

      pub fed_state : feed_state st buffer piece ≡ cond (is_item reply) none_read (scan none_read so_far)
      unfolding feed_state
      fed_state =
          rw (long_enough, resumable)
          (ap₂ (λ t z. cond t (nothing_read st.crlf) z) (ap is_whole next ∙ whole (scan none_read so_far) (after so_far)) next
          ∙ ap (λ w. cond (is_item reply) (nothing_read w) (scan none_read so_far)) same_version)

      -- the octets taken of the item stand at the front
      pub fed_buffer : feed_buffer st buffer piece ≡ take upto so_far ++ drop upto buffer
      unfolding feed_buffer
      fed_buffer =
          let m = upto - length xs in
          let all : length xs + m ≡ upto = omega (arith, within.0) in
          let fits : min ((scan st piece).at - st.at) (length buffer - st.at) ≡ m = ap₂ (λ a b. min (a - b) (length buffer - b)) next_at held ∙ omega (arith, within, s.room) in
          rw (long_enough, resumable)
          (ap (paste buffer st.at piece) fits
          ∙ ap (λ a. paste buffer a piece m) held
          ∙ ap₂ (λ a b. (a ++ take m piece) ++ drop b buffer) s.front all
          ∙ ap (λ a. a ++ drop upto buffer) (sym (take-append-add xs piece m) ∙ ap (λ a. take a so_far) all))

      pub fed_front : take upto (feed_buffer st buffer piece) ≡ take upto so_far
      fed_front = ap (take upto) fed_buffer ∙ take_at (take upto so_far) (drop upto buffer) upto (length-take-le upto so_far within.1)

      pub fed_room : 49228 ≤ length (feed_buffer st buffer piece)
      fed_room = omega (arith, ap length fed_buffer, length-append (take upto so_far) (drop upto buffer), length-take-le upto so_far within.1, length-drop upto buffer, s.room)

      -- more is wanted: the piece is taken whole, and the parser stands behind it
      module _ (e : reply ≡ Incomplete) where
        pub more_answer : feed_answer st buffer piece ≡ replied Incomplete (length piece)
        more_answer = fed_answer ∙ ap (λ r. replied r (reach r (length so_far) - length xs)) e ∙ ap (replied Incomplete) (omega (arith, length-append xs piece))

        pub more_stands : Stands (feed_state st buffer piece) (feed_buffer st buffer piece) so_far
        more_stands =
            record {
              state = fed_state ∙ ap (λ r. cond (is_item r) none_read (scan none_read so_far)) e;
              more = e;
              of_octets = so_far_octets;
              front = let all : upto ≡ length so_far = ap (λ r. reach r (length so_far)) e in ap (λ n. take n (feed_buffer st buffer piece)) (sym all) ∙ fed_front ∙ ap (λ n. take n so_far) all ∙ take-length so_far;
              room = fed_room;
            }

      -- an item is found: its octets stand at the front, and the parser is a fresh one
      module _ {k u c h i l : ℕ} (e : reply ≡ Complete k u c h i l) where
        pub item_answer : feed_answer st buffer piece ≡ replied (Complete k u c h i l) (u - length xs)
        item_answer = fed_answer ∙ ap (λ r. replied r (reach r (length so_far) - length xs)) e

        pub item_stands : Stands (feed_state st buffer piece) (feed_buffer st buffer piece) []
        item_stands = subst (λ z. Stands z (feed_buffer st buffer piece) []) (sym (fed_state ∙ ap (λ r. cond (is_item r) none_read (scan none_read so_far)) e)) (stands_fresh (feed_buffer st buffer piece) fed_room)

        pub item_front : take u (feed_buffer st buffer piece) ≡ take u so_far
        item_front = subst (λ r. take (reach r (length so_far)) (feed_buffer st buffer piece) ≡ take (reach r (length so_far)) so_far) e fed_front

        pub item_within : (length xs < u) × (u ≤ length so_far)
        item_within = (item_beyond xs piece s.of_octets o s.more e, omega (arith, within.1, ap (λ r. reach r (length so_far)) e))

      -- octets are refused: those before the offset stand at the front
      module _ {k n : ℕ} (e : reply ≡ Invalid k n) where
        pub refusal_answer : feed_answer st buffer piece ≡ replied (Invalid k n) (n - length xs)
        refusal_answer = fed_answer ∙ ap (λ r. replied r (reach r (length so_far) - length xs)) e

        pub refusal_front : take n (feed_buffer st buffer piece) ≡ take n so_far
        refusal_front = subst (λ r. take (reach r (length so_far)) (feed_buffer st buffer piece) ≡ take (reach r (length so_far)) so_far) e fed_front

        pub refusal_within : n ≤ length so_far
        refusal_within = omega (arith, within.1, ap (λ r. reach r (length so_far)) e)

        pub refused_state : let left = feed_state st buffer piece in (left ≡ scan none_read so_far) × (left.phase ≡ 16) × (left.code ≡ k) × (left.at ≡ n)
        refused_state =
            let left : feed_state st buffer piece ≡ scan none_read so_far = fed_state ∙ ap (λ r. cond (is_item r) none_read (scan none_read so_far)) e in
            let (p, c, a) = by (scan none_read so_far) reply (after so_far) e in
            (left, ap (λ z. z.phase) left ∙ p, ap (λ z. z.code) left ∙ c, ap (λ z. z.at) left ∙ a)
          where
            by : (z : Scan) (r : Reply) → Shows z r → r ≡ Invalid k n → (z.phase ≡ 16) × (z.code ≡ k) × (z.at ≡ n)
            by z r (shows_beat q) i = let y : ◌≡◌ {A = ℕ} 0 1 = cc in absurd (omega arith)
            by z r (shows_frame q) i = let y : ◌≡◌ {A = ℕ} 0 1 = cc in absurd (omega arith)
            by z r (shows_refusal q) i = (q, cc, cc)
            by z r (shows_more q) i = let y : ◌≡◌ {A = ℕ} 0 1 = cc in absurd (omega arith)
