-- However a stream is cut, and whatever versions are told, a fresh stream parser finds what parsing the whole one item after another
-- finds, each item in the version told. Assumes nothing.
--     agreement                    the items, their octets, and how it ends
--     feeds_once, parses_once      each side has one outcome
use mathlib.Core.Path.{◌≡◌, refl, sym, ◌∙◌, ap, ap₂, subst}
use mathlib.Core.Bool.{true}
use mathlib.Core.List.{List, [], ◌∷◌, ◌++◌, append_assoc, append-nil}
use Prim.Native.Nat.{ℕ, zero, suc, ◌+◌, ◌-◌, ◌≤◌, ◌<◌}
use native.Mathlib.Omega.{arith}
use lib.ListN.{length, take, drop, length-append, length-drop}
use lib.Seq.{take-append-le, drop-append-add}
use borrow.Author.Tests.{le-leb, lt-leb, ne_eqb}
use Rattle.headers.specs.Rows.{every, is_octet}
use Rattle.headers.proofs.Rows.{every_append, every_left, every_right, every_drop}
use Rattle.frames.specs.declared.version.Version.{Version}
use Rattle.frames.specs.Replies.{Reply, Complete, Incomplete, Invalid}
use Rattle.frames.specs.Parsing.{parsed}
use Rattle.frames.specs.declared.state.Scan.{Scan}
use Rattle.frames.specs.Streams.{feed_state, feed_buffer, version_of, tell_state, Event, arrives, tells, octets_in, version_at, after_octets}
use Rattle.frames.specs.Streams.{Found, found, End, unfinished, invalid, Parses, at_end, at_refusal, at_item, Feeds, no_event, wants_more, finds_item, refuses, is_told}
use Rattle.frames.proofs.Feeding.{none_read, none_more, parsed_more, item_beyond, Stands, stands_fresh, held, more_answer, more_stands, item_answer, item_stands, item_front, item_within, refusal_answer, refusal_front, refusal_within}
use Rattle.frames.proofs.Telling.{not_taken, told_inside, stands_told, version_is}

-- ---- rows of events

-- more octets than a piece has, and no more
pub after_beyond : (xs : List ℕ) (es : List Event) (n : ℕ) → length xs < n → after_octets n (arrives xs ∷ es) ≡ after_octets (n - length xs) es
after_beyond xs es n h = rw (lt-leb n (length xs) h) refl

pub after_inside : (xs : List ℕ) (es : List Event) (n : ℕ) → n ≤ length xs → after_octets n (arrives xs ∷ es) ≡ arrives (drop n xs) ∷ es
after_inside xs es n h = rw (le-leb n (length xs) h) refl

pub after_told : (ver : Version) (es : List Event) (n : ℕ) → 0 < n → after_octets n (tells ver ∷ es) ≡ after_octets n es
after_told ver es n h = rw (ne_eqb n 0 (λ e. omega arith)) refl

-- the version of an item that is begun
begun_version : (ver : Version) (xs : List ℕ) (es : List Event) → (xs ≡ [] → ⊥) → version_at ver (arrives xs ∷ es) ≡ ver
begun_version ver [] es h = absurd (h refl)
begun_version ver (x ∷ xs) es h = refl

-- An item that octets xs begin with, which can still be finished, is longer than they are. Its version is that of xs, or, where there are
-- none, the one told after them.
item_past : (ver : Version) (xs : List ℕ) (es : List Event) → every is_octet xs ≡ true → every is_octet (octets_in es) ≡ true → parsed ver xs ≡ Incomplete
    → (k u c h s l : ℕ) → parsed (version_at ver (arrives xs ∷ es)) (xs ++ octets_in es) ≡ Complete k u c h s l → length xs < u
item_past ver [] es o p more k u c h s l e = item_beyond (version_at ver es) [] (octets_in es) refl p (none_more (version_at ver es)) e
item_past ver (x ∷ xs) es o p more k u c h s l e = item_beyond ver (x ∷ xs) (octets_in es) o p more e

-- Rows that are read alike: with the same octets, the same version first, and the same events after more than m octets, where the first
-- item has more.
alike : {ver ver' : Version} {es es' : List Event} {items : List Found} {end : End} (m : ℕ)
    → octets_in es ≡ octets_in es' → version_at ver es ≡ version_at ver' es'
    → ((n : ℕ) → m < n → after_octets n es ≡ after_octets n es')
    → ((k u c h s l : ℕ) → parsed (version_at ver es) (octets_in es) ≡ Complete k u c h s l → m < u)
    → Parses ver es items end → Parses ver' es' items end
alike {ver} {ver'} {es} {es'} m o w rest past (at_end p) =
    subst (λ z. Parses ver' es' [] (unfinished z)) (sym o) (at_end (ap₂ parsed (sym w) (sym o) ∙ p))
alike {ver} {ver'} {es} {es'} m o w rest past (at_refusal {k = k} {n = n} p) =
    subst (λ z. Parses ver' es' [] (invalid k n (take n z))) (sym o) (at_refusal (ap₂ parsed (sym w) (sym o) ∙ p))
alike {ver} {ver'} {es} {es'} m o w rest past (at_item {kind = k} {used = u} {command = c} {headers = h} {start = i} {len = l} {items = items} {end = end} p q) =
    subst (λ z. Parses ver' es' (found z (Complete k u c h i l) (take u (octets_in es)) ∷ items) end) (sym w)
    (subst (λ z. Parses ver' es' (found (version_at ver' es') (Complete k u c h i l) (take u z) ∷ items) end) (sym o)
    (at_item (ap₂ parsed (sym w) (sym o) ∙ p)
    (subst (λ z. Parses z (after_octets u es') items end) w (subst (λ z. Parses (version_at ver es) z items end) (rest u (past k u c h i l p)) q))))

-- ---- the law

-- what of a piece is not taken, where u octets of xs and the piece are
pub rest_of : (xs piece : List ℕ) (u : ℕ) → length xs ≤ u → drop u (xs ++ piece) ≡ drop (u - length xs) piece
rest_of xs piece u h = let e : length xs + (u - length xs) ≡ u = omega arith in ap (λ n. drop n (xs ++ piece)) (sym e) ∙ drop-append-add xs piece (u - length xs)

-- the outcome of what a caller does from where xs are read, and of parsing all octets
pub record Agree (ver : Version) (st : Scan) (buffer xs : List ℕ) (es : List Event) : Type 0 where
  pub items : List Found
  pub end : End
  pub feeds : Feeds st buffer es items end
  pub parses : Parses ver (arrives xs ∷ es) items end

-- no octet more: a row without the empty piece before it
no_piece : (ver : Version) (es : List Event) {items : List Found} {end : End} → every is_octet (octets_in es) ≡ true
    → Parses ver (arrives [] ∷ es) items end → Parses ver es items end
no_piece ver es o p =
    alike 0 refl refl (λ n h. after_beyond [] es n h ∙ ap (λ k. after_octets k es) (omega arith)) (item_past ver [] es refl o (none_more ver)) p

module _ (ver : Version) {st : Scan} {buffer xs : List ℕ} (s : Stands ver st buffer xs) (piece : List ℕ) (o : every is_octet piece ≡ true) (es : List Event)
    (others : every is_octet (octets_in es) ≡ true) where
  behind : (xs ++ piece) ++ octets_in es ≡ xs ++ (piece ++ octets_in es)
  behind = append_assoc xs piece (octets_in es)

  same_reply : (parsed ver (xs ++ piece) ≡ Incomplete → ⊥) → parsed ver (xs ++ (piece ++ octets_in es)) ≡ parsed ver (xs ++ piece)
  same_reply h = ap (parsed ver) (sym behind) ∙ parsed_more ver (xs ++ piece) (octets_in es) h

  same_front : (u : ℕ) → u ≤ length (xs ++ piece) → take u (xs ++ (piece ++ octets_in es)) ≡ take u (xs ++ piece)
  same_front u h = ap (take u) (sym behind) ∙ take-append-le u (xs ++ piece) (octets_in es) h

  abbrev row : List Event
  row = arrives xs ∷ arrives piece ∷ es

  -- the version of an item that the octets so far decide on
  decided : (parsed ver (xs ++ piece) ≡ Incomplete → ⊥) → version_at ver row ≡ ver
  decided h = by xs piece h
    where
      by : (xs piece : List ℕ) → (parsed ver (xs ++ piece) ≡ Incomplete → ⊥) → version_at ver (arrives xs ∷ arrives piece ∷ es) ≡ ver
      by [] [] h = absurd (h (none_more ver))
      by [] (x ∷ piece) h = refl
      by (x ∷ xs) piece h = refl

  replied_so : {r : Reply} → (r ≡ Incomplete → ⊥) → parsed ver (xs ++ piece) ≡ r → parsed (version_at ver row) (octets_in row) ≡ r
  replied_so {r} n e =
      let h : parsed ver (xs ++ piece) ≡ Incomplete → ⊥ = λ i. n (sym e ∙ i) in
      ap (λ v. parsed v (octets_in row)) (decided h) ∙ same_reply h ∙ e

  agree_more : parsed ver (xs ++ piece) ≡ Incomplete
      → Agree ver (feed_state st buffer piece) (feed_buffer st buffer piece) (xs ++ piece) es → Agree ver st buffer xs (arrives piece ∷ es)
  agree_more e a =
      record {
        items = a.items;
        end = a.end;
        feeds = wants_more (more_answer ver s piece o e) a.feeds;
        parses =
            alike (length (xs ++ piece)) behind (same xs piece) passed
            (item_past ver (xs ++ piece) es (every_append is_octet xs piece s.of_octets o) others e) a.parses;
      }
    where
      same : (xs piece : List ℕ) → version_at ver (arrives (xs ++ piece) ∷ es) ≡ version_at ver (arrives xs ∷ arrives piece ∷ es)
      same [] piece = refl
      same (x ∷ xs) piece = refl

      passed : (n : ℕ) → length (xs ++ piece) < n → after_octets n (arrives (xs ++ piece) ∷ es) ≡ after_octets n row
      passed n h =
          let long = length-append xs piece in
          let left : n - length (xs ++ piece) ≡ n - length xs - length piece = omega (arith, long) in
          after_beyond (xs ++ piece) es n h ∙ ap (λ k. after_octets k es) left
          ∙ sym (after_beyond xs (arrives piece ∷ es) n (omega (arith, long)) ∙ after_beyond piece es (n - length xs) (omega (arith, long)))

  agree_refusal : {k n : ℕ} → parsed ver (xs ++ piece) ≡ Invalid k n → Agree ver st buffer xs (arrives piece ∷ es)
  agree_refusal {k} {n} e =
      let front : take n (feed_buffer st buffer piece) ≡ take n (octets_in row) = refusal_front ver s piece o e ∙ sym (same_front n (refusal_within ver s piece o e)) in
      record {
        items = [];
        end = invalid k n (take n (octets_in row));
        feeds = subst (λ z. Feeds st buffer (arrives piece ∷ es) [] (invalid k n z)) front (refuses (refusal_answer ver s piece o e));
        parses = at_refusal (replied_so (λ i. let y : ◌≡◌ {A = ℕ} 0 1 = cc in omega arith) e);
      }

  agree_item : {k u c h i l : ℕ} (e : parsed ver (xs ++ piece) ≡ Complete k u c h i l)
      → Agree ver (feed_state st buffer piece) (feed_buffer st buffer piece) [] (arrives (drop (u - length xs) piece) ∷ es)
      → Agree ver st buffer xs (arrives piece ∷ es)
  agree_item {k} {u} {c} {h} {i} {l} e a =
      let (beyond, inside) = item_within ver s piece o e in
      let rest = drop (u - length xs) piece in
      let front : take u (feed_buffer st buffer piece) ≡ take u (octets_in row) = item_front ver s piece o e ∙ sym (same_front u inside) in
      let not : Complete k u c h i l ≡ Incomplete → ⊥ = λ i. let y : ◌≡◌ {A = ℕ} 0 1 = cc in omega arith in
      let at : version_at ver row ≡ ver = decided (λ i. not (sym e ∙ i)) in
      let left : after_octets u row ≡ arrives rest ∷ es =
      after_beyond xs (arrives piece ∷ es) u beyond ∙ after_inside piece es (u - length xs) (omega (arith, length-append xs piece)) in
      let ours : every is_octet (rest ++ octets_in es) ≡ true =
      every_append is_octet rest (octets_in es) (every_drop is_octet (u - length xs) piece o) others in
      let onward : Parses (version_at ver row) (after_octets u row) a.items a.end =
      subst (λ z. Parses (version_at ver row) z a.items a.end) (sym left)
      (subst (λ z. Parses z (arrives rest ∷ es) a.items a.end) (sym at) (no_piece ver (arrives rest ∷ es) ours a.parses)) in
      record {
        items = found (version_at ver row) (Complete k u c h i l) (take u (octets_in row)) ∷ a.items;
        end = a.end;
        feeds =
            subst (λ z. Feeds st buffer (arrives piece ∷ es) (found z (Complete k u c h i l) (take u (octets_in row)) ∷ a.items) a.end) (version_is ver s ∙ sym at)
            (subst (λ z. Feeds st buffer (arrives piece ∷ es) (found (version_of st) (Complete k u c h i l) z ∷ a.items) a.end) front
            (finds_item (item_answer ver s piece o e) a.feeds));
        parses = at_item (replied_so not e) onward;
      }

agree_none : (ver : Version) {st : Scan} {buffer xs : List ℕ} → Stands ver st buffer xs → Agree ver st buffer xs []
agree_none ver {st} {buffer} {xs} s =
    let all = append-nil xs in
    record {
      items = [];
      end = unfinished (xs ++ []);
      feeds = subst (λ z. Feeds st buffer [] [] (unfinished z)) (ap (λ m. take m buffer) (held ver s) ∙ s.front ∙ sym all) no_event;
      parses = at_end (ap₂ parsed (last xs) all ∙ s.more);
    }
  where
    last : (xs : List ℕ) → version_at ver (arrives xs ∷ []) ≡ ver
    last [] = refl
    last (x ∷ xs) = refl

-- a version is told: between items that is the parser's from then on, inside an item nothing changes
module _ (ver other : Version) {st : Scan} {buffer : List ℕ} (es : List Event) (others : every is_octet (octets_in es) ≡ true) where
  agree_between : Agree other (tell_state other st) buffer [] es → Agree ver st buffer [] (tells other ∷ es)
  agree_between a =
      record {
        items = a.items;
        end = a.end;
        feeds = is_told a.feeds;
        parses = alike 0 refl refl passed (item_past other [] es refl others (none_more other)) a.parses;
      }
    where
      passed : (n : ℕ) → 0 < n → after_octets n (arrives [] ∷ es) ≡ after_octets n (arrives [] ∷ tells other ∷ es)
      passed n h =
          after_beyond [] es n h ∙ sym (after_beyond [] (tells other ∷ es) n h ∙ after_told other es (n - 0) (omega arith))

  agree_inside : (x : ℕ) (xs : List ℕ) → Stands ver st buffer (x ∷ xs) → Agree ver st buffer (x ∷ xs) es → Agree ver st buffer (x ∷ xs) (tells other ∷ es)
  agree_inside x xs s a =
      record {
        items = a.items;
        end = a.end;
        feeds = is_told (subst (λ z. Feeds z buffer es a.items a.end) (sym (not_taken other st (told_inside ver x xs s))) a.feeds);
        parses = alike (length (x ∷ xs)) refl refl passed (item_past ver (x ∷ xs) es s.of_octets others s.more) a.parses;
      }
    where
      passed : (n : ℕ) → length (x ∷ xs) < n → after_octets n (arrives (x ∷ xs) ∷ es) ≡ after_octets n (arrives (x ∷ xs) ∷ tells other ∷ es)
      passed n h =
          after_beyond (x ∷ xs) es n h
          ∙ sym (after_beyond (x ∷ xs) (tells other ∷ es) n h ∙ after_told other es (n - length (x ∷ xs)) (omega arith))

-- what is left to do, by induction
abbrev Follows : ℕ → Type 0
Follows n = (es : List Event) (ver : Version) (st : Scan) (buffer xs : List ℕ) → length (octets_in es) + length es ≤ n
    → every is_octet (octets_in es) ≡ true → Stands ver st buffer xs → Agree ver st buffer xs es

agree_told : (n : ℕ) → Follows n → (es : List Event) (ver other : Version) (st : Scan) (buffer xs : List ℕ) → length (octets_in es) + length es ≤ n
    → every is_octet (octets_in es) ≡ true → Stands ver st buffer xs → Agree ver st buffer xs (tells other ∷ es)
agree_told n ih es ver other st buffer [] h o s = agree_between ver other es o (ih es other (tell_state other st) buffer [] h o (stands_told ver other s))
agree_told n ih es ver other st buffer (x ∷ xs) h o s = agree_inside ver other es o x xs s (ih es ver st buffer (x ∷ xs) h o s)

agree_piece : (n : ℕ) → Follows n → (piece : List ℕ) (es : List Event) (ver : Version) (st : Scan) (buffer xs : List ℕ)
    → length (octets_in (arrives piece ∷ es)) + length es ≤ n → every is_octet (octets_in (arrives piece ∷ es)) ≡ true
    → Stands ver st buffer xs → Agree ver st buffer xs (arrives piece ∷ es)
agree_piece n ih piece es ver st buffer xs h o s = by (parsed ver (xs ++ piece)) refl
  where
    ours : every is_octet piece ≡ true
    ours = every_left is_octet piece (octets_in es) o

    others : every is_octet (octets_in es) ≡ true
    others = every_right is_octet piece (octets_in es) o

    by : (r : Reply) → parsed ver (xs ++ piece) ≡ r → Agree ver st buffer xs (arrives piece ∷ es)
    by Incomplete e =
        agree_more ver s piece ours es others e (ih es ver _ _ _ (omega (arith, h, length-append piece (octets_in es))) others (more_stands ver s piece ours e))
    by (Invalid k m) e = agree_refusal ver s piece ours es others e
    by (Complete k u c g i l) e =
        let (beyond, inside) = item_within ver s piece ours e in
        let rest = drop (u - length xs) piece in
        agree_item ver s piece ours es others e
        (ih (arrives rest ∷ es) ver _ _ _
        (omega (arith, h, length-append piece (octets_in es), length-append rest (octets_in es), length-drop (u - length xs) piece, length-append xs piece))
        (every_append is_octet rest (octets_in es) (every_drop is_octet (u - length xs) piece ours) others)
        (item_stands ver s piece ours e))

agree : (n : ℕ) → Follows n
agree zero [] ver st buffer xs h o s = agree_none ver s
agree zero (e ∷ es) ver st buffer xs h o s = absurd (omega arith)
agree (suc n) [] ver st buffer xs h o s = agree_none ver s
agree (suc n) (arrives piece ∷ es) ver st buffer xs h o s = agree_piece n (agree n) piece es ver st buffer xs (omega arith) o s
agree (suc n) (tells other ∷ es) ver st buffer xs h o s = agree_told n (agree n) es ver other st buffer xs (omega arith) o s

-- "However a stream is cut, zero-length pieces counted, the row of items, the first refusal and its place from the item's start agree
-- with judging the whole stream one item after another", "each item in the edition told".
pub agreement : (ver : Version) (buffer : List ℕ) (es : List Event) → 49228 ≤ length buffer → every is_octet (octets_in es) ≡ true
    → (items : List Found) × (end : End) × Feeds (none_read ver) buffer es items end × Parses ver es items end
agreement ver buffer es room o =
    let a = agree (length (octets_in es) + length es) es ver (none_read ver) buffer [] (omega arith) o (stands_fresh ver buffer room) in
    (a.items, a.end, a.feeds, no_piece ver es o a.parses)

-- ---- each side has one outcome

pub parses_once : {ver : Version} {es : List Event} {items items' : List Found} {end end' : End}
    → Parses ver es items end → Parses ver es items' end' → (items ≡ items') × (end ≡ end')
parses_once (at_end e) (at_end f) = (refl, refl)
parses_once (at_end e) (at_refusal f) = let y : ◌≡◌ {A = ℕ} 0 1 = cc in absurd (omega arith)
parses_once (at_end e) (at_item f q) = let y : ◌≡◌ {A = ℕ} 0 1 = cc in absurd (omega arith)
parses_once (at_refusal e) (at_end f) = let y : ◌≡◌ {A = ℕ} 0 1 = cc in absurd (omega arith)
parses_once (at_refusal e) (at_refusal f) = (refl, cc)
parses_once (at_refusal e) (at_item f q) = let y : ◌≡◌ {A = ℕ} 0 1 = cc in absurd (omega arith)
parses_once (at_item e p) (at_end f) = let y : ◌≡◌ {A = ℕ} 0 1 = cc in absurd (omega arith)
parses_once (at_item e p) (at_refusal f) = let y : ◌≡◌ {A = ℕ} 0 1 = cc in absurd (omega arith)
parses_once {ver} {es} (at_item {used = u} {items = is} {end = d} e p) (at_item {used = v} {items = js} {end = d'} f q) =
    let same : v ≡ u = cc in
    let w : (is ≡ js) × (d ≡ d') = parses_once p (subst (λ n. Parses (version_at ver es) (after_octets n es) js d') same q) in
    let a : is ≡ js = w.0 in
    (cc, w.1)

pub feeds_once : {st : Scan} {buffer : List ℕ} {es : List Event} {items items' : List Found} {end end' : End}
    → Feeds st buffer es items end → Feeds st buffer es items' end' → (items ≡ items') × (end ≡ end')
feeds_once no_event no_event = (refl, refl)
feeds_once (wants_more e p) (wants_more f q) = feeds_once p q
feeds_once (wants_more e p) (finds_item f q) = let y : ◌≡◌ {A = ℕ} 0 1 = cc in absurd (omega arith)
feeds_once (wants_more e p) (refuses f) = let y : ◌≡◌ {A = ℕ} 0 1 = cc in absurd (omega arith)
feeds_once (finds_item e p) (wants_more f q) = let y : ◌≡◌ {A = ℕ} 0 1 = cc in absurd (omega arith)
feeds_once {st} {buffer} (finds_item {piece = piece} {es = es} {items = is} {end = d} {taken = m} e p) (finds_item {items = js} {end = d'} {taken = n} f q) =
    let same : n ≡ m = cc in
    let w : (is ≡ js) × (d ≡ d') =
    feeds_once p (subst (λ z. Feeds (feed_state st buffer piece) (feed_buffer st buffer piece) (arrives (drop z piece) ∷ es) js d') same q) in
    let a : is ≡ js = w.0 in
    (cc, w.1)
feeds_once (finds_item e p) (refuses f) = let y : ◌≡◌ {A = ℕ} 0 1 = cc in absurd (omega arith)
feeds_once (refuses e) (wants_more f q) = let y : ◌≡◌ {A = ℕ} 0 1 = cc in absurd (omega arith)
feeds_once (refuses e) (finds_item f q) = let y : ◌≡◌ {A = ℕ} 0 1 = cc in absurd (omega arith)
feeds_once (refuses e) (refuses f) = (refl, cc)
feeds_once (is_told p) (is_told q) = feeds_once p q
