-- Laws of noting the headers of a block in one walk. Assumes nothing.
--     number_by, number_long, is_number               the number of the header that has a name
--     Walked                                          what the walk knows of the notes at a place of the block
--     walk_begins, walk_ends, walk_fails              its begin and its ends
--     walk_notes, walk_passes                         its turns
--     later_in                                        what a caller learns
use Rattle.std.proofs.Common.{◌≡◌, ℕ, zero, suc, ◌+◌, ◌-◌, ◌<◌, ◌≤◌, Bool, true, false, cond, eqb, List, [], ◌∷◌, map, length, get_or, drop, set, replicate, sym, refl, ap, ◌∙◌, subst, ap₂, arith, length-set, get_or-set_other, get_or-set_same, eq-eqb, ne_eqb, eqb-true}
use mathlib.Core.Option.{Option, none, some}
use borrow.Author.Tests.{eqb-false}
use Rattle.headers.specs.Rows.{same, every, is_octet}
use Rattle.headers.specs.Block.{Entry, Block, entry_before, entry_record, entries, listed, spans, named, later, first_value}
use Rattle.headers.specs.Answers.{accepted, first_span, find_answer, has_entries, is_block}
use Rattle.headers.specs.declared.block.Span.{Span}
use Rattle.headers.specs.declared.block.Lengths.{Lengths}
use Rattle.headers.proofs.Rows.{cond_case, same_eq, never}
use Rattle.headers.proofs.Blocks.{Placed, placed, place_behind, placed_name, placed_value, entries_next, is_block_next, is_block_of, length_record}
use Rattle.headers.proofs.LaidOut.{block_entries, is_block_sound}
use Rattle.headers.proofs.Finding.{find_block, spans_named}
use Rattle.headers.proofs.FirstValues.{find_absent, find_value}
use Rattle.sessions.specs.Headers.{name_of, value_of}
use Rattle.sessions.specs.Notes.{known_headers, headers_max, index_of, located_value, later_noted, mark_of, marked, unmarked, Inside, AllNoted, Notes_of}
use Rattle.sessions.specs.Notes.{number_from, number_of_name, no_notes}
use Rattle.sessions.specs.declared.command.Header.{Header}
use Rattle.std.specs.Prelude.{Some, None, Ok, Err}
use Rattle.sessions.specs.declared.notes.Located.{Located}
use Rattle.headers.specs.declared.block.Malformed.{Malformed}
use Rattle.sessions.specs.declared.notes.Mark.{Mark}
use Rattle.sessions.specs.declared.notes.Notes.{Notes}

-- ## The number of a name

-- a name that passes a test is looked for only among the names that pass it
abbrev pub number_among : (List ℕ → Bool) → ℕ → List Header → List ℕ → ℕ
number_among test k [] x = k
number_among test k (h ∷ hs) x = cond (test (name_of h)) (cond (same x (name_of h)) k (number_among test (suc k) hs x)) (number_among test (suc k) hs x)

among : (test : List ℕ → Bool) (x : List ℕ) → test x ≡ true → (k : ℕ) (hs : List Header) → number_from k hs x ≡ number_among test k hs x
among test x t k [] = refl
among test x t k (h ∷ hs) = by (same x (name_of h)) refl (test (name_of h)) refl (among test x t (suc k) hs)
  where
    by : (a : Bool) → same x (name_of h) ≡ a → (b : Bool) → test (name_of h) ≡ b → number_from (suc k) hs x ≡ number_among test (suc k) hs x
        → cond a k (number_from (suc k) hs x) ≡ cond b (cond a k (number_among test (suc k) hs x)) (number_among test (suc k) hs x)
    by true e true f ih = refl
    by true e false f ih = never (sym f ∙ ap test (sym (same_eq x (name_of h) e)) ∙ t)
    by false e true f ih = ih
    by false e false f ih = ih

pub number_by : (test : List ℕ → Bool) (x : List ℕ) → test x ≡ true → number_of_name x ≡ number_among test 0 known_headers x
unfolding number_of_name
number_by test x t = among test x t 0 known_headers

pub number_long : (x : List ℕ) (n : ℕ) → length x ≡ n → number_of_name x ≡ number_among (λ y. eqb (length y) n) 0 known_headers x
number_long x n e = number_by (λ y. eqb (length y) n) x (eq-eqb (length x) n e)

-- a number below that of all headers is the place of a header with the name
number_least : (k : ℕ) (hs : List Header) (x : List ℕ) → k ≤ number_from k hs x
number_least k [] x = omega arith
number_least k (h ∷ hs) x = cond_case (λ n. k ≤ n) (same x (name_of h)) (λ e. omega arith) (λ e. omega (arith, number_least (suc k) hs x))

name_there : (k n : ℕ) (hs : List Header) (x : List ℕ) → number_from k hs x ≡ k + n → n < length hs → same x (get_or (map name_of hs) n []) ≡ true
name_there k n [] x e f = absurd (omega arith)
name_there k zero (h ∷ hs) x e f = by (same x (name_of h)) e
  where
    by : (t : Bool) → cond t k (number_from (suc k) hs x) ≡ k + 0 → t ≡ true
    by true q = refl
    by false q = absurd (omega (arith, number_least (suc k) hs x))
name_there k (suc n) (h ∷ hs) x e f = by (same x (name_of h)) e (λ q. name_there (suc k) n hs x q (omega arith))
  where
    by : (t : Bool) → cond t k (number_from (suc k) hs x) ≡ k + suc n → (number_from (suc k) hs x ≡ suc k + n → same x (get_or (map name_of hs) n []) ≡ true)
        → same x (get_or (map name_of hs) n []) ≡ true
    by true q go = absurd (omega arith)
    by false q go = go (omega arith)

-- the table of headers and that of their numbers agree, and no two headers have one name
pub record Tabled (h : Header) : Type 0 where
  pub below : index_of h < headers_max
  pub there : get_or (map name_of known_headers) (index_of h) [] ≡ name_of h
  pub itself : number_of_name (name_of h) ≡ index_of h

pub tabled : (h : Header) → Tabled h
unfolding number_of_name
tabled Header.AcceptVersion = record { below = omega arith; there = refl; itself = refl }
tabled Header.HeartBeat = record { below = omega arith; there = refl; itself = refl }
tabled Header.Host = record { below = omega arith; there = refl; itself = refl }
tabled Header.Destination = record { below = omega arith; there = refl; itself = refl }
tabled Header.Id = record { below = omega arith; there = refl; itself = refl }
tabled Header.Transaction = record { below = omega arith; there = refl; itself = refl }
tabled Header.Receipt = record { below = omega arith; there = refl; itself = refl }
tabled Header.Ack = record { below = omega arith; there = refl; itself = refl }
tabled Header.Subscription = record { below = omega arith; there = refl; itself = refl }
tabled Header.MessageId = record { below = omega arith; there = refl; itself = refl }

-- a name has the number of a header exactly where it is that header's name
pub is_number : (x : List ℕ) (h : Header) → eqb (number_of_name x) (index_of h) ≡ same x (name_of h)
unfolding number_of_name
is_number x h = by (same x (name_of h)) refl
  where
    by : (t : Bool) → same x (name_of h) ≡ t → eqb (number_of_name x) (index_of h) ≡ t
    by true e = eq-eqb (number_of_name x) (index_of h) (ap number_of_name (same_eq x (name_of h) e) ∙ (tabled h).itself)
    by false e =
        ne_eqb (number_of_name x) (index_of h)
        (λ q. never (sym e ∙ ap (same x) (sym (tabled h).there) ∙ name_there 0 (index_of h) known_headers x (omega arith) (tabled h).below))

-- ## The values of a header from a place of the block on

abbrev pub left_spans : List ℕ → Header → ℕ → List Span
left_spans block h i = spans (name_of h) i (listed (entries (drop i block)))

-- where the first value is, and with how many later ones follow
abbrev pub first_two : List Span → List ℕ
first_two [] = []
first_two (p ∷ ps) = p.start ∷ p.len ∷ []

with_count : (ps : List Span) (u : Bool) (s n : ℕ) → first_two ps ≡ cond u [] (s ∷ n ∷ []) → first_span ps ≡ cond u [] (s ∷ n ∷ (length ps - 1) ∷ [])
with_count [] true s n e = refl
with_count [] false s n e = absurd (let z : ◌≡◌ {A = ℕ} 0 1 = cc in omega arith)
with_count (p ∷ ps) true s n e = absurd (let z : ◌≡◌ {A = ℕ} 0 1 = cc in omega arith)
with_count (p ∷ ps) false s n e =
    let (start, len) = two p.start p.len s n e in
    let k : length ps ≡ length (p ∷ ps) - 1 = omega arith in
    ap (λ z. z ∷ p.len ∷ length ps ∷ []) start ∙ ap₂ (λ z w. s ∷ z ∷ w ∷ []) len k
  where
    two : (a b c d : ℕ) → ◌≡◌ {A = List ℕ} (a ∷ b ∷ []) (c ∷ d ∷ []) → (a ≡ c) × (b ≡ d)
    two a b c d q = (cc, cc)

-- the value of the record at a place, after its head and its name
abbrev pub span_at : ℕ → Lengths → Span
span_at i l = record { start = i + 6 + l.name; len = l.value }

-- from a record on: its own, where it has the header's name, and those after it
module _ (block : List ℕ) (i : ℕ) (l : Lengths) (p : Placed block i l) (h : Header) where
  abbrev with_own : List Span → List Span
  with_own ps = cond (same (placed block i l).name (name_of h)) (span_at i l ∷ ps) ps

  before_spans : (o : Option (List Entry)) → has_entries o ≡ true
      → spans (name_of h) i (listed (entry_before (placed block i l) o)) ≡ with_own (spans (name_of h) (place_behind i l) (listed o))
  unfolding spans
  before_spans none t = never t
  before_spans (some es) t =
      let next : i + length (entry_record (placed block i l)) ≡ place_behind i l =
      omega (arith, length_record (placed block i l), placed_name block i l p, placed_value block i l p) in
      ap₂ (λ (s : Span) k. cond (same (placed block i l).name (name_of h)) (s ∷ spans (name_of h) k es) (spans (name_of h) k es))
      (ap₂ (λ n v. let s : Span = record { start = i + 6 + n; len = v } in s) (placed_name block i l p) (placed_value block i l p)) next

  pub spans_next : is_block (drop i block) ≡ true → left_spans block h i ≡ with_own (left_spans block h (place_behind i l))
  unfolding is_block
  spans_next b =
      ap (λ o. spans (name_of h) i (listed o)) (entries_next block i l p)
      ∙ before_spans (entries (drop (place_behind i l) block)) (sym (is_block_next block i l p) ∙ b)

-- ## What is noted of a header

-- the notes with another mark for a number
abbrev pub with_mark : Notes → ℕ → Mark → Notes
with_mark r k m = record { marks = set r.marks k m }

-- what holds of each mark still does
each_mark : (P : ℕ → Mark → Type 0) (r : Notes) (k : ℕ) (m : Mark) → k < length r.marks
    → P k m → ((j : ℕ) → (j ≡ k → ⊥) → P j (mark_of r j)) → (j : ℕ) → P j (mark_of (with_mark r k m) j)
each_mark P r k m h here others j = by (eqb j k) refl
  where
    by : (t : Bool) → eqb j k ≡ t → P j (mark_of (with_mark r k m) j)
    by true q =
        subst (λ i. P i (mark_of (with_mark r k m) i)) (sym (eqb-true j k q))
        (subst (P k) (sym (get_or-set_same r.marks k m unmarked h)) here)
    by false q = subst (P j) (sym (get_or-set_other r.marks k j m unmarked (eqb-false j k q))) (others j (eqb-false j k q))

-- a mark is of the part of a block up to a place
pub record Bounded (m : Mark) (i : ℕ) : Type 0 where
  pub ordered : m.start ≤ m.end
  pub inside : m.end ≤ i
  pub few : m.count ≤ i

-- a mark, with the values that are left, says how many there are in all and where the first is
pub record Follows (m : Mark) (left all : List Span) : Type 0 where
  pub counted : m.count + length left ≡ length all
  pub first : cond (eqb m.count 0) (first_two left) (m.start ∷ (m.end - m.start) ∷ []) ≡ first_two all

module _ (m : Mark) where
  bounded_later : (i j : ℕ) → i ≤ j → Bounded m i → Bounded m j
  bounded_later i j h b = record { ordered = b.ordered; inside = omega (arith, b.inside); few = omega (arith, b.few) }

  bounded_value : (i s e : ℕ) → i < e → s ≤ e → Bounded m i → Bounded (marked m s e) e
  bounded_value i s e h f b = by (eqb m.count 0)
    where
      by : (t : Bool) → Bounded (record { start = cond t s m.start; end = cond t e m.end; count = m.count + 1 }) e
      by true = record { ordered = f; inside = omega arith; few = omega (arith, b.few) }
      by false = record { ordered = b.ordered; inside = omega (arith, b.inside); few = omega (arith, b.few) }

  follows_value : (s n e : ℕ) (left all : List Span) → s + n ≡ e → Follows m (record { start = s; len = n } ∷ left) all → Follows (marked m s e) left all
  follows_value s n e left all q f =
      record { counted = omega (arith, f.counted); first = rw (ne_eqb (m.count + 1) 0 (λ z. omega arith)) (by (eqb m.count 0) f.first) }
    where
      by : (t : Bool) → cond t (s ∷ n ∷ []) (m.start ∷ (m.end - m.start) ∷ []) ≡ first_two all
          → cond t s m.start ∷ (cond t e m.end - cond t s m.start) ∷ [] ≡ first_two all
      by true p = ap (λ k. s ∷ k ∷ []) (let d : e - s ≡ n = omega arith in d) ∙ p
      by false p = p

-- ## The walk

-- what it knows at place i of the block
pub record Walked (block : List ℕ) (r : Notes) (i : ℕ) : Type 0 where
  pub within : i ≤ length block
  pub sized : length r.marks ≡ headers_max
  pub bounded : (k : ℕ) → Bounded (mark_of r k) i
  pub remains : is_block block ≡ is_block (drop i block)
  pub says : is_block block ≡ true → (h : Header) → Follows (mark_of r (index_of h)) (left_spans block h i) (left_spans block h 0)

unmarked_at : (n k : ℕ) → get_or (replicate n unmarked) k unmarked ≡ unmarked
unmarked_at zero k = refl
unmarked_at (suc n) zero = refl
unmarked_at (suc n) (suc k) = unmarked_at n k

pub walk_begins : (block : List ℕ) → Walked block no_notes 0
walk_begins block =
    record {
      within = omega arith;
      sized = refl;
      bounded = λ k. subst (λ m. Bounded m 0) (sym (unmarked_at headers_max k)) (record { ordered = omega arith; inside = omega arith; few = omega arith });
      remains = refl;
      says = λ b h.
          subst (λ m. Follows m (left_spans block h 0) (left_spans block h 0)) (sym (unmarked_at headers_max (index_of h)))
          (record { counted = omega arith; first = refl });
    }

module _ (block : List ℕ) (r : Notes) (i : ℕ) (w : Walked block r i) where
  -- at a record whose name has the number k
  module _ (l : Lengths) (p : Placed block i l) (k : ℕ) (q : k ≡ number_of_name (placed block i l).name) where
    abbrev After : Header → Mark → Type 0
    After h m = Follows m (left_spans block h (place_behind i l)) (left_spans block h 0)

    -- of each header, by whether the name is its own
    turn : is_block block ≡ true → (h : Header) (t : Bool) → eqb k (index_of h) ≡ t
        → let ps = left_spans block h (place_behind i l) in Follows (mark_of r (index_of h)) (cond t (span_at i l ∷ ps) ps) (left_spans block h 0)
    turn b h t e =
        let ps = left_spans block h (place_behind i l) in
        let own : same (placed block i l).name (name_of h) ≡ t =
        sym (is_number (placed block i l).name h) ∙ ap (λ n. eqb n (index_of h)) (sym q) ∙ e in
        subst (λ us. Follows (mark_of r (index_of h)) us (left_spans block h 0))
        (spans_next block i l p h (sym w.remains ∙ b) ∙ ap (λ u. cond u (span_at i l ∷ ps) ps) own) (w.says b h)

    pub walk_passes : headers_max ≤ k → Walked block r (place_behind i l)
    walk_passes g =
        record {
          within = p.inside;
          sized = w.sized;
          bounded = λ j. bounded_later (mark_of r j) i (place_behind i l) (omega arith) (w.bounded j);
          remains = w.remains ∙ is_block_next block i l p;
          says = λ b h. turn b h false (ne_eqb k (index_of h) (λ e. omega (arith, (tabled h).below)));
        }

    own : is_block block ≡ true → (h : Header) → k ≡ index_of h → After h (marked (mark_of r (index_of h)) (i + 6 + l.name) (place_behind i l))
    own b h e =
        follows_value (mark_of r (index_of h)) (i + 6 + l.name) l.value (place_behind i l) (left_spans block h (place_behind i l))
        (left_spans block h 0) refl (turn b h true (eq-eqb k (index_of h) e))

    -- at one of a header that is known
    pub walk_notes : k < headers_max → Walked block (with_mark r k (marked (mark_of r k) (i + 6 + l.name) (place_behind i l))) (place_behind i l)
    walk_notes g =
        let m = marked (mark_of r k) (i + 6 + l.name) (place_behind i l) in
        let inside : k < length r.marks = omega (arith, w.sized) in
        record {
          within = p.inside;
          sized = length-set r.marks k m ∙ w.sized;
          bounded =
              each_mark (λ j n. Bounded n (place_behind i l)) r k m inside
              (bounded_value (mark_of r k) i (i + 6 + l.name) (place_behind i l) (omega arith) (omega arith) (w.bounded k))
              (λ j d. bounded_later (mark_of r j) i (place_behind i l) (omega arith) (w.bounded j));
          remains = w.remains ∙ is_block_next block i l p;
          says = λ b h.
              each_mark (λ j n. index_of h ≡ j → After h n) r k m inside
              (λ e. subst (λ j. After h (marked (mark_of r j) (i + 6 + l.name) (place_behind i l))) e (own b h (sym e)))
              (λ j d e. subst (λ n. After h (mark_of r n)) e (turn b h false (ne_eqb k (index_of h) (λ z. d (sym e ∙ sym z)))))
              (index_of h) refl;
        }

  -- at the end of the block
  module _ (o : every is_octet block ≡ true) (e : entries (drop i block) ≡ some []) where
    ended : is_block block ≡ true → (h : Header) → Follows (mark_of r (index_of h)) [] (left_spans block h 0)
    unfolding spans
    ended b h = subst (λ us. Follows (mark_of r (index_of h)) us (left_spans block h 0)) (ap (λ z. spans (name_of h) i (listed z)) e) (w.says b h)

    abbrev spanned : Header → Located
    spanned h = let m = mark_of r (index_of h) in record { start = m.start; end = m.end }

    spans_inside : (h : Header) (t : Bool) → Inside block (cond t None (Some (spanned h)))
    spans_inside h true = tt
    spans_inside h false = ((w.bounded (index_of h)).ordered, omega (arith, (w.bounded (index_of h)).inside, w.within))

    found : (b : is_block block ≡ true) (h : Header) (t : Bool) → eqb (mark_of r (index_of h)).count 0 ≡ t
        → located_value block (cond t None (Some (spanned h))) ≡ value_of h (listed (entries block))
    found b h t q = by t (answer t q)
      where
        es : List Entry
        es = (is_block_sound block o b).0

        is : Block block es
        is = (is_block_sound block o b).1

        all : listed (entries block) ≡ es
        all = ap listed (block_entries block es is)

        m : Mark
        m = mark_of r (index_of h)

        count : ℕ
        count = length (spans (name_of h) 0 es) - 1

        answer : (u : Bool) → eqb m.count 0 ≡ u → find_answer block (name_of h) ≡ accepted (cond u [] (m.start ∷ (m.end - m.start) ∷ count ∷ []))
        answer u z =
            find_block block (name_of h) es is
            ∙ ap accepted
            (with_count (spans (name_of h) 0 es) u m.start (m.end - m.start)
            (ap (λ ds. first_two (spans (name_of h) 0 ds)) (sym all) ∙ sym (ended b h).first ∙ ap (λ v. cond v [] (m.start ∷ (m.end - m.start) ∷ [])) z))

        by : (u : Bool) → find_answer block (name_of h) ≡ accepted (cond u [] (m.start ∷ (m.end - m.start) ∷ count ∷ []))
            → located_value block (cond u None (Some (spanned h))) ≡ value_of h (listed (entries block))
        by true a = sym (find_absent (name_of h) block es is a) ∙ ap (first_value (name_of h)) (sym all)
        by false a = sym (find_value (name_of h) block es is m.start (m.end - m.start) count a).0 ∙ ap (first_value (name_of h)) (sym all)

    pub walk_ends : Notes_of block (Ok r)
    walk_ends =
        let b : is_block block ≡ true = w.remains ∙ is_block_of (drop i block) (some []) e in (
          b,
          λ h. record {
            first = record {
              inside = spans_inside h (eqb (mark_of r (index_of h)).count 0);
              first = found b h (eqb (mark_of r (index_of h)).count 0) refl;
            };
            counted = omega (arith, (ended b h).counted);
          },
        )

  -- where no record is
  pub walk_fails : (x : Malformed) → entries (drop i block) ≡ none → Notes_of block (Err x)
  walk_fails x e = w.remains ∙ is_block_of (drop i block) none e

-- ## What a caller learns of the notes

-- how many later entries follow the first of a header
pub later_in : {block : List ℕ} {r : Notes} → AllNoted block r → (h : Header) → later_noted r h ≡ later (name_of h) (listed (entries block))
later_in {block} {r} all h =
    let many : (mark_of r (index_of h)).count ≡ length (named (name_of h) (listed (entries block))) =
    (all h).counted ∙ spans_named (name_of h) 0 (listed (entries block)) in
    ap (◌- 1) many
