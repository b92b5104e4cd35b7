-- Pending deliveries taken out, and one more laid out after the others. Assumes nothing.
--     kept_labels, kept_lens, kept_places      the rows that stay are the layout of the deliveries that stay
--     without_laid, entered_laid               what the code builds is the record with those deliveries
use Rattle.std.proofs.Common.{◌≡◌, ℕ, suc, ◌+◌, ◌-◌, ◌*◌, ◌<◌, ◌≤◌, Bool, true, false, cond, not, ◌||◌, eqb, ltb, leb, List, [], ◌∷◌, ◌++◌, map, length, get_or, take, drop, set, replicate, sym, refl, ap, ◌∙◌, ap₂, append_assoc, append-nil, mul-one, arith, length-append, length-drop, take-append-drop, length-take-le, drop-drop, le-ltb, lt-ltb, eq-eqb, le-leb}
use mathlib.Core.Option.{some}
use native.Mathlib.Nat.{sub-zero}
use borrow.Author.Tests.{lt-leb}
use lib.ListN.{length-map, length-replicate}
use lib.Seq.{set_at}
use Rattle.headers.specs.Rows.{first_of}
use Rattle.headers.specs.Answers.{Puts}
use Rattle.headers.proofs.Rows.{and_left, and_right, every_drop, every_replicate, or_yes}
use Rattle.stores.specs.Places.{padded, is_zero}
use Rattle.stores.specs.Searches.{first_from}
use Rattle.sessions.specs.Stores.{ids, laid, lengths, clean}
use Rattle.sessions.specs.Places.{Fits, put_in}
use Rattle.stores.specs.Compaction.{rows, joined, stays_at, kept, kept_octets, kept_in, Compacts}
use Rattle.sessions.specs.Sessions.{SizedDeliveries}
use Rattle.sessions.specs.Deliveries.{label_max, Pending, pending, labels_of, places_of, filled, deliveries_of, labelled, without, settled, Laid}
use Rattle.stores.specs.declared.compaction.Range.{Range}
use Rattle.sessions.specs.declared.delivery.Deliveries.{Deliveries}
use Rattle.stores.proofs.Filling.{padded_take, zeros, padded_long}
use Rattle.sessions.proofs.Stores.{fits_first, fits_long, fits_next, laid_ids, length_ids, lengths_ids}
use Rattle.stores.proofs.Compacting.{kept_long, kept_in_all}
use Rattle.stores.proofs.Walking.{drop_one}
use Rattle.stores.proofs.Searching.{first_at}
use Rattle.sessions.proofs.Pending.{places_paired, labels_paired}

-- ---- rows and what stays of them

kept_map : {A B : Type 0} (f : A → B) (g : Range) (i : ℕ) (ps : List ℕ) (xs : List A) → kept g i ps (map f xs) ≡ map f (kept g i ps xs)
unfolding kept
kept_map f g i [] xs = refl
kept_map f g i (p ∷ ps) [] = refl
kept_map f g i (p ∷ ps) (x ∷ xs) = by (stays_at g i p) (kept_map f g (suc i) ps xs)
  where
    by : (t : Bool) → kept g (suc i) ps (map f xs) ≡ map f (kept g (suc i) ps xs)
        → cond t (f x ∷ kept g (suc i) ps (map f xs)) (kept g (suc i) ps (map f xs)) ≡ map f (cond t (x ∷ kept g (suc i) ps xs) (kept g (suc i) ps xs))
    by true go = ap (f x ∷◌) go
    by false go = go

joined_padded : (w : ℕ) (xs : List (List ℕ)) → joined (map (padded w) xs) ≡ laid w xs
unfolding laid
joined_padded w [] = refl
joined_padded w (x ∷ xs) = ap (padded w x ++◌) (joined_padded w xs)

joined_single : (xs : List ℕ) → joined (map (λ x. x ∷ []) xs) ≡ xs
joined_single [] = refl
joined_single (x ∷ xs) = ap (x ∷◌) (joined_single xs)

-- the rows of a clean store are its ids, padded
rows_padded : (w n : ℕ) (s ls ps : List ℕ) → Fits w n s ls → clean w s ls ≡ true → length ps ≡ length ls → rows w s ps ≡ map (padded w) (ids w s ls)
unfolding rows ids clean
rows_padded w n s [] [] f c e = refl
rows_padded w n s [] (p ∷ ps) f c e = absurd (omega arith)
rows_padded w n s (l ∷ ls) [] f c e = absurd (omega arith)
rows_padded w n s (l ∷ ls) (p ∷ ps) f c e =
    ap₂ (◌∷◌) (sym (padded_take w l s (fits_first f) (omega (arith, fits_long f)) (and_left (is_zero (drop l (take w s))) (clean w (drop w s) ls) c)))
    (rows_padded w (length ls) (drop w s) ls ps (fits_next f) (and_right (is_zero (drop l (take w s))) (clean w (drop w s) ls) c) (omega arith))

rows_single : (s ps : List ℕ) → length s ≡ length ps → rows 1 s ps ≡ map (λ x. x ∷ []) s
unfolding rows
rows_single [] [] e = refl
rows_single [] (p ∷ ps) e = absurd (omega arith)
rows_single (x ∷ s) [] e = absurd (omega arith)
rows_single (x ∷ s) (p ∷ ps) e = ap ((x ∷ []) ∷◌) (rows_single s ps (omega arith))

-- ---- one more

pub map-append : {A B : Type 0} (f : A → B) (xs ys : List A) → map f (xs ++ ys) ≡ map f xs ++ map f ys
map-append f [] ys = refl
map-append f (x ∷ xs) ys = ap (f x ∷◌) (map-append f xs ys)

laid_append : (w : ℕ) (xs : List (List ℕ)) (x : List ℕ) → laid w (xs ++ (x ∷ [])) ≡ laid w xs ++ padded w x
unfolding laid
laid_append w [] x = append-nil (padded w x)
laid_append w (y ∷ xs) x = ap (padded w y ++◌) (laid_append w xs x) ∙ sym (append_assoc (padded w y) (laid w xs) (padded w x))

-- a row of zeros, further on
tail_zero : (k w n : ℕ) (xs : List ℕ) → length xs ≡ n → is_zero (drop k xs) ≡ true → drop (k + w) xs ≡ replicate (n - (k + w)) 0
tail_zero k w n xs long h =
    zeros (drop (k + w) xs) (ap is_zero (sym (drop-drop w k xs)) ∙ every_drop (λ x. eqb x 0) w (drop k xs) h)
    ∙ ap (λ m. replicate m 0) (length-drop (k + w) xs ∙ ap (◌- (k + w)) long)

-- an element set where all from there on is 0
set_behind : (n k : ℕ) (xs front : List ℕ) (x : ℕ) → length xs ≡ n → k < n → take k xs ≡ front → is_zero (drop k xs) ≡ true
    → set xs k x ≡ filled n (front ++ (x ∷ []))
set_behind n k xs front x long less is h =
    let front_long : length front ≡ k = ap length (sym is) ∙ length-take-le k xs (omega (arith, long, less)) in
    let whole : xs ≡ front ++ (get_or xs k 0 ∷ drop (k + 1) xs) = sym (take-append-drop k xs) ∙ ap₂ (◌++◌) is (drop_one xs k 0 (omega (arith, long, less))) in
    let tail : drop (k + 1) xs ≡ replicate (n - (k + 1)) 0 = tail_zero k 1 n xs long h in
    let m : k + 1 ≡ length (front ++ (x ∷ [])) = sym (length-append front (x ∷ []) ∙ ap (◌+ 1) front_long) in
    ap (λ z. set z k x) whole ∙ set_at front (get_or xs k 0) (drop (k + 1) xs) x k front_long
    ∙ ap (λ z. front ++ (x ∷ z)) tail ∙ sym (append_assoc front (x ∷ []) (replicate (n - (k + 1)) 0))
    ∙ ap (λ z. (front ++ (x ∷ [])) ++ replicate (n - z) 0) m

-- ---- a record laid out

module _ (d : Deliveries) (sized : SizedDeliveries d) (l : Laid d) where
  abbrev store : List ℕ
  store = take (d.count * label_max) d.labels

  abbrev lens : List ℕ
  lens = take d.count d.lens

  abbrev places : List ℕ
  places = take d.count d.places

  lens_count : length lens ≡ d.count
  lens_count = length-take-le d.count d.lens (omega (arith, l.few, sized.lens_long))

  places_count : length places ≡ d.count
  places_count = length-take-le d.count d.places (omega (arith, l.few, sized.places_long))

  pub store_count : length store ≡ d.count * 32
  store_count = length-take-le (d.count * label_max) d.labels (omega (arith, l.few, sized.labels_long))

  pub fits : Fits label_max d.count store lens
  fits = record { lens_long = lens_count; store_long = store_count; lens_short = l.short_yes }

  pub alike : length places ≡ length (ids label_max store lens)
  alike = places_count ∙ sym (length_ids label_max store lens ∙ lens_count)

  pub places_are : places_of (pending d) ≡ places
  places_are = places_paired places (ids label_max store lens) alike

  pub labels_are : labels_of (pending d) ≡ ids label_max store lens
  labels_are = labels_paired places (ids label_max store lens) alike

  abbrev staying : Range → List Pending
  staying g = kept g 0 (places_of (pending d)) (pending d)

  -- what stays of the labels, their lengths and the places
  pub kept_labels : (g : Range) → kept_octets g 32 0 store places ≡ laid label_max (labels_of (staying g))
  kept_labels g =
      ap (λ z. joined (kept g 0 places z)) (rows_padded 32 d.count store lens places fits l.clean_yes (places_count ∙ sym lens_count))
      ∙ ap joined (kept_map (padded 32) g 0 places (ids label_max store lens)) ∙ joined_padded 32 (kept g 0 places (ids label_max store lens))
      ∙ ap (laid 32) (ap₂ (kept g 0) (sym places_are) (sym labels_are) ∙ kept_map (λ (p : Pending). p.label) g 0 (places_of (pending d)) (pending d))

  pub kept_lens : (g : Range) → kept_octets g 1 0 lens places ≡ lengths (labels_of (staying g))
  kept_lens g =
      ap (λ z. joined (kept g 0 places z)) (rows_single lens places (lens_count ∙ sym places_count))
      ∙ ap joined (kept_map (λ x. x ∷ []) g 0 places lens) ∙ joined_single (kept g 0 places lens)
      ∙ ap₂ (kept g 0) (sym places_are) (sym (ap lengths labels_are ∙ lengths_ids label_max d.count store lens fits))
      ∙ kept_map length g 0 (places_of (pending d)) (labels_of (pending d))
      ∙ ap lengths (kept_map (λ (p : Pending). p.label) g 0 (places_of (pending d)) (pending d))

  pub kept_places : (g : Range) → kept_octets g 1 0 places places ≡ places_of (staying g)
  kept_places g =
      ap (λ z. joined (kept g 0 places z)) (rows_single places places refl)
      ∙ ap joined (kept_map (λ x. x ∷ []) g 0 places places) ∙ joined_single (kept g 0 places places)
      ∙ ap₂ (kept g 0) (sym places_are) (sym places_are) ∙ kept_map (λ (p : Pending). p.place) g 0 (places_of (pending d)) (pending d)

  -- written into rows of 0
  filled_put : (n r : ℕ) (xs out : List ℕ) → Puts xs r (replicate n 0) out → length xs ≤ n → out ≡ filled n xs
  filled_put n r xs out (a, b) h = b ∙ ap (xs ++◌) (dropped n (length xs))
    where
      dropped : (n k : ℕ) → drop {A = ℕ} k (replicate n 0) ≡ replicate (n - k) 0
      dropped n k = zeros (drop k (replicate n 0)) (every_drop (λ x. eqb x 0) k (replicate n 0) (every_replicate (λ x. eqb x 0) n 0 refl))
          ∙ ap (λ m. replicate m 0) (length-drop k (replicate n 0) ∙ ap (◌- k) (length-replicate {A = ℕ} n 0))

  pub without_laid : (g : Range) (a b c : List ℕ) (i j r : ℕ) → Puts (kept_octets g 32 0 store places) i (replicate 2048 0) a
      → Puts (kept_octets g 1 0 lens places) j (replicate 64 0) b
      → Puts (kept_octets g 1 0 places places) r (replicate 64 0) c → length (kept_octets g 32 0 store places) ≤ 2048
      → length (kept_octets g 1 0 lens places) ≤ 64 → length (kept_octets g 1 0 places places) ≤ 64
      → record { labels = a; lens = b; places = c; count = r } ≡ deliveries_of (staying g)
  unfolding deliveries_of
  without_laid g a b c i j r pa pb pc la lb lc =
      let x : a ≡ filled 2048 (laid label_max (labels_of (staying g))) = filled_put 2048 i (kept_octets g 32 0 store places) a pa la
      ∙ ap (filled 2048) (kept_labels g) in
      let y : b ≡ filled 64 (lengths (labels_of (staying g))) = filled_put 64 j (kept_octets g 1 0 lens places) b pb lb ∙ ap (filled 64) (kept_lens g) in
      let z : c ≡ filled 64 (places_of (staying g)) = filled_put 64 r (kept_octets g 1 0 places places) c pc lc ∙ ap (filled 64) (kept_places g) in
      let w : r ≡ length (staying g) = pc.0 ∙ ap length (kept_places g) ∙ length-map (staying g) (λ (p : Pending). p.place) in
      ap₂ (λ x y. record { labels = x; lens = y; places = c; count = r }) x y
      ∙ ap₂ (λ x y. record {
        labels = filled 2048 (laid label_max (labels_of (staying g)));
        lens = filled 64
            (lengths (labels_of (staying g)));
        places = x;
        count = y;
      }) z w

  -- how long they are
  pub kept_room : (g : Range) → (length (kept_octets g 32 0 store places) ≤ 2048) × (length (kept_octets g 1 0 lens places) ≤ 64)
      × (length (kept_octets g 1 0 places places) ≤ 64)
  kept_room g = (
    omega (arith, kept_long g 32 0 store places (store_count ∙ ap (◌* 32) (sym places_count)), store_count, l.few),
    omega (arith, kept_long g 1 0 lens places (lens_count ∙ sym places_count ∙ sym (mul-one (length places))), lens_count, l.few),
    omega (arith, kept_long g 1 0 places places (sym (mul-one (length places))), places_count, l.few),
  )

  pub compacts_labels : (out : List ℕ) → length out ≡ 2048 → Compacts 32 store places out
  compacts_labels out h = record { store_long = store_count ∙ ap (◌* 32) (sym places_count); room = omega (arith, store_count, l.few, h) }

  pub compacts_lens : (out : List ℕ) → length out ≡ 64 → Compacts 1 lens places out
  compacts_lens out h = record { store_long = lens_count ∙ sym places_count ∙ sym (mul-one (length places)); room = omega (arith, lens_count, l.few, h) }

  pub compacts_places : (out : List ℕ) → length out ≡ 64 → Compacts 1 places places out
  compacts_places out h = record { store_long = sym (mul-one (length places)); room = omega (arith, places_count, l.few, h) }

  -- ---- one more

  pub entered_laid : (place : ℕ) (label labels : List ℕ) (m : ℕ) → d.count < 64 → length label ≤ 32 → labels ≡ put_in 32 d.labels d.count label
      → m ≡ length label
      → record { labels = labels; lens = set d.lens d.count m; places = set d.places d.count place; count = d.count + 1 }
      ≡ deliveries_of (pending d ++ (record { place = place; label = label } ∷ []))
  unfolding deliveries_of
  entered_laid place label labels m room short put e =
      ap₂ (λ x y. record { labels = x; lens = y; places = set d.places d.count place; count = d.count + 1 }) octets lengths_are
      ∙ ap₂ (λ x y. record { labels = filled 2048 (laid label_max (labels_of more)); lens = filled 64 (lengths (labels_of more)); places = x; count = y })
      places_set count_is
    where
      more : List Pending
      more = pending d ++ (record { place = place; label = label } ∷ [])

      labels_more : labels_of more ≡ ids label_max store lens ++ (label ∷ [])
      labels_more = map-append (λ (p : Pending). p.label) (pending d) (record { place = place; label = label } ∷ []) ∙ ap (◌++ (label ∷ [])) labels_are

      places_more : places_of more ≡ places ++ (place ∷ [])
      places_more = map-append (λ (p : Pending). p.place) (pending d) (record { place = place; label = label } ∷ []) ∙ ap (◌++ (place ∷ [])) places_are

      pending_count : length (pending d) ≡ d.count
      pending_count = sym (length-map (pending d) (λ (p : Pending). p.place)) ∙ ap length places_are ∙ places_count

      count_is : d.count + 1 ≡ length more
      count_is = sym (length-append (pending d) (record { place = place; label = label } ∷ []) ∙ ap (◌+ 1) pending_count)

      -- a row after which all is 0
      behind : (n k : ℕ) (xs front : List ℕ) (x : ℕ) → length xs ≡ n → k < n → take k xs ≡ front → is_zero (drop k xs) ≡ true
          → set xs k x ≡ filled n (front ++ (x ∷ []))
      behind n k xs front x long less is zero_behind = set_behind n k xs front x long less is zero_behind

      lengths_are : set d.lens d.count m ≡ filled 64 (lengths (labels_of more))
      lengths_are =
          behind 64 d.count d.lens lens m sized.lens_long room refl l.lens_zero
          ∙ ap (filled 64) (ap₂ (λ a b. a ++ (b ∷ [])) (sym (lengths_ids label_max d.count store lens fits)) e
          ∙ sym (ap lengths labels_more ∙ map-append length (ids label_max store lens) (label ∷ [])))

      places_set : set d.places d.count place ≡ filled 64 (places_of more)
      places_set = behind 64 d.count d.places places place sized.places_long room refl l.places_zero ∙ ap (filled 64) (sym places_more)

      octets : labels ≡ filled 2048 (laid label_max (labels_of more))
      octets =
          put
          ∙ ap₂ (λ a b. a ++ (padded 32 label ++ b)) (sym (laid_ids label_max d.count store lens fits l.clean_yes))
          (tail_zero (d.count * 32) 32 2048 d.labels sized.labels_long l.labels_zero)
          ∙ sym (append_assoc (laid label_max (ids label_max store lens)) (padded 32 label) (replicate (2048 - (d.count * 32 + 32)) 0))
          ∙ ap₂ (λ a b. a ++ replicate (2048 - b) 0) front long_front
        where
          front : laid label_max (ids label_max store lens) ++ padded 32 label ≡ laid label_max (labels_of more)
          front = sym (ap (laid label_max) labels_more ∙ laid_append label_max (ids label_max store lens) label)

          long_front : d.count * 32 + 32 ≡ length (laid label_max (labels_of more))
          long_front =
              sym (ap length (sym front) ∙ length-append (laid label_max (ids label_max store lens)) (padded 32 label)
              ∙ ap₂ (◌+◌) (ap length (laid_ids label_max d.count store lens fits l.clean_yes) ∙ store_count) (padded_long 32 label short))

-- ---- the same with numbers and parts as the code has them

pub entered_at : (d : Deliveries) (sized : SizedDeliveries d) (l : Laid d) (n : ℕ) → n ≡ d.count → (place : ℕ) (label labels : List ℕ) (m : ℕ) → d.count < 64
    → length label ≤ 32
    → labels ≡ put_in 32 d.labels n label → m ≡ length label
    → record { labels = labels; lens = set d.lens n m; places = set d.places n place; count = d.count + 1 }
    ≡ deliveries_of (pending d ++ (record { place = place; label = label } ∷ []))
entered_at d sized l n e place label labels m room short put em =
    ap (λ z. record { labels = labels; lens = set d.lens z m; places = set d.places z place; count = d.count + 1 }) e
    ∙ entered_laid d sized l place label labels m room short (put ∙ ap (λ z. put_in 32 d.labels z label) e) em

-- the part from 0 on
front_part : (n k : ℕ) (xs : List ℕ) → n ≡ k → take (n - 0) (drop 0 xs) ≡ take k xs
front_part n k xs e = ap (λ z. take z xs) (sub-zero n ∙ e)

module _ (d : Deliveries) (sized : SizedDeliveries d) (l : Laid d) (n : ℕ) (e : n ≡ d.count) where
  abbrev code_store : List ℕ
  code_store = take (n * 32 - 0) (drop 0 d.labels)

  abbrev code_lens : List ℕ
  code_lens = take (n - 0) (drop 0 d.lens)

  abbrev code_places : List ℕ
  code_places = take (n - 0) (drop 0 d.places)

  pub store_same : code_store ≡ take (d.count * 32) d.labels
  store_same = front_part (n * 32) (d.count * 32) d.labels (ap (◌* 32) e)

  pub lens_same : code_lens ≡ take d.count d.lens
  lens_same = front_part n d.count d.lens e

  places_same : code_places ≡ take d.count d.places
  places_same = front_part n d.count d.places e

  -- what each of the three calls put
  module _ (g : Range) where
    kept_labels_in : kept_in g 32 code_store code_places (replicate 2048 0)
        ≡ kept_octets g 32 0 (take (d.count * 32) d.labels) (take d.count d.places)
    kept_labels_in = rw (store_same, places_same) (kept_in_all g 32 _ _ _ (compacts_labels d sized l (replicate 2048 0) refl))

    kept_lens_in : kept_in g 1 code_lens code_places (replicate 64 0) ≡ kept_octets g 1 0 (take d.count d.lens) (take d.count d.places)
    kept_lens_in = rw (lens_same, places_same) (kept_in_all g 1 _ _ _ (compacts_lens d sized l (replicate 64 0) refl))

    kept_places_in : kept_in g 1 code_places code_places (replicate 64 0) ≡ kept_octets g 1 0 (take d.count d.places) (take d.count d.places)
    kept_places_in = rw places_same (kept_in_all g 1 _ _ _ (compacts_places d sized l (replicate 64 0) refl))

  places_put : (g : Range) (r : ℕ) (c : List ℕ) → Puts (kept_in g 1 code_places code_places (replicate 64 0)) r (replicate 64 0) c
      → Puts (kept_octets g 1 0 (take d.count d.places) (take d.count d.places)) r (replicate 64 0) c
  places_put g r c p = rw (kept_places_in g) at p

  -- how many stay
  pub few_kept : (g : Range) (r : ℕ) (c : List ℕ) → Puts (kept_in g 1 code_places code_places (replicate 64 0)) r (replicate 64 0) c → r ≤ 64
  few_kept g r c p = let (x, y, z) = kept_room d sized l g in omega (arith, (places_put g r c p).0, z)

  pub without_at : (g : Range) (a b c : List ℕ) (i j r : ℕ) → Puts (kept_in g 32 code_store code_places (replicate 2048 0)) i (replicate 2048 0) a
      → Puts (kept_in g 1 code_lens code_places (replicate 64 0)) j (replicate 64 0) b
      → Puts (kept_in g 1 code_places code_places (replicate 64 0)) r (replicate 64 0) c
      → record { labels = a; lens = b; places = c; count = r } ≡ deliveries_of (kept g 0 (places_of (pending d)) (pending d))
  without_at g a b c i j r pa pb pc =
      let (x, y, z) = kept_room d sized l g in
      without_laid d sized l g a b c i j r (rw (kept_labels_in g) at pa) (rw (kept_lens_in g) at pb) (places_put g r c pc) x y z

-- ---- which of them stay

-- after the range all stay
kept_beyond : (g : Range) (i : ℕ) (ps : List Pending) → g.to ≤ i → kept g i (places_of ps) ps ≡ ps
unfolding kept
kept_beyond g i [] h = refl
kept_beyond g i (p ∷ ps) h =
    ap (λ t. cond t (p ∷ kept g (suc i) (places_of ps) ps) (kept g (suc i) (places_of ps) ps))
    (ap (λ t. ltb i g.from || (t || not (eqb p.place g.of))) (le-leb g.to i h) ∙ or_yes (ltb i g.from))
    ∙ ap (p ∷◌) (kept_beyond g (suc i) ps (omega arith))

module _ (to of : ℕ) where
  abbrev from_first : Range
  from_first = record { from = 0; to = to; of = of }

  abbrev of_it : Pending → Bool
  of_it p = eqb p.place of

  -- one before the end of a range that begins with the first
  stays_before : (i : ℕ) (p : Pending) → i < to → stays_at from_first i p.place ≡ not (of_it p)
  stays_before i p h = ap₂ (λ a b. a || (b || not (of_it p))) (le-ltb i 0 (omega arith)) (lt-leb to i h)

  not_cond : {A : Type 0} (t : Bool) (x y : A) → cond (not t) x y ≡ cond t y x
  not_cond true x y = refl
  not_cond false x y = refl

  -- UNSUBSCRIBE: all of a place
  pub dropped_kept : (i : ℕ) (ps : List Pending) → i + length ps ≤ to → kept from_first i (places_of ps) ps ≡ without of_it ps
  unfolding kept
  dropped_kept i [] h = refl
  dropped_kept i (p ∷ ps) h =
      ap (λ t. cond t (p ∷ kept from_first (suc i) (places_of ps) ps) (kept from_first (suc i) (places_of ps) ps)) (stays_before i p (omega arith))
      ∙ not_cond (of_it p) _ _
      ∙ ap (λ r. cond (of_it p) r (p ∷ r)) (dropped_kept (suc i) ps (omega arith))

-- ACK and NACK in client mode: the named one, numbered m, and those before it of its place
pub client_kept : (l : List ℕ) (of m i : ℕ) (ps : List Pending) → first_from (labelled l) i ps ≡ some m
    → ((p : Pending) → first_of (labelled l) ps ≡ some p → p.place ≡ of)
    → kept (record { from = 0; to = suc m; of = of }) i (places_of ps) ps ≡ settled (labelled l) (λ (p : Pending). eqb p.place of) ps
unfolding kept first_from
client_kept l of m i [] e at = refl
client_kept l of m i (p ∷ ps) e at = by (labelled l p) refl e (client_kept l of m (suc i) ps)
  where
    g : Range
    g = record { from = 0; to = suc m; of = of }

    by : (t : Bool) → labelled l p ≡ t → cond t (some i) (first_from (labelled l) (suc i) ps) ≡ some m
        → (first_from (labelled l) (suc i) ps ≡ some m → ((q : Pending) → first_of (labelled l) ps ≡ some q → q.place ≡ of)
        → kept g (suc i) (places_of ps) ps ≡ settled (labelled l) (λ (q : Pending). eqb q.place of) ps)
        → cond (stays_at g i p.place) (p ∷ kept g (suc i) (places_of ps) ps) (kept g (suc i) (places_of ps) ps)
        ≡ cond t ps (cond (eqb p.place of) (settled (labelled l) (λ (q : Pending). eqb q.place of) ps)
        (p ∷ settled (labelled l) (λ (q : Pending). eqb q.place of) ps))
    by true q f go =
        let here : i ≡ m = cc in
        let place_is : p.place ≡ of = at p (ap (λ t. cond t (some p) (first_of (labelled l) ps)) q) in
        ap (λ t. cond t (p ∷ kept g (suc i) (places_of ps) ps) (kept g (suc i) (places_of ps) ps)) (stays_before (suc m) of i p (omega (arith, here))
        ∙ ap not (eq-eqb p.place of place_is))
        ∙ kept_beyond g (suc i) ps (omega (arith, here))
    by false q f go =
        let (j, a, b, c) = first_at (labelled l) (record { place = 0; label = [] }) (suc i) m ps f in
        ap (λ t. cond t (p ∷ kept g (suc i) (places_of ps) ps) (kept g (suc i) (places_of ps) ps)) (stays_before (suc m) of i p (omega (arith, a)))
        ∙ not_cond (suc m) of (eqb p.place of) _ _
        ∙ ap (λ r. cond (eqb p.place of) r (p ∷ r)) (go f (λ x y. at x (ap (λ t. cond t (some p) (first_of (labelled l) ps)) q ∙ y)))

-- in client-individual mode: the named one alone
pub individual_kept : (l : List ℕ) (of m i : ℕ) (ps : List Pending) → first_from (labelled l) i ps ≡ some m
    → ((p : Pending) → first_of (labelled l) ps ≡ some p → p.place ≡ of)
    → kept (record { from = m; to = suc m; of = of }) i (places_of ps) ps ≡ settled (labelled l) (λ (p : Pending). false) ps
unfolding kept first_from
individual_kept l of m i [] e at = refl
individual_kept l of m i (p ∷ ps) e at = by (labelled l p) refl e (individual_kept l of m (suc i) ps)
  where
    g : Range
    g = record { from = m; to = suc m; of = of }

    by : (t : Bool) → labelled l p ≡ t → cond t (some i) (first_from (labelled l) (suc i) ps) ≡ some m
        → (first_from (labelled l) (suc i) ps ≡ some m → ((q : Pending) → first_of (labelled l) ps ≡ some q → q.place ≡ of)
        → kept g (suc i) (places_of ps) ps ≡ settled (labelled l) (λ (q : Pending). false) ps)
        → cond (stays_at g i p.place) (p ∷ kept g (suc i) (places_of ps) ps) (kept g (suc i) (places_of ps) ps) ≡ cond t ps
        (p ∷ settled (labelled l) (λ (q : Pending). false) ps)
    by true q f go =
        let here : i ≡ m = cc in
        let place_is : p.place ≡ of = at p (ap (λ t. cond t (some p) (first_of (labelled l) ps)) q) in
        ap (λ t. cond t (p ∷ kept g (suc i) (places_of ps) ps) (kept g (suc i) (places_of ps) ps))
        (ap₂ (λ a b. a || (b || not (eqb p.place of))) (le-ltb i m (omega (arith, here))) (lt-leb (suc m) i (omega (arith, here)))
        ∙ ap not (eq-eqb p.place of place_is))
        ∙ kept_beyond g (suc i) ps (omega (arith, here))
    by false q f go =
        let (j, a, b, c) = first_at (labelled l) (record { place = 0; label = [] }) (suc i) m ps f in
        ap (λ t. cond t (p ∷ kept g (suc i) (places_of ps) ps) (kept g (suc i) (places_of ps) ps))
        (ap (◌|| (leb (suc m) i || not (eqb p.place of))) (lt-ltb i m (omega (arith, a))))
        ∙ ap (p ∷◌) (go f (λ x y. at x (ap (λ t. cond t (some p) (first_of (labelled l) ps)) q ∙ y)))
