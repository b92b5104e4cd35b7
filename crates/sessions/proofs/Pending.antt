-- Pending deliveries as a list and laid out. Assumes nothing.
--     pending_with                 deliveries laid out are those that the record holds
use Rattle.std.proofs.Common.{◌≡◌, ℕ, zero, suc, ◌-◌, ◌*◌, ◌<◌, ◌≤◌, Bool, true, false, not, ◌&&◌, ◌||◌, eqb, leb, List, [], ◌∷◌, ◌++◌, map, length, get_or, take, drop, set, replicate, sym, refl, ap, ◌∙◌, ap₂, true≢false, arith, length-append, length-take-le, get_or-set_other, take_at, drop_at, ne_eqb, le-leb, leb-true}
use mathlib.Core.Option.{some}
use lib.ListN.{length-map, length-replicate}
use borrow.Author.Tests.{not-true, eqb-false}
use Rattle.headers.specs.Rows.{every, any, empty, same, All}
use Rattle.headers.proofs.Rows.{and_left, and_right, cond_case, every_replicate, same_apart, empty_eqb, or_yes, or_false_left, or_false_right}
use Rattle.stores.specs.Places.{is_zero}
use Rattle.sessions.specs.Stores.{ids, laid, lengths, distinct, live, valid_store}
use Rattle.sessions.specs.Sessions.{SizedDeliveries}
use Rattle.sessions.specs.Deliveries.{deliveries_max, label_max, auto_mode, individual_mode, Pending, paired, pending, labels_of, places_of}
use Rattle.sessions.specs.Deliveries.{filled, labelled, deliveries_of, no_deliveries, without, settled, dropped, Laid}
use Rattle.sessions.specs.Deliveries.{known_modes, idle_modes, valid_labels, acknowledging, valid_places, valid_modes, valid_pending}
use Rattle.sessions.specs.Places.{Fits}
use Rattle.sessions.specs.declared.delivery.Deliveries.{Deliveries}
use Rattle.stores.proofs.Filling.{zeros}
use Rattle.sessions.proofs.Stores.{are_short, ids_laid, length_laid, laid_valid, ids_short, length_ids, lengths_ids}
use Rattle.sessions.proofs.Stores.{valid_distinct, valid_clean, valid_short, valid_fits}

-- ---- a view laid out

filled_front : (n k : ℕ) (xs : List ℕ) → length xs ≡ k → take k (filled n xs) ≡ xs
filled_front n k xs e = take_at xs (replicate (n - length xs) 0) k e

filled_behind : (n k : ℕ) (xs : List ℕ) → length xs ≡ k → is_zero (drop k (filled n xs)) ≡ true
filled_behind n k xs e = ap is_zero (drop_at xs (replicate (n - length xs) 0) k e) ∙ every_replicate (λ x. eqb x 0) (n - length xs) 0 refl

filled_long : (n : ℕ) (xs : List ℕ) → length xs ≤ n → length (filled n xs) ≡ n
filled_long n xs h = simp (length-append, length-replicate) (omega arith)

paired_again : (ps : List Pending) → paired (places_of ps) (labels_of ps) ≡ ps
paired_again [] = refl
paired_again (p ∷ ps) = ap (p ∷◌) (paired_again ps)

module _ (ps : List Pending) (few : length ps ≤ 64) (short : are_short label_max (labels_of ps) ≡ true) where
  labels_count : length (labels_of ps) ≡ length ps
  labels_count = length-map ps (λ (p : Pending). p.label)

  octets_long : length (laid label_max (labels_of ps)) ≡ length ps * label_max
  octets_long = length_laid label_max (labels_of ps) short ∙ ap (◌* label_max) labels_count

  lens_long : length (lengths (labels_of ps)) ≡ length ps
  lens_long = length-map (labels_of ps) length ∙ labels_count

  places_long : length (places_of ps) ≡ length ps
  places_long = length-map ps (λ (p : Pending). p.place)

  labels_front : take (length ps * label_max) (filled 2048 (laid label_max (labels_of ps))) ≡ laid label_max (labels_of ps)
  labels_front = filled_front 2048 (length ps * label_max) (laid label_max (labels_of ps)) octets_long

  lens_front : take (length ps) (filled 64 (lengths (labels_of ps))) ≡ lengths (labels_of ps)
  lens_front = filled_front 64 (length ps) (lengths (labels_of ps)) lens_long

  places_front : take (length ps) (filled 64 (places_of ps)) ≡ places_of ps
  places_front = filled_front 64 (length ps) (places_of ps) places_long

  pub pending_with : pending (deliveries_of ps) ≡ ps
  unfolding deliveries_of
  pending_with = ap₂ paired places_front (ap₂ (ids label_max) labels_front lens_front ∙ ids_laid label_max (labels_of ps) short) ∙ paired_again ps

  pub sized_with : SizedDeliveries (deliveries_of ps)
  unfolding deliveries_of
  sized_with =
      record {
        labels_long = filled_long 2048 (laid label_max (labels_of ps)) (omega (arith, octets_long));
        lens_long = filled_long 64 (lengths (labels_of ps)) (omega (arith, lens_long));
        places_long = filled_long 64 (places_of ps) (omega (arith, places_long));
      }

  there_lengths : every (λ (x : List ℕ). not (eqb (length x) 0)) (labels_of ps) ≡ true → every (λ l. not (eqb l 0)) (lengths (labels_of ps)) ≡ true
  there_lengths = by (labels_of ps)
    where
      by : (xs : List (List ℕ)) → every (λ (x : List ℕ). not (eqb (length x) 0)) xs ≡ true → every (λ l. not (eqb l 0)) (lengths xs) ≡ true
      by [] h = refl
      by (x ∷ xs) h =
          ap₂ (◌&&◌) (and_left (not (eqb (length x) 0)) (every (λ (y : List ℕ). not (eqb (length y) 0)) xs) h)
          (by xs (and_right (not (eqb (length x) 0)) (every (λ (y : List ℕ). not (eqb (length y) 0)) xs) h))

  -- such a record is valid where its labels are there and distinct, and each is of a subscription that acknowledges
  pub valid_with : (lens ms : List ℕ) → every (λ (x : List ℕ). not (eqb (length x) 0)) (labels_of ps) ≡ true → distinct (labels_of ps) ≡ true
      → every (acknowledging lens ms) (places_of ps) ≡ true → valid_pending lens ms (deliveries_of ps) ≡ true
  unfolding deliveries_of valid_pending
  valid_with lens ms there apart places =
      ap₂ (◌&&◌) (le-leb (length ps) 64 few) (ap₂ (◌&&◌) labels
      (ap₂ (◌&&◌) (ap (every (acknowledging lens ms)) places_front ∙ places) (filled_behind 64 (length ps) (places_of ps) places_long)))
    where
      labels : valid_labels (length ps) (filled 2048 (laid label_max (labels_of ps))) (filled 64 (lengths (labels_of ps))) ≡ true
      labels =
          ap₂ (◌&&◌) (ap₂ (valid_store label_max) labels_front lens_front ∙ laid_valid label_max (labels_of ps) short apart)
          (ap₂ (◌&&◌) (ap (every (λ l. not (eqb l 0))) lens_front ∙ there_lengths there)
          (ap₂ (◌&&◌) (filled_behind 2048 (length ps * label_max) (laid label_max (labels_of ps)) octets_long)
          (filled_behind 64 (length ps) (lengths (labels_of ps)) lens_long)))

-- ---- what the pending deliveries of a valid record are

-- each passes a test, as a boolean and as a fact of each
every_all : {A : Type 0} (f : A → Bool) (xs : List A) → every f xs ≡ true → All (λ x. f x ≡ true) xs
every_all f [] h = tt
every_all f (x ∷ xs) h = (and_left (f x) (every f xs) h, every_all f xs (and_right (f x) (every f xs) h))

all_every : {A : Type 0} (f : A → Bool) (xs : List A) → All (λ x. f x ≡ true) xs → every f xs ≡ true
all_every f [] h = refl
all_every f (x ∷ xs) (h, more) = ap₂ (◌&&◌) h (all_every f xs more)

every_map : {A B : Type 0} (f : B → Bool) (g : A → B) (xs : List A) → every f (map g xs) ≡ every (λ x. f (g x)) xs
every_map f g [] = refl
every_map f g (x ∷ xs) = ap (f (g x) &&◌) (every_map f g xs)

pub any_map : {A B : Type 0} (f : B → Bool) (g : A → B) (xs : List A) → any f (map g xs) ≡ any (λ x. f (g x)) xs
any_map f g [] = refl
any_map f g (x ∷ xs) = ap (f (g x) ||◌) (any_map f g xs)

pub all_with : {A : Type 0} {P Q : A → Type 0} → ((x : A) → P x → Q x) → (xs : List A) → All P xs → All Q xs
all_with f [] h = tt
all_with f (x ∷ xs) (h, more) = (f x h, all_with f xs more)

-- a label that is there, and its subscription acknowledges
pub record Proper (lens ms : List ℕ) (p : Pending) : Type 0 where
  pub short : leb (length p.label) label_max ≡ true
  pub there : not (eqb (length p.label) 0) ≡ true
  pub acks : acknowledging lens ms p.place ≡ true

-- each has another label than those after it
abbrev pub Apart : List Pending → Type 0
Apart [] = Unit {0}
Apart (p ∷ ps) = (any (labelled p.label) ps ≡ false) × Apart ps

pub record Good (lens ms : List ℕ) (ps : List Pending) : Type 0 where
  pub few : length ps ≤ 64
  pub each : All (Proper lens ms) ps
  pub apart : Apart ps

some_label : (l : List ℕ) → not (eqb (length l) 0) ≡ true → empty l ≡ false
some_label l h = empty_eqb l ∙ not-true (eqb (length l) 0) h

distinct_apart : (ps : List Pending) → All (λ p. not (eqb (length p.label) 0) ≡ true) ps → distinct (labels_of ps) ≡ true → Apart ps
unfolding distinct
distinct_apart [] a h = tt
distinct_apart (p ∷ ps) (a, more) h =
    let first : empty p.label || not (live p.label (labels_of ps)) ≡ true = and_left (empty p.label || not (live p.label (labels_of ps)))
    (distinct (labels_of ps)) h in (
      sym (any_map (λ x. same x p.label) (λ (q : Pending). q.label) ps)
          ∙ not-true (live p.label (labels_of ps)) (sym (ap (◌|| not (live p.label (labels_of ps))) (some_label p.label a)) ∙ first),
      distinct_apart ps more (and_right (empty p.label || not (live p.label (labels_of ps))) (distinct (labels_of ps)) h),
    )

apart_distinct : (ps : List Pending) → Apart ps → distinct (labels_of ps) ≡ true
unfolding distinct
apart_distinct [] a = refl
apart_distinct (p ∷ ps) (a, more) =
    ap₂ (◌&&◌) (ap (λ t. empty p.label || not t) (any_map (λ x. same x p.label) (λ (q : Pending). q.label) ps ∙ a) ∙ or_yes (empty p.label))
    (apart_distinct ps more)

-- deliveries that are good, laid out, are valid
module _ (lens ms : List ℕ) (ps : List Pending) (g : Good lens ms ps) where
  good_short : are_short label_max (labels_of ps) ≡ true
  good_short =
      every_map (λ (x : List ℕ). leb (length x) label_max) (λ (p : Pending). p.label) ps
      ∙ all_every (λ (p : Pending). leb (length p.label) label_max) ps (all_with (λ p s. s.short) ps g.each)

  good_there : every (λ (x : List ℕ). not (eqb (length x) 0)) (labels_of ps) ≡ true
  good_there =
      every_map (λ (x : List ℕ). not (eqb (length x) 0)) (λ (p : Pending). p.label) ps
      ∙ all_every (λ (p : Pending). not (eqb (length p.label) 0)) ps (all_with (λ p s. s.there) ps g.each)

  good_acks : every (acknowledging lens ms) (places_of ps) ≡ true
  good_acks =
      every_map (acknowledging lens ms) (λ (p : Pending). p.place) ps
      ∙ all_every (λ (p : Pending). acknowledging lens ms p.place) ps (all_with (λ p s. s.acks) ps g.each)

  pub good_with : (valid_pending lens ms (deliveries_of ps) ≡ true) × (pending (deliveries_of ps) ≡ ps)
  good_with = (valid_with ps g.few good_short lens ms good_there (apart_distinct ps g.apart) good_acks, pending_with ps g.few good_short)

  pub good_sized : SizedDeliveries (deliveries_of ps)
  good_sized = sized_with ps g.few good_short

pub places_paired : (ps : List ℕ) (ls : List (List ℕ)) → length ps ≡ length ls → places_of (paired ps ls) ≡ ps
places_paired [] ls h = refl
places_paired (p ∷ ps) [] h = absurd (omega arith)
places_paired (p ∷ ps) (l ∷ ls) h = ap (p ∷◌) (places_paired ps ls (omega arith))

pub labels_paired : (ps : List ℕ) (ls : List (List ℕ)) → length ps ≡ length ls → labels_of (paired ps ls) ≡ ls
labels_paired [] [] h = refl
labels_paired [] (l ∷ ls) h = absurd (omega arith)
labels_paired (p ∷ ps) [] h = absurd (omega arith)
labels_paired (p ∷ ps) (l ∷ ls) h = ap (l ∷◌) (labels_paired ps ls (omega arith))

module _ (lens ms : List ℕ) (d : Deliveries) (sized : SizedDeliveries d) (valid : valid_pending lens ms d ≡ true) where
  parts : (leb d.count deliveries_max ≡ true) × (valid_labels d.count d.labels d.lens ≡ true)
      × (valid_places d.count d.places lens ms ≡ true)
  unfolding valid_pending
  parts =
      let a = and_right (leb d.count deliveries_max) _ valid in (
        and_left (leb d.count deliveries_max) _ valid,
        and_left (valid_labels d.count d.labels d.lens) _ a,
        and_right (valid_labels d.count d.labels d.lens) _ a,
      )

  pub held_few : d.count ≤ 64
  held_few = leb-true d.count 64 parts.0

  store_valid : valid_store label_max (take (d.count * label_max) d.labels) (take d.count d.lens) ≡ true
  store_valid = and_left (valid_store label_max (take (d.count * label_max) d.labels) (take d.count d.lens)) _ parts.1

  lens_there : every (λ l. not (eqb l 0)) (take d.count d.lens) ≡ true
  lens_there =
      and_left (every (λ l. not (eqb l 0)) (take d.count d.lens)) _
      (and_right (valid_store label_max (take (d.count * label_max) d.labels) (take d.count d.lens)) _ parts.1)

  pub places_ack : every (acknowledging lens ms) (take d.count d.places) ≡ true
  places_ack = and_left (every (acknowledging lens ms) (take d.count d.places)) _ parts.2

  front_fits : Fits label_max d.count (take (d.count * label_max) d.labels) (take d.count d.lens)
  front_fits =
      valid_fits label_max (take (d.count * label_max) d.labels) (take d.count d.lens) store_valid d.count
      (length-take-le d.count d.lens (omega (arith, held_few, sized.lens_long)))
      (length-take-le (d.count * label_max) d.labels (omega (arith, held_few, sized.labels_long)))

  alike_long : length (take d.count d.places) ≡ length (ids label_max (take (d.count * label_max) d.labels) (take d.count d.lens))
  alike_long =
      length-take-le d.count d.places (omega (arith, held_few, sized.places_long))
      ∙ sym (length_ids label_max (take (d.count * label_max) d.labels) (take d.count d.lens)
      ∙ length-take-le d.count d.lens (omega (arith, held_few, sized.lens_long)))

  pub held_places : places_of (pending d) ≡ take d.count d.places
  held_places = places_paired (take d.count d.places) _ alike_long

  held_labels : labels_of (pending d) ≡ ids label_max (take (d.count * label_max) d.labels) (take d.count d.lens)
  held_labels = labels_paired (take d.count d.places) _ alike_long

  pub held_count : length (pending d) ≡ d.count
  held_count =
      sym (length-map (pending d) (λ (p : Pending). p.place)) ∙ ap length held_places
      ∙ length-take-le d.count d.places (omega (arith, held_few, sized.places_long))

  there_all : All (λ (p : Pending). not (eqb (length p.label) 0) ≡ true) (pending d)
  there_all =
      every_all (λ (p : Pending). not (eqb (length p.label) 0)) (pending d)
      (sym (every_map (λ l. not (eqb l 0)) length (labels_of (pending d))
      ∙ every_map (λ (x : List ℕ). not (eqb (length x) 0)) (λ (p : Pending). p.label) (pending d))
      ∙ ap (λ z. every (λ l. not (eqb l 0)) (lengths z)) held_labels ∙ ap (every (λ l. not (eqb l 0))) (lengths_ids label_max d.count _ _ front_fits)
      ∙ lens_there)

  short_all : All (λ (p : Pending). leb (length p.label) label_max ≡ true) (pending d)
  short_all =
      every_all (λ (p : Pending). leb (length p.label) label_max) (pending d)
      (sym (every_map (λ (x : List ℕ). leb (length x) label_max) (λ (p : Pending). p.label) (pending d)) ∙ ap (are_short label_max) held_labels
      ∙ ids_short label_max d.count _ _ front_fits)

  acks_all : All (λ (p : Pending). acknowledging lens ms p.place ≡ true) (pending d)
  acks_all =
      every_all (λ (p : Pending). acknowledging lens ms p.place) (pending d)
      (sym (every_map (acknowledging lens ms) (λ (p : Pending). p.place) (pending d)) ∙ ap (every (acknowledging lens ms)) held_places ∙ places_ack)

  -- those of a valid record are good
  pub held_good : Good lens ms (pending d)
  held_good =
      record {
        few = omega (arith, held_count, held_few);
        each = sounds (pending d) short_all there_all acks_all;
        apart = distinct_apart (pending d) there_all (ap distinct held_labels ∙ valid_distinct label_max _ _ store_valid);
      }
    where
      sounds : (ps : List Pending) → All (λ (p : Pending). leb (length p.label) label_max ≡ true) ps
          → All (λ (p : Pending). not (eqb (length p.label) 0) ≡ true) ps
          → All (λ (p : Pending). acknowledging lens ms p.place ≡ true) ps → All (Proper lens ms) ps
      sounds [] a b c = tt
      sounds (p ∷ ps) (a, x) (b, y) (c, z) = (record { short = a; there = b; acks = c }, sounds ps x y z)

  behind_zero : (is_zero (drop (d.count * label_max) d.labels) ≡ true) × (is_zero (drop d.count d.lens) ≡ true)
      × (is_zero (drop d.count d.places) ≡ true)
  behind_zero =
      let rest = and_right (every (λ l. not (eqb l 0)) (take d.count d.lens)) _
      (and_right (valid_store label_max (take (d.count * label_max) d.labels) (take d.count d.lens)) _ parts.1) in (
        and_left (is_zero (drop (d.count * label_max) d.labels)) _ rest,
        and_right (is_zero (drop (d.count * label_max) d.labels)) _ rest,
        and_right (every (acknowledging lens ms) (take d.count d.places)) _ parts.2,
      )

  -- with other subscriptions
  pub valid_again : (lens' ms' : List ℕ) → Good lens' ms' (pending d) → valid_pending lens' ms' d ≡ true
  unfolding valid_pending
  valid_again lens' ms' g =
      ap₂ (◌&&◌) parts.0 (ap₂ (◌&&◌) parts.1
      (ap₂ (◌&&◌) (ap (every (acknowledging lens' ms')) (sym held_places) ∙ good_acks lens' ms' (pending d) g)
      (and_right (every (acknowledging lens ms) (take d.count d.places)) _ parts.2)))

-- a record that holds none is the one without deliveries
pub none_laid : (d : Deliveries) → SizedDeliveries d → is_zero (drop (d.count * label_max) d.labels) ≡ true
    → is_zero (drop d.count d.lens) ≡ true → is_zero (drop d.count d.places) ≡ true → d.count ≡ 0 → no_deliveries ≡ d
none_laid d sized labels_zero lens_zero places_zero e =
    ap₂ (λ x y. record { labels = x; lens = y; places = replicate 64 0; count = 0 }) (sym labels_are) (sym lens_are)
    ∙ ap₂ (λ x y. record { labels = d.labels; lens = d.lens; places = x; count = y }) (sym places_are) (sym e)
  where
    labels_are : d.labels ≡ replicate 2048 0
    labels_are =
        zeros d.labels (sym (ap (λ n. is_zero (drop (n * label_max) d.labels)) e) ∙ labels_zero) ∙ ap (λ n. replicate n 0) sized.labels_long

    lens_are : d.lens ≡ replicate 64 0
    lens_are = zeros d.lens (sym (ap (λ n. is_zero (drop n d.lens)) e) ∙ lens_zero) ∙ ap (λ n. replicate n 0) sized.lens_long

    places_are : d.places ≡ replicate 64 0
    places_are = zeros d.places (sym (ap (λ n. is_zero (drop n d.places)) e) ∙ places_zero) ∙ ap (λ n. replicate n 0) sized.places_long

pub none_same : (lens ms : List ℕ) (d : Deliveries) → SizedDeliveries d → valid_pending lens ms d ≡ true → d.count ≡ 0 → no_deliveries ≡ d
none_same lens ms d sized valid e =
    let (labels_zero, lens_zero, places_zero) = behind_zero lens ms d sized valid in
    none_laid d sized labels_zero lens_zero places_zero e

-- ---- fewer deliveries

module _ (f : Pending → Bool) where
  all_without : (P : Pending → Type 0) (ps : List Pending) → All P ps → All P (without f ps)
  all_without P [] h = tt
  all_without P (p ∷ ps) (h, more) = cond_case (All P) (f p) (λ e. all_without P ps more) (λ e. (h, all_without P ps more))

  -- those that stay fail the test
  pub without_fail : (ps : List Pending) → All (λ p. f p ≡ false) (without f ps)
  without_fail [] = tt
  without_fail (p ∷ ps) = cond_case (All (λ q. f q ≡ false)) (f p) (λ e. without_fail ps) (λ e. (e, without_fail ps))

  any_without : (g : Pending → Bool) (ps : List Pending) → any g ps ≡ false → any g (without f ps) ≡ false
  any_without g [] h = refl
  any_without g (p ∷ ps) h =
      let rest = any_without g ps (or_false_right (g p) (any g ps) h) in
      cond_case (λ z. any g z ≡ false) (f p) (λ e. rest) (λ e. ap₂ (◌||◌) (or_false_left (g p) (any g ps) h) rest)

  apart_without : (ps : List Pending) → Apart ps → Apart (without f ps)
  apart_without [] a = tt
  apart_without (p ∷ ps) (a, more) = cond_case Apart (f p) (λ e. apart_without ps more) (λ e. (any_without (labelled p.label) ps a, apart_without ps more))

  few_without : (ps : List Pending) → length (without f ps) ≤ length ps
  few_without [] = omega arith
  few_without (p ∷ ps) = let rest = few_without ps in cond_case (λ (z : List Pending). length z ≤ suc (length ps)) (f p) (λ e. omega arith) (λ e. omega arith)

  pub good_without : (lens ms : List ℕ) (ps : List Pending) → Good lens ms ps → Good lens ms (without f ps)
  good_without lens ms ps g =
      record { few = omega (arith, few_without ps, g.few); each = all_without (Proper lens ms) ps g.each; apart = apart_without ps g.apart }

module _ (f g : Pending → Bool) where
  all_settled : (P : Pending → Type 0) (ps : List Pending) → All P ps → All P (settled f g ps)
  all_settled P [] h = tt
  all_settled P (p ∷ ps) (h, more) =
      cond_case (All P) (f p) (λ e. more) (λ e. cond_case (All P) (g p) (λ e. all_settled P ps more) (λ e. (h, all_settled P ps more)))

  any_settled : (t : Pending → Bool) (ps : List Pending) → any t ps ≡ false → any t (settled f g ps) ≡ false
  any_settled t [] h = refl
  any_settled t (p ∷ ps) h =
      let rest = any_settled t ps (or_false_right (t p) (any t ps) h) in
      cond_case (λ z. any t z ≡ false) (f p) (λ e. or_false_right (t p) (any t ps) h)
      (λ e. cond_case (λ z. any t z ≡ false) (g p) (λ e. rest) (λ e. ap₂ (◌||◌) (or_false_left (t p) (any t ps) h) rest))

  apart_settled : (ps : List Pending) → Apart ps → Apart (settled f g ps)
  apart_settled [] a = tt
  apart_settled (p ∷ ps) (a, more) =
      cond_case Apart (f p) (λ e. more)
      (λ e. cond_case Apart (g p) (λ e. apart_settled ps more) (λ e. (any_settled (labelled p.label) ps a, apart_settled ps more)))

  few_settled : (ps : List Pending) → length (settled f g ps) ≤ length ps
  few_settled [] = omega arith
  few_settled (p ∷ ps) =
      let rest = few_settled ps in
      cond_case (λ (z : List Pending). length z ≤ suc (length ps)) (f p) (λ e. omega arith)
      (λ e. cond_case (λ (z : List Pending). length z ≤ suc (length ps)) (g p) (λ e. omega arith) (λ e. omega arith))

  pub good_settled : (lens ms : List ℕ) (ps : List Pending) → Good lens ms ps → Good lens ms (settled f g ps)
  good_settled lens ms ps h =
      record { few = omega (arith, few_settled ps, h.few); each = all_settled (Proper lens ms) ps h.each; apart = apart_settled ps h.apart }

-- ---- one more

all_snoc : (P : Pending → Type 0) (ps : List Pending) (p : Pending) → All P ps → P p → All P (ps ++ (p ∷ []))
all_snoc P [] p a h = (h, tt)
all_snoc P (q ∷ ps) p (a, more) h = (a, all_snoc P ps p more h)

any_snoc : (t : Pending → Bool) (ps : List Pending) (p : Pending) → any t ps ≡ false → t p ≡ false → any t (ps ++ (p ∷ [])) ≡ false
any_snoc t [] p a h = ap (◌|| false) h
any_snoc t (q ∷ ps) p a h = ap₂ (◌||◌) (or_false_left (t q) (any t ps) a) (any_snoc t ps p (or_false_right (t q) (any t ps) a) h)

apart_snoc : (ps : List Pending) (p : Pending) → Apart ps → any (labelled p.label) ps ≡ false → Apart (ps ++ (p ∷ []))
apart_snoc [] p a h = (refl, tt)
apart_snoc (q ∷ ps) p (a, more) h = (
  any_snoc (labelled q.label) ps p a (same_apart q.label p.label (or_false_left (labelled p.label q) (any (labelled p.label) ps) h)),
  apart_snoc ps p more (or_false_right (labelled p.label q) (any (labelled p.label) ps) h),
)

pub good_snoc : (lens ms : List ℕ) (ps : List Pending) (p : Pending) → Good lens ms ps → length ps < 64 → Proper lens ms p
    → any (labelled p.label) ps ≡ false
    → Good lens ms (ps ++ (p ∷ []))
good_snoc lens ms ps p g room s new =
    record { few = omega (arith, length-append ps (p ∷ []), room); each = all_snoc (Proper lens ms) ps p g.each s; apart = apart_snoc ps p g.apart new }

-- ---- another subscription in a place that no delivery is of

abbrev pub Elsewhere : ℕ → Pending → Type 0
Elsewhere k p = p.place ≡ k → ⊥

sound_elsewhere : (lens ms : List ℕ) (k l m : ℕ) (p : Pending) → Elsewhere k p → Proper lens ms p → Proper (set lens k l) (set ms k m) p
sound_elsewhere lens ms k l m p e s =
    record {
      short = s.short;
      there = s.there;
      acks = ap₂ (λ a b. not (eqb a 0) && not (eqb b auto_mode)) (get_or-set_other lens k p.place l 0 e) (get_or-set_other ms k p.place m 0 e) ∙ s.acks;
    }

pub good_elsewhere : (lens ms : List ℕ) (k l m : ℕ) (ps : List Pending) → All (Elsewhere k) ps → Good lens ms ps → Good (set lens k l) (set ms k m) ps
good_elsewhere lens ms k l m ps e g = record { few = g.few; each = by ps e g.each; apart = g.apart }
  where
    by : (xs : List Pending) → All (Elsewhere k) xs → All (Proper lens ms) xs → All (Proper (set lens k l) (set ms k m)) xs
    by [] a b = tt
    by (x ∷ xs) (a, as₁) (b, bs) = (sound_elsewhere lens ms k l m x a b, by xs as₁ bs)

-- a free place has none
pub free_elsewhere : (lens ms : List ℕ) (k : ℕ) (ps : List Pending) → get_or lens k 0 ≡ 0 → All (Proper lens ms) ps → All (Elsewhere k) ps
free_elsewhere lens ms k ps free =
    all_with (λ p s e. true≢false (sym s.acks
    ∙ ap (λ z. not (eqb z 0) && not (eqb (get_or ms p.place auto_mode) auto_mode)) (ap (λ z. get_or lens z 0) e ∙ free))) ps

known_set : (ms : List ℕ) (k m : ℕ) → known_modes ms ≡ true → leb m individual_mode ≡ true → known_modes (set ms k m) ≡ true
known_set [] k m h e = refl
known_set (x ∷ ms) zero m h e = ap₂ (◌&&◌) e (and_right (leb x individual_mode) (known_modes ms) h)
known_set (x ∷ ms) (suc k) m h e =
    ap₂ (◌&&◌) (and_left (leb x individual_mode) (known_modes ms) h) (known_set ms k m (and_right (leb x individual_mode) (known_modes ms) h) e)

idle_set : (lens ms : List ℕ) (k l m : ℕ) → idle_modes lens ms ≡ true → not (eqb l 0) || eqb m auto_mode ≡ true → idle_modes (set lens k l) (set ms k m) ≡ true
idle_set [] ms k l m h e = refl
idle_set (x ∷ lens) [] k l m h e = by k
  where
    by : (j : ℕ) → idle_modes (set (x ∷ lens) j l) [] ≡ true
    by zero = refl
    by (suc j) = refl
idle_set (x ∷ lens) (y ∷ ms) zero l m h e = ap₂ (◌&&◌) e (and_right (not (eqb x 0) || eqb y auto_mode) (idle_modes lens ms) h)
idle_set (x ∷ lens) (y ∷ ms) (suc k) l m h e =
    ap₂ (◌&&◌) (and_left (not (eqb x 0) || eqb y auto_mode) (idle_modes lens ms) h)
    (idle_set lens ms k l m (and_right (not (eqb x 0) || eqb y auto_mode) (idle_modes lens ms) h) e)

-- ---- the modes and the deliveries of a session that is kept valid, over the lengths of its subscriptions' ids

pub record Holds (lens ms : List ℕ) (d : Deliveries) : Type 0 where
  pub sized : SizedDeliveries d
  pub modes : valid_modes lens ms ≡ true
  pub valid : valid_pending lens ms d ≡ true

-- modes that are valid, with deliveries that are good
holds_of : (lens ms : List ℕ) (ps : List Pending) → valid_modes lens ms ≡ true → Good lens ms ps
    → Holds lens ms (deliveries_of ps) × (pending (deliveries_of ps) ≡ ps)
holds_of lens ms ps modes g =
    let (v, e) = good_with lens ms ps g in (record { sized = good_sized lens ms ps g; modes = modes; valid = v }, e)

pub holds_none : (lens ms : List ℕ) → valid_modes lens ms ≡ true → Holds lens ms no_deliveries × (pending no_deliveries ≡ [])
unfolding deliveries_of laid
holds_none lens ms modes = holds_of lens ms [] modes (record { few = omega arith; each = tt; apart = tt })

module _ (lens ms : List ℕ) (d : Deliveries) (h : Holds lens ms d) where
  known : known_modes ms ≡ true
  unfolding valid_modes
  known = and_left (known_modes ms) (idle_modes lens ms) h.modes

  pub idle : idle_modes lens ms ≡ true
  unfolding valid_modes
  idle = and_right (known_modes ms) (idle_modes lens ms) h.modes

  pub good : Good lens ms (pending d)
  good = held_good lens ms d h.sized h.valid

  pub holds_settled : (f g : Pending → Bool)
      → Holds lens ms (deliveries_of (settled f g (pending d))) × (pending (deliveries_of (settled f g (pending d))) ≡ settled f g (pending d))
  holds_settled f g = holds_of lens ms (settled f g (pending d)) h.modes (good_settled f g lens ms (pending d) good)

  pub holds_snoc : (p : Pending) → d.count < 64 → Proper lens ms p → any (labelled p.label) (pending d) ≡ false
      → Holds lens ms (deliveries_of (pending d ++ (p ∷ []))) × (pending (deliveries_of (pending d ++ (p ∷ []))) ≡ pending d ++ (p ∷ []))
  holds_snoc p room s new =
      holds_of lens ms (pending d ++ (p ∷ [])) h.modes
      (good_snoc lens ms (pending d) p good (omega (arith, room, held_count lens ms d h.sized h.valid)) s new)

  -- the modes with one set, where the place is taken or the mode is auto
  set_valid : (k l m : ℕ) → leb m individual_mode ≡ true → not (eqb l 0) || eqb m auto_mode ≡ true → valid_modes (set lens k l) (set ms k m) ≡ true
  unfolding valid_modes
  set_valid k l m m_known m_idle = ap₂ (◌&&◌) (known_set ms k m known m_known) (idle_set lens ms k l m idle m_idle)

  -- UNSUBSCRIBE
  pub holds_dropped : (k : ℕ)
      → Holds (set lens k 0) (set ms k auto_mode) (dropped (some k) d)
      × (pending (dropped (some k) d) ≡ without (λ (p : Pending). eqb p.place k) (pending d))
  holds_dropped k =
      let left = without (λ (p : Pending). eqb p.place k) (pending d) in
      holds_of (set lens k 0) (set ms k auto_mode) left (set_valid k 0 auto_mode refl refl)
      (good_elsewhere lens ms k 0 auto_mode left
      (all_with (λ p e. eqb-false p.place k e) left (without_fail (λ (p : Pending). eqb p.place k) (pending d)))
      (good_without (λ (p : Pending). eqb p.place k) lens ms (pending d) good))

  -- SUBSCRIBE: the layout stays
  pub holds_subscribed : (k l m : ℕ) → get_or lens k 0 ≡ 0 → (l ≡ 0 → ⊥) → leb m individual_mode ≡ true → Holds (set lens k l) (set ms k m) d
  holds_subscribed k l m free some_l m_known =
      record {
        sized = h.sized;
        modes = set_valid k l m m_known (ap (λ t. not t || eqb m auto_mode) (ne_eqb l 0 some_l));
        valid = valid_again lens ms d h.sized h.valid (set lens k l) (set ms k m)
            (good_elsewhere lens ms k l m (pending d) (free_elsewhere lens ms k (pending d) free good.each) good);
      }

-- what the code that moves deliveries relies on
pub holds_laid : (lens ms : List ℕ) (d : Deliveries) → Holds lens ms d → Laid d
holds_laid lens ms d h =
    let (a, b, c) = behind_zero lens ms d h.sized h.valid in
    record {
      few = held_few lens ms d h.sized h.valid;
      clean_yes = valid_clean label_max _ _ (store_valid lens ms d h.sized h.valid);
      short_yes = valid_short label_max _ _ (store_valid lens ms d h.sized h.valid);
      labels_zero = a;
      lens_zero = b;
      places_zero = c;
    }
