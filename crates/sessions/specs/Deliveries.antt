-- What a session keeps for deliveries (document 02, C-15): the pending deliveries as a list, oldest first, and the ack modes of its
-- subscriptions; what is left of them when some are settled or dropped; what makes them valid. Assumes nothing.
use Rattle.std.specs.Prelude.{◌≡◌, ℕ, ◌-◌, ◌*◌, ◌≤◌, Bool, true, cond, not, ◌&&◌, ◌||◌, leb, List, [], ◌∷◌, ◌++◌, map, length, take, drop, replicate, ◌==◌, nat_eq, nat_le, slice_index, slice_index_or, slice_set}
use Rattle.std.proofs.Math.Option.{Option, none, some}
use Rattle.headers.specs.Rows.{every, any, first_of, same}
use Rattle.stores.specs.Places.{is_zero}
use Rattle.sessions.specs.Stores.{ids, laid, lengths, short, clean, valid_store}
use Rattle.sessions.specs.declared.delivery.Deliveries.{Deliveries}
use Rattle.sessions.specs.declared.parts.SubscriptionStore.{SubscriptionStore}

-- "up to 64 outstanding deliveries, each with a label of 1 to 32 octets"
abbrev pub deliveries_max : ℕ
deliveries_max = 64

abbrev pub label_max : ℕ
label_max = 32

-- the octets of 64 labels
abbrev pub labels_size : ℕ
labels_size = 2048

-- "each subscription's mode from the ack header (auto, client, client-individual; absent means auto)", numbered in this order
abbrev pub auto_mode : ℕ
auto_mode = 0

abbrev pub client_mode : ℕ
client_mode = 1

abbrev pub individual_mode : ℕ
individual_mode = 2

-- a pending delivery: the place of its subscription, and its label
pub record Pending : Type 0 where
  pub place : ℕ
  pub label : List ℕ

-- The view: the pending deliveries, oldest first.
abbrev pub paired : List ℕ → List (List ℕ) → List Pending
paired [] ls = []
paired (p ∷ ps) [] = []
paired (p ∷ ps) (l ∷ ls) = record { place = p; label = l } ∷ paired ps ls

abbrev pub pending : Deliveries → List Pending
pending d = paired (take d.count d.places) (ids label_max (take (d.count * label_max) d.labels) (take d.count d.lens))

-- The layout of a view: labels, their lengths and the places one after another, and 0 after them.
abbrev pub labels_of : List Pending → List (List ℕ)
labels_of ps = map (λ (p : Pending). p.label) ps

abbrev pub places_of : List Pending → List ℕ
places_of ps = map (λ (p : Pending). p.place) ps

abbrev pub filled : ℕ → List ℕ → List ℕ
filled n xs = xs ++ replicate (n - length xs) 0

unfoldable pub deliveries_of : List Pending → Deliveries
deliveries_of ps = record {
  labels = filled labels_size (laid label_max (labels_of ps));
  lens = filled deliveries_max (lengths (labels_of ps));
  places = filled deliveries_max (places_of ps);
  count = length ps;
}

-- of a session that is fresh or closed
abbrev pub no_deliveries : Deliveries
no_deliveries = record {
  labels = replicate labels_size 0;
  lens = replicate deliveries_max 0;
  places = replicate deliveries_max 0;
  count = 0;
}

-- ---- what is left

-- without those that pass the test
abbrev pub without : {A : Type 0} → (A → Bool) → List A → List A
without p [] = []
without p (d ∷ ds) = cond (p d) (without p ds) (d ∷ without p ds)

-- Settled: the first that is named goes, and those before it that go with it.
abbrev pub settled : {A : Type 0} → (A → Bool) → (A → Bool) → List A → List A
settled named goes [] = []
settled named goes (d ∷ ds) = cond (named d) ds (cond (goes d) (settled named goes ds) (d ∷ settled named goes ds))

-- the mode of the subscription in a place
abbrev pub mode_of : List ℕ → ℕ → ℕ
mode_of ms place = slice_index_or ms place auto_mode

abbrev pub labelled : List ℕ → Pending → Bool
labelled l p = same p.label l

-- the label is pending
abbrev pub is_pending : List ℕ → Deliveries → Bool
is_pending l d = any (labelled l) (pending d)

-- "In client mode ACK or NACK settles the named delivery and all earlier outstanding ones of that subscription; in client-individual
-- only the named one."
abbrev pub goes_with : List ℕ → Pending → Pending → Bool
goes_with ms named p = mode_of ms named.place == client_mode && p.place == named.place

abbrev pub settled_as : List ℕ → List ℕ → Deliveries → Option Pending → Deliveries
settled_as ms l d none = d
settled_as ms l d (some p) = deliveries_of (settled (labelled l) (goes_with ms p) (pending d))

abbrev pub settle_label : List ℕ → List ℕ → Deliveries → Deliveries
settle_label ms l d = settled_as ms l d (first_of (labelled l) (pending d))

-- the modes with that of a subscription in a place set
abbrev pub with_mode : Option ℕ → ℕ → List ℕ → List ℕ
with_mode none m ms = ms
with_mode (some k) m ms = slice_set ms k m

-- those of a subscription in a place "dropped at UNSUBSCRIBE"
abbrev pub dropped : Option ℕ → Deliveries → Deliveries
dropped none d = d
dropped (some k) d = deliveries_of (without (λ (p : Pending). nat_eq p.place k) (pending d))

-- a delivery recorded: "Auto counts as acknowledged at once and takes no place."
abbrev pub record_label : List ℕ → Option ℕ → List ℕ → Deliveries → Deliveries
record_label ms none l d = d
record_label ms (some k) l d = cond (mode_of ms k == auto_mode) d (deliveries_of (pending d ++ (record { place = k; label = l } ∷ [])))

-- ---- A valid record: 38 "at least for an unknown mode, more than 64 deliveries, bad or equal labels, and a delivery of no live
-- subscription or an auto one". A free place has mode auto, and all octets after the pending deliveries are 0.
abbrev pub known_modes : List ℕ → Bool
known_modes ms = every (λ m. leb m individual_mode) ms

abbrev pub idle_modes : List ℕ → List ℕ → Bool
idle_modes [] ms = true
idle_modes (l ∷ ls) [] = true
idle_modes (l ∷ ls) (m ∷ ms) = (not (l == 0) || m == auto_mode) && idle_modes ls ms

unfoldable pub valid_modes : List ℕ → List ℕ → Bool
valid_modes sub_lens ms = known_modes ms && idle_modes sub_lens ms

abbrev pub some_lengths : List ℕ → Bool
some_lengths ls = every (λ l. not (l == 0)) ls

abbrev pub valid_labels : ℕ → List ℕ → List ℕ → Bool
valid_labels n labels lens =
    valid_store label_max (take (n * label_max) labels) (take n lens)
    && (some_lengths (take n lens) && (is_zero (drop (n * label_max) labels) && is_zero (drop n lens)))

abbrev pub acknowledging : List ℕ → List ℕ → ℕ → Bool
acknowledging sub_lens ms p = not (slice_index sub_lens p == 0) && not (slice_index_or ms p auto_mode == auto_mode)

abbrev pub valid_places : ℕ → List ℕ → List ℕ → List ℕ → Bool
valid_places n places sub_lens ms = every (acknowledging sub_lens ms) (take n places) && is_zero (drop n places)

unfoldable pub valid_pending : List ℕ → List ℕ → Deliveries → Bool
valid_pending sub_lens ms d =
    nat_le d.count deliveries_max && (valid_labels d.count d.labels d.lens && valid_places d.count d.places sub_lens ms)

abbrev pub valid_deliveries : SubscriptionStore → Deliveries → Bool
valid_deliveries s d = valid_pending s.lens s.modes d

-- What the code that moves them relies on: a record whose labels are laid out, as a valid one's are.
pub record Laid (d : Deliveries) : Type 0 where
  pub few : d.count ≤ deliveries_max
  pub clean_yes : clean label_max (take (d.count * label_max) d.labels) (take d.count d.lens) ≡ true
  pub short_yes : short label_max (take d.count d.lens) ≡ true
  pub labels_zero : is_zero (drop (d.count * label_max) d.labels) ≡ true
  pub lens_zero : is_zero (drop d.count d.lens) ≡ true
  pub places_zero : is_zero (drop d.count d.places) ≡ true
