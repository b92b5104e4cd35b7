-- One client's session (document 01, "One client's session"): its record, what makes it valid, and its ids as lists. Assumes nothing.
use Rattle.std.specs.Prelude.{◌≡◌, ℕ, ◌*◌, Bool, false, not, ◌&&◌, ◌||◌, List, length, replicate, ◌==◌, nat_le}
use Rattle.frames.specs.declared.version.Version.{Version}
use Rattle.sessions.specs.Stores.{ids, laid, lengths, valid_store}
use Rattle.sessions.specs.Deliveries.{deliveries_max, label_max, auto_mode, no_deliveries, valid_modes, valid_deliveries}
use Rattle.sessions.specs.Values.{heart_beat_max}
use Rattle.sessions.specs.Opening.{may_offer, none_shared, all_among, chosen}
use Rattle.sessions.specs.declared.command.Kind.{Kind}
use Rattle.sessions.specs.declared.command.Kind.TheVariants.{Subscriptions, Transactions}
use Rattle.sessions.specs.declared.delivery.Deliveries.{Deliveries}
use Rattle.sessions.specs.declared.parts.Offers.{Offers}
use Rattle.sessions.specs.declared.parts.Agreed.{Agreed}
use Rattle.sessions.specs.declared.parts.SubscriptionStore.{SubscriptionStore}
use Rattle.sessions.specs.declared.parts.TransactionStore.{TransactionStore}
use Rattle.sessions.specs.declared.session.Session.{Session}

-- "A session keeps 16 subscription ids and 4 transaction ids of 1 to 32 octets"
abbrev pub subscriptions_max : ℕ
subscriptions_max = 16

abbrev pub transactions_max : ℕ
transactions_max = 4

abbrev pub id_max : ℕ
id_max = 32

-- "Phases fresh, open, closed", in this order from 0
abbrev pub fresh_phase : ℕ
fresh_phase = 0

abbrev pub open_phase : ℕ
open_phase = 1

abbrev pub closed_phase : ℕ
closed_phase = 2

abbrev pub in_phase : ℕ → Session → Bool
in_phase p s = s.phase == p

-- ---- the record, of its parts

-- the only place that lists every part
abbrev pub session_of : Offers → Agreed → SubscriptionStore → TransactionStore → Deliveries → ℕ → ℕ → Session
session_of offers agreed subscriptions transactions deliveries last_heard phase = record {
  offers = offers;
  agreed = agreed;
  subscriptions = subscriptions;
  transactions = transactions;
  deliveries = deliveries;
  last_heard = last_heard;
  phase = phase;
}

-- "a fresh one holds 512 zero octets for the former, and 0 for its intervals and last-heard"
abbrev pub nothing_agreed : Agreed
nothing_agreed = record { inbound = 0; outbound = 0; versions = replicate 3 false }

abbrev pub no_subscriptions : SubscriptionStore
no_subscriptions = record {
  ids = replicate (subscriptions_max * id_max) 0;
  lens = replicate subscriptions_max 0;
  modes = replicate subscriptions_max auto_mode;
}

abbrev pub no_transactions : TransactionStore
no_transactions = record { ids = replicate (transactions_max * id_max) 0; lens = replicate transactions_max 0 }

abbrev pub fresh : ℕ → ℕ → List Bool → Session
fresh sends wants offered =
    session_of (record { sends = sends; wants = wants; versions = offered }) nothing_agreed no_subscriptions no_transactions no_deliveries 0 fresh_phase

-- the session with another part
abbrev pub with_subscriptions : Session → SubscriptionStore → Session
with_subscriptions s ids = session_of s.offers s.agreed ids s.transactions s.deliveries s.last_heard s.phase

abbrev pub with_transactions : Session → TransactionStore → Session
with_transactions s ids = session_of s.offers s.agreed s.subscriptions ids s.deliveries s.last_heard s.phase

abbrev pub with_deliveries : Session → Deliveries → Session
with_deliveries s d = session_of s.offers s.agreed s.subscriptions s.transactions d s.last_heard s.phase

abbrev pub with_phase : Session → ℕ → Session
with_phase s p = session_of s.offers s.agreed s.subscriptions s.transactions s.deliveries s.last_heard p

-- heard from at a time
abbrev pub heard : Session → ℕ → Session
heard s time = session_of s.offers s.agreed s.subscriptions s.transactions s.deliveries time s.phase

-- open, with what both sides agreed on
abbrev pub opened : Session → List Bool → ℕ → ℕ → Session
opened s shared inbound outbound =
    session_of s.offers (record { inbound = inbound; outbound = outbound; versions = shared })
    s.subscriptions s.transactions s.deliveries s.last_heard open_phase

-- "Any close now empties these places."
abbrev pub closed : Session → Session
closed s = with_deliveries (with_phase s closed_phase) no_deliveries

-- The view of a session: its ids of a kind as a list, [] for a free place; and the session with other ids, laid out.
abbrev pub ids_of : Kind → Session → List (List ℕ)
ids_of Subscriptions s = ids id_max s.subscriptions.ids s.subscriptions.lens
ids_of Transactions s = ids id_max s.transactions.ids s.transactions.lens

abbrev pub with_ids : Kind → Session → List (List ℕ) → Session
with_ids Subscriptions s is = with_subscriptions s (record { ids = laid id_max is; lens = lengths is; modes = s.subscriptions.modes })
with_ids Transactions s is = with_transactions s (record { ids = laid id_max is; lens = lengths is })

-- the session with other ack modes of its subscriptions
abbrev pub with_modes : Session → List ℕ → Session
with_modes s ms = with_subscriptions s (record { ids = s.subscriptions.ids; lens = s.subscriptions.lens; modes = ms })

-- the protocol version that the frames of a session are in: the highest that both sides have
abbrev pub spoken : Session → Version
spoken s = chosen s.agreed.versions

-- ---- A valid record, which document 01 calls not unsound: 38 is given for "unknown phase, length over 32, two equal live ids of one
-- kind, non-zero unused octets, offer or interval over the limit, marks that making refuses unless closed", and "also where an open
-- session's shared marks are none, or not all among those it offers" (document 02, C-18). The marks are version flags.
abbrev pub valid_offers : Offers → Bool
valid_offers o = nat_le o.sends heart_beat_max && nat_le o.wants heart_beat_max

abbrev pub valid_agreed : Agreed → Bool
valid_agreed a = nat_le a.inbound heart_beat_max && nat_le a.outbound heart_beat_max

abbrev pub right_flags : Session → Bool
right_flags s = in_phase closed_phase s || may_offer s.offers.versions

abbrev pub right_shared : Session → Bool
right_shared s = not (in_phase open_phase s) || (not (none_shared s.agreed.versions) && all_among s.agreed.versions s.offers.versions)

abbrev pub valid_numbers : Session → Bool
valid_numbers s = nat_le s.phase closed_phase && ((valid_offers s.offers && valid_agreed s.agreed) && (right_flags s && right_shared s))

abbrev pub valid_subscriptions : SubscriptionStore → Bool
valid_subscriptions s = valid_store id_max s.ids s.lens && valid_modes s.lens s.modes

abbrev pub valid_transactions : TransactionStore → Bool
valid_transactions t = valid_store id_max t.ids t.lens

abbrev pub valid_ids : Session → Bool
valid_ids s = valid_subscriptions s.subscriptions && valid_transactions s.transactions

-- no deliveries are pending but in an open session
abbrev pub right_deliveries : Session → Bool
right_deliveries s = valid_deliveries s.subscriptions s.deliveries && (in_phase open_phase s || s.deliveries.count == 0)

unfoldable pub is_valid : Session → Bool
is_valid s = valid_numbers s && (valid_ids s && right_deliveries s)

-- the sizes that the arrays of every record have
pub record SizedSubscriptions (s : SubscriptionStore) : Type 0 where
  pub ids_long : length s.ids ≡ subscriptions_max * id_max
  pub lens_long : length s.lens ≡ subscriptions_max
  pub modes_long : length s.modes ≡ subscriptions_max

pub record SizedTransactions (t : TransactionStore) : Type 0 where
  pub ids_long : length t.ids ≡ transactions_max * id_max
  pub lens_long : length t.lens ≡ transactions_max

pub record Sized (s : Session) : Type 0 where
  pub subscriptions : SizedSubscriptions s.subscriptions
  pub transactions : SizedTransactions s.transactions

pub record SizedDeliveries (d : Deliveries) : Type 0 where
  pub labels_long : length d.labels ≡ deliveries_max * label_max
  pub lens_long : length d.lens ≡ deliveries_max
  pub places_long : length d.places ≡ deliveries_max
