-- What becomes of the deliveries that a history of calls made, told from what its calls did; nothing here knows of a session.
-- Assumes nothing.
use Rattle.std.specs.Prelude.{ℕ, suc, Bool, true, false, cond, ◌&&◌, List, [], ◌∷◌, ◌++◌, ◌==◌}
use Rattle.headers.specs.Rows.{any, same}
use Rattle.sessions.specs.Deliveries.{auto_mode, client_mode}

-- a delivery: the id of its subscription, the mode of that, and its label
pub record Delivery : Type 0 where
  pub subscription : List ℕ
  pub mode : ℕ
  pub label : List ℕ

-- What a call did, told from the call and its answer. A call that is refused and does not close does nothing.
pub data Event : Type 0 where
  subscribed : (id : List ℕ) (mode : ℕ) → Event
  unsubscribed : (id : List ℕ) → Event
  delivered : (subscription : List ℕ) (label : List ℕ) → Event
  acked : (label : List ℕ) → Event
  nacked : (label : List ℕ) → Event
  closed : Event
  nothing : Event

-- the mode of a subscription: that of its last SUBSCRIBE among the events so far, the latest of them first
abbrev pub mode_by : List ℕ → Event → ℕ → ℕ
mode_by id (subscribed x m) before = cond (same x id) m before
mode_by id (unsubscribed x) before = before
mode_by id (delivered x l) before = before
mode_by id (acked l) before = before
mode_by id (nacked l) before = before
mode_by id closed before = before
mode_by id nothing before = before

abbrev pub mode_in : List ℕ → List Event → ℕ
mode_in id [] = auto_mode
mode_in id (e ∷ past) = mode_by id e (mode_in id past)

-- What becomes of a delivery.
pub data Fate : Type 0 where
  acknowledged : Fate
  refused : Fate
  dropped : Fate
  still_pending : Fate

-- the label is one of them
abbrev pub among : List ℕ → List (List ℕ) → Bool
among l ls = any (λ x. same x l) ls

-- Another delivery, later and of subscription x, is one whose ACK or NACK settles this one too: "In client mode ACK or NACK settles
-- the named delivery and all earlier outstanding ones of that subscription; in client-individual only the named one."
abbrev pub settled_with : Delivery → List ℕ → Bool
settled_with d x = d.mode == client_mode && same x d.subscription

-- The fate of a pending delivery by the events that follow; ls are the labels whose ACK or NACK settles it: its own and those of
-- later ones that it is settled with. "dropped at UNSUBSCRIBE or close"
unfoldable pub fate : Delivery → List (List ℕ) → List Event → Fate
fate d ls [] = still_pending
fate d ls (subscribed x m ∷ es) = fate d ls es
fate d ls (unsubscribed x ∷ es) = cond (same x d.subscription) dropped (fate d ls es)
fate d ls (delivered x l ∷ es) = fate d (cond (settled_with d x) (ls ++ (l ∷ [])) ls) es
fate d ls (acked l ∷ es) = cond (among l ls) acknowledged (fate d ls es)
fate d ls (nacked l ∷ es) = cond (among l ls) refused (fate d ls es)
fate d ls (closed ∷ es) = dropped
fate d ls (nothing ∷ es) = fate d ls es

-- a delivery that was made, and what became of it: "Auto counts as acknowledged at once"
pub record Account : Type 0 where
  pub delivery : Delivery
  pub fate : Fate

abbrev pub made_at : List Event → List ℕ → List ℕ → Delivery
made_at past x l = record { subscription = x; mode = mode_in x past; label = l }

abbrev pub account_of : Delivery → List Event → Account
account_of d es = record { delivery = d; fate = cond (d.mode == auto_mode) acknowledged (fate d (d.label ∷ []) es) }

-- every delivery that the events made, in order, with what became of it
unfoldable pub accounts : List Event → List Event → List Account
accounts past [] = []
accounts past (subscribed x m ∷ es) = accounts (subscribed x m ∷ past) es
accounts past (unsubscribed x ∷ es) = accounts (unsubscribed x ∷ past) es
accounts past (delivered x l ∷ es) = account_of (made_at past x l) es ∷ accounts (delivered x l ∷ past) es
accounts past (acked l ∷ es) = accounts (acked l ∷ past) es
accounts past (nacked l ∷ es) = accounts (nacked l ∷ past) es
accounts past (closed ∷ es) = accounts (closed ∷ past) es
accounts past (nothing ∷ es) = accounts (nothing ∷ past) es

-- those of a fate
abbrev pub is_acknowledged : Fate → Bool
is_acknowledged acknowledged = true
is_acknowledged refused = false
is_acknowledged dropped = false
is_acknowledged still_pending = false

abbrev pub is_refused : Fate → Bool
is_refused acknowledged = false
is_refused refused = true
is_refused dropped = false
is_refused still_pending = false

abbrev pub is_dropped : Fate → Bool
is_dropped acknowledged = false
is_dropped refused = false
is_dropped dropped = true
is_dropped still_pending = false

abbrev pub is_still_pending : Fate → Bool
is_still_pending acknowledged = false
is_still_pending refused = false
is_still_pending dropped = false
is_still_pending still_pending = true

abbrev pub with_fate : (Fate → Bool) → List Account → List Delivery
with_fate p [] = []
with_fate p (a ∷ rest) = cond (p a.fate) (a.delivery ∷ with_fate p rest) (with_fate p rest)

-- the deliveries that the calls recorded, by the calls alone
abbrev pub recorded : List Event → ℕ
recorded [] = 0
recorded (subscribed x m ∷ es) = recorded es
recorded (unsubscribed x ∷ es) = recorded es
recorded (delivered x l ∷ es) = suc (recorded es)
recorded (acked l ∷ es) = recorded es
recorded (nacked l ∷ es) = recorded es
recorded (closed ∷ es) = recorded es
recorded (nothing ∷ es) = recorded es

-- those that events leave pending, oldest first; past are the events before, the latest of them first
abbrev pub pending_in : List Event → List Event → List Delivery
pending_in past es = with_fate is_still_pending (accounts past es)
