-- The pending deliveries that a session holds, oldest first, and the question for one of them: "Operators ask which messages an ice model
-- got and never confirmed" (document 02, C-15). Assumes nothing.
use Rattle.std.specs.Prelude.{ℕ, zero, suc, cond, List, [], ◌∷◌, map, length, slice_index_or, Option as Maybe, Some, None, Result, Ok, Err}
use Rattle.std.proofs.Math.Option.{Option, none, some}
use Rattle.stores.specs.Places.{padded}
use Rattle.sessions.specs.Deliveries.{Pending, pending, mode_of, label_max}
use Rattle.sessions.specs.Accounts.{Delivery}
use Rattle.sessions.specs.Sessions.{id_max, ids_of, is_valid}
use Rattle.sessions.specs.declared.command.Kind.TheVariants.{Subscriptions}
use Rattle.sessions.specs.declared.session.Session.{Session}
use Rattle.sessions.specs.declared.session.Pending.{Pending as Told}
use Rattle.sessions.specs.declared.refusals.InvalidRecord.{InvalidRecord}

-- the id and the ack mode of the subscription in the place of each, and its label
abbrev pub delivery_of : Session → Pending → Delivery
delivery_of s p = record {
  subscription = slice_index_or (ids_of Subscriptions s) p.place [];
  mode = mode_of s.subscriptions.modes p.place;
  label = p.label;
}

abbrev pub held_deliveries : Session → List Delivery
held_deliveries s = map (delivery_of s) (pending s.deliveries)

-- the one with a number, counted from 0
abbrev pub nth : {A : Type 0} → ℕ → List A → Option A
nth i [] = none
nth zero (x ∷ xs) = some x
nth (suc i) (x ∷ xs) = nth i xs

-- What is told of a delivery: its subscription's id, with 0 after it; the length of that; the ack mode; its label in the same way.
abbrev pub told_of : Option Delivery → Maybe Told
told_of none = None
told_of (some d) = Some (record {
  subscription = padded id_max d.subscription;
  subscription_len = length d.subscription;
  mode = d.mode;
  label = padded label_max d.label;
  label_len = length d.label;
})

-- the pending delivery with a number, the oldest being 0; of an invalid record nothing is told (38)
unfoldable pub pending_answer : Session → ℕ → Result (Maybe Told) InvalidRecord
pending_answer s i = cond (is_valid s) (Ok (told_of (nth i (held_deliveries s)))) (Err (record {}))
