-- `session::Session::recorded` meets its contract, by the ack mode. Assumes nothing.
use Rattle.std.proofs.Common.{◌≡◌, true, refl, rules, eq-eqb, ne_eqb}
use Rattle.sessions.specs.Sessions.{is_valid}
use Rattle.sessions.proofs.Kept.{Kept, kept_of}
use Rattle.sessions.proofs.Delivering.{laid_of, recorded_pending, recorded_auto}
use Rattle.sessions.proofs.session.Session.recorded.Goals as goal

-- a valid session, with the sizes of its arrays
kept : (c : goal.Then-modes-place-ne-AUTO) → is_valid c.args.self ≡ true → Kept c.args.self
kept c v =
    kept_of c.args.self
    (record {
      subscriptions = record { ids_long = search rules; lens_long = search rules; modes_long = search rules };
      transactions = record
          { ids_long = search rules; lens_long = search rules };
    })
    (record { labels_long = search rules; lens_long = search rules; places_long = search rules }) v

pub entered-self-requires : goal.entered-self-requires
entered-self-requires c = (
  laid_of c.args.self (kept c c.requires.valid),
  c.requires.room (ne_eqb _ _ c.if-modes-place-ne-AUTO.true),
  c.requires.fits,
)

pub returns-then-modes-place-ne-AUTO : goal.returns-then-modes-place-ne-AUTO
returns-then-modes-place-ne-AUTO c =
    recorded_pending c.args.self c.args.place _ _ _
    (ne_eqb _ _ c.if-modes-place-ne-AUTO.true) refl c.entered-self.ensures

pub returns-else-modes-place-ne-AUTO : goal.returns-else-modes-place-ne-AUTO
returns-else-modes-place-ne-AUTO c = recorded_auto c.args.self c.args.place _ (eq-eqb _ _ c.if-modes-place-ne-AUTO.false)
