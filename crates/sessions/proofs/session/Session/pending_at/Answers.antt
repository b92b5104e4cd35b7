-- `session::Session::pending_at` meets its contract. Assumes nothing.
use Rattle.std.proofs.Common.{◌≡◌, true, sym, ap, ◌∙◌, arith, rules}
use Rattle.sessions.specs.Sessions.{is_valid}
use Rattle.sessions.proofs.Kept.{Kept, kept_of}
use Rattle.sessions.proofs.Delivering.{told_invalid, told_absent, told_held}
use Rattle.std.specs.Prelude.{Ok}
use Rattle.sessions.proofs.session.Session.pending_at.Goals as goal
use Rattle.sessions.proofs.session.Session.pending_at.Goals.{Start}

-- a valid session, with the sizes of its arrays
kept : (c : Start) → is_valid c.args.self ≡ true → Kept c.args.self
kept c v =
    kept_of c.args.self
    (record {
      subscriptions = record { ids_long = search rules; lens_long = search rules; modes_long = search rules };
      transactions = record { ids_long = search rules; lens_long = search rules };
    })
    (record { labels_long = search rules; lens_long = search rules; places_long = search rules }) v

pub returns-then-not-is_valid : goal.returns-then-not-is_valid
returns-then-not-is_valid c =
    told_invalid c.args.self c.args.index (sym c.is_valid.ensures
    ∙ c.if-not-is_valid.true)

pub returns-then-from-index : goal.returns-then-from-index
returns-then-from-index c =
    told_absent c.args.self
    (kept (goal.at.returns-then-from-index c).Start (sym c.is_valid.ensures
    ∙ c.if-not-is_valid.false)) c.args.index
    (sym c.is_valid.ensures ∙ c.if-not-is_valid.false)
    (omega (arith, c.from.ensures, c.if-from-index.true))

pub told-requires : goal.told-requires
told-requires c = (
  sym c.is_valid.ensures
      ∙ c.if-not-is_valid.false,
  omega (arith, c.from.ensures, c.if-from-index.false),
)

pub returns : goal.returns
returns c =
    ap Ok c.told.ensures ∙ told_held c.args.self
    (kept (goal.at.returns c).Start (sym c.is_valid.ensures
    ∙ c.if-not-is_valid.false)) c.args.index
    (sym c.is_valid.ensures ∙ c.if-not-is_valid.false)
