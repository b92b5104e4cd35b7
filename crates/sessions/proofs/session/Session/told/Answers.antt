-- `session::Session::told` meets its contract: the places of the stores hold what is told. Assumes nothing.
use Rattle.std.proofs.Common.{◌≡◌, true, get_or, ◌∙◌, ap₂, arith, rules}
use Rattle.std.specs.Prelude.{Some}
use Rattle.sessions.proofs.Delivering.{laid_of, told_place, told_at}
use Rattle.sessions.specs.Sessions.{is_valid}
use Rattle.sessions.proofs.Kept.{Kept, kept_of}
use Rattle.sessions.proofs.session.Session.told.Goals as goal
use Rattle.sessions.proofs.session.Session.told.Goals.{Start}

-- a valid session, with the sizes of its arrays
kept : (c : Start) → is_valid c.args.self ≡ true → Kept c.args.self
kept c v =
    kept_of c.args.self
    (record {
      subscriptions = record { ids_long = search rules; lens_long = search rules; modes_long = search rules };
      transactions = record { ids_long = search rules; lens_long = search rules };
    })
    (record { labels_long = search rules; lens_long = search rules; places_long = search rules }) v

pub bounds-places-index : goal.bounds-places-index
bounds-places-index c =
    omega (
      arith,
      c.requires.1,
      (laid_of
          c.args.self
          (kept (goal.at.bounds-places-index c).Start c.requires.0)).few,
    )

pub row-requires : goal.row-requires
row-requires c =
    omega (
      arith,
      told_place c.args.self
          (kept (goal.at.row-requires c).Start
          c.requires.0)
          c.args.index
          c.requires.1 c.from-place.result c.from-place.ensures,
      (kept (goal.at.row-requires c).Start
          c.requires.0).ids.sized.subscriptions.ids_long,
    )

pub bounds-id_lens-place : goal.bounds-id_lens-place
bounds-id_lens-place c =
    omega (
      arith,
      told_place c.args.self
          (kept (goal.at.bounds-id_lens-place c).Start
          c.requires.0)
          c.args.index
          c.requires.1 c.from-place.result
          c.from-place.ensures,
    )

pub bounds-modes-place : goal.bounds-modes-place
bounds-modes-place c =
    omega (
      arith,
      told_place c.args.self
          (kept (goal.at.bounds-modes-place c).Start
          c.requires.0)
          c.args.index
          c.requires.1 c.from-place.result
          c.from-place.ensures,
    )

pub slice_bounds-row-end-2 : goal.slice_bounds-row-end-2
slice_bounds-row-end-2 c =
    search rules

pub row-requires-2 : goal.row-requires-2
row-requires-2 c =
    omega (
      arith,
      c.requires.1,
      (laid_of
          c.args.self
          (kept (goal.at.row-requires-2 c).Start
          c.requires.0)).few,
      (kept (goal.at.row-requires-2 c).Start
          c.requires.0).holds.sized.labels_long,
    )

pub bounds-lens-index : goal.bounds-lens-index
bounds-lens-index c =
    omega (
      arith,
      c.requires.1,
      (laid_of
          c.args.self
          (kept (goal.at.bounds-lens-index c).Start
          c.requires.0)).few,
    )

pub returns : goal.returns
returns c = ap₂ (λ a b. Some (record {
  subscription = a;
  subscription_len =
      get_or c.args.self.subscriptions.lens
      c.from-place.result 0;
  mode =
      get_or c.args.self.subscriptions.modes
      c.from-place.result 0;
  label = b;
  label_len =
      get_or c.args.self.deliveries.lens
      c.args.index 0;
})) c.row.ensures c.row-2.ensures
    ∙ told_at c.args.self
    (kept (goal.at.returns c).Start
    c.requires.0)
    c.args.index
    c.requires.1
    c.from-place.result c.from-place.ensures
