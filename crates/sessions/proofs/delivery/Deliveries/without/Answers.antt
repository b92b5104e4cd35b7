-- `delivery::Deliveries::without` meets its contract: the rows that stay are the layout of the deliveries that stay.
use Rattle.std.proofs.Common.{arith, rules}
use Rattle.sessions.specs.Sessions.{SizedDeliveries}
use Rattle.sessions.proofs.Taking.{few_kept, without_at}
use Rattle.sessions.proofs.delivery.Deliveries.without.Goals as goal
use Rattle.sessions.proofs.delivery.Deliveries.without.Goals.{Start}

-- the sizes of its arrays
sized : (c : Start) → SizedDeliveries c.args.self
sized c = record { labels_long = search rules; lens_long = search rules; places_long = search rules }

pub slice_bounds-keep_rows-end-2 : goal.slice_bounds-keep_rows-end-2
slice_bounds-keep_rows-end-2 c =
    let z = sized (goal.at.slice_bounds-keep_rows-end-2 c).Start in
    omega (arith, c.from-n.ensures, c.requires.few, z.labels_long, z.lens_long, z.places_long)

pub slice_bounds-keep_rows-end-3 : goal.slice_bounds-keep_rows-end-3
slice_bounds-keep_rows-end-3 c =
    let z = sized (goal.at.slice_bounds-keep_rows-end-3 c).Start in
    omega (
      arith,
      c.from-n.ensures,
      c.requires.few,
      z.labels_long,
      z.lens_long,
      z.places_long,
    )

pub slice_bounds-keep_rows-end-5 : goal.slice_bounds-keep_rows-end-5
slice_bounds-keep_rows-end-5 c =
    let z = sized (goal.at.slice_bounds-keep_rows-end-5 c).Start in
    omega (
      arith,
      c.from-n.ensures,
      c.requires.few,
      z.labels_long,
      z.lens_long,
      z.places_long,
    )

pub slice_bounds-keep_rows-end-6 : goal.slice_bounds-keep_rows-end-6
slice_bounds-keep_rows-end-6 c =
    let z = sized (goal.at.slice_bounds-keep_rows-end-6 c).Start in
    omega (
      arith,
      c.from-n.ensures,
      c.requires.few,
      z.labels_long,
      z.lens_long,
      z.places_long,
    )

pub slice_bounds-keep_rows-end-8 : goal.slice_bounds-keep_rows-end-8
slice_bounds-keep_rows-end-8 c =
    let z = sized (goal.at.slice_bounds-keep_rows-end-8 c).Start in
    omega (
      arith,
      c.from-n.ensures,
      c.requires.few,
      z.labels_long,
      z.lens_long,
      z.places_long,
    )

pub slice_bounds-keep_rows-end-9 : goal.slice_bounds-keep_rows-end-9
slice_bounds-keep_rows-end-9 c =
    let z = sized (goal.at.slice_bounds-keep_rows-end-9 c).Start in
    omega (
      arith,
      c.from-n.ensures,
      c.requires.few,
      z.labels_long,
      z.lens_long,
      z.places_long,
    )

pub overflow_cast-result : goal.overflow_cast-result
overflow_cast-result c =
    let from = c.from-n in
    omega (
      arith,
      few_kept c.args.self (sized (goal.at.overflow_cast-result c).Start) c.requires from.result from.ensures c.args.range c.keep_rows-count.result _
          c.keep_rows-count.ensures,
    )

pub returns : goal.returns
returns c =
    let from = c.from-n in
    without_at c.args.self (sized (goal.at.returns c).Start) c.requires from.result from.ensures c.args.range _ _ _ _ _ _
    c.keep_rows.ensures
    c.keep_rows-2.ensures c.keep_rows-count.ensures
