-- `session::Session::decide` meets its contract: the stores are lent to settle the ids that a frame names.
use Rattle.std.proofs.Common.{sym, refl}
use Rattle.sessions.specs.declared.command.Kind.TheVariants.{Subscriptions, Transactions}
use Rattle.sessions.proofs.Using.{fits_of}
use Rattle.sessions.proofs.Walking.{fits_long}
use Rattle.sessions.proofs.session.Session.decide.Goals as goal

pub invariant_of-subscriptions : goal.invariant_of-subscriptions
invariant_of-subscriptions c =
    let f = fits_of c.args.self.now c.requires.1 c.requires.0 Subscriptions in
    record { octets_long = fits_long f; lens_short = f.lens_short }

pub invariant_of-transactions : goal.invariant_of-transactions
invariant_of-transactions c =
    let f = fits_of c.args.self.now c.requires.1 c.requires.0 Transactions in
    record { octets_long = fits_long f; lens_short = f.lens_short }

pub settle_ids-named-requires : goal.settle_ids-named-requires
settle_ids-named-requires c = c.requires.2

pub act-requires : goal.act-requires
act-requires c = (
  c.requires.0,
  c.requires.2,
  c.settle_ids-named.ensures c.args.self.now
      (record { subs_are = refl; sub_lens_are = refl; txs_are = refl; tx_lens_are = refl }) (sym c.chosen-version.ensures),
)
