-- `session::Session::settle_label` meets its contract: settled, or 60. Assumes nothing.
use Rattle.std.proofs.Common.{◌≡◌, true, sym, ◌∙◌, rules}
use Rattle.sessions.specs.Sessions.{is_valid}
use Rattle.std.proofs.lemmas.Result.{err_from_is_err_and}
use Rattle.sessions.proofs.Kept.{Kept, kept_of}
use Rattle.sessions.proofs.Delivering.{laid_of, says_at, says_nowhere, label_found}
use Rattle.sessions.proofs.Asking.{some_by, none_by}
use Rattle.sessions.proofs.Deciding.{label_settles, label_other, label_fails}
use Rattle.sessions.proofs.session.Session.settle_label.Goals as goal
use Rattle.sessions.proofs.session.Session.settle_label.Goals.{Start}

-- a valid session, with the sizes of its arrays
kept : (c : Start) → is_valid c.args.self ≡ true → Kept c.args.self
kept c v =
    kept_of c.args.self
    (record {
      subscriptions = record { ids_long = search rules; lens_long = search rules; modes_long = search rules };
      transactions = record { ids_long = search rules; lens_long = search rules };
    })
    (record { labels_long = search rules; lens_long = search rules; places_long = search rules }) v

pub find-requires : goal.find-requires
find-requires c = laid_of c.args.self (kept (goal.at.find-requires c).Start c.requires)

pub may_name-requires : goal.may_name-requires
may_name-requires c =
    let valid = kept (goal.at.may_name-requires c).Start c.requires in (
      laid_of c.args.self valid,
      (label_found c.args.self valid (λ p. true) c.args.label.now _ (says_at _ _ _ c.find.ensures (some_by _ _ c.ok_or.ensures.value c.in_ok-i.was))).0,
    )

pub returns-then-not-may_name : goal.returns-then-not-may_name
returns-then-not-may_name c =
    label_other c.args.self (kept (goal.at.returns-then-not-may_name c).Start c.requires) _ c.args.label.now _ (says_at _ _ _ c.find.ensures (some_by _ _ c.ok_or.ensures.value c.in_ok-i.was))
    (sym c.may_name.ensures ∙ c.if-not-may_name.true)

pub returns : goal.returns
returns c =
    label_settles c.args.self (kept (goal.at.returns c).Start c.requires) _ c.args.label.now _ (says_at _ _ _ c.find.ensures (some_by _ _ c.ok_or.ensures.value c.in_ok-i.was))
    (sym c.may_name.ensures ∙ c.if-not-may_name.false)

pub returns-in_err-i : goal.returns-in_err-i
returns-in_err-i c =
    let p = err_from_is_err_and c.from_residual.result c.from_residual.ensures.1 in
    let n = none_by _ _ c.ok_or.ensures.value c.in_err-i.was in
    rw (p.1, p.2, n.1) (label_fails c.args.self (kept (goal.at.returns-in_err-i c).Start c.requires) _ c.args.label.now (says_nowhere _ _ c.find.ensures n.0))
