-- `session::Session::heart_beat` meets its contract.
use Rattle.std.proofs.Common.{not, [], sym, refl, ap, ◌∙◌, eq-eqb, ne_eqb}
use Rattle.sessions.specs.Calls.{no_receipt}
use Rattle.sessions.proofs.Steps.{gives_on, gives_kept, gives_closed, gives_accepted, heart_beat_gives}
use Rattle.sessions.specs.declared.refusals.Refusal.{Refusal}
use Rattle.sessions.proofs.session.Session.heart_beat.Goals as goal

pub returns-then-not-is_valid : goal.returns-then-not-is_valid
returns-then-not-is_valid c = heart_beat_gives c.args.self c.args.time _
    (gives_kept _ Refusal.Invalid _ (ap not (sym c.is_valid.ensures ∙ c.if-not-is_valid.true)) refl c.kept.ensures)

pub returns-then-self-eq-CLOSED : goal.returns-then-self-eq-CLOSED
returns-then-self-eq-CLOSED c = heart_beat_gives c.args.self c.args.time _
    (gives_on _ _ (ap not (sym c.is_valid.ensures ∙ c.if-not-is_valid.false))
    (gives_closed _ Refusal.Closed _ (eq-eqb _ _ c.if-self-eq-CLOSED.true) refl c.refused.ensures))

pub returns : goal.returns
returns c = heart_beat_gives c.args.self c.args.time _
    (gives_on _ _ (ap not (sym c.is_valid.ensures ∙ c.if-not-is_valid.false))
    (gives_on _ _ (ne_eqb _ _ c.if-self-eq-CLOSED.false) (gives_accepted [] no_receipt c.args.self
    c.args.self c.args.time _ refl c.accepted.ensures)))
