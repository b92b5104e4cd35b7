-- `session::Session::apply` meets its contract: the parts of what was decided make the session that it leaves.
use Rattle.std.proofs.Common.{◌≡◌, sym, ap, ◌∙◌, subst}
use Rattle.sessions.specs.Sessions.{with_subscriptions, with_transactions, with_deliveries, heard}
use Rattle.sessions.specs.Changes.{ModeFits, SettleFits, set_modes, deliveries_by, changed_by, Uses, Applies}
use Rattle.sessions.specs.declared.delivery.Deliveries.{Deliveries}
use Rattle.sessions.specs.declared.step.Further.{Further}
use Rattle.sessions.proofs.Deciding.{used_is}
use Rattle.sessions.proofs.session.Session.apply.Goals as goal
use Rattle.sessions.proofs.session.Session.apply.Goals.{After-put-self, In-Use, In-Settle}

-- what a change of parts asks
asked : (c : In-Use) → Uses c.args.self.now c.args.block.now c.in-Use.put c.in-Use.further
asked c = subst (Applies c.args.self.now c.args.block.now) c.in-Use.is c.requires.1

-- the session that the parts make
used : (p : After-put-self) (d : Deliveries) → d ≡ deliveries_by p.in-Use.further p.args.self.now
    → heard (with_deliveries (with_transactions (with_subscriptions p.args.self.now p.set_mode-self.result) p.put-self.result) d) p.args.time
    ≡ changed_by p.args.self.now p.args.block.now p.args.time p.args.change
used p d e =
    used_is p.args.self.now p.args.block.now p.args.time p.in-Use.put p.in-Use.further _ _ d
    (p.set_mode-self.ensures ∙ ap (set_modes p.in-Use.further) p.put.ensures) p.put-self.ensures e
    ∙ ap (changed_by p.args.self.now p.args.block.now p.args.time) (sym p.in-Use.is)

pub put-requires : goal.put-requires
put-requires c = (asked (goal.at.put-requires c).In-Use).put_fits

pub set_mode-self-requires : goal.set_mode-self-requires
set_mode-self-requires c = (asked (goal.at.set_mode-self-requires c).In-Use).mode_fits

pub put-self-requires : goal.put-self-requires
put-self-requires c = (asked (goal.at.put-self-requires c).In-Use).put_fits

pub dropped-self-requires : goal.dropped-self-requires
dropped-self-requires c = (c.requires.0, subst ModeFits c.in-Drop.is (asked (goal.at.dropped-self-requires c).In-Use).mode_fits)

-- the delivery that is settled is pending
settles : (c : In-Settle) → SettleFits (Further.Settle c.in-Settle.i) c.args.self.now.deliveries
settles c = subst (λ f. SettleFits f c.args.self.now.deliveries) c.in-Settle.is (subst (Applies c.args.self.now c.args.block.now) c.in-Use.is c.requires.1).settle_fits

pub settled-self-requires : goal.settled-self-requires
settled-self-requires c = (c.requires.0, (settles (goal.at.settled-self-requires c).In-Settle).number_inside)

pub returns-in-Nothing : goal.returns-in-Nothing
returns-in-Nothing c = used (goal.at.returns-in-Nothing c).After-put-self _ (ap (λ f. deliveries_by f c.args.self.now) (sym c.in-Nothing.is))

pub returns-in-Mode : goal.returns-in-Mode
returns-in-Mode c = used (goal.at.returns-in-Mode c).After-put-self _ (ap (λ f. deliveries_by f c.args.self.now) (sym c.in-Mode.is))

pub returns-in-Drop : goal.returns-in-Drop
returns-in-Drop c =
    used (goal.at.returns-in-Drop c).After-put-self _ (c.dropped-self.ensures ∙ ap (λ f. deliveries_by f c.args.self.now) (sym c.in-Drop.is))

pub returns-in-Settle : goal.returns-in-Settle
returns-in-Settle c =
    let at = goal.at.returns-in-Settle c in
    used at.After-put-self _
    (c.settled-self.ensures _ (settles at.In-Settle).first_labelled ∙ ap (λ f. deliveries_by f c.args.self.now) (sym c.in-Settle.is))
