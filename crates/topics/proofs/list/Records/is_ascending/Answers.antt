-- `list::Records::is_ascending` meets its contract: the texts passed are well formed, and their numbers are below above where they are
-- ascending.
use mathlib.Core.Path.{sym, ◌∙◌, subst}
use Rattle.std.specs.Prelude.{Ok}
use Rattle.topics.specs.Places.{Stood, Standing}
use Rattle.topics.proofs.Validity.{bad_text, read_more, read_all, read_malformed, reads_err}
use Rattle.topics.proofs.list.Records.is_ascending.Goals as goal
use Rattle.topics.proofs.list.Records.is_ascending.Goals.{In-Some}

pub returns-in_err-r : goal.returns-in_err-r
returns-in_err-r c =
    let a = c.args.self.now in
    let l = c.loop-r in
    let bad = c.in_err-r.ensures in
    reads_err _ c.from_residual.result c.from_residual.ensures.0 (read_malformed a.width a.octets.now l.at l.above l.ascending l.invariant bad.0 bad.1)

-- the record at the place
here : (c : In-Some) → Stood c.args.self.now.width c.args.self.now.octets.now c.loop-r.at c.in-Some.r
here c = let a = c.args.self.now in subst (λ o. Standing a.width a.octets.now c.loop-r.at (Ok o)) c.in-Some.is c.in_ok-r.ensures

pub returns-then-not-is_well_formed : goal.returns-then-not-is_well_formed
returns-then-not-is_well_formed c =
    let a = c.args.self.now in
    let l = c.loop-r in
    bad_text a.width a.octets.now l.at l.above l.ascending l.invariant c.in-Some.r (here (goal.at.returns-then-not-is_well_formed c).In-Some) (sym c.is_well_formed.ensures ∙ c.if-not-is_well_formed.true)

pub loop-r-preserved : goal.loop-r-preserved
loop-r-preserved c =
    let a = c.args.self.now in
    let l = c.loop-r in
    read_more a.width a.octets.now l.at l.above l.ascending l.invariant c.in-Some.r (here (goal.at.loop-r-preserved c).In-Some) (sym c.is_well_formed.ensures ∙ c.if-not-is_well_formed.false)

pub returns : goal.returns
returns c =
    let a = c.args.self.now in
    let l = c.loop-r in
    read_all a.width a.octets.now l.at l.above l.ascending l.invariant (subst (λ o. Standing a.width a.octets.now l.at (Ok o)) c.in_default.is c.in_ok-r.ensures)
