-- `session::Session::open` meets its contract: its checks in order, by what was read of the headers.
use Rattle.std.proofs.Common.{◌≡◌, sym, refl, ◌∙◌, ap₂, subst}
use Rattle.std.proofs.lemmas.Result.{err_from_is_err_and}
use Rattle.headers.specs.Block.{entries, listed}
use Rattle.sessions.specs.Sessions.{opened}
use Rattle.sessions.specs.Calls.{client_versions, client_heart_beats}
use Rattle.sessions.specs.Reads.{versions_say, heart_beats_say}
use Rattle.sessions.specs.Steps.{accepted_by}
use Rattle.sessions.specs.declared.refusals.Refusal.{Refusal}
use Rattle.sessions.proofs.Asking.{some_by, none_by}
use Rattle.sessions.proofs.Opening.{opening_malformed, opening_unshared, opening_no_heart_beat, opening_done}
use Rattle.sessions.proofs.Deciding.{decides_closing}
use Rattle.sessions.proofs.session.Session.open.Goals as goal

pub returns-in_err-flags : goal.returns-in_err-flags
returns-in_err-flags c =
    let a = c.args in
    let es = listed (entries a.block.now) in
    let p = err_from_is_err_and c.from_residual.result c.from_residual.ensures.1 in
    let n = none_by _ _ c.ok_or.ensures.value c.in_err-flags.was in
    let none_read = subst (λ o. versions_say o ≡ client_versions es) n.0 c.client_versions.ensures in
    rw (p.1, p.2, n.1) (decides_closing Refusal.BadVersions (λ time. opening_malformed a.self es a.acceptance time _ none_read refl))

pub returns-then-is_none_shared : goal.returns-then-is_none_shared
returns-then-is_none_shared c =
    let a = c.args in
    let es = listed (entries a.block.now) in
    let both = c.share-shared in
    let read = subst (λ o. versions_say o ≡ client_versions es) (some_by _ _ c.ok_or.ensures.value c.in_ok-flags.was) c.client_versions.ensures in
    decides_closing Refusal.NoVersion
    (λ time. opening_unshared a.self es a.acceptance time _ _ read
    both.result both.ensures (sym c.is_none_shared.ensures ∙ c.if-is_none_shared.true) refl)

pub returns-in_err-heart_beats : goal.returns-in_err-heart_beats
returns-in_err-heart_beats c =
    let a = c.args in
    let es = listed (entries a.block.now) in
    let both = c.share-shared in
    let p = err_from_is_err_and c.from_residual-in_err-heart_beats.result c.from_residual-in_err-heart_beats.ensures.1 in
    let n = none_by _ _ c.ok_or-2.ensures.value c.in_err-heart_beats.was in
    let read = subst (λ o. versions_say o ≡ client_versions es) (some_by _ _ c.ok_or.ensures.value c.in_ok-flags.was) c.client_versions.ensures in
    let none_read = subst (λ o. heart_beats_say o ≡ client_heart_beats es) n.0 c.client_heart_beats.ensures in
    rw (p.1, p.2, n.1) (decides_closing Refusal.BadHeartBeat
    (λ time. opening_no_heart_beat a.self es a.acceptance time _ _ read
    both.result both.ensures (sym c.is_none_shared.ensures ∙ c.if-is_none_shared.false) none_read refl))

pub returns : goal.returns
returns c =
    let a = c.args in
    let es = listed (entries a.block.now) in
    let both = c.share-shared in
    let read = subst (λ o. versions_say o ≡ client_versions es) (some_by _ _ c.ok_or.ensures.value c.in_ok-flags.was) c.client_versions.ensures in
    let beats = subst (λ o. heart_beats_say o ≡ client_heart_beats es) (some_by _ _ c.ok_or-2.ensures.value c.in_ok-heart_beats.was) c.client_heart_beats.ensures in
    record {
      gives = λ time. opening_done a.self es a.acceptance time _ _ read
          both.result both.ensures (sym c.is_none_shared.ensures ∙ c.if-is_none_shared.false)
          c.in_ok-heart_beats.heart_beats beats
          (ap₂ (λ x y. accepted_by (opened a.self both.result x y) a.acceptance time) c.interval-inbound.ensures c.interval-outbound.ensures);
      applies = tt;
    }
