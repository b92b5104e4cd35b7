-- `session::Session::timed_out` meets its contract.
use Rattle.std.proofs.Common.{false, ltb, ◌*◌, ap, sym, ◌∙◌, arith, eq-eqb, ne_eqb}
use Rattle.sessions.proofs.Using.{small_inbound}
use Rattle.sessions.proofs.Opening.{timed_out_by}
use Rattle.headers.proofs.Rows.{and_no}
use Rattle.sessions.proofs.Steps.{timed_invalid, timed_open}
use Rattle.sessions.proofs.session.Session.timed_out.Goals as goal

pub returns-then-not-is_valid : goal.returns-then-not-is_valid
returns-then-not-is_valid c = timed_invalid _ _ (sym c.is_valid.ensures ∙ c.if-not-is_valid.true)

pub returns-then-self-ne-OPEN : goal.returns-then-self-ne-OPEN
returns-then-self-ne-OPEN c = timed_open _ _ (sym c.is_valid.ensures ∙ c.if-not-is_valid.false) false (rw (ne_eqb _ _ c.if-self-ne-OPEN.true))

pub returns-then-self-eq0 : goal.returns-then-self-eq0
returns-then-self-eq0 c = timed_open _ _ (sym c.is_valid.ensures ∙ c.if-not-is_valid.false) false (simp (eq-eqb _ _ c.if-self-eq0.true, and_no))

pub overflow_mul-result : goal.overflow_mul-result
overflow_mul-result c = omega (
  arith,
  small_inbound c.args.self
      (sym c.is_valid.ensures ∙ c.if-not-is_valid.false),
)

pub returns : goal.returns
returns c = timed_open _ _ (sym c.is_valid.ensures ∙ c.if-not-is_valid.false) _
    (timed_out_by c.args.self
    c.args.time c.if-self-ne-OPEN.false
    c.if-self-eq0.false ∙ ap (ltb (c.args.self.agreed.inbound * 2)) (sym c.passed_since.ensures))
