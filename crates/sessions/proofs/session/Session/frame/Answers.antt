-- `session::Session::frame` meets its contract: the check of the record, and then what was decided, and applied.
use Rattle.std.proofs.Common.{◌≡◌, ℕ, true, false, not, ◌||◌, List, sym, refl, ap, ◌∙◌, ap₂, rules}
use Rattle.sessions.specs.Sessions.{is_valid}
use Rattle.sessions.specs.Answers.{answer_says}
use Rattle.sessions.specs.Calls.{frame_answer, frame_session}
use Rattle.headers.specs.Answers.{is_block}
use Rattle.sessions.specs.Headers.{unknown}
use Rattle.sessions.specs.Changes.{DecidesFrame, changed_by, outcome_of}
use Rattle.sessions.specs.declared.session.Session.{Session}
use Rattle.sessions.specs.declared.step.Step.{Step}
use Rattle.sessions.specs.Afters.{Outcome}
use Rattle.sessions.specs.declared.refusals.Refusal.{Refusal}
use Rattle.std.specs.Prelude.{Ok, Err}
use Rattle.sessions.specs.Steps.{closed_by}
use Rattle.sessions.proofs.Steps.{gives_on, gives_kept, frame_gives}
use Rattle.sessions.proofs.Kept.{Kept, kept_of}
use Rattle.sessions.proofs.Delivering.{laid_of}
use Rattle.sessions.proofs.session.Session.frame.Goals as goal
use Rattle.sessions.proofs.session.Session.frame.Goals.{In-Ok, Else-not-check}

module _ (s : Session) (command : ℕ) (block : List ℕ) (time : ℕ) (v : is_valid s ≡ true) (formed : unknown command || not (is_block block) ≡ false) where
  -- what was decided, by the session that its change leaves
  changed : (step : Step) → DecidesFrame s command block (Ok step) → (after : Session) → after ≡ changed_by s block time step.change
      → (answer_says (Ok step.acceptance) ≡ frame_answer s command block) × (after ≡ frame_session s command block time)
  changed step d after e =
      let (a, b) = frame_gives s command block time (outcome_of s block time (Ok step)) (gives_on _ _ (ap not v) (gives_on _ _ formed (d.gives time))) in
      (a, e ∙ b)

  -- and by the refusal
  refuses : (x : Refusal) → DecidesFrame s command block (Err x) → (o : Outcome) → o ≡ closed_by s x
      → (answer_says o.answer ≡ frame_answer s command block) × (o.session ≡ frame_session s command block time)
  refuses x d o e =
      rw e (frame_gives s command block time (outcome_of s block time (Err x)) (gives_on _ _ (ap not v) (gives_on _ _ formed (d.gives time))))

-- it is valid
valid : (c : Else-not-check) → is_valid c.args.self ≡ true
valid c = sym c.check.ensures ∙ c.if-not-check.false

-- a command that is known, and a block that is well formed
formed : (c : In-Ok) → unknown c.args.command || not (is_block c.args.block.now) ≡ false
formed c = ap₂ (λ x y. x || not y) (sym c.is_unknown.ensures ∙ c.if-is_unknown.false) c.in-Ok.ensures.0

-- a valid session, with the sizes of its arrays
kept : (c : In-Ok) → is_valid c.args.self ≡ true → Kept c.args.self
kept c v =
    kept_of c.args.self
    (record {
      subscriptions = record { ids_long = search rules; lens_long = search rules; modes_long = search rules };
      transactions = record { ids_long = search rules; lens_long = search rules };
    })
    (record { labels_long = search rules; lens_long = search rules; places_long = search rules }) v

pub returns-then-not-check : goal.returns-then-not-check
returns-then-not-check c =
    let a = c.args in
    frame_gives a.self a.command a.block.now a.time _
    (gives_kept _ Refusal.Invalid _ (ap not (sym c.check.ensures ∙ c.if-not-check.true)) refl c.kept.ensures)

pub returns-then-is_unknown : goal.returns-then-is_unknown
returns-then-is_unknown c =
    let a = c.args in
    let fails = ap (◌|| not (is_block a.block.now)) (sym c.is_unknown.ensures ∙ c.if-is_unknown.true) in
    frame_gives a.self a.command a.block.now a.time _
    (gives_on _ _ (ap not (valid (goal.at.returns-then-is_unknown c).Else-not-check)) (gives_kept _ Refusal.Malformed _ fails refl c.kept-then-is_unknown.ensures))

pub returns-in_default : goal.returns-in_default
returns-in_default c =
    let a = c.args in
    let fails = ap₂ (λ x y. x || not y) (sym c.is_unknown.ensures ∙ c.if-is_unknown.false) c.in_default.ensures in
    frame_gives a.self a.command a.block.now a.time _
    (gives_on _ _ (ap not (valid (goal.at.returns-in_default c).Else-not-check)) (gives_kept _ Refusal.Malformed _ fails refl c.kept-in_default.ensures))

pub decide-requires : goal.decide-requires
decide-requires c =
    let at = goal.at.decide-requires c in
    let v = valid at.Else-not-check in
    (v, (kept at.In-Ok v).ids.sized, c.in-Ok.ensures.1)

pub apply-requires : goal.apply-requires
apply-requires c =
    let at = goal.at.apply-requires c in
    (laid_of c.args.self (kept at.In-Ok (valid at.Else-not-check)), c.in-Ok-decide.ensures.applies)

pub returns-in-Err : goal.returns-in-Err
returns-in-Err c =
    let at = goal.at.returns-in-Err c in
    let a = c.args in
    refuses a.self a.command a.block.now a.time (valid at.Else-not-check) (formed at.In-Ok) _ c.in-Err.ensures _ c.refused.ensures

pub returns : goal.returns
returns c =
    let at = goal.at.returns c in
    let a = c.args in
    changed a.self a.command a.block.now a.time (valid at.Else-not-check) (formed at.In-Ok) _ c.in-Ok-decide.ensures _ c.apply.ensures
