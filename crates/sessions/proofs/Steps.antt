-- What the parts of a session's calls come to: checks one after another, and the groups of Steps put together to the answers and
-- sessions of Calls. Assumes nothing.
use Rattle.std.proofs.Common.{◌≡◌, ℕ, Bool, true, false, cond, not, ◌||◌, eqb, ltb, ◌⊎◌, List, [], ◌∷◌, ◌++◌, replicate, sym, refl, ap, ◌∙◌, subst, ap₂, inl, inr, ⊎_elim, arith, eqb-true, true≢false}
use borrow.Author.Tests.{not-false}
use Rattle.headers.specs.Rows.{every}
use Rattle.headers.specs.Block.{Entry, entries, listed}
use Rattle.headers.specs.Answers.{Answer, accepted, refused, Check, settle}
use Rattle.headers.proofs.Rows.{and_left, and_right, or_false_left}
use Rattle.frames.specs.Grammar.{number, CONNECT, DISCONNECT, STOMP, UNSUBSCRIBE}
use Rattle.sessions.specs.Values.{heart_beat_max}
use Rattle.sessions.specs.Opening.{may_offer}
use Rattle.sessions.specs.Headers.{has, is, opens, needed_by, IdUse, changed_id}
use Rattle.sessions.specs.Sessions.{fresh, with_modes, with_deliveries, closed, heard, spoken, is_valid}
use Rattle.sessions.specs.Answers.{bit, acceptance_says, answer_says}
use Rattle.sessions.specs.Calls.{left_by, uses_of, id_effect, id_checks, delivery_checks, modes_effect, delivery_effect, named_effect}
use Rattle.sessions.specs.Calls.{lacks_any, lacks_needed, frame_checks, acceptance_of, no_receipt}
use Rattle.sessions.specs.Calls.{frame_answer, effect, frame_session, heart_beat_checks, heart_beat_answer, heart_beat_session, making_answer, made}
use Rattle.sessions.specs.Calls.{is_timed_out, timed_out_answer}
use Rattle.sessions.specs.Steps.{kept_by, closed_by, accepted_by, Gives, opening_only, GivesUses, GivesOpening, GivesDelivery, GivesEntries}
use Rattle.sessions.specs.Steps.{after_answer, GivesThen, outcome_with}
use Rattle.sessions.specs.Steps.{Records, unrecorded_by, recorded_as}
use Rattle.frames.specs.declared.version.Version.{Version}
use Rattle.sessions.specs.declared.command.Header.TheVariants.{Id}
use Rattle.sessions.specs.declared.delivery.Deliveries.{Deliveries}
use Rattle.std.specs.Prelude.{Result, Ok, Err}
use Rattle.sessions.specs.Refusals.{number_of}
use Rattle.sessions.specs.declared.refusals.Refusal.{Refusal}
use Rattle.sessions.specs.Afters.{Recording}
use Rattle.sessions.specs.declared.session.Session.{Session}
use Rattle.sessions.specs.declared.session.Acceptance.{Acceptance}
use Rattle.sessions.specs.Afters.{Outcome}

-- no refusal has the number 0
pub number_some : (x : Refusal) → eqb (number_of x) 0 ≡ false
number_some Refusal.BadVersions = refl
number_some Refusal.NoVersion = refl
number_some Refusal.BadHeartBeat = refl
number_some Refusal.BadOffer = refl
number_some Refusal.Invalid = refl
number_some Refusal.Malformed = refl
number_some Refusal.Closed = refl
number_some Refusal.FromServer = refl
number_some Refusal.OutOfPhase = refl
number_some Refusal.Missing = refl
number_some Refusal.BadId = refl
number_some Refusal.Live = refl
number_some Refusal.NotLive = refl
number_some Refusal.Full = refl
number_some Refusal.UnknownMode = refl
number_some Refusal.NotPending = refl
number_some Refusal.AllPending = refl
number_some Refusal.BadLabel = refl
number_some Refusal.NotOpen = refl
number_some Refusal.NoSubscription = refl

-- the number leaves the session as it was
abbrev pub keeps : ℕ → Bool
keeps k = eqb k 38 || eqb k 39

-- ---- checks one after another

module _ {acceptance : Acceptance} {before after : Session} {r : Outcome} where
  -- the first fails, with a number that closes; with one that leaves the session as it was
  pub gives_closed : (fails : Bool) (x : Refusal) (cs : List Check) → fails ≡ true → keeps (number_of x) ≡ false → r ≡ closed_by before x
      → Gives (record { fails = fails; number = number_of x } ∷ cs) acceptance before after r
  gives_closed fails x cs h n e = record { answered = rw (h, e) refl; left = rw (h, e, n) refl }

  pub gives_kept : (fails : Bool) (x : Refusal) (cs : List Check) → fails ≡ true → keeps (number_of x) ≡ true → r ≡ kept_by before x
      → Gives (record { fails = fails; number = number_of x } ∷ cs) acceptance before after r
  gives_kept fails x cs h n e = record { answered = rw (h, e) refl; left = rw (h, e, n) refl }

  -- the first passes
  pub gives_on : (c : Check) (cs : List Check) → c.fails ≡ false → Gives cs acceptance before after r → Gives (c ∷ cs) acceptance before after r
  gives_on c cs h g = record { answered = rw h g.answered; left = rw h g.left }

  -- other checks that settle on the same answer
  pub gives_alike : (cs ds : List Check) → settle cs (acceptance_says acceptance) ≡ settle ds (acceptance_says acceptance) → Gives cs acceptance before after r
      → Gives ds acceptance before after r
  gives_alike cs ds e g = record { answered = rw (← e) g.answered; left = rw (← e) g.left }

  -- by the answer that the checks settle on
  pub gives_refused : (cs : List Check) (x : Refusal) → settle cs (acceptance_says acceptance) ≡ refused (number_of x) → keeps (number_of x) ≡ false
      → r ≡ closed_by before x → Gives cs acceptance before after r
  gives_refused cs x h n e = record { answered = rw (h, e) refl; left = rw (h, e, n) refl }

-- accepted, and heard from
pub gives_accepted : (cs : List Check) (acceptance : Acceptance) (before after : Session) (time : ℕ) (r : Outcome)
    → settle cs (acceptance_says acceptance) ≡ accepted (acceptance_says acceptance)
    → r ≡ accepted_by after acceptance time → Gives cs acceptance before (heard after time) r
gives_accepted cs acceptance before after time r h e = record { answered = rw (h, e) refl; left = rw (h, e) refl }

-- the checks refuse whatever the values of an accepted answer are
pub settle_refused : (cs : List Check) (v w : List ℕ) (k : ℕ) → settle cs v ≡ refused k → settle cs w ≡ refused k
settle_refused [] v w k e = absurd (let z : ◌≡◌ {A = ℕ} 0 1 = cc in omega arith)
settle_refused (c ∷ cs) v w k e = by c.fails (settle_refused cs v w k) e
  where
    by : (t : Bool) → (settle cs v ≡ refused k → settle cs w ≡ refused k)
        → cond t (refused c.number) (settle cs v) ≡ refused k → cond t (refused c.number) (settle cs w) ≡ refused k
    by true more e = e
    by false more e = more e

-- a refusal has a number of its checks, so it closes where each of them does
pub settle_closes : (cs : List Check) (v : List ℕ) (k : ℕ) → every (λ c. not (keeps c.number)) cs ≡ true → settle cs v ≡ refused k → keeps k ≡ false
settle_closes [] v k h e = absurd (let z : ◌≡◌ {A = ℕ} 0 1 = cc in omega arith)
settle_closes (c ∷ cs) v k h e = by c.fails (settle_closes cs v k (and_right (not (keeps c.number)) (every (λ d. not (keeps d.number)) cs) h)) e
  where
    flipped : (t : Bool) → not t ≡ true → t ≡ false
    flipped true q = sym q
    flipped false q = refl

    by : (t : Bool) → (settle cs v ≡ refused k → keeps k ≡ false) → cond t (refused c.number) (settle cs v) ≡ refused k → keeps k ≡ false
    by true more e =
        let n : c.number ≡ k = cc in rw (← n) (flipped (keeps c.number) (and_left (not (keeps c.number)) (every (λ d. not (keeps d.number)) cs) h))
    by false more e = more e

-- ---- 40, 41 and 42, by the number that they come to

abbrev three : Bool → Bool → Bool → List Check → List Check
three a b c cs = record { fails = a; number = 40 } ∷ record { fails = b; number = 41 } ∷ record { fails = c; number = 42 } ∷ cs

module _ {acceptance : Acceptance} {before after : Session} {r : Outcome} (cs : List Check) where
  -- the first fails, with the number of a refusal that closes
  gives_numbered : (x : Refusal) (k : ℕ) (ds : List Check) → number_of x ≡ k → keeps k ≡ false → r ≡ closed_by before x
      → Gives (record { fails = true; number = k } ∷ ds) acceptance before after r
  gives_numbered x k ds e n q =
      subst (λ m. Gives (record { fails = true; number = m } ∷ ds) acceptance before after r) e (gives_closed true x ds refl (ap keeps e ∙ n) q)

  pub phase_refuses : (x : Refusal) (a b c : Bool) → number_of x ≡ cond a 40 (cond b 41 (cond c 42 0)) → r ≡ closed_by before x
      → Gives (three a b c cs) acceptance before after r
  phase_refuses x true b c e q = gives_numbered x 40 _ e refl q
  phase_refuses x false true c e q = gives_on _ _ refl (gives_numbered x 41 _ e refl q)
  phase_refuses x false false true e q = gives_on _ _ refl (gives_on _ _ refl (gives_numbered x 42 _ e refl q))
  phase_refuses x false false false e q = absurd (true≢false (sym (ap (λ k. eqb k 0) e) ∙ number_some x))

  pub phase_passes : (a b c : Bool) → ◌≡◌ {A = ℕ} 0 (cond a 40 (cond b 41 (cond c 42 0))) → Gives cs acceptance before after r
      → Gives (three a b c cs) acceptance before after r
  phase_passes true b c e g = absurd (omega (arith, e))
  phase_passes false true c e g = absurd (omega (arith, e))
  phase_passes false false true e g = absurd (omega (arith, e))
  phase_passes false false false e g = gives_on _ _ refl (gives_on _ _ refl (gives_on _ _ refl g))

-- ---- a frame, from the parts that depend on its entries

module _ (s : Session) (n : ℕ) (es : List Entry) (time : ℕ) (r : Outcome) where
  -- the opening frame: no id is named, and no receipt is owed
  opening_is : (n ≡ number CONNECT) ⊎ (n ≡ number STOMP) → lacks_needed s n es ≡ false → GivesOpening s es (acceptance_of n es) time r
      → GivesEntries s n es time r
  opening_is q h g = ⊎_elim (λ (e : n ≡ number CONNECT). rw e (gives_on _ _ (rw e at h) (gives_alike (opening_only s es) _ refl (rw e at g))))
      (λ (e : n ≡ number STOMP). rw e (gives_on _ _ (rw e at h) (gives_alike (opening_only s es) _ refl (rw e at g)))) q

  opening_number : opens n ≡ true → (n ≡ number CONNECT) ⊎ (n ≡ number STOMP)
  opening_number = by (is CONNECT n) (is STOMP n) refl refl
    where
      by : (a b : Bool) → is CONNECT n ≡ a → is STOMP n ≡ b → a || b ≡ true → (n ≡ number CONNECT) ⊎ (n ≡ number STOMP)
      by true b p q h = inl (eqb-true n (number CONNECT) p)
      by false true p q h = inr (eqb-true n (number STOMP) q)
      by false false p q h = absurd (let z : ◌≡◌ {A = ℕ} 0 1 = cc in omega arith)

  module _ (acceptance : Acceptance) (same : acceptance ≡ acceptance_of n es) where
    pub entries_opening : lacks_needed s n es ≡ false → opens n ≡ true → GivesOpening s es acceptance time r → GivesEntries s n es time r
    entries_opening h o g = opening_is (opening_number o) h (subst (λ a. GivesOpening s es a time r) same g)

    pub entries_disconnect : n ≡ number DISCONNECT → r ≡ accepted_by (closed s) acceptance time → GivesEntries s n es time r
    entries_disconnect e q =
        let q' : r ≡ accepted_by (closed s) (acceptance_of n es) time = q ∙ ap (λ a. accepted_by (closed s) a time) same in
        rw e (gives_accepted _ (acceptance_of (number DISCONNECT) es) s (closed s) time r refl (rw e at q'))

    -- any other frame
    pub entries_naming : lacks_needed s n es ≡ false → opens n ≡ false → is DISCONNECT n ≡ false → GivesDelivery s n es acceptance time r
        → GivesEntries s n es time r
    entries_naming h o d g =
        let same_effect : effect s n es ≡ named_effect s n es = rw (o, d) in
        let g' : GivesDelivery s n es (acceptance_of n es) time r = subst (λ a. GivesDelivery s n es a time r) same g in
        rw same_effect (gives_on _ _ h (gives_on _ _ (rw o) (gives_on _ _ (rw o) (gives_on _ _ (rw o) g'))))

-- the ids that a frame names, by the number that they come to
module _ (s : Session) (us : List IdUse) (acceptance : Acceptance) (time : ℕ) (r : Outcome) where
  pub uses_refused : (x : Refusal) → settle (id_checks s us) [] ≡ refused (number_of x) → r ≡ closed_by s x → GivesUses s us acceptance time r
  uses_refused x e q =
      gives_refused (id_checks s us) x (settle_refused (id_checks s us) [] _ (number_of x) e) (settle_closes (id_checks s us) [] (number_of x) refl e) q

  pub uses_accepted : ((v : List ℕ) → settle (id_checks s us) v ≡ accepted v) → r ≡ accepted_by (id_effect s (changed_id us)) acceptance time
      → GivesUses s us acceptance time r
  uses_accepted e q = gives_accepted (id_checks s us) acceptance s (id_effect s (changed_id us)) time r (e (acceptance_says acceptance)) q

-- ---- checks after others

-- the answer of checks after others: a refusal stays
abbrev then : Answer → Answer → Answer
then (accepted v) more = more
then (refused k) more = refused k

settle_append : (cs ds : List Check) (v : List ℕ) → settle (cs ++ ds) v ≡ then (settle cs v) (settle ds v)
settle_append [] ds v = refl
settle_append (c ∷ cs) ds v = by c.fails (settle_append cs ds v)
  where
    by : (t : Bool) → settle (cs ++ ds) v ≡ then (settle cs v) (settle ds v)
        → cond t (refused c.number) (settle (cs ++ ds) v) ≡ then (cond t (refused c.number) (settle cs v)) (settle ds v)
    by true e = refl
    by false e = e

-- checks that are passed settle on the values that they are given
settle_values : (cs : List Check) (v w : List ℕ) → settle cs v ≡ accepted w → w ≡ v
settle_values [] v w e = cc
settle_values (c ∷ cs) v w e = by c.fails (settle_values cs v w) e
  where
    by : (t : Bool) → (settle cs v ≡ accepted w → w ≡ v) → cond t (refused c.number) (settle cs v) ≡ accepted w → w ≡ v
    by true more h = absurd (let z : ◌≡◌ {A = ℕ} 0 1 = cc in omega arith)
    by false more h = more h

-- an outcome by checks, and what is given after it by others
module _ (cs ds : List Check) (acceptance : Acceptance) (before after : Session) (ms : List ℕ) (d : Deliveries) (named r : Outcome) where
  abbrev changed : Session → Session
  changed x = with_deliveries (with_modes x ms) d

  pub gives_then : Gives cs acceptance before after named → GivesThen ds before ms d named r → Gives (cs ++ ds) acceptance before (changed after) r
  gives_then g h = by named.answer (settle cs says) refl refl h
    where
      says : List ℕ
      says = acceptance_says acceptance

      by : (x : Result Acceptance Refusal) (A : Answer) → named.answer ≡ x → settle cs says ≡ A → after_answer x ds before ms d named r
          → Gives (cs ++ ds) acceptance before (changed after) r
      by (Err k) (refused j) e f h =
          let whole : settle (cs ++ ds) says ≡ refused j = settle_append cs ds says ∙ ap (λ A. then A (settle ds says)) f in
          record {
            answered = ap (λ (o : Outcome). answer_says o.answer) h ∙ g.answered ∙ f ∙ sym whole;
            left = ap (λ (o : Outcome). o.session) h ∙ g.left ∙ ap (λ A. left_by A before after) f
                ∙ ap (λ A. left_by A before (changed after)) (sym whole);
          }
      by (Err k) (accepted v) e f h =
          absurd (let q : refused (number_of k) ≡ accepted v = sym (ap answer_says e) ∙ g.answered ∙ f in let z : ◌≡◌ {A = ℕ} 0 1 = cc in omega arith)
      by (Ok a) (refused j) e f h =
          absurd (let q : accepted (acceptance_says a) ≡ refused j = sym (ap answer_says e) ∙ g.answered ∙ f in let z : ◌≡◌ {A = ℕ} 0 1 = cc in omega arith)
      by (Ok a) (accepted v) e f h =
          let q : accepted (acceptance_says a) ≡ accepted v = sym (ap answer_says e) ∙ g.answered ∙ f in
          let same : acceptance_says a ≡ says = (let w : acceptance_says a ≡ v = cc in w) ∙ settle_values cs says v f in
          let whole : settle (cs ++ ds) says ≡ settle ds (acceptance_says a) = settle_append cs ds says ∙ ap (λ A. then A (settle ds says)) f
          ∙ ap (settle ds) (sym same) in
          let there : named.session ≡ after = g.left ∙ ap (λ A. left_by A before after) f in
          record {
            answered = h.answered ∙ sym whole;
            left = h.left ∙ ap₂ (λ A (x : Session). left_by A before (changed x)) (sym whole) there;
          }

-- what an outcome that was accepted gives then
module _ (checks : List Check) (before : Session) (ms : List ℕ) (d : Deliveries) (named r : Outcome) where
  pub then_accepted : ((v : List ℕ) → settle checks v ≡ accepted v) → (a : Acceptance) → named.answer ≡ Ok a
      → r ≡ outcome_with named ms d → GivesThen checks before ms d named r
  then_accepted h a e q =
      subst (λ x. after_answer x checks before ms d named r) (sym e)
      (record {
        answered = ap (λ (o : Outcome). answer_says o.answer) q ∙ ap answer_says e ∙ sym (h (acceptance_says a));
        left = ap (λ (o : Outcome). o.session) q
            ∙ ap (λ A. left_by A before (with_deliveries (with_modes named.session ms) d)) (sym (h (acceptance_says a)));
      })

-- ---- a frame whose id was settled: its delivery, or the mode that it asks for

module _ (s : Session) (n : ℕ) (es : List Entry) (acceptance : Acceptance) (time : ℕ) (named r : Outcome)
    (g : GivesUses s (uses_of s n es) acceptance time named) where
  -- by the command's number
  abbrev Then : ℕ → Type 0
  Then m = GivesThen (delivery_checks s m es) s (modes_effect s m es) (delivery_effect s m es) named r

  pub then_delivery : Then n → GivesDelivery s n es acceptance time r
  then_delivery h =
      gives_then (id_checks s (uses_of s n es)) (delivery_checks s n es) acceptance s (heard (id_effect s (changed_id (uses_of s n es))) time)
      (modes_effect s n es) (delivery_effect s n es) named r g h

-- what is missing, by the version that the session speaks
pub lacks_spoken : (s : Session) (n : ℕ) (es : List Entry) {r : Bool} {v : Version} → v ≡ spoken s → r ≡ lacks_any (needed_by v n) es → r ≡ lacks_needed s n es
lacks_spoken s n es e q = q ∙ ap (λ z. lacks_any (needed_by z n) es) e

-- the id of an UNSUBSCRIBE is there
module _ (s : Session) (n : ℕ) (es : List Entry) (there : lacks_needed s n es ≡ false) where
  pub dropping_has : n ≡ number UNSUBSCRIBE → has Id es ≡ true
  dropping_has e = not-false (has Id es) (or_false_left (not (has Id es)) false (rw e at there))

-- ---- a delivery that is recorded

module _ {before after : Session} {r : Recording} where
  pub records_refused : (fails : Bool) (x : Refusal) (cs : List Check) → fails ≡ true → r ≡ unrecorded_by before x
      → Records (record { fails = fails; number = number_of x } ∷ cs) before after r
  records_refused fails x cs h e = record { answered = rw (h, e) refl; left = rw (h, e) refl }

  pub records_on : (c : Check) (cs : List Check) → c.fails ≡ false → Records cs before after r → Records (c ∷ cs) before after r
  records_on c cs h g = record { answered = rw h g.answered; left = rw h g.left }

  pub records_done : r ≡ recorded_as after → Records [] before after r
  records_done e = record { answered = rw e refl; left = rw e refl }

-- ---- the calls

pub frame_gives : (s : Session) (n : ℕ) (block : List ℕ) (time : ℕ) (r : Outcome)
    → Gives (frame_checks s n block) (acceptance_of n (listed (entries block))) s (heard (effect s n (listed (entries block))) time) r
    → (answer_says r.answer ≡ frame_answer s n block) × (r.session ≡ frame_session s n block time)
unfolding frame_answer frame_session
frame_gives s n block time r g = (g.answered, g.left)

pub heart_beat_gives : (s : Session) (time : ℕ) (r : Outcome) → Gives (heart_beat_checks s) no_receipt s (heard s time) r
    → (answer_says r.answer ≡ heart_beat_answer s) × (r.session ≡ heart_beat_session s time)
unfolding heart_beat_answer heart_beat_session
heart_beat_gives s time r g = (g.answered, g.left)

module _ (sends wants : ℕ) (offered : List Bool) (made_session : Session) where
  pub making_refused : ltb heart_beat_max sends || (ltb heart_beat_max wants || not (may_offer offered)) ≡ true
      → made_session ≡ closed (fresh 0 0 (replicate 3 false))
      → (refused 34 ≡ making_answer sends wants offered) × (made_session ≡ made sends wants offered)
  unfolding making_answer made
  making_refused h e = rw h (refl, e)

  pub making_made : ltb heart_beat_max sends || (ltb heart_beat_max wants || not (may_offer offered)) ≡ false → made_session ≡ fresh sends wants offered
      → (accepted [] ≡ making_answer sends wants offered) × (made_session ≡ made sends wants offered)
  unfolding making_answer made
  making_made h e = rw h (refl, e)

module _ (s : Session) (time : ℕ) where
  pub timed_invalid : is_valid s ≡ false → refused 38 ≡ timed_out_answer s time
  unfolding timed_out_answer
  timed_invalid h = rw h

  pub timed_open : is_valid s ≡ true → (b : Bool) → is_timed_out s time ≡ b → accepted (bit b ∷ []) ≡ timed_out_answer s time
  unfolding timed_out_answer
  timed_open h b t = rw (h, t) refl
