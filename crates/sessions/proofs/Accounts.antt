-- What becomes of deliveries: every one has one fate, and what an event leaves of the pending ones are those that are pending after it.
-- Assumes nothing.
use Rattle.std.proofs.Common.{◌≡◌, ℕ, suc, ◌+◌, Bool, true, false, cond, not, ◌&&◌, ◌||◌, eqb, List, [], ◌∷◌, ◌++◌, length, sym, refl, ap, ◌∙◌, subst, ap₂, true≢false, append_assoc, append-nil, arith, eqb-true}
use mathlib.Core.Option.{Option, none, some}
use Rattle.headers.specs.Rows.{any, first_of, same, All}
use Rattle.sessions.specs.Accounts.{Delivery, Event, subscribed, unsubscribed, delivered, acked, nacked, closed, nothing, mode_in}
use Rattle.sessions.specs.Accounts.{Fate, acknowledged, refused, dropped, still_pending, among, settled_with, fate, Account, made_at}
use Rattle.sessions.specs.Accounts.{account_of, accounts, is_acknowledged, is_refused, is_dropped, is_still_pending, with_fate, recorded}
use Rattle.sessions.specs.Accounts.{pending_in}
use Rattle.sessions.specs.Deliveries.{auto_mode, client_mode, without, settled}
use Rattle.headers.proofs.Rows.{cond_case, same_eq, same_self, and_right, and_no, or_false_left, or_false_right, implied_not, first_none}

-- What an event leaves of the pending deliveries, oldest first.
abbrev pub named : List ℕ → Delivery → Bool
named l d = same d.label l

abbrev pub settled_for : List ℕ → Option Delivery → List Delivery → List Delivery
settled_for l none ds = ds
settled_for l (some n) ds = settled (named l) (λ d. settled_with n d.subscription) ds

abbrev pub settled_by : List ℕ → List Delivery → List Delivery
settled_by l ds = settled_for l (first_of (named l) ds) ds

abbrev pub entered : Delivery → List Delivery → List Delivery
entered d ds = cond (eqb d.mode auto_mode) ds (ds ++ (d ∷ []))

abbrev pub left_by : List Event → Event → List Delivery → List Delivery
left_by past (subscribed x m) ds = ds
left_by past (unsubscribed x) ds = without (λ d. same x d.subscription) ds
left_by past (delivered x l) ds = entered (made_at past x l) ds
left_by past (acked l) ds = settled_by l ds
left_by past (nacked l) ds = settled_by l ds
left_by past closed ds = []
left_by past nothing ds = ds

-- ---- every delivery has one fate

abbrev fate_count : (f : Fate) → ℕ → ℕ → ℕ → ℕ → ℕ
fate_count acknowledged a r d o = suc a + r + d + o
fate_count refused a r d o = a + suc r + d + o
fate_count dropped a r d o = a + r + suc d + o
fate_count still_pending a r d o = a + r + d + suc o

abbrev tallied : List Account → ℕ
tallied cs = length (with_fate is_acknowledged cs) + length (with_fate is_refused cs) + length (with_fate is_dropped cs) + length
    (with_fate is_still_pending cs)

tallied_cons : (c : Account) (cs : List Account) → tallied (c ∷ cs) ≡ suc (tallied cs)
tallied_cons c cs = by c.fate
  where
    by : (f : Fate)
        → length (cond (is_acknowledged f) (c.delivery ∷ with_fate is_acknowledged cs) (with_fate is_acknowledged cs))
        + length (cond (is_refused f) (c.delivery ∷ with_fate is_refused cs) (with_fate is_refused cs))
        + length (cond (is_dropped f) (c.delivery ∷ with_fate is_dropped cs) (with_fate is_dropped cs))
        + length (cond (is_still_pending f) (c.delivery ∷ with_fate is_still_pending cs) (with_fate is_still_pending cs))
        ≡ suc (tallied cs)
    by acknowledged = omega arith
    by refused = omega arith
    by dropped = omega arith
    by still_pending = omega arith

pub all_accounted : (past es : List Event) → recorded es ≡ tallied (accounts past es)
unfolding accounts
all_accounted past [] = refl
all_accounted past (subscribed x m ∷ es) = all_accounted (subscribed x m ∷ past) es
all_accounted past (unsubscribed x ∷ es) = all_accounted (unsubscribed x ∷ past) es
all_accounted past (delivered x l ∷ es) =
    ap suc (all_accounted (delivered x l ∷ past) es) ∙ sym (tallied_cons (account_of (made_at past x l) es) (accounts (delivered x l ∷ past) es))
all_accounted past (acked l ∷ es) = all_accounted (acked l ∷ past) es
all_accounted past (nacked l ∷ es) = all_accounted (nacked l ∷ past) es
all_accounted past (closed ∷ es) = all_accounted (closed ∷ past) es
all_accounted past (nothing ∷ es) = all_accounted (nothing ∷ past) es

-- ---- what of the pending deliveries is so later

-- the labels of later ones that a delivery is settled with
abbrev followers : Delivery → List Delivery → List (List ℕ)
followers d [] = []
followers d (x ∷ ds) = cond (settled_with d x.subscription) (x.label ∷ followers d ds) (followers d ds)

-- those that pass a test on them and the labels that settle them
abbrev passing : (Delivery → List (List ℕ) → Bool) → List Delivery → List Delivery
passing F [] = []
passing F (d ∷ ds) = cond (F d (d.label ∷ followers d ds)) (d ∷ passing F ds) (passing F ds)

-- those that are pending after events
abbrev stays : List Event → Delivery → List (List ℕ) → Bool
stays es d ls = is_still_pending (fate d ls es)

abbrev pub survivors : List Delivery → List Event → List Delivery
survivors ds es = passing (stays es) ds

-- tests that agree
passing_same : (F G : Delivery → List (List ℕ) → Bool) → ((d : Delivery) (ls : List (List ℕ)) → F d ls ≡ G d ls) → (ds : List Delivery) → passing F ds ≡
    passing G ds
passing_same F G h [] = refl
passing_same F G h (d ∷ ds) = ap₂ (λ t r. cond t (d ∷ r) r) (h d (d.label ∷ followers d ds)) (passing_same F G h ds)

passing_all : (F : Delivery → List (List ℕ) → Bool) → ((d : Delivery) (ls : List (List ℕ)) → F d ls ≡ true) → (ds : List Delivery) → passing F ds ≡ ds
passing_all F h [] = refl
passing_all F h (d ∷ ds) = ap₂ (λ t r. cond t (d ∷ r) r) (h d (d.label ∷ followers d ds)) (passing_all F h ds)

passing_none : (F : Delivery → List (List ℕ) → Bool) → ((d : Delivery) (ls : List (List ℕ)) → F d ls ≡ false) → (ds : List Delivery) → passing F ds ≡ []
passing_none F h [] = refl
passing_none F h (d ∷ ds) = ap₂ (λ t r. cond t (d ∷ r) r) (h d (d.label ∷ followers d ds)) (passing_none F h ds)

-- ---- UNSUBSCRIBE

pub same_turn : (x y : List ℕ) → same x y ≡ same y x
same_turn x y = by (same x y) (same y x) refl refl
  where
    by : (a b : Bool) → same x y ≡ a → same y x ≡ b → a ≡ b
    by true b p q = sym (sym q ∙ ap (λ z. same z x) (sym (same_eq x y p)) ∙ same_self x)
    by false true p q = absurd (true≢false (sym (sym p ∙ ap (λ z. same z y) (sym (same_eq y x q)) ∙ same_self y)))
    by false false p q = refl

module _ (x : List ℕ) where
  abbrev of_it : Delivery → Bool
  of_it d = same x d.subscription

  -- one of another subscription is not settled with those of x
  other_apart : (d y : Delivery) → same x d.subscription ≡ false → same x y.subscription ≡ true → settled_with d y.subscription ≡ false
  other_apart d y h k =
      implied_not (eqb d.mode client_mode) (same y.subscription d.subscription)
      (λ c. ap (λ z. same z d.subscription) (sym (same_eq x y.subscription k)) ∙ h)

  followers_without : (d : Delivery) → same x d.subscription ≡ false → (ds : List Delivery) → followers d (without of_it ds) ≡ followers d ds
  followers_without d h [] = refl
  followers_without d h (y ∷ ds) =
      cond_case (λ z. followers d z ≡ followers d (y ∷ ds)) (of_it y)
      (λ e. followers_without d h ds ∙ sym (ap (λ t. cond t (y.label ∷ followers d ds) (followers d ds)) (other_apart d y h e)))
      (λ e. ap (λ r. cond (settled_with d y.subscription) (y.label ∷ r) r) (followers_without d h ds))

  survivors_unsubscribed : (es : List Event) (ds : List Delivery) → survivors ds (unsubscribed x ∷ es) ≡ survivors (without of_it ds) es
  unfolding fate
  survivors_unsubscribed es [] = refl
  survivors_unsubscribed es (d ∷ ds) = by (of_it d) refl (survivors_unsubscribed es ds)
    where
      ls : List (List ℕ)
      ls = d.label ∷ followers d ds

      by : (t : Bool) → of_it d ≡ t → survivors ds (unsubscribed x ∷ es) ≡ survivors (without of_it ds) es
          → cond (is_still_pending (cond t dropped (fate d ls es))) (d ∷ survivors ds (unsubscribed x ∷ es)) (survivors ds (unsubscribed x ∷ es))
          ≡ survivors (cond t (without of_it ds) (d ∷ without of_it ds)) es
      by true e go = go
      by false e go = ap₂ (λ f r. cond (is_still_pending (fate d (d.label ∷ f) es)) (d ∷ r) r) (sym (followers_without d e ds)) go

-- ---- a delivery

module _ (n : Delivery) where
  followers_snoc : (d : Delivery) (ds : List Delivery)
      → followers d (ds ++ (n ∷ [])) ≡ cond (settled_with d n.subscription) (followers d ds ++ (n.label ∷ [])) (followers d ds)
  followers_snoc d [] = refl
  followers_snoc d (y ∷ ds) =
      ap (λ r. cond (settled_with d y.subscription) (y.label ∷ r) r) (followers_snoc d ds)
      ∙ by (settled_with d y.subscription) (settled_with d n.subscription)
    where
      by : (t u : Bool)
          → cond t (y.label ∷ cond u (followers d ds ++ (n.label ∷ [])) (followers d ds)) (cond u (followers d ds ++ (n.label ∷ [])) (followers d ds))
          ≡ cond u (cond t (y.label ∷ followers d ds) (followers d ds) ++ (n.label ∷ [])) (cond t (y.label ∷ followers d ds) (followers d ds))
      by true true = refl
      by true false = refl
      by false true = refl
      by false false = refl

  survivors_delivered : (es : List Event) (ds : List Delivery)
      → survivors (ds ++ (n ∷ [])) es ≡ survivors ds (delivered n.subscription n.label ∷ es) ++ survivors (n ∷ []) es
  unfolding fate
  survivors_delivered es [] = refl
  survivors_delivered es (d ∷ ds) =
      ap₂ (λ f r. cond (is_still_pending (fate d (d.label ∷ f) es)) (d ∷ r) r) (followers_snoc d ds) (survivors_delivered es ds)
      ∙ by (settled_with d n.subscription)
    where
      more : List Delivery
      more = survivors ds (delivered n.subscription n.label ∷ es)

      joined : (t : Bool) → cond t (d ∷ (more ++ survivors (n ∷ []) es)) (more ++ survivors (n ∷ []) es) ≡ cond t (d ∷ more) more ++ survivors (n ∷ []) es
      joined true = refl
      joined false = refl

      by : (t : Bool)
          → cond (is_still_pending (fate d (d.label ∷ cond t (followers d ds ++ (n.label ∷ [])) (followers d ds)) es))
          (d ∷ (more ++ survivors (n ∷ []) es)) (more ++ survivors (n ∷ []) es)
          ≡ cond (is_still_pending (fate d (cond t ((d.label ∷ followers d ds) ++ (n.label ∷ [])) (d.label ∷ followers d ds)) es)) (d ∷ more) more
          ++ survivors (n ∷ []) es
      by true = joined (is_still_pending (fate d ((d.label ∷ followers d ds) ++ (n.label ∷ [])) es))
      by false = joined (is_still_pending (fate d (d.label ∷ followers d ds) es))

-- one that none is settled with
survivors_apart : (x l : List ℕ) (es : List Event) (ds : List Delivery) → All (λ d. settled_with d x ≡ false) ds → survivors ds (delivered x l ∷ es) ≡
    survivors ds es
unfolding fate
survivors_apart x l es [] h = refl
survivors_apart x l es (d ∷ ds) (h, more) =
    ap₂ (λ t r. cond (is_still_pending (fate d (cond t ((d.label ∷ followers d ds) ++ (l ∷ [])) (d.label ∷ followers d ds)) es)) (d ∷ r) r) h
    (survivors_apart x l es ds more)

-- ---- ACK and NACK

-- each has another label than those after it
abbrev pub Distinct : List Delivery → Type 0
Distinct [] = Unit {0}
Distinct (d ∷ ds) = (any (named d.label) ds ≡ false) × Distinct ds

-- each has the mode of its subscription
abbrev pub Agrees : List Event → List Delivery → Type 0
Agrees past ds = All (λ d. d.mode ≡ mode_in d.subscription past) ds

module _ (l : List ℕ) (F G : Delivery → List (List ℕ) → Bool) (h : (d : Delivery) (ls : List (List ℕ)) → G d ls ≡ not (among l ls) && F d ls) where
  followers_none : (d : Delivery) (ds : List Delivery) → any (named l) ds ≡ false → among l (followers d ds) ≡ false
  followers_none d [] e = refl
  followers_none d (y ∷ ds) e =
      cond_case (λ z. among l z ≡ false) (settled_with d y.subscription)
      (λ t. ap₂ (◌||◌) (or_false_left (named l y) (any (named l) ds) e) (followers_none d ds (or_false_right (named l y) (any (named l) ds) e)))
      (λ t. followers_none d ds (or_false_right (named l y) (any (named l) ds) e))

  -- where none is named, none is settled
  settle_none : (ds : List Delivery) → any (named l) ds ≡ false → passing G ds ≡ passing F ds
  settle_none [] e = refl
  settle_none (d ∷ ds) e =
      let rest = or_false_right (named l d) (any (named l) ds) e in
      let apart : among l (d.label ∷ followers d ds) ≡ false = ap₂ (◌||◌) (or_false_left (named l d) (any (named l) ds) e) (followers_none d ds rest) in
      ap₂ (λ t r. cond t (d ∷ r) r) (h d (d.label ∷ followers d ds) ∙ ap (λ t. not t && F d (d.label ∷ followers d ds)) apart) (settle_none ds rest)

  module _ (m : List ℕ → ℕ) (n : Delivery) (right : n.mode ≡ m n.subscription) where
    abbrev goes : Delivery → Bool
    goes d = settled_with n d.subscription

    -- two of one subscription have one mode
    goes_same : (d : Delivery) → d.mode ≡ m d.subscription → settled_with d n.subscription ≡ goes d
    goes_same d e = by (same n.subscription d.subscription) refl ∙ ap (λ t. eqb n.mode client_mode && t)
        (same_turn n.subscription d.subscription)
      where
        by : (t : Bool) → same n.subscription d.subscription ≡ t → eqb d.mode client_mode && t ≡ eqb n.mode client_mode && t
        by true q = ap (λ z. eqb z client_mode && true) (e ∙ ap m (sym (same_eq n.subscription d.subscription q)) ∙ sym right)
        by false q = and_no (eqb d.mode client_mode) ∙ sym (and_no (eqb n.mode client_mode))

    -- the label is one of those that settle d exactly where d is settled with the named one
    followers_named : (d : Delivery) (ds : List Delivery) → first_of (named l) ds ≡ some n → Distinct ds → among l (followers d ds) ≡ settled_with d
        n.subscription
    followers_named d [] e u = absurd (let z : ◌≡◌ {A = ℕ} 0 1 = cc in omega arith)
    followers_named d (y ∷ ds) e (u, us) = by (named l y) refl e (followers_named d ds)
      where
        at : (t : Bool) → same y.label l ≡ true → any (named y.label) ds ≡ false
            → among l (cond t (y.label ∷ followers d ds) (followers d ds)) ≡ t
        at true q v = ap (◌|| among l (followers d ds)) q
        at false q v = followers_none d ds (ap (λ z. any (named z) ds) (sym (same_eq y.label l q)) ∙ v)

        by : (t : Bool) → named l y ≡ t → cond t (some y) (first_of (named l) ds) ≡ some n
            → (first_of (named l) ds ≡ some n → Distinct ds → among l (followers d ds) ≡ settled_with d n.subscription)
            → among l (followers d (y ∷ ds)) ≡ settled_with d n.subscription
        by true q f go = let is : y ≡ n = cc in at (settled_with d y.subscription) q u ∙ ap (λ (z : Delivery). settled_with d z.subscription) is
        by false q f go =
            cond_case (λ z. among l z ≡ settled_with d n.subscription) (settled_with d y.subscription)
            (λ t. ap (◌|| among l (followers d ds)) q ∙ go f us) (λ t. go f us)

    -- one that stays is settled with the same ones as before
    followers_settled : (d : Delivery) → settled_with d n.subscription ≡ false → (ds : List Delivery) → first_of (named l) ds ≡ some n
        → followers d (settled (named l) goes ds) ≡ followers d ds
    followers_settled d k [] e = refl
    followers_settled d k (y ∷ ds) e = by (named l y) refl e (followers_settled d k ds)
      where
        gone : goes y ≡ true → settled_with d y.subscription ≡ false
        gone q = ap (settled_with d) (same_eq y.subscription n.subscription
            (and_right (eqb n.mode client_mode) (same y.subscription n.subscription) q)) ∙ k

        by : (t : Bool) → named l y ≡ t → cond t (some y) (first_of (named l) ds) ≡ some n
            → (first_of (named l) ds ≡ some n → followers d (settled (named l) goes ds) ≡ followers d ds)
            → followers d (cond t ds (cond (goes y) (settled (named l) goes ds) (y ∷ settled (named l) goes ds))) ≡ followers d (y ∷ ds)
        by true q f go =
            let is : y ≡ n = cc in
            sym (ap (λ t. cond t (y.label ∷ followers d ds) (followers d ds)) (ap (λ (z : Delivery). settled_with d z.subscription) is ∙ k))
        by false q f go =
            cond_case (λ z. followers d z ≡ followers d (y ∷ ds)) (goes y)
            (λ g. go f ∙ sym (ap (λ t. cond t (y.label ∷ followers d ds) (followers d ds)) (gone g)))
            (λ g. ap (λ r. cond (settled_with d y.subscription) (y.label ∷ r) r) (go f))

    settle_named : (ds : List Delivery) → first_of (named l) ds ≡ some n → Distinct ds → All (λ d. d.mode ≡ m d.subscription) ds
        → passing G ds ≡ passing F (settled (named l) goes ds)
    settle_named [] e u a = refl
    settle_named (d ∷ ds) e (u, us) (a, rest) = by (named l d) refl e (settle_named ds)
      where
        ls : List (List ℕ)
        ls = d.label ∷ followers d ds

        unless_goes : (t : Bool) → same d.label l ≡ false → first_of (named l) ds ≡ some n → goes d ≡ t → G d ls ≡ not t && F d ls
        unless_goes t q f g =
            h d ls ∙ ap (λ t. not t && F d ls) (ap (◌|| among l (followers d ds)) q ∙ followers_named d ds f us ∙ goes_same d a ∙ g)

        by : (t : Bool) → named l d ≡ t → cond t (some d) (first_of (named l) ds) ≡ some n
            → (first_of (named l) ds ≡ some n → Distinct ds → All (λ d. d.mode ≡ m d.subscription) ds → passing G ds ≡ passing F
            (settled (named l) goes ds))
            → passing G (d ∷ ds) ≡ passing F (cond t ds (cond (goes d) (settled (named l) goes ds) (d ∷ settled (named l) goes ds)))
        by true q f go =
            ap (λ t. cond t (d ∷ passing G ds) (passing G ds)) (h d ls ∙ ap (λ t. not (t || among l (followers d ds)) && F d ls) q)
            ∙ settle_none ds (ap (λ z. any (named z) ds) (sym (same_eq d.label l q)) ∙ u)
        by false q f go = stay (goes d) refl
          where
            stay : (t : Bool) → goes d ≡ t → passing G (d ∷ ds) ≡ passing F (cond t (settled (named l) goes ds) (d ∷ settled (named l) goes ds))
            stay true g = ap (λ t. cond t (d ∷ passing G ds) (passing G ds)) (unless_goes true q f g) ∙ go f us rest
            stay false g =
                ap₂ (λ t r. cond t (d ∷ r) r) (unless_goes false q f g) (go f us rest)
                ∙ ap (λ z. cond (F d (d.label ∷ z)) (d ∷ passing F (settled (named l) goes ds)) (passing F (settled (named l) goes ds)))
                (sym (followers_settled d (goes_same d a ∙ g) ds f))

-- an ACK or NACK, by what it says of an pending delivery
settle_step : (past : List Event) (l : List ℕ) (F G : Delivery → List (List ℕ) → Bool) →
    ((d : Delivery) (ls : List (List ℕ)) → G d ls ≡ not (among l ls) && F d ls)
    → (ds : List Delivery) → Distinct ds → Agrees past ds → passing G ds ≡ passing F (settled_by l ds)
settle_step past l F G h ds u a = by (first_of (named l) ds) refl
  where
    no_one : (xs : List Delivery) → All (λ x. named l x ≡ false) xs → any (named l) xs ≡ false
    no_one [] p = refl
    no_one (x ∷ xs) (p, ps) = ap₂ (◌||◌) p (no_one xs ps)

    in_it : (P : Delivery → Type 0) (xs : List Delivery) (n : Delivery) → first_of (named l) xs ≡ some n → All P xs → P n
    in_it P [] n e p = absurd (let z : ◌≡◌ {A = ℕ} 0 1 = cc in omega arith)
    in_it P (x ∷ xs) n e (p, ps) = at (named l x) e (λ f. in_it P xs n f ps)
      where
        at : (t : Bool) → cond t (some x) (first_of (named l) xs) ≡ some n → (first_of (named l) xs ≡ some n → P n) → P n
        at true f go = let is : x ≡ n = cc in subst P is p
        at false f go = go f

    by : (o : Option Delivery) → first_of (named l) ds ≡ o → passing G ds ≡ passing F (settled_for l o ds)
    by none e = settle_none l F G h ds (no_one ds (first_none (named l) ds e))
    by (some n) e =
        settle_named l F G h (λ x. mode_in x past) n (in_it (λ d. d.mode ≡ mode_in d.subscription past) ds n e a) ds e u a

-- ---- one event

-- an auto one settles nobody
auto_apart : (past : List Event) (x : List ℕ) → eqb (mode_in x past) auto_mode ≡ true → (ds : List Delivery) → Agrees past ds → All
    (λ d. settled_with d x ≡ false) ds
auto_apart past x e [] a = tt
auto_apart past x e (d ∷ ds) (a, more) = (apart, auto_apart past x e ds more)
  where
    apart : eqb d.mode client_mode && same x d.subscription ≡ false
    apart = by (same x d.subscription) refl
      where
        by : (t : Bool) → same x d.subscription ≡ t → eqb d.mode client_mode && t ≡ false
        by true q = ap (λ z. eqb z client_mode && true) (a ∙ ap (λ z. mode_in z past) (sym (same_eq x d.subscription q)) ∙ eqb-true (mode_in x past) 0 e)
        by false q = and_no (eqb d.mode client_mode)

-- What an event leaves of the pending ones, with those that later events make, are those pending after all.
pub step_pending : (past : List Event) (e : Event) (ds : List Delivery) → Distinct ds → Agrees past ds → (es : List Event)
    → survivors (left_by past e ds) es ++ pending_in (e ∷ past) es ≡ survivors ds (e ∷ es) ++ pending_in past (e ∷ es)
unfolding fate accounts
step_pending past (subscribed x m) ds u a es = refl
step_pending past (unsubscribed x) ds u a es = ap (◌++ pending_in (unsubscribed x ∷ past) es) (sym (survivors_unsubscribed x es ds))
step_pending past (delivered x l) ds u a es = by (eqb (mode_in x past) auto_mode) refl
  where
    n : Delivery
    n = made_at past x l

    later : List Delivery
    later = pending_in (delivered x l ∷ past) es

    joined : (t : Bool) (xs : List Delivery) → (xs ++ cond t (n ∷ []) []) ++ later ≡ xs ++ cond t (n ∷ later) later
    joined true xs = append_assoc xs (n ∷ []) later
    joined false xs = append_assoc xs [] later

    by : (t : Bool) → eqb (mode_in x past) auto_mode ≡ t
        → survivors (cond t ds (ds ++ (n ∷ []))) es ++ later
        ≡ survivors ds (delivered x l ∷ es) ++ cond (is_still_pending (cond t acknowledged (fate n (l ∷ []) es))) (n ∷ later) later
    by true e = ap (◌++ later) (sym (survivors_apart x l es ds (auto_apart past x e ds a)))
    by false e =
        ap (◌++ later) (survivors_delivered n es ds) ∙ joined (is_still_pending (fate n (l ∷ []) es)) (survivors ds (delivered x l ∷ es))
step_pending past (acked l) ds u a es =
    ap (◌++ pending_in (acked l ∷ past) es) (sym (settle_step past l (stays es) (stays (acked l ∷ es)) (λ d ls. by (among l ls) (fate d ls es)) ds u a))
  where
    by : (t : Bool) (f : Fate) → is_still_pending (cond t acknowledged f) ≡ not t && is_still_pending f
    by true f = refl
    by false f = refl
step_pending past (nacked l) ds u a es =
    ap (◌++ pending_in (nacked l ∷ past) es) (sym (settle_step past l (stays es) (stays (nacked l ∷ es)) (λ d ls. by (among l ls) (fate d ls es)) ds u a))
  where
    by : (t : Bool) (f : Fate) → is_still_pending (cond t refused f) ≡ not t && is_still_pending f
    by true f = refl
    by false f = refl
step_pending past closed ds u a es = ap (◌++ pending_in (closed ∷ past) es) (sym (passing_none (stays (closed ∷ es)) (λ d ls. refl) ds))
step_pending past nothing ds u a es = refl

-- without further events all stay
pub none_later : (past : List Event) (ds : List Delivery) → ds ≡ survivors ds [] ++ pending_in past []
unfolding fate accounts
none_later past ds = sym (ap (◌++ []) (passing_all (stays []) (λ d ls. refl) ds) ∙ append-nil ds)
