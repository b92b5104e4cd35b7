-- A plan is accepted exactly if it is an assignment. Assumes nothing.
--     assigned_accepted, accepted_assigned     of the records
--     acceptable, is_acceptable        of the lists
--     matching_waits                   what is said twice of it
use mathlib.Core.Path.{◌≡◌, refl, sym, ◌∙◌, ap, ap₂, subst}
use mathlib.Core.Bool.{Bool, true, false, cond, ◌&&◌, ◌||◌, not}
use mathlib.Core.Option.{Option, none, some}
use mathlib.Core.List.{List, [], ◌∷◌, ◌++◌, append_assoc, append-nil}
use Prim.Native.Nat.{ℕ, ◌+◌, ◌/◌, ◌≤◌, ◌<◌}
use native.Mathlib.Omega.{arith}
use lib.Dec.{eqb, ltb}
use lib.ListN.{length}
use borrow.Author.Tests.{eqb-true, eq-eqb, ltb-false, not-true, not-false}
use Rattle.headers.specs.Rows.{any, first_of, All}
use Rattle.headers.specs.Answers.{Answer}
use Rattle.headers.proofs.Rows.{and_left, and_right, or_false_left, or_false_right, first_some, first_none}
use Rattle.topics.specs.Topics.{words}
use Rattle.topics.specs.Lists.{Entry, Pair, is_some, listed, messages_in, subscriptions_in, pairs_in}
use Rattle.topics.specs.Plans.{Verdict, accepted, refusal, numbered, distinct, texts_formed, is_valid, with_message, with_subscription, how_many, matched, room_of, is_none, pair_answer, is_left_out, left_out_answer, bad_or, checked, pairs_max, plan_of, plan_answer, Suits, Assignment, Acceptable}
use Rattle.topics.proofs.Matching.{sound, complete}
use Rattle.topics.proofs.Validity.{all_one, all_to}
use Rattle.topics.proofs.Checking.{count_none, count_some, good, plan_checked}

-- ## Rows of any kind

module _ {A : Type 0} (f : A → Bool) where
  how_append : (xs ys : List A) → how_many f (xs ++ ys) ≡ how_many f xs + how_many f ys
  how_append [] ys = omega arith
  how_append (x ∷ xs) ys = omega (arith, how_append xs ys)

  some_counted : (xs : List A) → any f xs ≡ true → 0 < how_many f xs
  some_counted [] h = cc
  some_counted (x ∷ xs) h = by (f x) h (some_counted xs)
    where
      by : (t : Bool) → t || any f xs ≡ true → (any f xs ≡ true → 0 < how_many f xs) → 0 < cond t 1 0 + how_many f xs
      by true h go = omega arith
      by false h go = omega (arith, go h)

  -- none passes: none is first
  all_none : (xs : List A) → All (λ x. f x ≡ false) xs → first_of f xs ≡ none
  all_none [] h = refl
  all_none (x ∷ xs) (p, h) = rw p (all_none xs h)

  any_found : (xs : List A) → any f xs ≡ true → (x : A) × (first_of f xs ≡ some x)
  any_found [] h = cc
  any_found (x ∷ xs) h = by (f x) h (any_found xs)
    where
      by : (t : Bool) → t || any f xs ≡ true → (any f xs ≡ true → (y : A) × (first_of f xs ≡ some y)) → (y : A) × (cond t (some x) (first_of f xs) ≡ some y)
      by true h go = (x, refl)
      by false h go = go h

  found_any : (xs : List A) (x : A) → first_of f xs ≡ some x → any f xs ≡ true
  found_any [] x h = cc
  found_any (y ∷ ys) x h = by (f y) h (found_any ys x)
    where
      by : (t : Bool) → cond t (some y) (first_of f ys) ≡ some x → (first_of f ys ≡ some x → any f ys ≡ true) → t || any f ys ≡ true
      by true h go = refl
      by false h go = go h

  all_first : (P : A → Type 0) (xs : List A) (x : A) → All P xs → first_of f xs ≡ some x → P x
  all_first P [] x h e = cc
  all_first P (y ∷ ys) x (p, h) e = by (f y) e (all_first P ys x h)
    where
      by : (t : Bool) → cond t (some y) (first_of f ys) ≡ some x → (first_of f ys ≡ some x → P x) → P x
      by true e go = let same : y ≡ x = cc in subst P same p
      by false e go = go e

all_both : {A : Type 0} (P Q R : A → Type 0) → ((a : A) → P a → Q a → R a) → (xs : List A) → All P xs → All Q xs → All R xs
all_both P Q R f [] h k = tt
all_both P Q R f (x ∷ xs) (p, h) (q, k) = (f x p q, all_both P Q R f xs h k)

all_left : {A : Type 0} (P : A → Type 0) (xs ys : List A) → All P (xs ++ ys) → All P xs
all_left P [] ys h = tt
all_left P (x ∷ xs) ys (p, h) = (p, all_left P xs ys h)

all_mid : {A : Type 0} (P : A → Type 0) (xs : List A) (y : A) (ys : List A) → All P (xs ++ (y ∷ ys)) → P y
all_mid P [] y ys (p, h) = p
all_mid P (x ∷ xs) y ys (p, h) = all_mid P xs y ys h

-- each of several distinct entries is the first of its number
apart : (n : ℕ) (es : List Entry) → any (λ d. eqb n d.number) es ≡ false → All (λ d. eqb n d.number ≡ false) es
apart n [] h = tt
apart n (e ∷ es) h =
    (or_false_left (eqb n e.number) (any (λ d. eqb n d.number) es) h, apart n es (or_false_right (eqb n e.number) (any (λ d. eqb n d.number) es) h))

distinct_first : (es : List Entry) → distinct es ≡ true → All (λ e. first_of (numbered e.number) es ≡ some e) es
distinct_first [] h = tt
distinct_first (e ∷ es) h =
    let new = not-true (any (λ d. eqb e.number d.number) es) (and_left (not (any (λ d. eqb e.number d.number) es)) (distinct es) h) in (
      ap (λ t. cond t (some e) (first_of (numbered e.number) es)) (eq-eqb e.number e.number refl),
      all_both (λ d. eqb e.number d.number ≡ false) (λ d. first_of (numbered d.number) es ≡ some d)
          (λ d. first_of (numbered d.number) (e ∷ es) ≡ some d)
          (λ d p q. ap (λ t. cond t (some e) (first_of (numbered d.number) es)) p ∙ q) es (apart e.number es new)
          (distinct_first es (and_right (not (any (λ d. eqb e.number d.number) es)) (distinct es) h)),
    )

-- ## An assignment is accepted

module _ (ms ss : List Entry) where
  -- the relation, and the test
  matching_test : (p : Pair) → Suits ms ss p → matched (first_of (numbered p.message) ms) (first_of (numbered p.subscription) ss) ≡ true
  matching_test p m = ap₂ matched m.waiting m.live ∙ complete m.fits

  test_matching : (p : Pair) → matched (first_of (numbered p.message) ms) (first_of (numbered p.subscription) ss) ≡ true → Suits ms ss p
  test_matching p = by (first_of (numbered p.message) ms) (first_of (numbered p.subscription) ss) refl refl
    where
      by : (o q : Option Entry) → first_of (numbered p.message) ms ≡ o → first_of (numbered p.subscription) ss ≡ q → matched o q ≡ true → Suits ms ss p
      by none q eo eq h = cc
      by (some m) none eo eq h = cc
      by (some m) (some s) eo eq h = record { message = m; subscription = s; waiting = eo; live = eq; fits = sound (words s.text) (words m.text) h }

  -- what is matched waits: of an assignment, no_other follows from matching
  pub matching_waits : (ps : List Pair) → All (Suits ms ss) ps → All (λ p. any (numbered p.message) ms ≡ true) ps
  matching_waits = all_to (Suits ms ss) (λ p. any (numbered p.message) ms ≡ true) (λ p m. found_any (numbered p.message) ms m.message m.waiting)

  -- each pair is good with the pairs before it
  assigned_pair : (earlier : List Pair) (p : Pair) (rest : List Pair) → Assignment ms ss (earlier ++ (p ∷ rest))
      → pair_answer ms ss earlier p ≡ Answer.accepted []
  assigned_pair earlier p rest f =
      let pair = all_mid (Suits ms ss) earlier p rest f.matching in
      let m = pair.message in
      let s = pair.subscription in
      let fm = pair.waiting in
      let fs = pair.live in
      let t = complete pair.fits in
      let mn : m.number ≡ p.message = eqb-true m.number p.message (first_some (numbered p.message) ms m fm) in
      let sn : s.number ≡ p.subscription = eqb-true s.number p.subscription (first_some (numbered p.subscription) ss s fs) in
      let once : how_many (with_message p.message) (earlier ++ (p ∷ rest)) ≡ 1 = ap (λ n. how_many (with_message n) (earlier ++ (p ∷ rest))) (sym mn) ∙ all_first (numbered p.message) (λ e. how_many (with_message e.number) (earlier ++ (p ∷ rest)) ≡ 1) ms m f.once fm in
      let room : how_many (with_subscription p.subscription) (earlier ++ (p ∷ rest)) ≤ s.room = subst (λ n. how_many (with_subscription n) (earlier ++ (p ∷ rest)) ≤ s.room) sn (all_first (numbered p.subscription) (λ e. how_many (with_subscription e.number) (earlier ++ (p ∷ rest)) ≤ e.room) ss s f.roomy fs) in
      let here : ◌≡◌ {A = ℕ} (cond (eqb p.message p.message) 1 0) 1 = ap (λ b. cond b 1 0) (eq-eqb p.message p.message refl) in
      let there : ◌≡◌ {A = ℕ} (cond (eqb p.subscription p.subscription) 1 0) 1 = ap (λ b. cond b 1 0) (eq-eqb p.subscription p.subscription refl) in
      good ms ss earlier p m fm
      (count_none (with_message p.message) earlier (omega (arith, how_append (with_message p.message) earlier (p ∷ rest))))
      s fs t (omega (arith, how_append (with_subscription p.subscription) earlier (p ∷ rest)))

  assigned_from : (earlier ps : List Pair) → Assignment ms ss (earlier ++ ps) → checked ms ss earlier ps ≡ accepted
  unfolding checked
  assigned_from earlier [] f =
      let none_left = all_none (is_left_out earlier) ms (all_to (λ m. how_many (with_message m.number) (earlier ++ []) ≡ 1) (λ m. is_left_out earlier m ≡ false) (λ m e. ap not (count_some (with_message m.number) earlier (λ z. omega (arith, how_append (with_message m.number) earlier [])))) ms f.once) in
      ap left_out_answer none_left
  assigned_from earlier (p ∷ ps) f =
      ap (λ a. bad_or a (length earlier) (checked ms ss (earlier ++ (p ∷ [])) ps)) (assigned_pair earlier p ps f)
      ∙ assigned_from (earlier ++ (p ∷ [])) ps (subst (Assignment ms ss) (sym (append_assoc earlier (p ∷ []) ps)) f)

  pub assigned_accepted : (ps : List Pair) → Assignment ms ss ps → checked ms ss [] ps ≡ accepted
  assigned_accepted ps f = assigned_from [] ps f

  -- ## An accepted plan is an assignment

  -- so far no message stands twice, and the rest of what is asked of a plan holds
  record SoFar (ps : List Pair) : Type 0 where
    pub at_most_once : (n : ℕ) → how_many (with_message n) ps ≤ 1
    pub no_other : All (λ p. any (numbered p.message) ms ≡ true) ps
    pub matching : All (Suits ms ss) ps
    pub roomy : All (λ s. how_many (with_subscription s.number) ps ≤ s.room) ss

  -- what the checks of a good pair say
  record GoodPair (earlier : List Pair) (p : Pair) : Type 0 where
    pub known : is_none (first_of (numbered p.message) ms) ≡ false
    pub new : any (with_message p.message) earlier ≡ false
    pub fits : matched (first_of (numbered p.message) ms) (first_of (numbered p.subscription) ss) ≡ true
    pub room : how_many (with_subscription p.subscription) earlier < room_of (first_of (numbered p.subscription) ss)

  good_pair : (earlier : List Pair) (p : Pair) → pair_answer ms ss earlier p ≡ Answer.accepted [] → GoodPair earlier p
  unfolding pair_answer
  good_pair earlier p h =
      by (is_none (first_of (numbered p.message) ms)) (any (with_message p.message) earlier)
      (matched (first_of (numbered p.message) ms) (first_of (numbered p.subscription) ss))
      (ltb (room_of (first_of (numbered p.subscription) ss)) (how_many (with_subscription p.subscription) earlier + 1)) refl refl refl refl h
    where
      by : (a b c d : Bool) → is_none (first_of (numbered p.message) ms) ≡ a → any (with_message p.message) earlier ≡ b
          → matched (first_of (numbered p.message) ms) (first_of (numbered p.subscription) ss) ≡ c
          → ltb (room_of (first_of (numbered p.subscription) ss)) (how_many (with_subscription p.subscription) earlier + 1) ≡ d
          → cond a (Answer.refused 96)
          (cond b (Answer.refused 97) (cond (not c) (Answer.refused 98) (cond d (Answer.refused 99) (Answer.accepted [])))) ≡ Answer.accepted []
          → GoodPair earlier p
      by true b c d ea eb ec ed h = cc
      by false true c d ea eb ec ed h = cc
      by false false false d ea eb ec ed h = cc
      by false false true true ea eb ec ed h = cc
      by false false true false ea eb ec ed h = record { known = ea; new = eb; fits = ec; room = omega (arith, ltb-false (room_of (first_of (numbered p.subscription) ss)) (how_many (with_subscription p.subscription) earlier + 1) ed) }

  none_counted : {A : Type 0} (f : A → Bool) (xs : List A) → any f xs ≡ false → how_many f xs ≡ 0
  none_counted f [] h = refl
  none_counted f (x ∷ xs) h =
      let no : ◌≡◌ {A = ℕ} (cond (f x) 1 0) 0 = ap (λ b. cond b 1 0) (or_false_left (f x) (any f xs) h) in
      omega (arith, none_counted f xs (or_false_right (f x) (any f xs) h))

  module _ (apart_ss : distinct ss ≡ true) where
    so_far_more : (earlier : List Pair) (p : Pair) → SoFar earlier → GoodPair earlier p → SoFar (earlier ++ (p ∷ []))
    so_far_more earlier p s g =
        record {
          at_most_once = λ n. by_message n (eqb p.message n) refl;
          no_other =
              all_one (λ q. any (numbered q.message) ms ≡ true) earlier p s.no_other
              (let m = test_matching p g.fits in found_any (numbered p.message) ms m.message m.waiting);
          matching = all_one (Suits ms ss) earlier p s.matching (test_matching p g.fits);
          roomy =
              all_both (λ e. first_of (numbered e.number) ss ≡ some e) (λ e. how_many (with_subscription e.number) earlier ≤ e.room)
              (λ e. how_many (with_subscription e.number) (earlier ++ (p ∷ [])) ≤ e.room)
              (λ e f r. by_room e f r (eqb p.subscription e.number) refl) ss (distinct_first ss apart_ss) s.roomy;
        }
      where
        by_message : (n : ℕ) (t : Bool) → eqb p.message n ≡ t → how_many (with_message n) (earlier ++ (p ∷ [])) ≤ 1
        by_message n true e =
            let one : ◌≡◌ {A = ℕ} (cond (eqb p.message n) 1 0) 1 = ap (λ b. cond b 1 0) e in
            let zero_before : how_many (with_message n) earlier ≡ 0 = ap (λ k. how_many (with_message k) earlier) (sym (eqb-true p.message n e)) ∙ none_counted (with_message p.message) earlier g.new in
            omega (arith, how_append (with_message n) earlier (p ∷ []))
        by_message n false e =
            let no : ◌≡◌ {A = ℕ} (cond (eqb p.message n) 1 0) 0 = ap (λ b. cond b 1 0) e in
            omega (arith, how_append (with_message n) earlier (p ∷ []), s.at_most_once n)

        by_room : (e : Entry) → first_of (numbered e.number) ss ≡ some e → how_many (with_subscription e.number) earlier ≤ e.room → (t : Bool)
            → eqb p.subscription e.number ≡ t → how_many (with_subscription e.number) (earlier ++ (p ∷ [])) ≤ e.room
        by_room e f r true q =
            let one : ◌≡◌ {A = ℕ} (cond (eqb p.subscription e.number) 1 0) 1 = ap (λ b. cond b 1 0) q in
            let room : how_many (with_subscription e.number) earlier < e.room = subst (λ o. how_many (with_subscription e.number) earlier < room_of o) f (subst (λ n. how_many (with_subscription n) earlier < room_of (first_of (numbered n) ss)) (eqb-true p.subscription e.number q) g.room) in
            omega (arith, how_append (with_subscription e.number) earlier (p ∷ []))
        by_room e f r false q =
            let no : ◌≡◌ {A = ℕ} (cond (eqb p.subscription e.number) 1 0) 0 = ap (λ b. cond b 1 0) q in
            omega (arith, how_append (with_subscription e.number) earlier (p ∷ []))

    accepted_pair : (a : Answer) (i : ℕ) (v : Verdict) → ((values : List ℕ) → a ≡ Answer.accepted values → values ≡ []) → bad_or a i v ≡ accepted
        → (a ≡ Answer.accepted []) × (v ≡ accepted)
    accepted_pair (Answer.accepted values) i v e h = (ap Answer.accepted (e values refl), h)
    accepted_pair (Answer.refused k) i v e h = cc

    pair_values : (earlier : List Pair) (p : Pair) (values : List ℕ) → pair_answer ms ss earlier p ≡ Answer.accepted values → values ≡ []
    unfolding pair_answer
    pair_values earlier p values h =
        by (is_none (first_of (numbered p.message) ms)) (any (with_message p.message) earlier)
        (matched (first_of (numbered p.message) ms) (first_of (numbered p.subscription) ss))
        (ltb (room_of (first_of (numbered p.subscription) ss)) (how_many (with_subscription p.subscription) earlier + 1)) h
      where
        by : (a b c d : Bool)
            → cond a (Answer.refused 96) (cond b (Answer.refused 97) (cond (not c) (Answer.refused 98) (cond d (Answer.refused 99) (Answer.accepted [])))) ≡ Answer.accepted values → values ≡ []
        by true b c d h = cc
        by false true c d h = cc
        by false false false d h = cc
        by false false true true h = cc
        by false false true false h = cc

    left_none : (o : Option Entry) → left_out_answer o ≡ accepted → o ≡ none
    left_none none h = refl
    left_none (some m) h = cc

    so_far_assigned : (earlier ps : List Pair) → SoFar earlier → checked ms ss earlier ps ≡ accepted → Assignment ms ss (earlier ++ ps)
    unfolding checked
    so_far_assigned earlier [] s h =
        let all : earlier ++ [] ≡ earlier = append-nil earlier in
        subst (Assignment ms ss) (sym all)
        (record {
          once =
              all_to (λ m. is_left_out earlier m ≡ false) (λ m. how_many (with_message m.number) earlier ≡ 1)
              (λ m e. exactly m (not-false (any (with_message m.number) earlier) e)) ms
              (first_none (is_left_out earlier) ms (left_none (first_of (is_left_out earlier) ms) h));
          no_other = s.no_other;
          matching = s.matching;
          roomy = s.roomy;
        })
      where
        exactly : (m : Entry) → any (with_message m.number) earlier ≡ true → how_many (with_message m.number) earlier ≡ 1
        exactly m e = omega (arith, s.at_most_once m.number, some_counted (with_message m.number) earlier e)
    so_far_assigned earlier (p ∷ ps) s h =
        let (g, rest) = accepted_pair (pair_answer ms ss earlier p) (length earlier) (checked ms ss (earlier ++ (p ∷ [])) ps) (pair_values earlier p) h in
        subst (Assignment ms ss) (append_assoc earlier (p ∷ []) ps)
        (so_far_assigned (earlier ++ (p ∷ [])) ps (so_far_more earlier p s (good_pair earlier p g)) rest)

    pub accepted_assigned : (ps : List Pair) → checked ms ss [] ps ≡ accepted → Assignment ms ss ps
    accepted_assigned ps h = so_far_assigned [] ps (record { at_most_once = λ n. omega arith; no_other = tt; matching = tt; roomy = all_true ss }) h
      where
        all_true : (es : List Entry) → All (λ s. how_many (with_subscription s.number) [] ≤ s.room) es
        all_true [] = tt
        all_true (e ∷ es) = (omega arith, all_true es)

-- ## Of the lists

module _ (messages subscriptions plan : List ℕ) where
  pub acceptable : Acceptable messages subscriptions plan → plan_answer messages subscriptions plan ≡ accepted
  acceptable a =
      plan_checked messages subscriptions plan a.few (ap is_valid a.messages_are ∙ a.messages_valid)
      (ap is_valid a.subscriptions_are ∙ a.subscriptions_valid) (ap is_some a.pairs_are)
      ∙ ap₂ (λ ms ss. checked (listed ms) (listed ss) [] (listed (pairs_in plan))) a.messages_are a.subscriptions_are
      ∙ ap (λ ps. checked a.ms a.ss [] (listed ps)) a.pairs_are
      ∙ assigned_accepted a.ms a.ss a.ps a.assigns

  pub is_acceptable : plan_answer messages subscriptions plan ≡ accepted → Acceptable messages subscriptions plan
  unfolding plan_answer
  is_acceptable h = by (ltb pairs_max (length plan / 8)) refl h
    where
      lists : length plan / 8 ≤ pairs_max → (a b : Option (List Entry)) (c : Option (List Pair)) → messages_in messages ≡ a
          → subscriptions_in subscriptions ≡ b → pairs_in plan ≡ c → plan_of a b c ≡ accepted → Acceptable messages subscriptions plan
      lists few none b c p q r h = cc
      lists few (some ms) none c p q r h = cc
      lists few (some ms) (some ss) none p q r h = cc
      lists few (some ms) (some ss) (some ps) p q r h = sound (is_valid (some ms)) (is_valid (some ss)) refl refl h
        where
          sound : (t u : Bool) → is_valid (some ms) ≡ t → is_valid (some ss) ≡ u → cond (t && u) (checked ms ss [] ps) (refusal 102 0) ≡ accepted
              → Acceptable messages subscriptions plan
          sound false u a b h = cc
          sound true false a b h = cc
          sound true true a b h =
              record { few = few; ms = ms; ss = ss; ps = ps; messages_are = p; subscriptions_are = q; pairs_are = r; messages_valid = a; subscriptions_valid = b; assigns = accepted_assigned ms ss (and_left (distinct ss) (texts_formed ss) b) ps h }

      by : (t : Bool) → ltb pairs_max (length plan / 8) ≡ t
          → cond t (refusal 101 0) (plan_of (messages_in messages) (subscriptions_in subscriptions) (pairs_in plan)) ≡ accepted
          → Acceptable messages subscriptions plan
      by true e h = cc
      by false e h = lists (ltb-false pairs_max (length plan / 8) e) (messages_in messages) (subscriptions_in subscriptions) (pairs_in plan) refl refl refl h
