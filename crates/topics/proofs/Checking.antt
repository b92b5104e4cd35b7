-- Laws of checking a plan: one pair, pair by pair, and the whole. Assumes nothing.
--     count_none, count_some, none_counted, valid_text   what is known of a list
--     unknown, repeated, not_live, unmatched, over, good     one pair, by its checks
--     CheckedTo, checked_start, checked_bad, checked_good, checked_end     pair by pair
--     pairs_whole, pairs_cut, plan_many, plan_pairs, plan_messages, plan_subscriptions, plan_checked     the whole
use mathlib.Core.Path.{◌≡◌, refl, sym, ◌∙◌, ap, ap₂}
use mathlib.Core.Bool.{Bool, true, false, cond, ◌&&◌, ◌||◌, not}
use mathlib.Core.Option.{Option, none, some}
use mathlib.Core.List.{List, [], ◌∷◌, ◌++◌}
use Prim.Native.Nat.{ℕ, zero, suc, ◌+◌, ◌*◌, ◌/◌, ◌%◌, ◌≤◌, ◌<◌}
use native.Mathlib.Nat.{div-add-mod', mod-lt}
use native.Mathlib.Omega.{arith}
use lib.Dec.{eqb}
use lib.ListN.{length, take, drop, length-append, length-drop}
use lib.Seq.{take_all}
use borrow.Author.Tests.{eq-eqb, ne_eqb, lt-ltb, le-ltb}
use Rattle.headers.specs.Rows.{every, any, first_of}
use Rattle.headers.specs.Answers.{Answer}
use Rattle.headers.proofs.Rows.{and_left, and_right, and_no}
use Rattle.topics.specs.Topics.{words, well_formed, matches, yes_or_no, match_answer, match_says}
use Rattle.topics.specs.Lists.{Entry, Pair, before, is_some, listed, messages_in, subscriptions_in, pair_front, pair_format, pairs_in}
use Rattle.topics.specs.Plans.{Verdict, refusal, fault_number, plan_says, numbered, distinct, texts_formed, is_valid, with_message, with_subscription, how_many, pair_answer, is_left_out, left_out_answer, bad_or, checked, pairs_max, plan_of, plan_answer}
use Rattle.topics.specs.Waiting.{pair_says}
use Rattle.topics.proofs.Lists.{some_before, listed_before, place_step, place_end, records_end, records_step, records_none, records_grow, whole_fits}
use Rattle.topics.proofs.Formats.{pair_local}
use Rattle.topics.proofs.Words.{answered}
use Rattle.std.specs.Prelude.{Result, Ok, Err, ⊤, IsErrAnd}
use Rattle.topics.specs.declared.plan.PairFault.{PairFault}
use Rattle.topics.specs.declared.plan.PlanError.{PlanError}
use Rattle.topics.specs.declared.plan.PlanError.TheVariants.{Malformed}
use Rattle.std.specs.Result.{result_unwrap_or}
use Rattle.topics.specs.declared.pattern.MatchError.{MatchError}

-- ## What is known of a list

module _ {A : Type 0} (f : A → Bool) where
  pub count_none : (xs : List A) → how_many f xs ≡ 0 → any f xs ≡ false
  count_none [] h = refl
  count_none (x ∷ xs) h = by (f x) h (count_none xs)
    where
      by : (t : Bool) → cond t 1 0 + how_many f xs ≡ 0 → (how_many f xs ≡ 0 → any f xs ≡ false) → t || any f xs ≡ false
      by true h go = absurd (omega arith)
      by false h go = go (omega arith)

  pub count_some : (xs : List A) → (how_many f xs ≡ 0 → ⊥) → any f xs ≡ true
  count_some [] h = absurd (h refl)
  count_some (x ∷ xs) h = by (f x) h (count_some xs)
    where
      by : (t : Bool) → (cond t 1 0 + how_many f xs ≡ 0 → ⊥) → ((how_many f xs ≡ 0 → ⊥) → any f xs ≡ true) → t || any f xs ≡ true
      by true h go = refl
      by false h go = go (λ e. h (omega arith))

  none_any : (xs : List A) → any f xs ≡ false → how_many f xs ≡ 0
  none_any [] h = refl
  none_any (x ∷ xs) h = by (f x) h (none_any xs)
    where
      by : (t : Bool) → t || any f xs ≡ false → (any f xs ≡ false → how_many f xs ≡ 0) → cond t 1 0 + how_many f xs ≡ 0
      by true h go = cc
      by false h go = omega (arith, go h)

  -- whether the count is 0
  pub none_counted : (xs : List A) (n : ℕ) → n ≡ how_many f xs → eqb n 0 ≡ not (any f xs)
  none_counted xs n e = by (any f xs) refl
    where
      by : (t : Bool) → any f xs ≡ t → eqb n 0 ≡ not t
      by false q = eq-eqb n 0 (e ∙ none_any xs q)
      by true q = ne_eqb n 0 (λ z. let a = count_none xs (sym e ∙ z) in let y : ◌≡◌ {A = ℕ} 0 1 = cc in omega arith)

  -- what every element passes, the first that passes another test passes
  pub first_every : (g : A → Bool) (xs : List A) (x : A) → every g xs ≡ true → first_of f xs ≡ some x → g x ≡ true
  first_every g [] x h e = cc
  first_every g (y ∷ ys) x h e = by (f y) e (first_every g ys x (and_right (g y) (every g ys) h))
    where
      by : (t : Bool) → cond t (some y) (first_of f ys) ≡ some x → (first_of f ys ≡ some x → g x ≡ true) → g x ≡ true
      by true e go = let same : y ≡ x = cc in ap g (sym same) ∙ and_left (g y) (every g ys) h
      by false e go = go e

pub valid_text : (o : Option (List Entry)) (f : Entry → Bool) (e : Entry) → is_valid o ≡ true → first_of f (listed o) ≡ some e → well_formed e.text ≡ true
valid_text none f e h k = cc
valid_text (some es) f e h k = first_every f (λ d. well_formed d.text) es e (and_right (distinct es) (texts_formed es) h) k

-- what asking for a match says, where both texts are well formed
pub match_told : (name pattern : List ℕ) → well_formed name ≡ true → well_formed pattern ≡ true → (g : Result Bool MatchError)
    → match_says g ≡ match_answer name pattern → result_unwrap_or g false ≡ matches (words pattern) (words name)
match_told name pattern n p g e = by g (matches (words pattern) (words name)) (e ∙ answered name pattern n p (matches (words pattern) (words name)) refl)
  where
    by : (g : Result Bool MatchError) (t : Bool) → match_says g ≡ Answer.accepted (yes_or_no t ∷ []) → result_unwrap_or g false ≡ t
    by (Ok true) true e = refl
    by (Ok true) false e = cc
    by (Ok false) true e = cc
    by (Ok false) false e = refl
    by (Err x) t e = cc

-- ## One pair, by its checks

module _ (ms ss : List Entry) (earlier : List Pair) (p : Pair) where
  pub unknown : first_of (numbered p.message) ms ≡ none → pair_answer ms ss earlier p ≡ Answer.refused 96
  unfolding pair_answer
  unknown h = rw h

  module _ (m : Entry) (fm : first_of (numbered p.message) ms ≡ some m) where
    pub repeated : any (with_message p.message) earlier ≡ true → pair_answer ms ss earlier p ≡ Answer.refused 97
    unfolding pair_answer
    repeated h = rw (fm, h)

    module _ (new : any (with_message p.message) earlier ≡ false) where
      pub not_live : first_of (numbered p.subscription) ss ≡ none → pair_answer ms ss earlier p ≡ Answer.refused 98
      unfolding pair_answer
      not_live h = rw (fm, new, h)

      module _ (s : Entry) (fs : first_of (numbered p.subscription) ss ≡ some s) where
        pub unmatched : matches (words s.text) (words m.text) ≡ false → pair_answer ms ss earlier p ≡ Answer.refused 98
        unfolding pair_answer
        unmatched h = rw (fm, new, fs, h)

        pub over : matches (words s.text) (words m.text) ≡ true → s.room ≤ how_many (with_subscription p.subscription) earlier
            → pair_answer ms ss earlier p ≡ Answer.refused 99
        unfolding pair_answer
        over h r = rw (fm, new, fs, h, lt-ltb s.room (how_many (with_subscription p.subscription) earlier + 1) (omega arith))

        pub good : matches (words s.text) (words m.text) ≡ true → how_many (with_subscription p.subscription) earlier < s.room
            → pair_answer ms ss earlier p ≡ Answer.accepted []
        unfolding pair_answer
        good h r = rw (fm, new, fs, h, le-ltb s.room (how_many (with_subscription p.subscription) earlier + 1) (omega arith))

-- ## Pair by pair

pub record CheckedTo (ms ss : List Entry) (plan : List ℕ) (at index : ℕ) : Type 0 where
  pub earlier : List Pair
  pub within : at ≤ length plan
  pub few : index ≤ at
  pub front_is : pairs_in (take at plan) ≡ some earlier
  pub index_is : index ≡ length earlier
  pub whole : is_some (pairs_in (drop at plan)) ≡ true
  pub verdict : checked ms ss [] (listed (pairs_in plan)) ≡ checked ms ss earlier (listed (pairs_in (drop at plan)))

module _ (ms ss : List Entry) (plan : List ℕ) where
  pub checked_start : is_some (pairs_in plan) ≡ true → CheckedTo ms ss plan 0 0
  checked_start w =
      record { earlier = []; within = omega arith; few = omega arith; front_is = records_end pair_format pair_local [] refl; index_is = refl; whole = w; verdict = refl }

  module _ (at index : ℕ) (j : CheckedTo ms ss plan at index) where
    pub checked_end : length plan ≤ at → checked ms ss [] (listed (pairs_in plan)) ≡ left_out_answer (first_of (is_left_out (listed (pairs_in plan))) ms)
    unfolding checked
    checked_end h =
        let all : j.earlier ≡ listed (pairs_in plan) = ap listed (sym j.front_is ∙ ap pairs_in (take_all at plan h)) in
        j.verdict
        ∙ ap (λ o. checked ms ss j.earlier (listed o)) (place_end pair_format pair_local plan at h)
        ∙ ap (λ ps. left_out_answer (first_of (is_left_out ps) ms)) all

    here_fits : at < length plan → at + 8 ≤ length plan
    here_fits h = let long = length-drop at plan in omega (arith, whole_fits pair_format pair_local (drop at plan) j.whole (omega arith))

    module _ (h : at < length plan) (m s : ℕ) (em : m ≡ (pair_front (drop at plan)).message) (es : s ≡ (pair_front (drop at plan)).subscription) where
      abbrev this : Pair
      this = record { message = m; subscription = s }

      this_is : pair_front (drop at plan) ≡ this
      this_is = ap₂ (λ a b. record { message = a; subscription = b }) (sym em) (sym es)

      abbrev rest : Option (List Pair)
      rest = pairs_in (drop (at + 8) plan)

      step : pairs_in (drop at plan) ≡ before this rest
      step = place_step pair_format pair_local plan at (here_fits h) ∙ ap (λ p. before p rest) this_is

      whole_rest : is_some rest ≡ true
      whole_rest = sym (some_before this rest) ∙ ap is_some (sym step) ∙ j.whole

      one : checked ms ss [] (listed (pairs_in plan)) ≡ bad_or (pair_answer ms ss j.earlier this) (length j.earlier) (checked ms ss (j.earlier ++ (this ∷ [])) (listed rest))
      unfolding checked
      one = j.verdict ∙ ap (checked ms ss j.earlier) (ap listed step ∙ listed_before this rest whole_rest)

      -- what is said of the pair with the pairs before it
      module _ (front : List ℕ) (before_it : front ≡ take at plan) where
        abbrev pub Said : Result ⊤ PairFault → Type 0
        Said r = pair_says r ≡ pair_answer ms ss (listed (pairs_in front)) this

        answer : (r : Result ⊤ PairFault) → Said r → pair_answer ms ss j.earlier this ≡ pair_says r
        answer r said = ap (λ o. pair_answer ms ss (listed o) this) (sym (ap pairs_in before_it ∙ j.front_is)) ∙ sym said

        pub checked_bad : (f : PairFault) → Said (Err f) → refusal (fault_number f) index ≡ checked ms ss [] (listed (pairs_in plan))
        checked_bad f said =
            sym (one ∙ ap (λ a. bad_or a (length j.earlier) (checked ms ss (j.earlier ++ (this ∷ [])) (listed rest))) (answer (Err f) said) ∙ ap (refusal (fault_number f)) (sym j.index_is))

        pub checked_good : (u : ⊤) → Said (Ok u) → CheckedTo ms ss plan (at + 8) (index + 1)
        checked_good u said =
            record {
              earlier = j.earlier ++ (this ∷ []);
              within = here_fits h;
              few = omega (arith, j.few);
              front_is = records_grow pair_format pair_local plan at j.earlier j.front_is (here_fits h) ∙ ap (λ p. some (j.earlier ++ (p ∷ []))) this_is;
              index_is = omega (arith, j.index_is, length-append j.earlier (this ∷ []));
              whole = whole_rest;
              verdict =
                  one ∙ ap (λ a. bad_or a (length j.earlier) (checked ms ss (j.earlier ++ (this ∷ [])) (listed rest)))
                  (answer (Ok u) said);
            }

-- ## The whole

-- whole pairs by the length of the plan
by_length : (k j : ℕ) (xs : List ℕ) → length xs ≡ 8 * k + j → j < 8 → is_some (pairs_in xs) ≡ eqb j 0
by_length zero zero xs e h = ap is_some (records_end pair_format pair_local xs (omega arith))
by_length zero (suc j) xs e h = ap is_some (records_none pair_format pair_local xs (omega arith) (omega arith)) ∙ sym (ne_eqb (suc j) 0 (λ q. omega arith))
by_length (suc k) j xs e h =
    ap is_some (records_step pair_format pair_local xs (omega arith))
    ∙ some_before (pair_front xs) (pairs_in (drop 8 xs))
    ∙ by_length k j (drop 8 xs) (omega (arith, length-drop 8 xs)) h

module _ (xs : List ℕ) where
  by_rest : is_some (pairs_in xs) ≡ eqb (length xs % 8) 0
  by_rest = by_length (length xs / 8) (length xs % 8) xs (omega (arith, div-add-mod' (length xs) 8)) (mod-lt (length xs) (omega arith))

  pub pairs_whole : length xs % 8 ≡ 0 → is_some (pairs_in xs) ≡ true
  pairs_whole h = by_rest ∙ eq-eqb (length xs % 8) 0 h

  pub pairs_cut : (length xs % 8 ≡ 0 → ⊥) → is_some (pairs_in xs) ≡ false
  pairs_cut h = by_rest ∙ ne_eqb (length xs % 8) 0 h

-- the answer of plan-of
no_pairs : (a b : Option (List Entry)) (c : Option (List Pair)) → is_some c ≡ false → plan_of a b c ≡ refusal 102 0
no_pairs none b c h = refl
no_pairs (some ms) none c h = refl
no_pairs (some ms) (some ss) none h = refl
no_pairs (some ms) (some ss) (some ps) h = cc

no_messages : (a b : Option (List Entry)) (c : Option (List Pair)) → is_valid a ≡ false → plan_of a b c ≡ refusal 102 0
no_messages none b c h = refl
no_messages (some ms) none c h = refl
no_messages (some ms) (some ss) none h = refl
no_messages (some ms) (some ss) (some ps) h = ap (λ t. cond (t && is_valid (some ss)) (checked ms ss [] ps) (refusal 102 0)) h

no_subscriptions : (a b : Option (List Entry)) (c : Option (List Pair)) → is_valid b ≡ false → plan_of a b c ≡ refusal 102 0
no_subscriptions none b c h = refl
no_subscriptions (some ms) none c h = refl
no_subscriptions (some ms) (some ss) none h = refl
no_subscriptions (some ms) (some ss) (some ps) h =
    ap (λ t. cond t (checked ms ss [] ps) (refusal 102 0)) (ap (is_valid (some ms) &&◌) h ∙ and_no (is_valid (some ms)))

all_valid : (a b : Option (List Entry)) (c : Option (List Pair)) → is_valid a ≡ true → is_valid b ≡ true → is_some c ≡ true
    → plan_of a b c ≡ checked (listed a) (listed b) [] (listed c)
all_valid none b c h k w = cc
all_valid (some ms) none c h k w = cc
all_valid (some ms) (some ss) none h k w = cc
all_valid (some ms) (some ss) (some ps) h k w = ap (λ t. cond t (checked ms ss [] ps) (refusal 102 0)) (ap₂ (◌&&◌) h k)

-- what a list that is malformed makes of the answer
pub says_malformed : (r : Result ⊤ PlanError) → IsErrAnd r (λ e. e ≡ Malformed) → plan_says r ≡ refusal 102 0
says_malformed (Ok u) h = absurd h
says_malformed (Err e) h = ap (λ x. plan_says (Err x)) h

module _ (messages subscriptions plan : List ℕ) where
  abbrev read : Verdict
  read = plan_of (messages_in messages) (subscriptions_in subscriptions) (pairs_in plan)

  pub plan_many : pairs_max < length plan / 8 → plan_answer messages subscriptions plan ≡ refusal 101 0
  unfolding plan_answer
  plan_many h = ap (λ t. cond t (refusal 101 0) read) (lt-ltb pairs_max (length plan / 8) h)

  module _ (few : length plan / 8 ≤ pairs_max) where
    plan_read : plan_answer messages subscriptions plan ≡ read
    unfolding plan_answer
    plan_read = ap (λ t. cond t (refusal 101 0) read) (le-ltb pairs_max (length plan / 8) few)

    pub plan_pairs : is_some (pairs_in plan) ≡ false → plan_answer messages subscriptions plan ≡ refusal 102 0
    plan_pairs h = plan_read ∙ no_pairs (messages_in messages) (subscriptions_in subscriptions) (pairs_in plan) h

    pub plan_messages : is_valid (messages_in messages) ≡ false → plan_answer messages subscriptions plan ≡ refusal 102 0
    plan_messages h = plan_read ∙ no_messages (messages_in messages) (subscriptions_in subscriptions) (pairs_in plan) h

    pub plan_subscriptions : is_valid (subscriptions_in subscriptions) ≡ false → plan_answer messages subscriptions plan ≡ refusal 102 0
    plan_subscriptions h = plan_read ∙ no_subscriptions (messages_in messages) (subscriptions_in subscriptions) (pairs_in plan) h

    pub plan_checked : is_valid (messages_in messages) ≡ true → is_valid (subscriptions_in subscriptions) ≡ true → is_some (pairs_in plan) ≡ true
        → plan_answer messages subscriptions plan ≡ checked (listed (messages_in messages)) (listed (subscriptions_in subscriptions)) []
        (listed (pairs_in plan))
    plan_checked h k w = plan_read ∙ all_valid (messages_in messages) (subscriptions_in subscriptions) (pairs_in plan) h k w
