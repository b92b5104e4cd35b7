-- Plans for handing out queued messages (request C-24). Assumes nothing.
use Rattle.std.specs.Prelude.{◌≡◌, Bool, true, false, cond, ◌&&◌, not, List, [], ◌∷◌, ◌++◌, ℕ, ◌+◌, ◌*◌, ◌/◌, ◌%◌, ◌≤◌, length, eqb, ltb, ⊤, Option as Perhaps, Some, None, unwrap_or, Result, Ok, Err}
use Rattle.std.proofs.Math.Option.{Option, none, some}
use Rattle.headers.specs.Rows.{every, any, first_of, All}
use Rattle.headers.specs.Answers.{Answer, Check, settle}
use Rattle.topics.specs.Topics.{words, well_formed, Matches, matches}
use Rattle.topics.specs.Lists.{Entry, Pair, messages_in, subscriptions_in, pairs_in}
use Rattle.topics.specs.declared.plan.PairFault.{PairFault}
use Rattle.topics.specs.declared.plan.PairFault.TheVariants.{UnknownMessage, MessageAgain, NotMatching, OverRoom}
use Rattle.topics.specs.declared.plan.PlanError.{PlanError}
use Rattle.topics.specs.declared.plan.PlanError.TheVariants.{TooManyPairs, Malformed, BadPair, LeftOut}

-- What is answered: accepted, or refused with a number and what it names: a pair, from 0, a message by its number, or nothing (0).
pub data Verdict : Type 0 where
  accepted : Verdict
  refusal : ℕ → ℕ → Verdict

-- ## 102

-- no "number twice among the messages or among the subscriptions"
abbrev pub numbered : ℕ → Entry → Bool
numbered n e = eqb e.number n

abbrev pub distinct : List Entry → Bool
distinct [] = true
distinct (e ∷ es) = not (any (λ d. eqb e.number d.number) es) && distinct es

-- no "malformed destination or pattern"
abbrev pub texts_formed : List Entry → Bool
texts_formed es = every (λ e. well_formed e.text) es

abbrev pub is_valid : Option (List Entry) → Bool
is_valid none = false
is_valid (some es) = distinct es && texts_formed es

-- ## 96 to 99, for a pair with the pairs before it

abbrev pub with_message : ℕ → Pair → Bool
with_message n p = eqb p.message n

abbrev pub with_subscription : ℕ → Pair → Bool
with_subscription n p = eqb p.subscription n

abbrev pub how_many : {A : Type 0} → (A → Bool) → List A → ℕ
how_many f [] = 0
how_many f (a ∷ rs) = cond (f a) 1 0 + how_many f rs

-- the message has a destination that the subscription, which is live, matches
abbrev pub matched : Option Entry → Option Entry → Bool
matched none s = false
matched (some m) none = false
matched (some m) (some s) = matches (words s.text) (words m.text)

abbrev pub room_of : Option Entry → ℕ
room_of none = 0
room_of (some s) = s.room

abbrev pub is_none : {A : Type 0} → Option A → Bool
is_none none = true
is_none (some a) = false

-- "96 unknown message, 97 message in an earlier pair, 98 subscription not live or not matching, 99 over its room"
abbrev pub pair_checks : List Entry → List Entry → List Pair → Pair → List Check
pair_checks ms ss earlier p =
    record { fails = is_none (first_of (numbered p.message) ms); number = 96 } ∷
    record { fails = any (with_message p.message) earlier; number = 97 } ∷
    record { fails = not (matched (first_of (numbered p.message) ms) (first_of (numbered p.subscription) ss)); number = 98 } ∷
    record { fails = ltb (room_of (first_of (numbered p.subscription) ss)) (how_many (with_subscription p.subscription) earlier + 1); number = 99 } ∷
    []

unfoldable pub pair_answer : List Entry → List Entry → List Pair → Pair → Answer
pair_answer ms ss earlier p = settle (pair_checks ms ss earlier p) []

-- "A bad plan's answer names its first bad pair, from 0", with "the lowest that fits"; "100 a message left out (the first listed is
-- named, by number), only if no pair is bad"
abbrev pub is_left_out : List Pair → Entry → Bool
is_left_out ps m = not (any (with_message m.number) ps)

abbrev pub left_out_answer : Option Entry → Verdict
left_out_answer none = accepted
left_out_answer (some m) = refusal 100 m.number

abbrev pub bad_or : Answer → ℕ → Verdict → Verdict
bad_or (Answer.accepted values) i next = next
bad_or (Answer.refused k) i next = refusal k i

unfoldable pub checked : List Entry → List Entry → List Pair → List Pair → Verdict
checked ms ss earlier [] = left_out_answer (first_of (is_left_out earlier) ms)
checked ms ss earlier (p ∷ ps) = bad_or (pair_answer ms ss earlier p) (length earlier) (checked ms ss (earlier ++ (p ∷ [])) ps)

-- ## The answer

abbrev pub pairs_max : ℕ
pairs_max = 64

abbrev pub plan_of : Option (List Entry) → Option (List Entry) → Option (List Pair) → Verdict
plan_of none ss ps = refusal 102 0
plan_of (some ms) none ps = refusal 102 0
plan_of (some ms) (some ss) none = refusal 102 0
plan_of (some ms) (some ss) (some ps) = cond (is_valid (some ms) && is_valid (some ss)) (checked ms ss [] ps) (refusal 102 0)

-- "101 more than 64 whole pairs, then 102 a list not of whole records, a number twice among the messages or among the subscriptions,
-- or a malformed destination or pattern, both before any pair"
unfoldable pub plan_answer : List ℕ → List ℕ → List ℕ → Verdict
plan_answer messages subscriptions plan =
    cond (ltb pairs_max (length plan / 8)) (refusal 101 0) (plan_of (messages_in messages) (subscriptions_in subscriptions) (pairs_in plan))

-- ## "Accept it exactly if" (proofs/Assignments.antt: plan-answer accepts exactly what is Acceptable)

-- the message of a pair, which waits, its subscription, which is live, and that the pattern matches the destination
pub record Suits (ms ss : List Entry) (p : Pair) : Type 0 where
  pub message : Entry
  pub subscription : Entry
  pub waiting : first_of (numbered p.message) ms ≡ some message
  pub live : first_of (numbered p.subscription) ss ≡ some subscription
  pub fits : Matches (words subscription.text) (words message.text)

pub record Assignment (ms ss : List Entry) (ps : List Pair) : Type 0 where
  -- "each waiting message and no other stands once"
  pub once : All (λ m. how_many (with_message m.number) ps ≡ 1) ms
  pub no_other : All (λ p. any (numbered p.message) ms ≡ true) ps
  -- "each subscription is live and matches the message's destination by C-20"
  pub matching : All (Suits ms ss) ps
  -- "none gets more than its stated room"
  pub roomy : All (λ s. how_many (with_subscription s.number) ps ≤ s.room) ss

-- and "neither 101 nor 102 fits"
pub record Acceptable (messages subscriptions plan : List ℕ) : Type 0 where
  pub few : length plan / 8 ≤ pairs_max
  pub ms : List Entry
  pub ss : List Entry
  pub ps : List Pair
  pub messages_are : messages_in messages ≡ some ms
  pub subscriptions_are : subscriptions_in subscriptions ≡ some ss
  pub pairs_are : pairs_in plan ≡ some ps
  pub messages_valid : is_valid (some ms) ≡ true
  pub subscriptions_valid : is_valid (some ss) ≡ true
  pub assigns : Assignment ms ss ps

-- ## What the code's answer says, and its packed number

-- the number of what is wrong with a pair
abbrev pub fault_number : PairFault → ℕ
fault_number UnknownMessage = 96
fault_number MessageAgain = 97
fault_number NotMatching = 98
fault_number OverRoom = 99

-- the number of a refusal, and what it names, if anything
abbrev pub plan_number : PlanError → ℕ
plan_number TooManyPairs = 101
plan_number Malformed = 102
plan_number (BadPair f) = fault_number f.reason
plan_number (LeftOut n) = 100

abbrev pub plan_names : PlanError → Perhaps ℕ
plan_names TooManyPairs = None
plan_names Malformed = None
plan_names (BadPair f) = Some f.index
plan_names (LeftOut n) = Some n

abbrev pub plan_says : Result ⊤ PlanError → Verdict
plan_says (Ok u) = accepted
plan_says (Err e) = refusal (plan_number e) (unwrap_or (plan_names e) 0)

-- the answer of stomp_check_plan: 0, or 2^32 times the number of a refusal and what it names; and read back
abbrev pub packed_plan : Verdict → ℕ
packed_plan accepted = 0
packed_plan (refusal k n) = 4294967296 * k + n

abbrev pub unpacked_plan : ℕ → Verdict
unpacked_plan p = cond (eqb p 0) accepted (refusal (p / 4294967296) (p % 4294967296))
