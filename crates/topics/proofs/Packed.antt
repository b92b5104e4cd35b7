-- No refusal of a plan has number 0: so 0 says that a plan is accepted. Assumes nothing.
use mathlib.Core.Bool.{◌&&◌, not}
use mathlib.Core.Option.{Option, none, some}
use mathlib.Core.List.{List, [], ◌∷◌, ◌++◌}
use Prim.Native.Nat.{ℕ, ◌+◌, ◌/◌, ◌<◌}
use native.Mathlib.Omega.{arith}
use lib.Dec.{ltb}
use lib.ListN.{length}
use Rattle.headers.specs.Rows.{any, first_of}
use Rattle.headers.specs.Answers.{Answer}
use Rattle.headers.proofs.Rows.{cond_case}
use Rattle.topics.specs.Lists.{Entry, Pair, messages_in, subscriptions_in, pairs_in}
use Rattle.topics.specs.Plans.{Verdict, accepted, refusal, numbered, is_valid, with_message, with_subscription, how_many, matched, room_of, is_none, pair_answer, is_left_out, left_out_answer, bad_or, checked, pairs_max, plan_of, plan_answer}

-- a refusal's number is not 0
abbrev Numbered : Answer → Type 0
Numbered (Answer.accepted values) = Unit {0}
Numbered (Answer.refused k) = 0 < k

abbrev pub Refuses : Verdict → Type 0
Refuses accepted = Unit {0}
Refuses (refusal k n) = 0 < k

pair_numbered : (ms ss : List Entry) (earlier : List Pair) (p : Pair) → Numbered (pair_answer ms ss earlier p)
unfolding pair_answer
pair_numbered ms ss earlier p =
    cond_case Numbered (is_none (first_of (numbered p.message) ms)) (λ h. omega arith)
    (λ h. cond_case Numbered (any (with_message p.message) earlier) (λ h. omega arith)
    (λ h. cond_case Numbered (not (matched (first_of (numbered p.message) ms) (first_of (numbered p.subscription) ss))) (λ h. omega arith)
    (λ h. cond_case Numbered (ltb (room_of (first_of (numbered p.subscription) ss)) (how_many (with_subscription p.subscription) earlier + 1)) (λ h. omega arith) (λ h. tt))))

left_refuses : (o : Option Entry) → Refuses (left_out_answer o)
left_refuses none = tt
left_refuses (some m) = omega arith

bad_refuses : (a : Answer) (i : ℕ) (v : Verdict) → Numbered a → Refuses v → Refuses (bad_or a i v)
bad_refuses (Answer.accepted values) i v h k = k
bad_refuses (Answer.refused n) i v h k = h

checked_refuses : (ms ss : List Entry) (earlier ps : List Pair) → Refuses (checked ms ss earlier ps)
unfolding checked
checked_refuses ms ss earlier [] = left_refuses (first_of (is_left_out earlier) ms)
checked_refuses ms ss earlier (p ∷ ps) =
    bad_refuses (pair_answer ms ss earlier p) (length earlier) (checked ms ss (earlier ++ (p ∷ [])) ps) (pair_numbered ms ss earlier p)
    (checked_refuses ms ss (earlier ++ (p ∷ [])) ps)

read_refuses : (a b : Option (List Entry)) (c : Option (List Pair)) → Refuses (plan_of a b c)
read_refuses none b c = omega arith
read_refuses (some ms) none c = omega arith
read_refuses (some ms) (some ss) none = omega arith
read_refuses (some ms) (some ss) (some ps) = cond_case Refuses (is_valid (some ms) && is_valid (some ss)) (λ h. checked_refuses ms ss [] ps) (λ h. omega arith)

pub plan_refuses : (messages subscriptions plan : List ℕ) → Refuses (plan_answer messages subscriptions plan)
unfolding plan_answer
plan_refuses messages subscriptions plan =
    cond_case Refuses (ltb pairs_max (length plan / 8)) (λ h. omega arith) (λ h. read_refuses (messages_in messages) (subscriptions_in subscriptions) (pairs_in plan))
