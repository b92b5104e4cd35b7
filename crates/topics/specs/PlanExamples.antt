-- Plans as one table, and what a row claims. That all rows hold is proofs/PlanExamples.antt. Assumes nothing.
use Rattle.std.specs.Prelude.{◌≡◌, List, [], ◌∷◌, ◌++◌, ℕ, replicate}
use Prim.Native.String.{String}
use Rattle.headers.specs.Rows.{octets_of}
use Rattle.topics.specs.Lists.{Entry, Pair, entry_octets, pair_octets, laid}
use Rattle.topics.specs.Plans.{Verdict, accepted, refusal, plan_answer, Acceptable}

pub record Example : Type 0 where
  pub messages : List ℕ
  pub subscriptions : List ℕ
  pub plan : List ℕ
  pub verdict : Verdict

-- what a verdict says of a plan: that it is acceptable, or that it is not
abbrev pub Claims : Verdict → List ℕ → List ℕ → List ℕ → Type 0
Claims accepted messages subscriptions plan = Acceptable messages subscriptions plan
Claims (refusal k n) messages subscriptions plan = Acceptable messages subscriptions plan → ⊥

-- the answer is the row's, and what it says is so
pub record Holds (e : Example) : Type 0 where
  pub answers : plan_answer e.messages e.subscriptions e.plan ≡ e.verdict
  pub exactly : Claims e.verdict e.messages e.subscriptions e.plan

abbrev message : ℕ → String → Entry
message n text = record { number = n; text = octets_of text; room = 0 }

abbrev subscription : ℕ → String → ℕ → Entry
subscription n text room = record { number = n; text = octets_of text; room = room }

abbrev pair : ℕ → ℕ → Pair
pair m s = record { message = m; subscription = s }

abbrev row : List Entry → List Entry → List Pair → Verdict → Example
row ms ss ps v = record { messages = laid (entry_octets 0) ms; subscriptions = laid (entry_octets 4) ss; plan = laid pair_octets ps; verdict = v }

-- the octets as they are
abbrev raw : List ℕ → List ℕ → List ℕ → Verdict → Example
raw messages subscriptions plan v = record { messages = messages; subscriptions = subscriptions; plan = plan; verdict = v }

-- two waiting messages, and two subscriptions: 7 has room for two messages, 8 for one whose destination is b
abbrev two : List Entry
two = message 1 "a" ∷ message 2 "b" ∷ []

abbrev live : List Entry
live = subscription 7 "#" 2 ∷ subscription 8 "b" 1 ∷ []

-- message 1 to "a"; subscription 7, of "#", with room for one; and the pair of both
abbrev one_message : List ℕ
one_message = 0 ∷ 0 ∷ 0 ∷ 1 ∷ 0 ∷ 1 ∷ 97 ∷ []

abbrev one_subscription : List ℕ
one_subscription = 0 ∷ 0 ∷ 0 ∷ 7 ∷ 0 ∷ 1 ∷ 35 ∷ 0 ∷ 0 ∷ 0 ∷ 1 ∷ []

abbrev one_pair : List ℕ
one_pair = 0 ∷ 0 ∷ 0 ∷ 1 ∷ 0 ∷ 0 ∷ 0 ∷ 7 ∷ []

unfoldable pub examples : List Example
examples =
    -- each message once, in any order, to either subscription; a number among both is no other's
    row two live (pair 1 7 ∷ pair 2 7 ∷ []) accepted ∷
    row two live (pair 2 8 ∷ pair 1 7 ∷ []) accepted ∷
    row (message 7 "a" ∷ []) (subscription 7 "a" 1 ∷ []) (pair 7 7 ∷ []) accepted ∷
    row (message 4294967295 "a" ∷ message 2147483648 "b" ∷ []) (subscription 4294967294 "*" 4294967295 ∷ [])
    (pair 2147483648 4294967294 ∷ pair 4294967295 4294967294 ∷ []) accepted ∷
    row [] live [] accepted ∷
    row [] [] [] accepted ∷
    -- 96: no such message waits
    row two live (pair 3 7 ∷ []) (refusal 96 0) ∷
    row two live (pair 1 7 ∷ pair 2 8 ∷ pair 3 7 ∷ []) (refusal 96 2) ∷
    row two live (pair 3 9 ∷ pair 3 7 ∷ []) (refusal 96 0) ∷
    row two (subscription 7 "#" 0 ∷ []) (pair 3 7 ∷ []) (refusal 96 0) ∷
    row [] [] (pair 0 0 ∷ []) (refusal 96 0) ∷
    -- 97: an earlier pair has it
    row two live (pair 1 7 ∷ pair 1 7 ∷ []) (refusal 97 1) ∷
    row two live (pair 1 7 ∷ pair 2 8 ∷ pair 1 9 ∷ []) (refusal 97 2) ∷
    row two live (pair 2 8 ∷ pair 2 8 ∷ []) (refusal 97 1) ∷
    row two (subscription 7 "#" 1 ∷ []) (pair 1 7 ∷ pair 1 7 ∷ []) (refusal 97 1) ∷
    -- 98: the subscription is not live, or does not match
    row two live (pair 1 9 ∷ []) (refusal 98 0) ∷
    row two live (pair 1 8 ∷ []) (refusal 98 0) ∷
    row two live (pair 2 8 ∷ pair 1 8 ∷ []) (refusal 98 1) ∷
    row two (subscription 8 "c" 0 ∷ []) (pair 1 8 ∷ []) (refusal 98 0) ∷
    -- 99: over its room
    row two (subscription 7 "#" 1 ∷ []) (pair 1 7 ∷ pair 2 7 ∷ []) (refusal 99 1) ∷
    row two (subscription 7 "#" 0 ∷ []) (pair 1 7 ∷ []) (refusal 99 0) ∷
    row (message 3 "b" ∷ two) (subscription 7 "#" 2 ∷ []) (pair 3 7 ∷ pair 1 7 ∷ pair 2 7 ∷ []) (refusal 99 2) ∷
    -- 100: a message left out, the first listed, only if no pair is bad
    row two live [] (refusal 100 1) ∷
    row two live (pair 1 7 ∷ []) (refusal 100 2) ∷
    row (message 9 "a" ∷ message 4 "a" ∷ two) live (pair 1 7 ∷ pair 2 7 ∷ []) (refusal 100 9) ∷
    row two live (pair 1 9 ∷ []) (refusal 98 0) ∷
    row two [] [] (refusal 100 1) ∷
    -- 101: more than 64 whole pairs, before all else
    raw [] [] (replicate 520 0) (refusal 101 0) ∷
    raw (0 ∷ []) (0 ∷ []) (replicate 523 0) (refusal 101 0) ∷
    raw [] [] (replicate 512 0) (refusal 96 0) ∷
    -- 102: a list not of whole records, a number twice, a text malformed
    raw [] [] (replicate 519 0) (refusal 102 0) ∷
    raw one_message one_subscription one_pair accepted ∷
    raw (one_message ++ (0 ∷ [])) one_subscription one_pair (refusal 102 0) ∷
    raw (0 ∷ 0 ∷ 0 ∷ 1 ∷ 0 ∷ 2 ∷ 97 ∷ []) one_subscription one_pair (refusal 102 0) ∷
    raw (0 ∷ 0 ∷ 0 ∷ 1 ∷ 0 ∷ 0 ∷ []) one_subscription one_pair (refusal 102 0) ∷
    raw one_message (0 ∷ 0 ∷ 0 ∷ 7 ∷ 0 ∷ 1 ∷ 35 ∷ 0 ∷ 0 ∷ 0 ∷ []) one_pair (refusal 102 0) ∷
    raw one_message one_subscription (one_pair ++ (0 ∷ [])) (refusal 102 0) ∷
    row (message 1 "a" ∷ message 1 "b" ∷ []) live (pair 9 9 ∷ []) (refusal 102 0) ∷
    row (message 1 "a" ∷ message 2 "b" ∷ message 1 "b" ∷ []) live [] (refusal 102 0) ∷
    row two (subscription 7 "#" 2 ∷ subscription 7 "a" 2 ∷ []) (pair 1 7 ∷ pair 2 7 ∷ []) (refusal 102 0) ∷
    row (message 1 "a." ∷ []) live (pair 1 7 ∷ []) (refusal 102 0) ∷
    row two (subscription 7 "" 2 ∷ []) (pair 1 7 ∷ pair 2 7 ∷ []) (refusal 102 0) ∷
    []
