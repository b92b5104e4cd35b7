-- The ids that a frame names: the lower of the numbers that the store gives for each is that of the first failing check over all, and
-- what is left is the session with the one id entered or freed. Assumes nothing.
--     lower_first, uses_lower     the law of the lower number, of four tests and of one id before others
--     uses_answer                 what the checks over all ids answer, by that number
--     settled_two                 the number of two ids that may be named, by what the store made of each
--     named_uses, second_stays    the ids that a frame names, by the two that the code has
--     settled_..                  the session that is left, by what the store made of the first
use Rattle.std.proofs.Common.{◌≡◌, ℕ, ◌+◌, ◌-◌, ◌<◌, ◌≤◌, Bool, true, false, cond, ◌||◌, eqb, ltb, List, [], ◌∷◌, length, take, drop, sym, refl, ap, ◌∙◌, subst, ap₂, arith, length-drop, length-take-le, take-take, eqb-true}
use mathlib.Core.Option.{Option, none, some}
use Rattle.headers.specs.Rows.{any}
use Rattle.headers.specs.Block.{Entry, entries, listed}
use Rattle.headers.specs.Answers.{Answer, accepted, refused, settle}
use Rattle.sessions.specs.Stores.{changes, used, bad_length, live_again, not_live, no_room, use_checks}
use Rattle.sessions.specs.Places.{Settles, stored}
use Rattle.sessions.specs.Headers.{namings_by, IdUse, id_use, id_uses, put_before, changed_id, value_of}
use Rattle.sessions.specs.Sessions.{id_max, ids_of, with_ids, spoken, is_valid, Sized}
use Rattle.sessions.specs.Calls.{uses_of, id_checks, id_effect}
use Rattle.sessions.specs.Notes.{value_at, Locates}
use Rattle.sessions.specs.declared.notes.Located.{Located}
use Rattle.sessions.proofs.Locating.{value_there}
use Rattle.sessions.specs.Steps.{closed_by, accepted_by, GivesUses, SettlesUse, lower_number, both, names_id, naming_list, listed_namings}
use Rattle.sessions.specs.Steps.{use_named, put_of, count_of}
use Rattle.sessions.specs.declared.command.Naming.{Naming}
use Rattle.sessions.specs.declared.command.Namings.{Namings}
use Rattle.sessions.specs.declared.store.Use.{Use}
use Rattle.sessions.specs.declared.store.Use.TheVariants.{Nothing, Need, Enter, Free}
use Rattle.std.specs.Prelude.{Option as Maybe, Some, None, Result, Ok, Err}
use Rattle.sessions.specs.Refusals.{number_of, refused_number}
use Rattle.sessions.specs.declared.refusals.Refusal.{Refusal}
use Rattle.sessions.specs.declared.session.Session.{Session}
use Rattle.sessions.specs.declared.session.Acceptance.{Acceptance}
use Rattle.sessions.proofs.Steps.{number_some, uses_refused, uses_accepted}
use Rattle.sessions.proofs.Using.{same_ids, put_ids, count_ids, stored_small, stored_fits}

-- ---- the number of the first of four tests that holds

abbrev first_number : Bool → Bool → Bool → Bool → ℕ
first_number a b c d = cond a 44 (cond b 45 (cond c 46 (cond d 47 0)))

-- an error is no value
never_ok : {A : Type 0} {x : Refusal} {y : A} → ◌≡◌ {A = Result A Refusal} (Err x) (Ok y) → ⊥
never_ok e = let z : ◌≡◌ {A = ℕ} 0 1 = cc in omega arith

lower_first : (a₁ a₂ a₃ a₄ b₁ b₂ b₃ b₄ : Bool)
    → first_number (a₁ || b₁) (a₂ || b₂) (a₃ || b₃) (a₄ || b₄) ≡ lower_number (first_number a₁ a₂ a₃ a₄) (first_number b₁ b₂ b₃ b₄)
lower_first true a₂ a₃ a₄ true b₂ b₃ b₄ = refl
lower_first true a₂ a₃ a₄ false true b₃ b₄ = refl
lower_first true a₂ a₃ a₄ false false true b₄ = refl
lower_first true a₂ a₃ a₄ false false false true = refl
lower_first true a₂ a₃ a₄ false false false false = refl
lower_first false true a₃ a₄ true b₂ b₃ b₄ = refl
lower_first false true a₃ a₄ false true b₃ b₄ = refl
lower_first false true a₃ a₄ false false true b₄ = refl
lower_first false true a₃ a₄ false false false true = refl
lower_first false true a₃ a₄ false false false false = refl
lower_first false false true a₄ true b₂ b₃ b₄ = refl
lower_first false false true a₄ false true b₃ b₄ = refl
lower_first false false true a₄ false false true b₄ = refl
lower_first false false true a₄ false false false true = refl
lower_first false false true a₄ false false false false = refl
lower_first false false false true true b₂ b₃ b₄ = refl
lower_first false false false true false true b₃ b₄ = refl
lower_first false false false true false false true b₄ = refl
lower_first false false false true false false false true = refl
lower_first false false false true false false false false = refl
lower_first false false false false true b₂ b₃ b₄ = refl
lower_first false false false false false true b₃ b₄ = refl
lower_first false false false false false false true b₄ = refl
lower_first false false false false false false false true = refl
lower_first false false false false false false false false = refl

lower_none : (a : ℕ) → lower_number a 0 ≡ a
lower_none a = by (eqb a 0) refl
  where
    by : (t : Bool) → eqb a 0 ≡ t → cond t 0 a ≡ a
    by true e = sym (eqb-true a 0 e)
    by false e = refl

-- what becomes of two ids has the lower number
pub both_number : (a b : Result (Maybe ℕ) Refusal) → refused_number (both a b) ≡ lower_number (refused_number a) (refused_number b)
both_number (Ok p) (Ok q) = refl
both_number (Ok p) (Err y) = refl
both_number (Err x) (Ok q) = sym (lower_none (number_of x))
both_number (Err x) (Err y) = rw (number_some x, number_some y) (by (ltb (number_of y) (number_of x)))
  where
    by : (t : Bool) → number_of (cond t y x) ≡ cond t (number_of y) (number_of x)
    by true = refl
    by false = refl

-- and where neither is refused, the place of the first
pub both_place : (a b : Result (Maybe ℕ) Refusal) (o : Maybe ℕ) → both a b ≡ Ok o → a ≡ Ok o
both_place (Ok p) (Ok q) o e = e
both_place (Ok p) (Err y) o e = absurd (never_ok e)
both_place (Err x) (Ok q) o e = absurd (never_ok e)
both_place (Err x) (Err y) o e = absurd (never_ok e)

-- an answer by a number, where 0 is none
abbrev pub by_number : ℕ → List ℕ → Answer
by_number k v = cond (eqb k 0) (accepted v) (refused k)

refused_by : (n k : ℕ) → by_number n [] ≡ refused k → (k ≡ n) × (k ≡ 0 → ⊥)
refused_by n k = by (eqb n 0) refl
  where
    by : (t : Bool) → eqb n 0 ≡ t → cond t (accepted []) (refused n) ≡ refused k → (k ≡ n) × (k ≡ 0 → ⊥)
    by true e q = absurd (let z : ◌≡◌ {A = ℕ} 0 1 = cc in omega arith)
    by false e q =
        let same : k ≡ n = (let w : n ≡ k = cc in sym w) in
        (same, λ z. absurd (let f : false ≡ true = sym e ∙ ap (λ m. eqb m 0) (sym same ∙ z) in let o : ◌≡◌ {A = ℕ} 0 1 = cc in omega arith))

accepted_by_none : (n : ℕ) → by_number n [] ≡ accepted [] → 0 ≡ n
accepted_by_none n = by (eqb n 0) refl
  where
    by : (t : Bool) → eqb n 0 ≡ t → cond t (accepted []) (refused n) ≡ accepted [] → 0 ≡ n
    by true e q = sym (eqb-true n 0 e)
    by false e q = absurd (let z : ◌≡◌ {A = ℕ} 0 1 = cc in omega arith)

module _ (s : Session) where
  -- of one id, and of all
  abbrev use_number : IdUse → ℕ
  use_number u =
      first_number (bad_length id_max u.id) (live_again u.usage u.id (ids_of u.kind s)) (not_live u.usage u.id (ids_of u.kind s))
      (no_room u.usage (ids_of u.kind s))

  abbrev pub uses_number : List IdUse → ℕ
  uses_number us =
      first_number (any (λ u. bad_length id_max u.id) us) (any (λ u. live_again u.usage u.id (ids_of u.kind s)) us)
      (any (λ u. not_live u.usage u.id (ids_of u.kind s)) us) (any (λ u. no_room u.usage (ids_of u.kind s)) us)

  four : (a b c d : Bool) (v : List ℕ)
      → cond a (refused 44) (cond b (refused 45) (cond c (refused 46) (cond d (refused 47) (accepted v)))) ≡ by_number (first_number a b c d) v
  four true b c d v = refl
  four false true c d v = refl
  four false false true d v = refl
  four false false false true v = refl
  four false false false false v = refl

  use_answer : (u : IdUse) → settle (use_checks id_max u.usage u.id (ids_of u.kind s)) [] ≡ by_number (use_number u) []
  use_answer u =
      four (bad_length id_max u.id) (live_again u.usage u.id (ids_of u.kind s)) (not_live u.usage u.id (ids_of u.kind s))
      (no_room u.usage (ids_of u.kind s)) []

  pub uses_answer : (us : List IdUse) (v : List ℕ) → settle (id_checks s us) v ≡ by_number (uses_number us) v
  uses_answer us v =
      four (any (λ u. bad_length id_max u.id) us) (any (λ u. live_again u.usage u.id (ids_of u.kind s)) us)
      (any (λ u. not_live u.usage u.id (ids_of u.kind s)) us) (any (λ u. no_room u.usage (ids_of u.kind s)) us) v

  -- the first failing check over all ids is the lower of the numbers of the first and of the others
  pub uses_lower : (u : IdUse) (us : List IdUse) → uses_number (u ∷ us) ≡ lower_number (use_number u) (uses_number us)
  uses_lower u us =
      lower_first (bad_length id_max u.id) (live_again u.usage u.id (ids_of u.kind s)) (not_live u.usage u.id (ids_of u.kind s))
      (no_room u.usage (ids_of u.kind s)) (any (λ u. bad_length id_max u.id) us) (any (λ u. live_again u.usage u.id (ids_of u.kind s)) us)
      (any (λ u. not_live u.usage u.id (ids_of u.kind s)) us) (any (λ u. no_room u.usage (ids_of u.kind s)) us)

  -- what the store made of one id is its number
  settled_one : (u : IdUse) (r : Result (Maybe ℕ) Refusal) → SettlesUse s (some u) r → refused_number r ≡ use_number u
  settled_one u (Err x) e = (refused_by (use_number u) (number_of x) (sym (use_answer u) ∙ e)).0
  settled_one u (Ok None) e = accepted_by_none (use_number u) (sym (use_answer u) ∙ e.0)
  settled_one u (Ok (Some k)) e = accepted_by_none (use_number u) (sym (use_answer u) ∙ e.0)

  pub settled_two : (o p : Option IdUse) (a b : Result (Maybe ℕ) Refusal) → SettlesUse s o a → SettlesUse s p b
      → lower_number (refused_number a) (refused_number b) ≡ uses_number (put_before o (put_before p []))
  settled_two none none a b e f = ap₂ (λ x y. lower_number (refused_number x) (refused_number y)) e f
  settled_two none (some u) a b e f =
      ap (λ x. lower_number (refused_number x) (refused_number b)) e ∙ settled_one u b f ∙ sym (uses_lower u [] ∙ lower_none (use_number u))
  settled_two (some u) none a b e f =
      ap₂ (λ x y. lower_number x (refused_number y)) (settled_one u a e) f ∙ sym (uses_lower u [])
  settled_two (some u) (some w) a b e f =
      ap₂ lower_number (settled_one u a e) (settled_one w b f ∙ sym (uses_lower w [] ∙ lower_none (use_number w))) ∙ sym (uses_lower u (w ∷ []))

-- ---- the ids that a frame names, by the two that the code has

one_named : (g : Naming) (gs : List Naming) (es : List Entry) → id_uses (naming_list g gs) es ≡ put_before (use_named g es) (id_uses gs es)
one_named g gs es = by (names_id g.usage)
  where
    by : (t : Bool) → id_uses (cond t (g ∷ gs) gs) es ≡ put_before (cond t (id_use g (value_of g.header es)) none) (id_uses gs es)
    by true = refl
    by false = refl

pub named_uses : (r : Namings) (es : List Entry)
    → id_uses (listed_namings r) es ≡ put_before (use_named r.first es) (put_before (use_named r.second es) [])
named_uses r es =
    one_named r.first (naming_list r.second []) es ∙ ap (put_before (use_named r.first es)) (one_named r.second [] es)

-- an id that is neither entered nor freed is not the one that changes
stays_last : (o p : Option IdUse) → ((u : IdUse) → p ≡ some u → changes u.usage ≡ false)
    → changed_id (put_before o (put_before p [])) ≡ changed_id (put_before o [])
stays_last o none h = refl
stays_last none (some u) h = ap (λ t. cond t (some u) none) (h u refl)
stays_last (some w) (some u) h = ap (λ t. cond (changes w.usage) (some w) (cond t (some u) none)) (h u refl)

pub second_stays : (o : Option IdUse) (g : Naming) (es : List Entry) → changes g.usage ≡ false
    → changed_id (put_before o (put_before (use_named g es) [])) ≡ changed_id (put_before o [])
second_stays o g es h = stays_last o (use_named g es) (by (names_id g.usage) (value_of g.header es))
  where
    by : (t : Bool) (v : Option (List ℕ)) (u : IdUse) → cond t (id_use g v) none ≡ some u → changes u.usage ≡ false
    by true none u e = absurd (let z : ◌≡◌ {A = ℕ} 0 1 = cc in omega arith)
    by true (some id) u e = let same : g.usage ≡ u.usage = cc in ap changes (sym same) ∙ h
    by false v u e = absurd (let z : ◌≡◌ {A = ℕ} 0 1 = cc in omega arith)

-- ---- the session that is left

module _ (s : Session) (sized : Sized s) (valid : is_valid s ≡ true) where
  -- an id used, by whether it changes
  effect_used : (u : IdUse) (w : Use) → u.usage ≡ w
      → with_ids u.kind s (used w u.id (ids_of u.kind s)) ≡ id_effect s (cond (changes w) (some u) none)
  effect_used u Enter e = ap (λ (z : Use). with_ids u.kind s (used z u.id (ids_of u.kind s))) (sym e)
  effect_used u Free e = ap (λ (z : Use). with_ids u.kind s (used z u.id (ids_of u.kind s))) (sym e)
  effect_used u Need e = same_ids s sized valid u.kind
  effect_used u Nothing e = same_ids s sized valid u.kind

  pub settled_kept : (o : Option IdUse) → SettlesUse s o (Ok None) → s ≡ id_effect s (changed_id (put_before o []))
  settled_kept none e = refl
  settled_kept (some u) e =
      sym (same_ids s sized valid u.kind) ∙ ap (with_ids u.kind s) (sym e.1) ∙ effect_used u u.usage refl

  pub settled_put : (u : IdUse) (i : ℕ) (part : List ℕ) → SettlesUse s (some u) (Ok (Some i)) → part ≡ take (stored u.usage (length u.id)) u.id
      → put_of u.kind s i part ≡ id_effect s (changed_id (u ∷ []))
  settled_put u i part (e, h, f) p =
      ap (put_of u.kind s i) p
      ∙ put_ids s sized valid u.kind i (take (stored u.usage (length u.id)) u.id) (omega (arith, h, count_ids s sized valid u.kind))
      (stored_fits id_max u.usage u.id (ids_of u.kind s) e)
      ∙ ap (with_ids u.kind s) (sym f) ∙ effect_used u u.usage refl

  -- what putting it asks
  pub put_asked : (u : IdUse) (i : ℕ) (part : List ℕ) → SettlesUse s (some u) (Ok (Some i)) → part ≡ take (stored u.usage (length u.id)) u.id
      → (i < count_of u.kind) × (length part ≤ id_max)
  put_asked u i part (e, h, f) p =
      (omega (arith, h, count_ids s sized valid u.kind), rw p (stored_fits id_max u.usage u.id (ids_of u.kind s) e))

-- an id that is put somewhere was named
pub put_named : (s : Session) (g : Naming) (es : List Entry) (i : ℕ) → SettlesUse s (use_named g es) (Ok (Some i))
    → (u : IdUse) × (use_named g es ≡ some u) × (value_of g.header es ≡ some u.id) × (u.kind ≡ g.kind) × (u.usage ≡ g.usage)
put_named s g es i = by (names_id g.usage) (value_of g.header es)
  where
    by : (t : Bool) (v : Option (List ℕ)) → SettlesUse s (cond t (id_use g v) none) (Ok (Some i))
        → (u : IdUse) × (cond t (id_use g v) none ≡ some u) × (v ≡ some u.id) × (u.kind ≡ g.kind) × (u.usage ≡ g.usage)
    by true none e = absurd (let z : ◌≡◌ {A = ℕ} 0 1 = cc in omega arith)
    by true (some id) e = (record { kind = g.kind; usage = g.usage; id = id }, refl, refl, refl, refl)
    by false v e = absurd (let z : ◌≡◌ {A = ℕ} 0 1 = cc in omega arith)

-- and its header's value is located
pub put_there : (s : Session) (g : Naming) (block : List ℕ) (i : ℕ) → SettlesUse s (use_named g (listed (entries block))) (Ok (Some i))
    → Locates block g.header None → ⊥
put_there s g block i e l =
    let (u, is, v, kind, usage) = put_named s g (listed (entries block)) i e in
    let q : none ≡ some u.id = l.first ∙ v in
    let z : ◌≡◌ {A = ℕ} 0 1 = cc in omega arith

-- ---- what the store made of an id that may be named

module _ (s : Session) (g : Naming) (es : List Entry) where
  pub unnamed : names_id g.usage ≡ false → SettlesUse s (use_named g es) (Ok None)
  unnamed h = subst (λ t. SettlesUse s (cond t (id_use g (value_of g.header es)) none) (Ok None)) (sym h) refl

  pub missing : value_of g.header es ≡ none → SettlesUse s (use_named g es) (Ok None)
  missing h = by (names_id g.usage)
    where
      by : (t : Bool) → SettlesUse s (cond t (id_use g (value_of g.header es)) none) (Ok None)
      by true = subst (λ o. SettlesUse s (id_use g o) (Ok None)) (sym h) refl
      by false = refl

  pub named_settles : (id : List ℕ) (r : Result (Maybe ℕ) Refusal) → names_id g.usage ≡ true → value_of g.header es ≡ some id
      → Settles id_max g.usage id (ids_of g.kind s) r → SettlesUse s (use_named g es) r
  named_settles id r t h e =
      subst (λ z. SettlesUse s (cond z (id_use g (value_of g.header es)) none) r) (sym t) (subst (λ o. SettlesUse s (id_use g o) r) (sym h) e)

-- ---- the outcome of both

module _ (s : Session) (r : Namings) (es : List Entry) where
  abbrev uses : List IdUse
  uses = put_before (use_named r.first es) (put_before (use_named r.second es) [])

  module _ (n : ℕ) (is : listed_namings r ≡ namings_by (spoken s) n) where
    uses_are : uses_of s n es ≡ uses
    uses_are = ap (λ gs. id_uses gs es) (sym is) ∙ named_uses r es

    module _ (a b : Result (Maybe ℕ) Refusal) (p : SettlesUse s (use_named r.first es) a) (q : SettlesUse s (use_named r.second es) b) where
      number_is : refused_number (both a b) ≡ uses_number s (uses_of s n es)
      number_is = both_number a b ∙ settled_two s (use_named r.first es) (use_named r.second es) a b p q ∙ ap (uses_number s) (sym uses_are)

      answer_is : (v : List ℕ) → settle (id_checks s (uses_of s n es)) v ≡ by_number (refused_number (both a b)) v
      answer_is v = uses_answer s (uses_of s n es) v ∙ ap (λ m. by_number m v) (sym number_is)

      pub both_refused : (x : Refusal) → both a b ≡ Err x → (acceptance : Acceptance) (time : ℕ) → GivesUses s (uses_of s n es) acceptance time (closed_by s x)
      both_refused x h acceptance time =
          uses_refused s (uses_of s n es) acceptance time (closed_by s x) x
          (answer_is [] ∙ ap (λ z. by_number (refused_number z) []) h ∙ ap (λ t. cond t (accepted []) (refused (number_of x))) (number_some x)) refl

      pub both_accepted : (o : Maybe ℕ) → both a b ≡ Ok o → changes r.second.usage ≡ false → (acceptance : Acceptance) (time : ℕ)
          → GivesUses s (uses_of s n es) acceptance time
          (accepted_by (id_effect s (changed_id (put_before (use_named r.first es) []))) acceptance time)
      both_accepted o h stays acceptance time =
          uses_accepted s (uses_of s n es) acceptance time _
          (λ v. answer_is v ∙ ap (λ z. by_number (refused_number z) v) h)
          (ap (λ us. accepted_by (id_effect s us) acceptance time)
          (sym (second_stays (use_named r.first es) r.second es stays) ∙ ap changed_id (sym uses_are)))

-- an id that was put somewhere, by where its header's value is
module _ (s : Session) (sized : Sized s) (valid : is_valid s ≡ true) (g : Naming) (block : List ℕ) (l : Located) (at : Locates block g.header (Some l)) (i : ℕ)
    (e : SettlesUse s (use_named g (listed (entries block))) (Ok (Some i))) (n : ℕ) (to : n ≡ l.start + stored g.usage (l.end - l.start)) where
  named : (u : IdUse) × (use_named g (listed (entries block)) ≡ some u) × (value_of g.header (listed (entries block)) ≡ some u.id)
      × (u.kind ≡ g.kind) × (u.usage ≡ g.usage)
  named = put_named s g (listed (entries block)) i e

  part_is : (u : IdUse) → value_of g.header (listed (entries block)) ≡ some u.id → u.usage ≡ g.usage
      → take (n - l.start) (drop l.start block) ≡ take (stored u.usage (length u.id)) u.id
  part_is u v same =
      let there : value_at block l ≡ u.id = value_there at u.id v in
      let long : length u.id ≡ l.end - l.start =
      ap length (sym there)
      ∙ length-take-le (l.end - l.start) (drop l.start block) (omega (arith, at.inside, length-drop l.start block)) in
      let size : n - l.start ≡ stored u.usage (length u.id) =
      (let z : n - l.start ≡ stored g.usage (l.end - l.start) = omega (arith, to) in z) ∙ ap₂ stored (sym same) (sym long) in
      ap (λ k. take k (drop l.start block)) size
      ∙ sym (take-take (stored u.usage (length u.id)) (l.end - l.start) (drop l.start block)
      (omega (arith, stored_small u.usage (length u.id), long)))
      ∙ ap (take (stored u.usage (length u.id))) there

  pub naming_asked : (i < count_of g.kind) × (length (take (n - l.start) (drop l.start block)) ≤ id_max)
  naming_asked =
      let (u, is, v, kind, usage) = named in
      let (a, b) = put_asked s sized valid u i (take (n - l.start) (drop l.start block)) (subst (λ o. SettlesUse s o (Ok (Some i))) is e)
      (part_is u v usage) in
      (subst (λ k. i < count_of k) kind a, b)

  pub naming_put : put_of g.kind s i (take (n - l.start) (drop l.start block))
      ≡ id_effect s (changed_id (put_before (use_named g (listed (entries block))) []))
  naming_put =
      let (u, is, v, kind, usage) = named in
      ap (λ k. put_of k s i (take (n - l.start) (drop l.start block))) (sym kind)
      ∙ settled_put s sized valid u i (take (n - l.start) (drop l.start block)) (subst (λ o. SettlesUse s o (Ok (Some i))) is e) (part_is u v usage)
      ∙ ap (λ o. id_effect s (changed_id (put_before o []))) (sym is)
