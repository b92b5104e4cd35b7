-- Laws of checks in order: what an accepted frame passed; what a call leaves. Assumes nothing.
--     left_case                             what holds of the session before, closed, and after an accepted call holds of what a call leaves
--     frame_passed, changed_settles         what an accepted frame passed, and the id that it enters or frees
--     deliver_passed                        what a delivery that was recorded passed
--     subscribe_.., unsubscribe_..          the same of a SUBSCRIBE and an UNSUBSCRIBE
use Rattle.std.proofs.Common.{◌≡◌, ℕ, Bool, true, false, cond, not, ◌&&◌, ◌||◌, eqb, leb, List, [], ◌∷◌, ◌++◌, sym, refl, ap, ◌∙◌, arith}
use mathlib.Core.Option.{some}
use Rattle.headers.specs.Rows.{All, any, empty, first_of}
use Rattle.headers.specs.Block.{Entry, entries, listed}
use Rattle.headers.specs.Answers.{Answer, accepted, refused, Check, settle}
use Rattle.headers.proofs.Rows.{cond_case, or_false_left, or_false_right}
use Rattle.headers.proofs.Settling.{Passes, all_pass, all_accepted}
use Rattle.sessions.specs.Stores.{live, changes, bad_length, live_again, not_live, no_room, use_checks}
use Rattle.frames.specs.Grammar.{number, SUBSCRIBE, UNSUBSCRIBE}
use Rattle.sessions.specs.Headers.{IdUse, id_use, put_before, changed_id, subscription, value_of}
use Rattle.sessions.specs.declared.command.Header.TheVariants.{Id}
use Rattle.sessions.specs.declared.command.Kind.TheVariants.{Subscriptions}
use Rattle.sessions.specs.declared.store.Use.TheVariants.{Enter, Free}
use Rattle.sessions.specs.Deliveries.{deliveries_max, label_max, is_pending}
use Rattle.sessions.specs.Sessions.{id_max, open_phase, in_phase, ids_of, closed}
use Rattle.sessions.specs.Answers.{acceptance_says}
use Rattle.sessions.specs.Calls.{left_by, uses_of, out_of_phase, lacks_needed, id_checks, delivery_checks, record_checks, phase_checks, header_checks}
use Rattle.sessions.specs.Calls.{is_auto, place_named, deliver_checks, opening_checks, entry_checks, frame_checks, acceptance_of, frame_answer}
use Rattle.sessions.specs.declared.session.Session.{Session}

-- what holds of all of two lists, one after the other, holds of all of each
all_parts : (cs ds : List Check) → All Passes (cs ++ ds) → All Passes cs × All Passes ds
all_parts [] ds p = (tt, p)
all_parts (c ∷ cs) ds p = let (a, b) = all_parts cs ds p.1 in ((p.0, a), b)

-- ---- what a call leaves

pub left_case : (P : Session → Type 0) (A : Answer) (before after : Session) → P before → P (closed before) → ((v : List ℕ) → A ≡ accepted v → P after)
    → P (left_by A before after)
left_case P (accepted v) before after p q r = r v refl
left_case P (refused k) before after p q r = cond_case P (eqb k 38 || eqb k 39) (λ e. p) (λ e. q)

-- what an accepted frame passed: it was in its phase, it had the headers that it needs, and the checks of the ids that it names
pub record Passed (s : Session) (n : ℕ) (es : List Entry) : Type 0 where
  pub in_turn : out_of_phase s n ≡ false
  pub needs : lacks_needed s n es ≡ false
  pub opening : All Passes (opening_checks s n es)
  pub named : All Passes (id_checks s (uses_of s n es))
  pub asked : All Passes (delivery_checks s n es)

pub frame_passed : (s : Session) (n : ℕ) (block v : List ℕ) → frame_answer s n block ≡ accepted v → Passed s n (listed (entries block))
unfolding frame_answer
frame_passed s n block v e =
    let es : List Entry = listed (entries block) in
    let all = all_pass (frame_checks s n block) (acceptance_says (acceptance_of n es)) v e in
    let (known, rest) = all_parts (record_checks s n block) (phase_checks s n ++ entry_checks s n es) all in
    let ((open_yet, (not_server, (in_turn, end))), asked_of_entries) = all_parts (phase_checks s n) (entry_checks s n es) rest in
    let (needs, after_needs) = all_parts (header_checks s n es) (opening_checks s n es ++ (id_checks s (uses_of s n es) ++ delivery_checks s n es))
    asked_of_entries in
    let (opening, after_opening) = all_parts (opening_checks s n es) (id_checks s (uses_of s n es) ++ delivery_checks s n es) after_needs in
    let (named, asked) = all_parts (id_checks s (uses_of s n es)) (delivery_checks s n es) after_opening in
    record { in_turn = in_turn; needs = needs.0; opening = opening; named = named; asked = asked }

-- what a delivery that was recorded passed
pub record Delivered (s : Session) (id label : List ℕ) : Type 0 where
  pub is_open : not (in_phase open_phase s) ≡ false
  pub subscribed : empty id || not (live id (ids_of Subscriptions s)) ≡ false
  pub new_label : bad_length label_max label || is_pending label s.deliveries ≡ false
  pub room : not (is_auto s (place_named s (some id))) && leb deliveries_max s.deliveries.count ≡ false

pub deliver_passed : (s : Session) (id label v : List ℕ) → settle (deliver_checks s id label) [] ≡ accepted v → Delivered s id label
deliver_passed s id label v e =
    let (valid, (is_open, (subscribed, (new_label, (room, end))))) = all_pass (deliver_checks s id label) [] v e in
    record { is_open = is_open; subscribed = subscribed; new_label = new_label; room = room }

-- what no element passes, the first that another test finds does not pass
pub first_fails : {A : Type 0} (p c : A → Bool) (xs : List A) (x : A) → any p xs ≡ false → first_of c xs ≡ some x → p x ≡ false
first_fails p c [] x h e = absurd (let z : ◌≡◌ {A = ℕ} 0 1 = cc in omega arith)
first_fails p c (y ∷ ys) x h e = by (c y) (first_fails p c ys x (or_false_right (p y) (any p ys) h)) e
  where
    by : (t : Bool) → (first_of c ys ≡ some x → p x ≡ false) → cond t (some y) (first_of c ys) ≡ some x → p x ≡ false
    by true more q = let same : y ≡ x = cc in ap p (sym same) ∙ or_false_left (p y) (any p ys) h
    by false more q = more q

-- an id that is entered or freed passes its checks
pub changed_settles : (s : Session) (us : List IdUse) (u : IdUse) → All Passes (id_checks s us) → changed_id us ≡ some u
    → settle (use_checks id_max u.usage u.id (ids_of u.kind s)) [] ≡ accepted []
changed_settles s us u (long, (again, (gone, (room, end)))) e =
    all_accepted (use_checks id_max u.usage u.id (ids_of u.kind s)) [] (
      first_fails (λ (z : IdUse). bad_length id_max z.id) (λ (z : IdUse). changes z.usage) us u long e,
      (
        first_fails (λ (z : IdUse). live_again z.usage z.id (ids_of z.kind s)) (λ (z : IdUse). changes z.usage) us u again e,
        (
          first_fails (λ (z : IdUse). not_live z.usage z.id (ids_of z.kind s)) (λ (z : IdUse). changes z.usage) us u gone e,
          (first_fails (λ (z : IdUse). no_room z.usage (ids_of z.kind s)) (λ (z : IdUse). changes z.usage) us u room e, tt),
        ),
      ),
    )

-- the id that a SUBSCRIBE enters, and the one that an UNSUBSCRIBE frees
module _ (s : Session) (es : List Entry) (id : List ℕ) (v : value_of Id es ≡ some id) where
  pub subscribe_changes : changed_id (uses_of s (number SUBSCRIBE) es) ≡ some (record { kind = Subscriptions; usage = Enter; id = id })
  subscribe_changes = ap (λ o. changed_id (put_before (id_use (subscription Enter) o) [])) v

  pub subscribe_settles : Passed s (number SUBSCRIBE) es → settle (use_checks id_max Enter id (ids_of Subscriptions s)) [] ≡ accepted []
  subscribe_settles p = changed_settles s (uses_of s (number SUBSCRIBE) es) (record { kind = Subscriptions; usage = Enter; id = id }) p.named
      subscribe_changes

  pub unsubscribe_changes : changed_id (uses_of s (number UNSUBSCRIBE) es) ≡ some (record { kind = Subscriptions; usage = Free; id = id })
  unsubscribe_changes = ap (λ o. changed_id (put_before (id_use (subscription Free) o) [])) v

  pub unsubscribe_settles : Passed s (number UNSUBSCRIBE) es → settle (use_checks id_max Free id (ids_of Subscriptions s)) [] ≡ accepted []
  unsubscribe_settles p = changed_settles s (uses_of s (number UNSUBSCRIBE) es) (record { kind = Subscriptions; usage = Free; id = id }) p.named
      unsubscribe_changes
