-- Tables over the commands, by a command's number. Assumes nothing.
--     number_case       a claim of every number: of each command's, and of those that are no command's
--     namings_tests     the ids that a command names, by tests of its number
--     needed_tests      the headers that it needs, in the same way
--     transaction_named an id that is entered or freed is a transaction's, but in SUBSCRIBE and UNSUBSCRIBE
--     changed_alike     what a frame enters or frees is the same in each version
--     settling_label    the label that an ACK or NACK names is there, where no needed header is missing
use Rattle.std.proofs.Common.{◌≡◌, ℕ, Bool, true, false, cond, not, ◌||◌, eqb, ltb, List, [], ◌∷◌, sym, refl, ap, ◌∙◌, subst, true≢false, arith, ne_eqb, eqb-true}
use mathlib.Core.Option.{Option, none, some}
use Rattle.frames.specs.Grammar.{Command, number, ABORT, ACK, BEGIN, COMMIT, CONNECT, CONNECTED, DISCONNECT, ERROR, MESSAGE, NACK, RECEIPT}
use Rattle.frames.specs.declared.version.Version.{Version}
use Rattle.frames.specs.declared.version.Version.TheVariants.{V11, V12}
use Rattle.frames.specs.Grammar.{v1_2, SEND, STOMP, SUBSCRIBE, UNSUBSCRIBE}
use Rattle.frames.specs.Encoding.{command_of}
use Rattle.frames.proofs.Settled.{unknown_command, known_command}
use Rattle.headers.specs.Block.{Entry}
use Rattle.headers.proofs.Rows.{cond_case, or_false_right}
use Rattle.sessions.specs.Stores.{changes}
use Rattle.sessions.specs.Headers.{is, opens, listed_by, needed, needed_by, namings, namings_by, subscription, transaction, acknowledged_subscription, value_of}
use Rattle.sessions.specs.Headers.{is_some, has, settles, label_named, IdUse, id_use, id_uses, put_before, changed_id}
use Rattle.sessions.specs.Calls.{lacks_any}
use Rattle.sessions.specs.declared.command.Kind.TheVariants.{Transactions}
use Rattle.sessions.specs.declared.command.Header.{Header}
use Rattle.sessions.specs.declared.command.Header.TheVariants.{AcceptVersion, Host, Destination, Id, Transaction, Subscription, MessageId}
use Rattle.sessions.specs.declared.command.Naming.{Naming}
use Rattle.sessions.specs.declared.store.Use.TheVariants.{Need, Enter, Free}

within : (c : Command) → eqb (number c) 0 || ltb 15 (number c) ≡ false
within ABORT = refl
within ACK = refl
within BEGIN = refl
within COMMIT = refl
within CONNECT = refl
within CONNECTED = refl
within DISCONNECT = refl
within ERROR = refl
within MESSAGE = refl
within NACK = refl
within RECEIPT = refl
within SEND = refl
within STOMP = refl
within SUBSCRIBE = refl
within UNSUBSCRIBE = refl

pub number_case : (P : ℕ → Type 0) → ((c : Command) → P (number c)) → ((n : ℕ) → command_of n ≡ none → ((c : Command) → is c n ≡ false) → P n) → (n : ℕ) → P n
number_case P known other n = by (eqb n 0 || ltb 15 n) refl
  where
    by : (t : Bool) → eqb n 0 || ltb 15 n ≡ t → P n
    by true e =
        other n (unknown_command n e)
        (λ c. ne_eqb n (number c) (λ q. true≢false (sym e ∙ ap (λ m. eqb m 0 || ltb 15 m) q ∙ within c)))
    by false e = let (c, same, found) = known_command n e in subst P same (known c)

-- what an ACK or NACK names, and the headers that it needs
abbrev pub settling_names : Version → List Naming
settling_names ver = namings ver ACK

abbrev pub settling_needs : Version → List Header
settling_needs ver = needed ver ACK

-- NACK is as ACK
nack_names : (ver : Version) → namings ver NACK ≡ settling_names ver
nack_names V11 = refl
nack_names V12 = refl

nack_needs : (ver : Version) → needed ver NACK ≡ settling_needs ver
nack_needs V11 = refl
nack_needs V12 = refl

module _ (ver : Version) where
  abbrev naming_tests : ℕ → List Naming
  naming_tests n =
      cond (is SUBSCRIBE n) (subscription Enter ∷ [])
      (cond (is UNSUBSCRIBE n) (subscription Free ∷ [])
      (cond (is BEGIN n) (transaction Enter ∷ [])
      (cond (is COMMIT n || is ABORT n) (transaction Free ∷ [])
      (cond (is SEND n) (transaction Need ∷ []) (cond (is ACK n || is NACK n) (settling_names ver) [])))))

  naming_table : (c : Command) → namings_by ver (number c) ≡ naming_tests (number c)
  naming_table ABORT = refl
  naming_table ACK = refl
  naming_table BEGIN = refl
  naming_table COMMIT = refl
  naming_table CONNECT = refl
  naming_table CONNECTED = refl
  naming_table DISCONNECT = refl
  naming_table ERROR = refl
  naming_table MESSAGE = refl
  naming_table NACK = nack_names ver
  naming_table RECEIPT = refl
  naming_table SEND = refl
  naming_table STOMP = refl
  naming_table SUBSCRIBE = refl
  naming_table UNSUBSCRIBE = refl

  pub namings_tests : (n : ℕ) → namings_by ver n ≡ naming_tests n
  namings_tests =
      number_case (λ n. namings_by ver n ≡ naming_tests n) naming_table
      (λ n e h. ap (listed_by (namings ver)) e
      ∙ rw (h SUBSCRIBE, h UNSUBSCRIBE, h BEGIN, h COMMIT, h ABORT, h SEND, h ACK, h NACK))

  abbrev needed_list : ℕ → List Header
  needed_list n =
      cond (opens n) (AcceptVersion ∷ Host ∷ [])
      (cond (is SEND n) (Destination ∷ [])
      (cond (is SUBSCRIBE n) (Destination ∷ Id ∷ [])
      (cond (is UNSUBSCRIBE n) (Id ∷ [])
      (cond (is BEGIN n || (is COMMIT n || is ABORT n)) (Transaction ∷ [])
      (cond (is ACK n || is NACK n) (settling_needs ver) [])))))

  needed_table : (c : Command) → needed_by ver (number c) ≡ needed_list (number c)
  needed_table ABORT = refl
  needed_table ACK = refl
  needed_table BEGIN = refl
  needed_table COMMIT = refl
  needed_table CONNECT = refl
  needed_table CONNECTED = refl
  needed_table DISCONNECT = refl
  needed_table ERROR = refl
  needed_table MESSAGE = refl
  needed_table NACK = nack_needs ver
  needed_table RECEIPT = refl
  needed_table SEND = refl
  needed_table STOMP = refl
  needed_table SUBSCRIBE = refl
  needed_table UNSUBSCRIBE = refl

  pub needed_tests : (n : ℕ) → needed_by ver n ≡ needed_list n
  needed_tests =
      number_case (λ n. needed_by ver n ≡ needed_list n) needed_table
      (λ n e h. ap (listed_by (needed ver)) e
      ∙ rw (h CONNECT, h STOMP, h SEND, h SUBSCRIBE, h UNSUBSCRIBE, h ACK, h NACK, h BEGIN, h COMMIT, h ABORT))

  -- what an ACK or NACK names is neither entered nor freed
  settling_changes : (es : List Entry) → changed_id (id_uses (settling_names ver) es) ≡ none
  settling_changes es = by ver
    where
      needs : (g : Naming) (o : Option (List ℕ)) (us : List IdUse) → g.usage ≡ Need → changed_id (put_before (id_use g o) us) ≡ changed_id us
      needs g none us e = refl
      needs g (some id) us e = ap (λ u. cond (changes u) (some (record { kind = g.kind; usage = g.usage; id = id })) (changed_id us)) e

      by : (ver : Version) → changed_id (id_uses (settling_names ver) es) ≡ none
      by V11 =
          needs (transaction Need) (value_of Transaction es) (id_uses (acknowledged_subscription ∷ []) es) refl
          ∙ needs acknowledged_subscription (value_of Subscription es) [] refl
      by V12 = needs (transaction Need) (value_of Transaction es) [] refl

  -- a frame that is neither SUBSCRIBE nor UNSUBSCRIBE enters and frees no id but of a transaction
  one_kind : (g : Naming) (o : Option (List ℕ)) (u : IdUse) → g.kind ≡ Transactions → changed_id (put_before (id_use g o) []) ≡ some u → u.kind ≡ Transactions
  one_kind g none u k e = absurd (let z : ◌≡◌ {A = ℕ} 0 1 = cc in omega arith)
  one_kind g (some id) u k e = by (changes g.usage) e
    where
      by : (t : Bool) → cond t (some (record { kind = g.kind; usage = g.usage; id = id })) none ≡ some u → u.kind ≡ Transactions
      by true q = (let same : g.kind ≡ u.kind = cc in sym same) ∙ k
      by false q = absurd (let z : ◌≡◌ {A = ℕ} 0 1 = cc in omega arith)

  pub transaction_named : (n : ℕ) (es : List Entry) (u : IdUse) → is SUBSCRIBE n ≡ false → is UNSUBSCRIBE n ≡ false
      → changed_id (id_uses (namings_by ver n) es) ≡ some u → u.kind ≡ Transactions
  transaction_named n es u a b e =
      let same : namings_by ver n ≡ others = namings_tests n ∙ rw (a, b) in
      tested (subst (λ gs. changed_id (id_uses gs es) ≡ some u) same e)
    where
      others : List Naming
      others =
          cond (is BEGIN n) (transaction Enter ∷ [])
          (cond (is COMMIT n || is ABORT n) (transaction Free ∷ [])
          (cond (is SEND n) (transaction Need ∷ []) (cond (is ACK n || is NACK n) (settling_names ver) [])))

      none_named : changed_id [] ≡ some u → u.kind ≡ Transactions
      none_named q = absurd (let z : ◌≡◌ {A = ℕ} 0 1 = cc in omega arith)

      Named : List Naming → Type 0
      Named gs = changed_id (id_uses gs es) ≡ some u → u.kind ≡ Transactions

      tested : Named others
      tested =
          cond_case Named (is BEGIN n) (λ t. one_kind (transaction Enter) (value_of Transaction es) u refl)
          (λ t. cond_case Named (is COMMIT n || is ABORT n) (λ t. one_kind (transaction Free) (value_of Transaction es) u refl)
          (λ t. cond_case Named (is SEND n) (λ t. one_kind (transaction Need) (value_of Transaction es) u refl)
          (λ t. cond_case Named (is ACK n || is NACK n) (λ t q. none_named (sym (settling_changes es) ∙ q)) (λ t. none_named))))

-- what a frame enters or frees is the same in each version
pub changed_alike : (ver : Version) (n : ℕ) (es : List Entry) → changed_id (id_uses (namings_by ver n) es) ≡ changed_id (id_uses (namings_by v1_2 n) es)
changed_alike V11 n es = ap (λ gs. changed_id (id_uses gs es)) (namings_tests V11 n) ∙ alike ∙ sym (ap (λ gs. changed_id (id_uses gs es)) (namings_tests V12 n))
  where
    Alike : (Version → List Naming) → Type 0
    Alike gs = changed_id (id_uses (gs V11) es) ≡ changed_id (id_uses (gs V12) es)

    both : (t : Bool) (a : List Naming) (f : Version → List Naming) → Alike f → Alike (λ v. cond t a (f v))
    both true a f h = refl
    both false a f h = h

    last : (t : Bool) → Alike (λ v. cond t (settling_names v) [])
    last true = settling_changes V11 es ∙ sym (settling_changes V12 es)
    last false = refl

    alike : changed_id (id_uses (naming_tests V11 n) es) ≡ changed_id (id_uses (naming_tests V12 n) es)
    alike =
        let settling : Version → List Naming = λ v. cond (is ACK n || is NACK n) (settling_names v) [] in
        let sending : Version → List Naming = λ v. cond (is SEND n) (transaction Need ∷ []) (settling v) in
        let ending : Version → List Naming = λ v. cond (is COMMIT n || is ABORT n) (transaction Free ∷ []) (sending v) in
        let beginning : Version → List Naming = λ v. cond (is BEGIN n) (transaction Enter ∷ []) (ending v) in
        let leaving : Version → List Naming = λ v. cond (is UNSUBSCRIBE n) (subscription Free ∷ []) (beginning v) in
        both (is SUBSCRIBE n) (subscription Enter ∷ []) leaving
        (both (is UNSUBSCRIBE n) (subscription Free ∷ []) beginning
        (both (is BEGIN n) (transaction Enter ∷ []) ending
        (both (is COMMIT n || is ABORT n) (transaction Free ∷ []) sending
        (both (is SEND n) (transaction Need ∷ []) settling (last (is ACK n || is NACK n))))))
changed_alike V12 n es = refl

-- the label that an ACK or NACK names is there, where no needed header is missing
pub settling_label : (ver : Version) (n : ℕ) (es : List Entry) → settles n ≡ true → lacks_any (needed_by ver n) es ≡ false
    → (l : List ℕ) × (label_named ver es ≡ some l)
settling_label ver n es t h = named ver (subst (λ hs. lacks_any hs es ≡ false) (needs (is ACK n) (is NACK n) refl refl t) h)
  where
    needs : (a b : Bool) → is ACK n ≡ a → is NACK n ≡ b → a || b ≡ true → needed_by ver n ≡ settling_needs ver
    needs true b p q e = ap (needed_by ver) (eqb-true n (number ACK) p)
    needs false true p q e = ap (needed_by ver) (eqb-true n (number NACK) q) ∙ nack_needs ver
    needs false false p q e = absurd (true≢false (sym e))

    there : (o : Option (List ℕ)) → not (is_some o) || false ≡ false → (l : List ℕ) × (o ≡ some l)
    there none h = absurd (true≢false h)
    there (some l) h = (l, refl)

    named : (v : Version) → lacks_any (settling_needs v) es ≡ false → (l : List ℕ) × (label_named v es ≡ some l)
    named V11 h = there (value_of MessageId es) (or_false_right (not (has Subscription es)) _ h)
    named V12 h = there (value_of Id es) h
