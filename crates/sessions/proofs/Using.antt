-- Ids used: what a session becomes where an id is refused, kept, entered or freed, over the kind of id. Assumes nothing.
use Rattle.std.proofs.Common.{◌≡◌, ℕ, ◌<◌, ◌≤◌, true, ◌&&◌, ltb, leb, List, [], length, take, set, ◌∙◌, ap₂, le_refl, arith, length-take, ltb-false, leb-true}
use Rattle.headers.specs.Rows.{empty}
use Rattle.headers.specs.Answers.{accepted, settle}
use Rattle.headers.proofs.Rows.{and_left, and_right, or_false_right}
use Rattle.sessions.specs.Stores.{valid_store, use_checks}
use Rattle.sessions.specs.Values.{heart_beat_max}
use Rattle.sessions.specs.Sessions.{subscriptions_max, transactions_max, id_max, closed_phase}
use Rattle.sessions.specs.Sessions.{ids_of, with_subscriptions, with_transactions, with_ids, valid_offers, valid_agreed, valid_numbers}
use Rattle.sessions.specs.Sessions.{valid_subscriptions, valid_ids, right_deliveries, is_valid, Sized}
use Rattle.sessions.specs.Places.{Fits, stored}
use Rattle.sessions.specs.Steps.{count_of, put_of}
use Rattle.sessions.specs.declared.store.Use.{Use}
use Rattle.sessions.specs.declared.store.Use.TheVariants.{Nothing, Need, Enter, Free}
use Rattle.sessions.specs.declared.command.Kind.{Kind}
use Rattle.sessions.specs.declared.command.Kind.TheVariants.{Subscriptions, Transactions}
use Rattle.sessions.specs.declared.session.Session.{Session}
use Rattle.sessions.proofs.Stores.{length_ids, lengths_ids, laid_ids, put_laid, valid_fits, valid_clean}
use Rattle.headers.proofs.Settling.{all_pass}

-- the store of a kind, and its lengths
abbrev pub store_of : Kind → Session → List ℕ
store_of Subscriptions s = s.subscriptions.ids
store_of Transactions s = s.transactions.ids

abbrev pub lens_of : Kind → Session → List ℕ
lens_of Subscriptions s = s.subscriptions.lens
lens_of Transactions s = s.transactions.lens

module _ (s : Session) (sized : Sized s) (valid : is_valid s ≡ true) where
  ids_valid : valid_ids s ≡ true
  unfolding is_valid
  ids_valid = and_left (valid_ids s) (right_deliveries s) (and_right (valid_numbers s) (valid_ids s && right_deliveries s) valid)

  valid_of : (k : Kind) → valid_store id_max (store_of k s) (lens_of k s) ≡ true
  unfolding is_valid
  valid_of Subscriptions =
      and_left (valid_store id_max s.subscriptions.ids s.subscriptions.lens) _ (and_left (valid_subscriptions s.subscriptions) _ ids_valid)
  valid_of Transactions = and_right (valid_subscriptions s.subscriptions) _ ids_valid

  pub fits_of : (k : Kind) → Fits id_max (count_of k) (store_of k s) (lens_of k s)
  fits_of Subscriptions =
      valid_fits id_max s.subscriptions.ids s.subscriptions.lens (valid_of Subscriptions) subscriptions_max sized.subscriptions.lens_long
      sized.subscriptions.ids_long
  fits_of Transactions =
      valid_fits id_max s.transactions.ids s.transactions.lens (valid_of Transactions) transactions_max sized.transactions.lens_long
      sized.transactions.ids_long

  pub count_ids : (k : Kind) → length (ids_of k s) ≡ count_of k
  count_ids Subscriptions = length_ids id_max s.subscriptions.ids s.subscriptions.lens ∙ sized.subscriptions.lens_long
  count_ids Transactions = length_ids id_max s.transactions.ids s.transactions.lens ∙ sized.transactions.lens_long

  -- the ids of a session laid out again are the session
  pub same_ids : (k : Kind) → with_ids k s (ids_of k s) ≡ s
  same_ids Subscriptions =
      let f = fits_of Subscriptions in
      ap₂ (λ x y. with_subscriptions s (record { ids = x; lens = y; modes = s.subscriptions.modes }))
      (laid_ids id_max subscriptions_max s.subscriptions.ids s.subscriptions.lens f
      (valid_clean id_max s.subscriptions.ids s.subscriptions.lens (valid_of Subscriptions)))
      (lengths_ids id_max subscriptions_max s.subscriptions.ids s.subscriptions.lens f)
  same_ids Transactions =
      let f = fits_of Transactions in
      ap₂ (λ x y. with_transactions s (record { ids = x; lens = y }))
      (laid_ids id_max transactions_max s.transactions.ids s.transactions.lens f
      (valid_clean id_max s.transactions.ids s.transactions.lens (valid_of Transactions)))
      (lengths_ids id_max transactions_max s.transactions.ids s.transactions.lens f)

  -- with another id in one place they are the session with that id put there
  pub put_ids : (k : Kind) (i : ℕ) (id : List ℕ) → i < count_of k → length id ≤ id_max → put_of k s i id ≡ with_ids k s (set (ids_of k s) i id)
  put_ids Subscriptions i id h l =
      let (a, b) = put_laid id_max subscriptions_max s.subscriptions.ids s.subscriptions.lens (fits_of Subscriptions)
      (valid_clean id_max s.subscriptions.ids s.subscriptions.lens (valid_of Subscriptions)) i h id l in
      ap₂ (λ x y. with_subscriptions s (record { ids = x; lens = y; modes = s.subscriptions.modes })) a b
  put_ids Transactions i id h l =
      let (a, b) = put_laid id_max transactions_max s.transactions.ids s.transactions.lens (fits_of Transactions)
      (valid_clean id_max s.transactions.ids s.transactions.lens (valid_of Transactions)) i h id l in
      ap₂ (λ x y. with_transactions s (record { ids = x; lens = y })) a b

-- ---- what a use of an id gives

pub stored_small : (u : Use) (n : ℕ) → stored u n ≤ n
stored_small Enter n = le_refl n
stored_small Free n = omega arith
stored_small Need n = omega arith
stored_small Nothing n = omega arith

-- an id that is stored fits its place
pub stored_fits : (w : ℕ) (u : Use) (id : List ℕ) (is : List (List ℕ)) → settle (use_checks w u id is) [] ≡ accepted []
    → length (take (stored u (length id)) id) ≤ w
stored_fits w u id is e =
    let l : length id ≤ w = ltb-false w (length id) (or_false_right (empty id) (ltb w (length id)) (all_pass (use_checks w u id is) [] [] e).0) in
    omega (arith, length-take (stored u (length id)) id, stored_small u (length id))

-- the interval of a valid session is small
pub small_inbound : (s : Session) → is_valid s ≡ true → s.agreed.inbound ≤ heart_beat_max
unfolding is_valid
small_inbound s v =
    let small = and_left _ _ (and_right (leb s.phase closed_phase) _ (and_left (valid_numbers s) (valid_ids s && right_deliveries s) v)) in
    leb-true _ _ (and_left _ _ (and_right (valid_offers s.offers) (valid_agreed s.agreed) small))
