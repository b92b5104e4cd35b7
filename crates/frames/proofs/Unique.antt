-- Guards of the definitions: what they claim fixes the answer, so that none of them can be weakened unseen. Assumes nothing.
--     order_numbers    the numbers in the order in which they are looked for
--     first_number     the number given is that of the first reason in this order that fits
--     claims_parsed    what a reply claims holds of no reply but `parsed`
--     exact_once       no two replies are exact
--     decodes_once     no two answers and blocks are what decoding gives
--     encodes_once     no two answers and targets are what encoding gives
--     body_back        the octets at the start and of the length that are told of a frame are its body
use mathlib.Core.Path.{◌≡◌, refl, sym, ◌∙◌, ap}
use mathlib.Core.Bool.{Bool, true, false}
use mathlib.Core.Option.{some}
use mathlib.Core.List.{List, [], ◌∷◌, ◌++◌, map, append_assoc}
use Prim.Native.Nat.{ℕ}
use lib.ListN.{length, take, drop}
use lib.Seq.{drop-append_seam, take-append_seam}
use Rattle.headers.specs.Rows.{every, is_octet, first_of, All}
use Rattle.headers.specs.Answers.{Answer, left_in}
use Rattle.frames.specs.Grammar.{Head, head, end, frame, octets}
use Rattle.frames.specs.declared.version.Version.{Version}
use Rattle.frames.specs.Replies.{Reply, told}
use Rattle.frames.specs.Replies as reply
use Rattle.frames.specs.Parsing.{parsed}
use Rattle.frames.specs.Refusals.{Reason, fits, order, numbered, number_of, refusal, First}
use Rattle.frames.specs.Exactness.{Claims, Exact}
use Rattle.frames.specs.Decoding.{decode_answer, decoded_records, tree_entries, Decodes}
use Rattle.frames.specs.Encoding.{Call, Encoding, Encodes}
use Rattle.frames.proofs.Table.{at_refused}
use Rattle.frames.proofs.Exact.{exact}
use Rattle.frames.proofs.Readings.{reading_once}

-- the first of a row that passes a test, by its place in the row
first_is : (f : Reason → Bool) (before after : List Reason) (r : Reason) → All (λ q. f q ≡ false) before → f r ≡ true → first_of f (before ++ (r ∷ after)) ≡ some r
first_is f [] after r h k = rw k
first_is f (e ∷ es) after r h k = rw h.0 (first_is f es after r h.1 k)

-- "at one octet the order is 1, 2, 10, 3, 8, 9, 4 to 7" (document 02, C-11), 11 "between 2 and 10" (C-17)
pub order_numbers : map numbered order ≡ 1 ∷ 2 ∷ 11 ∷ 10 ∷ 3 ∷ 8 ∷ 9 ∷ 4 ∷ 5 ∷ 6 ∷ 7 ∷ []
order_numbers = refl

-- the number of the first reason that fits
pub first_number : (f : Reason → Bool) (k : ℕ) → First f k → number_of (first_of f order) ≡ some k
first_number f k x =
    ap (λ o. number_of (first_of f o)) x.ordered ∙ ap number_of (first_is f x.earlier x.later x.reason x.none_earlier x.fitting) ∙ ap some x.number

module _ (ver : Version) where
  -- what a reply claims holds of the reply that parsing gives, and of no other
  pub claims_parsed : (xs : List ℕ) → every is_octet xs ≡ true → (r : Reply) → Claims ver xs r → r ≡ parsed ver xs
  unfolding refusal
  claims_parsed xs o (reply.Complete k u c h s l) (t, rest, b, e, one, not) = sym e ∙ sym ((exact ver xs o).complete t rest b)
  claims_parsed xs o reply.Incomplete (v, none) = sym ((exact ver xs o).incomplete v)
  claims_parsed xs o (reply.Invalid k n) (l, m, none) =
      sym (at_refused ver xs k n m.open_tree m.octet m.there (first_number (fits ver m.open_tree m.octet) k m.first))

  -- no two replies are exact
  pub exact_once : (xs : List ℕ) → every is_octet xs ≡ true → (r q : Reply) → Exact ver xs r → Exact ver xs q → r ≡ q
  exact_once xs o r q a b = claims_parsed xs o r a.claims ∙ sym (claims_parsed xs o q b.claims)

  -- no two answers and blocks are what decoding gives
  pub decodes_once : {xs before : List ℕ} {a b : Answer} {y z : List ℕ} → Decodes ver xs before a y → Decodes ver xs before b z → (a ≡ b) × (y ≡ z)
  decodes_once {xs} {before} d e =
      let same = ap (tree_entries ver) (reading_once ver xs d.tree e.tree d.reading e.reading) in (
        d.answered ∙ ap (decode_answer (length before)) same ∙ sym e.answered,
        d.written ∙ ap (λ o. left_in (decode_answer (length before) o) (decoded_records o) before) same ∙ sym e.written,
      )

  -- no two answers and targets are what encoding gives
  pub encodes_once : {k : Call} {before : List ℕ} {a b : Encoding} {y z : List ℕ} → Encodes ver k before a y → Encodes ver k before b z → (a ≡ b) × (y ≡ z)
  encodes_once d e = (d.answered ∙ sym e.answered, d.written ∙ sym e.written)

  -- the numbers that are told of a frame cut its body
  pub body_back : (h : Head) (e : Bool) (b rest : List ℕ) → take (length b) (drop (length (head h ++ end e)) (octets (frame h e b) ++ rest)) ≡ b
  body_back h e b rest =
      let apart : octets (frame h e b) ++ rest ≡ (head h ++ end e) ++ (b ++ (0 ∷ rest)) = simp append_assoc in
      rw (apart, drop-append_seam, take-append_seam)
