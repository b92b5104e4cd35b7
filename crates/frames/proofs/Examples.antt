-- The examples hold. Assumes nothing.
--     examples_hold    every row's claim
use mathlib.Core.Path.{◌≡◌, refl, sym, ◌∙◌, subst}
use mathlib.Core.Bool.{true}
use mathlib.Core.Option.{Option, none, some}
use mathlib.Core.List.{List, [], ◌∷◌, append-nil}
use Prim.Native.Nat.{ℕ}
use native.Mathlib.Omega.{arith}
use Rattle.headers.specs.Text.{reads_whole}
use Rattle.headers.specs.Rows.{every, is_octet, All}
use Rattle.headers.specs.Numbers.{evaluate, numeral, size_within, shortest}
use Rattle.headers.specs.Escapes.{decode, encode}
use Rattle.headers.specs.Block.{at_record, entries_within, entries, spans}
use Rattle.headers.specs.Answers.{find_answer}
use Rattle.frames.specs.Machine.{Run, run, going, finished, stopped}
use Rattle.frames.specs.Grammar.{Tree, octets, Shaped}
use Rattle.frames.specs.declared.version.Version.{Version}
use Rattle.frames.specs.Open.{Open, start}
use Rattle.frames.specs.Parsing.{step, parsed, at_word, at_start, at_name, at_begin, at_value, at_body}
use Rattle.frames.specs.Decoding.{decode_answer, decoded_records, tree_entries, Reading}
use Rattle.frames.specs.Encoding.{encode_answer, encode_image}
use Rattle.frames.specs.Examples.{Example, examples, Given, DecodesTo, EncodesAgain, Finds, Holds, Options}
use Rattle.frames.proofs.Recognizer.{Says}
use Rattle.frames.proofs.Recognizing.{exact_run}
use Rattle.frames.proofs.Exact.{exact}
use Rattle.frames.specs.Exactness.{Exact}

-- the parse tree of all octets, where the run ends with them
abbrev whole : Run Open Tree → Option Tree
whole (going s) = none
whole (finished t []) = some t
whole (finished t (x ∷ rest)) = none
whole (stopped k rest) = none

abbrev tree_of : Version → List ℕ → Option Tree
tree_of ver xs = whole (run (step ver) start xs)

reads : (ver : Version) (xs : List ℕ) → every is_octet xs ≡ true → Reading ver xs (tree_of ver xs)
reads ver xs o = by (run (step ver) start xs) (exact_run ver xs)
  where
    by : (r : Run Open Tree) → Says octets (Shaped ver) xs r → Reading ver xs (whole r)
    by (going s) h = λ (t, v, e). h.no_front t [] (v.0, append-nil (octets t) ∙ e)
    by (finished t []) h = let e = sym (append-nil (octets t)) ∙ h.front.1 in ((h.front.0, rw e o), e)
    by (finished t (x ∷ rest)) h =
        λ (u, v, e). let l = (h.only u [] (v.0, append-nil (octets u) ∙ e)).1 in let z : ◌≡◌ {A = ℕ} 0 1 = cc in omega arith
    by (stopped k rest) h = λ (t, v, e). h.no_front t [] (v.0, append-nil (octets t) ∙ e)

-- a row, by what is computed of the run's tree
holds : {e : Example} → every is_octet e.input ≡ true → parsed e.version e.input ≡ e.reply
    → Given e.block (DecodesTo (tree_entries e.version (tree_of e.version e.input)))
    → All (EncodesAgain e.version e.input e.reply (decoded_records (tree_entries e.version (tree_of e.version e.input)))) e.images
    → Given e.looked_up (Finds (decoded_records (tree_entries e.version (tree_of e.version e.input))))
    → Holds e
holds {e} o p d i f = record { parses = p; exactly = subst (Exact e.version e.input) p (exact e.version e.input o); tree = tree_of e.version e.input; reading = reads e.version e.input o; decodes = d; encodes = i; finds = f }

-- rows that hold, one after another
infixr 5 ◌also◌
data Rows : List Example → Type 0 where
  end : Rows []
  ◌also◌ : {e : Example} {es : List Example} → Holds e → Rows es → Rows (e ∷ es)

all_hold : {es : List Example} → Rows es → All Holds es
all_hold end = tt
all_hold (h also hs) = (h, all_hold hs)

pub examples_hold : All Holds examples
unfolding reads_whole examples evaluate numeral size_within shortest decode encode at_record entries_within entries spans find_answer parsed at_word at_start at_name at_begin at_value at_body decode_answer encode_answer encode_image
examples_hold =
    all_hold
    (holds refl refl tt tt tt
    also holds refl refl tt tt tt
    also holds refl refl tt tt tt
    also holds refl refl tt tt tt
    also holds refl refl tt tt tt
    also holds refl refl (refl, refl) ((refl, refl), ((refl, refl), tt)) tt
    also holds refl refl tt tt (_, _, refl, refl)
    also holds refl refl tt tt tt
    also holds refl refl tt tt tt
    also holds refl refl tt tt tt
    also holds refl refl tt tt tt
    also holds refl refl tt tt tt
    also holds refl refl tt tt (_, _, refl, refl)
    also holds refl refl tt tt tt
    also holds refl refl tt tt tt
    also holds refl refl tt tt tt
    also holds refl refl tt tt tt
    also holds refl refl tt tt tt
    also holds refl refl tt tt tt
    also holds refl refl tt tt tt
    also holds refl refl tt tt tt
    also holds refl refl tt tt tt
    also holds refl refl tt tt (_, _, refl, refl)
    also holds refl refl tt tt (_, _, refl, refl)
    also holds refl refl tt tt tt
    also holds refl refl tt tt tt
    also holds refl refl tt tt tt
    also holds refl refl tt tt (_, _, refl, refl)
    also holds refl refl tt tt (_, _, refl, refl)
    also holds refl refl tt tt (_, _, refl, refl)
    also holds refl refl tt tt tt
    also holds refl refl tt tt tt
    also holds refl refl tt tt tt
    also holds refl refl tt tt tt
    also holds refl refl tt tt tt
    also holds refl refl tt tt tt
    also holds refl refl tt tt tt
    also holds refl refl tt tt tt
    also holds refl refl tt tt tt
    also holds refl refl tt tt tt
    also holds refl refl tt tt tt
    also holds refl refl tt tt tt
    also holds refl refl tt tt tt
    also holds refl refl tt tt tt
    also holds refl refl tt tt tt
    also holds refl refl tt tt tt
    also holds refl refl tt tt tt
    also holds refl refl tt tt tt
    also holds refl refl tt tt tt
    also holds refl refl tt tt tt
    also holds refl refl tt tt tt
    also holds refl refl tt tt tt
    also holds refl refl tt tt (_, _, refl, refl)
    also holds refl refl tt tt (_, _, refl, refl)
    also holds refl refl tt tt (_, _, refl, refl)
    also holds refl refl tt tt (_, _, refl, refl)
    also holds refl refl (refl, refl) ((refl, refl), ((refl, refl), tt)) tt
    also holds refl refl tt tt tt
    also end)

pub options_read : Options
options_read = record {
  none_set = (refl, refl);
  counted_set = (refl, refl);
  version_set = (refl, refl);
  both_set = (refl, refl);
  another_set = (refl, refl);
  all_set = (refl, refl);
}
