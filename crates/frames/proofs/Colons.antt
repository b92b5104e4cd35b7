-- Colons in the values of CONNECT and CONNECTED (document 02, C-12). Assumes nothing.
--     no_second_colon    octets that begin with the first line of such a frame are never refused with 8
use mathlib.Core.Path.{◌≡◌, refl, sym, ◌∙◌, ap, subst}
use mathlib.Core.Logic.{◌≢◌}
use mathlib.Core.Bool.{Bool, true, false, ◌||◌, not}
use mathlib.Core.List.{List, [], ◌∷◌, ◌++◌, append_assoc}
use Prim.Native.Nat.{ℕ, ◌<◌}
use native.Mathlib.Omega.{arith}
use lib.Dec.{eqb, leb}
use borrow.Author.Tests.{leb-true}
use Rattle.headers.specs.Rows.{every, same}
use Rattle.headers.proofs.Rows.{and_left, and_right}
use Rattle.frames.specs.Grammar.{Command, CONNECT, CONNECTED, word, end, escaping, Head, head, lines}
use Rattle.frames.specs.declared.version.Version.{Version}
use Rattle.frames.specs.Replies.{Invalid}
use Rattle.frames.specs.Parsing.{parsed}
use Rattle.frames.specs.Open.{Open, start, heart_beat_13, command, command_13, begin, name, value, line_13, blank_13, body, so_far}
use Rattle.frames.specs.Refusals.{second_colon, fits, numbered}
use Rattle.frames.proofs.EachCommand.{each_test, each_same}
use Rattle.frames.proofs.Table.{refused_at, first_reason, same_reason}

-- letters up to the first octet that is none are told apart by it
letters_once : (u v : List ℕ) (y z : ℕ) (a b : List ℕ) → every (leb 65) u ≡ true → every (leb 65) v ≡ true → y < 65 → z < 65
    → u ++ (y ∷ a) ≡ v ++ (z ∷ b) → u ≡ v
letters_once [] [] y z a b h k p q e = refl
letters_once [] (x ∷ v) y z a b h k p q e = let s : y ≡ x = cc in absurd (omega (arith, leb-true 65 x (and_left (leb 65 x) (every (leb 65) v) k)))
letters_once (x ∷ u) [] y z a b h k p q e = let s : x ≡ z = cc in absurd (omega (arith, leb-true 65 x (and_left (leb 65 x) (every (leb 65) u) h)))
letters_once (x ∷ u) (w ∷ v) y z a b h k p q e =
    let s : x ≡ w = cc in
    let t : u ++ (y ∷ a) ≡ v ++ (z ∷ b) = cc in
    ap (◌∷ u) s ∙ ap (w ∷◌) (letters_once u v y z a b (and_right (leb 65 x) (every (leb 65) u) h) (and_right (leb 65 w) (every (leb 65) v) k) p q t)

word_letters : (c : Command) → every (leb 65) (word c) ≡ true
word_letters = each_test (λ c. every (leb 65) (word c)) refl

-- a command's word is that of its line
line_word : (c d : Command) (e f : Bool) (a b : List ℕ) → word c ++ (end e ++ a) ≡ word d ++ (end f ++ b) → word c ≡ word d
line_word c d true true a b q = letters_once (word c) (word d) 13 13 (10 ∷ a) (10 ∷ b) (word_letters c) (word_letters d) (omega arith) (omega arith) q
line_word c d true false a b q = letters_once (word c) (word d) 13 10 (10 ∷ a) b (word_letters c) (word_letters d) (omega arith) (omega arith) q
line_word c d false true a b q = letters_once (word c) (word d) 10 13 a (10 ∷ b) (word_letters c) (word_letters d) (omega arith) (omega arith) q
line_word c d false false a b q = letters_once (word c) (word d) 10 10 a b (word_letters c) (word_letters d) (omega arith) (omega arith) q

-- whether a command escapes, by its word
abbrev by_word : List ℕ → Bool
by_word w = not (same w (word CONNECT) || same w (word CONNECTED))

escaping_word : (c : Command) → by_word (word c) ≡ escaping c
escaping_word = each_same (λ c. by_word (word c)) escaping refl

module _ (ver : Version) where
  -- a second colon is refused only where the head's command escapes
  colon_in : (s : Open) (x : ℕ) → fits ver s x second_colon ≡ true → (h : Head) × (rest : List ℕ) × (so_far s ≡ head h ++ rest) × (escaping h.command ≡ true)
  unfolding fits
  colon_in start x t = let z : ◌≡◌ {A = ℕ} 0 1 = cc in absurd (omega arith)
  colon_in heart_beat_13 x t = let z : ◌≡◌ {A = ℕ} 0 1 = cc in absurd (omega arith)
  colon_in (command w) x t = let z : ◌≡◌ {A = ℕ} 0 1 = cc in absurd (omega arith)
  colon_in (command_13 c) x t = let z : ◌≡◌ {A = ℕ} 0 1 = cc in absurd (omega arith)
  colon_in (begin h) x t = let z : ◌≡◌ {A = ℕ} 0 1 = cc in absurd (omega arith)
  colon_in (name h n p) x t = let z : ◌≡◌ {A = ℕ} 0 1 = cc in absurd (omega arith)
  colon_in (value h n v p) x t = (h, n ++ (58 ∷ v), refl, and_right (eqb x 58) (escaping h.command) t)
  colon_in (line_13 h n v) x t = let z : ◌≡◌ {A = ℕ} 0 1 = cc in absurd (omega arith)
  colon_in (blank_13 h) x t = let z : ◌≡◌ {A = ℕ} 0 1 = cc in absurd (omega arith)
  colon_in (body h e b) x t = let z : ◌≡◌ {A = ℕ} 0 1 = cc in absurd (omega arith)

  pub no_second_colon : (c : Command) (e : Bool) (after : List ℕ) (k n : ℕ) → escaping c ≡ false → parsed ver (word c ++ (end e ++ after)) ≡ Invalid k n → k ≢ numbered second_colon
  no_second_colon c e after k n plain refused eight =
      let xs = word c ++ (end e ++ after) in
      let (s, x, there, r) = refused_at ver xs k n refused in
      let first = first_reason ver xs k n refused s x there in
      let only : fits ver s x second_colon ≡ true = subst (λ q. fits ver s x q ≡ true) (same_reason first.reason second_colon (first.number ∙ eight)) first.fitting in
      let (h, rest, read, escapes) = colon_in s x only in
      let behind = lines h.entries ++ (rest ++ (x ∷ there.rest)) in
      let split : xs ≡ word h.command ++ (end h.cr ++ behind) = there.split ∙ ap (◌++ (x ∷ there.rest)) read ∙ simp append_assoc in
      let same_word = line_word c h.command e h.cr after behind split in
      let yes : escaping c ≡ true = sym (escaping_word c) ∙ ap by_word same_word ∙ escaping_word h.command ∙ escapes in
      let z : ◌≡◌ {A = ℕ} 0 1 = cc in
      omega arith
