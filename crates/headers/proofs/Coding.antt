-- Decoding and encoding of header text: laws. Assumes nothing.
--     decode_escape, decode_plain    one step of decoding
--     decode_means                   of raw text, decoding gives what its characters stand for
--     decode_encode, encode_decode   each undoes the other
--     decode_short                   decoded text is never longer than raw
--     encode_long, encode_twice      encoded text is never shorter, and at most twice as long
--     encode_append, encode_part     two texts are encoded one after the other
--     decode_front, decode_stretch   octets without a backslash are decoded as themselves
--     kept_..                        the same where so many octets are known to have none
--     decode_off, encode_off         without escapes text is itself
--     encode_same                    so is text that is as long encoded
--     encode_bare, encode_tail       so are octets that no escape concerns, also at the end of a text
--     letter_last                    the last octet that an octet has encoded
--     encode_text                    what can be written is raw text when encoded
--     decode_name                    a raw name without escapes, as content-length, is its decoded one, and only it is
use mathlib.Core.Path.{◌≡◌, refl, sym, ◌∙◌, ap, ap₂, subst}
use mathlib.Core.Bool.{Bool, true, false, cond, ◌&&◌, ◌||◌, not}
use mathlib.Core.List.{List, [], ◌∷◌, ◌++◌, append_assoc, append-nil}
use mathlib.Core.Logic.{◌⊎◌, inl, inr, ⊎_elim}
use Prim.Native.Nat.{ℕ, suc, ◌+◌, ◌-◌, ◌*◌, ◌/◌, ◌≤◌, ◌<◌}
use native.Mathlib.Omega.{arith}
use native.Mathlib.Numerals.{add-one}
use lib.ListN.{length, take, drop, get_or, length-append, length-drop, drop_of_length-le, take-append-drop}
use lib.Seq.{drop-cons, drop-drop, take_all, length-take-le}
use lib.Dec.{eqb, leb, ltb}
use borrow.Author.Tests.{eqb-true, ne_eqb, ltb-false, not-true, leb-true, le-leb}
use Rattle.headers.specs.Rows.{every, any}
use Rattle.headers.specs.Stretches.{not_back, Stretch, kept}
use Rattle.headers.specs.Text.{Escape, common, of_13, divides, stops, escape_table, is_letter, opens, plain, missing, tail, second, ascii, itself, escape, wide, Text, none, more, Part, fresh, back, led, tails, left, of_utf8, Into, bad, utf8_reads, then_reads, reads_whole, is_text_from, is_text, is_utf8_from, is_utf8}
use Rattle.headers.specs.Escapes.{other_half, meaning, letter_of, means, at_escape, width, octet_at, decode, escaped, encode_octet, encode, writable}
use Rattle.headers.specs.Lines.{content_length}
use Rattle.headers.specs.declared.text.Style.{Style}
use Rattle.headers.specs.declared.text.Field.{Field}
use Rattle.headers.specs.declared.text.Field.TheVariants.{Name, Value}
use Rattle.headers.proofs.Rows.{cond_case, and_left, and_right, and_no, and_yes, and_false, or_no, or_false_left, or_false_right, refuted, every_drop}
use Rattle.headers.proofs.Reading.{styled, each_half, missing_high, second_high, tail_high, letter_ascii, high_text, text_is, is_text_text}

-- ---- the table of escapes: each letter is that of its octet, and each octet that of its letter

letter_back : (s : Style) (x : ℕ) → is_letter s x ≡ true → letter_of s (meaning s x) ≡ x
letter_back s x h =
    each_half (λ k. k.letter) (λ s y. letter_of s (meaning s y) ≡ y) (λ e. (refl, (refl, (refl, (refl, tt))))) (λ e. (refl, (refl, (refl, tt)))) s x h

letter_escaped : (s : Style) (x : ℕ) → s.escapes ≡ true → is_letter s x ≡ true → escaped s (meaning s x) ≡ true
letter_escaped s x on h =
    each_half (λ k. k.letter) (λ s y. s.escapes ≡ true → escaped s (meaning s y) ≡ true)
    (λ e. (λ t. rw t, (λ t. rw t, (λ t. rw t, (λ t. rw t, tt))))) (λ e. (λ t. rw t, (λ t. rw t, (λ t. rw t, tt)))) s x h on

octet_letter : (s : Style) (x : ℕ) → escaped s x ≡ true → is_letter s (letter_of s x) ≡ true
octet_letter s x h =
    each_half (λ k. k.octet) (λ s y. is_letter s (letter_of s y) ≡ true)
    (λ e. (refl, (refl, (refl, (refl, tt))))) (λ e. (refl, (refl, (refl, tt)))) s x (and_right s.escapes _ h)

octet_back : (s : Style) (x : ℕ) → escaped s x ≡ true → meaning s (letter_of s x) ≡ x
octet_back s x h =
    each_half (λ k. k.octet) (λ s y. meaning s (letter_of s y) ≡ y)
    (λ e. (refl, (refl, (refl, (refl, tt))))) (λ e. (refl, (refl, (refl, tt)))) s x (and_right s.escapes _ h)

divides_on : (s : Style) (f : Field) → s.escapes ≡ true → divides s f ≡ true
divides_on s Name e = refl
divides_on s Value e = e

-- an escaped octet stands raw in no field, or begins an escape
octet_not_plain : (s : Style) (f : Field) (x : ℕ) → escaped s x ≡ true → plain s f x ≡ false
octet_not_plain s f x h =
    each_half (λ k. k.octet) (λ s y. s.escapes ≡ true → plain s f y ≡ false)
    (λ e. (λ t. refl, (λ t. refl, (λ t. rw (divides_on (styled e true) f t), (λ t. rw t, tt)))))
    (λ e. (λ t. refl, (λ t. rw (divides_on (styled e false) f t), (λ t. rw t, tt)))) s x (and_right s.escapes _ h) (and_left s.escapes _ h)

-- what begins an escape is escaped
opens_escaped : (s : Style) (x : ℕ) → opens s x ≡ true → escaped s x ≡ true
opens_escaped s x h =
    let e : x ≡ 92 = eqb-true x 92 (and_right s.escapes (eqb x 92) h) in
    rw (and_left s.escapes (eqb x 92) h, e) (by s.crlf)
  where
    by : (c : Bool) → any (λ k. eqb 92 k.octet) (escape_table (styled true c)) ≡ true
    by true = refl
    by false = refl

contrary : (a b : Bool) → (a ≡ true → b ≡ true) → b ≡ false → a ≡ false
contrary true b h k = let z : ◌≡◌ {A = ℕ} 0 1 = cc (h refl) in absurd (omega arith)
contrary false b h k = refl

-- an octet that no escape stands for has itself for its letter
other_none : (key to : Escape → ℕ) (x : ℕ) (es : List Escape) → any (λ e. eqb x (key e)) es ≡ false → other_half key to x es ≡ x
other_none key to x [] h = refl
other_none key to x (e ∷ es) h = rw (or_false_left (eqb x (key e)) _ h) (other_none key to x es (or_false_right (eqb x (key e)) _ h))

-- the other half, where the escape of 13 is picked by a test
pub half_is :
    (key to : Escape → ℕ) (s : Style) (x : ℕ)
    → other_half key to x (escape_table s) ≡ cond (eqb x (key of_13) && s.crlf) (to of_13) (other_half key to x common)
half_is key to s x = by s.crlf
  where
    by : (c : Bool)
        → other_half key to x (escape_table (styled s.escapes c)) ≡ cond (eqb x (key of_13) && c) (to of_13) (other_half key to x common)
    by true = rw (and_yes (eqb x (key of_13)))
    by false = rw (and_no (eqb x (key of_13)))

-- which octets are escaped, by comparisons: 10 is compared again in the place of 13 where that is not
pub escaped_by :
    (s : Style) (x : ℕ) → s.escapes && (eqb x (cond s.crlf 13 10) || (eqb x 10 || (eqb x 58 || eqb x 92))) ≡ escaped s x
escaped_by s x = ap (s.escapes &&◌) (by s.crlf)
  where
    again : (a b : Bool) → a || (a || b) ≡ a || b
    again true b = refl
    again false b = refl

    by : (c : Bool)
        → eqb x (cond c 13 10) || (eqb x 10 || (eqb x 58 || eqb x 92)) ≡ any (λ k. eqb x k.octet) (escape_table (styled s.escapes c))
    by true = rw (or_no (eqb x 92))
    by false = rw (or_no (eqb x 92)) (again (eqb x 10) (eqb x 58 || eqb x 92))

pub letter_last : (s : Style) (x : ℕ) → s.escapes ≡ true → letter_of s x ≡ cond (escaped s x) (letter_of s x) x
letter_last s x on =
    cond_case (λ u. letter_of s x ≡ u) (escaped s x) (λ h. refl)
    (λ h. other_none (λ e. e.octet) (λ e. e.letter) x (escape_table s) (and_false s.escapes _ h on))

-- ---- one step of decoding

escape_long : (s : Style) (xs : List ℕ) → at_escape s xs ≡ true → 2 ≤ length xs
escape_long s [] h = absurd (let z : ◌≡◌ {A = ℕ} 0 1 = cc in omega arith)
escape_long s (x ∷ []) h = absurd (let z : ◌≡◌ {A = ℕ} 0 1 = cc in omega arith)
escape_long s (x ∷ y ∷ ys) h = omega arith

pub decode_escape : (s : Style) (xs : List ℕ) → at_escape s xs ≡ true → decode s xs ≡ meaning s (get_or xs 1 0) ∷ decode s (drop 2 xs)
unfolding decode
decode_escape s [] h = absurd (let z : ◌≡◌ {A = ℕ} 0 1 = cc in omega arith)
decode_escape s (x ∷ []) h = absurd (let z : ◌≡◌ {A = ℕ} 0 1 = cc in omega arith)
decode_escape s (x ∷ y ∷ ys) h = rw h

pub decode_plain : (s : Style) (xs : List ℕ) → 0 < length xs → at_escape s xs ≡ false → decode s xs ≡ get_or xs 0 0 ∷ decode s (drop 1 xs)
unfolding decode
decode_plain s [] l h = absurd (omega arith)
decode_plain s (x ∷ []) l h = refl
decode_plain s (x ∷ y ∷ ys) l h = rw h

-- an octet that begins no escape stands for itself
no_escape : (s : Style) (x : ℕ) (xs : List ℕ) → opens s x ≡ false → at_escape s (x ∷ xs) ≡ false
no_escape s x [] h = refl
no_escape s x (y ∷ ys) h = rw h

-- an escape at place i
module _ (s : Style) (xs : List ℕ) (i : ℕ) (h : i < length xs) where
  pub escape_room : at_escape s (drop i xs) ≡ true → i + 1 < length xs
  escape_room k = omega (arith, escape_long s (drop i xs) k, length-drop i xs)

-- the same as one law: an octet decoded, and as many raw octets passed as it has
module _ (s : Style) (xs : List ℕ) (i : ℕ) (h : i < length xs) where
  pub decode_step : decode s (drop i xs) ≡ octet_at s (drop i xs) ∷ decode s (drop (i + width s (drop i xs)) xs)
  decode_step = by (at_escape s (drop i xs)) refl
    where
      by : (t : Bool) → at_escape s (drop i xs) ≡ t
          → decode s (drop i xs) ≡ cond t (meaning s (get_or (drop i xs) 1 0)) (get_or (drop i xs) 0 0) ∷ decode s (drop (i + cond t 2 1) xs)
      by true e = decode_escape s (drop i xs) e ∙ ap (λ z. meaning s (get_or (drop i xs) 1 0) ∷ decode s z) (drop-drop 2 i xs)
      by false e =
          decode_plain s (drop i xs) (simp length-drop (omega arith)) e ∙ ap (λ z. get_or (drop i xs) 0 0 ∷ decode s z) (drop-drop 1 i xs)

  pub width_fits : i + width s (drop i xs) ≤ length xs
  width_fits = by (at_escape s (drop i xs)) refl
    where
      by : (t : Bool) → at_escape s (drop i xs) ≡ t → i + cond t 2 1 ≤ length xs
      by true e = omega (arith, escape_long s (drop i xs) e, length-drop i xs)
      by false e = omega arith

pub width_some : (s : Style) (xs : List ℕ) → (1 ≤ width s xs) × (width s xs ≤ 2)
width_some s xs = cond_case (λ w. (1 ≤ w) × (w ≤ 2)) (at_escape s xs) (λ e. omega arith) (λ e. omega arith)

decode_itself : (s : Style) (x : ℕ) (xs : List ℕ) → opens s x ≡ false → decode s (x ∷ xs) ≡ x ∷ decode s xs
decode_itself s x xs h = decode_plain s (x ∷ xs) (omega arith) (no_escape s x xs h)

decode_letter : (s : Style) (y : ℕ) (ys : List ℕ) → s.escapes ≡ true → is_letter s y ≡ true → decode s (92 ∷ y ∷ ys) ≡ meaning s y ∷ decode s ys
decode_letter s y ys e h = decode_escape s (92 ∷ y ∷ ys) (rw (e, h))

-- ---- the laws

-- octets from 128 on, of which characters of more than one octet are, are decoded and encoded as they stand
abbrev high : ℕ → Bool
high x = not (ascii x)

high_false : (x : ℕ) → high x ≡ true → ascii x ≡ false
high_false x h = not-true (ascii x) h

wide_high : (x y : ℕ) (t : List ℕ) → missing x ≡ suc (length t) → second x y ≡ true → every tail t ≡ true → every high (x ∷ y ∷ t) ≡ true
wide_high x y t e h k = rw (missing_high x (omega arith), second_high y' y h) (each t k)
  where
    y' : ℕ
    y' = x

    each : (t : List ℕ) → every tail t ≡ true → every high t ≡ true
    each [] k = refl
    each (z ∷ t) k = rw (tail_high z (and_left (tail z) (every tail t) k)) (each t (and_right (tail z) (every tail t) k))

unescaped_high : (s : Style) (x : ℕ) → ascii x ≡ false → escaped s x ≡ false
unescaped_high s x h =
    let l : 128 ≤ x = ltb-false x 128 h in
    by s.escapes s.crlf l
  where
    by : (e c : Bool) → 128 ≤ x → escaped (styled e c) x ≡ false
    by false c l = refl
    by true true l = simp (ne_eqb x 13 (omega arith), ne_eqb x 10 (omega arith), ne_eqb x 58 (omega arith), ne_eqb x 92 (omega arith))
    by true false l = simp (ne_eqb x 10 (omega arith), ne_eqb x 58 (omega arith), ne_eqb x 92 (omega arith))

decode_high : (s : Style) (u xs : List ℕ) → every high u ≡ true → decode s (u ++ xs) ≡ u ++ decode s xs
decode_high s [] xs h = refl
decode_high s (x ∷ u) xs h =
    decode_itself s x (u ++ xs) (high_text s Name x (high_false x (and_left (high x) (every high u) h))).1 ∙ ap (x ∷◌) (decode_high s u xs (and_right (high x) (every high u) h))

encode_high : (s : Style) (u xs : List ℕ) → every high u ≡ true → encode s (u ++ xs) ≡ u ++ encode s xs
unfolding encode
encode_high s [] xs h = refl
encode_high s (x ∷ u) xs h =
    rw (unescaped_high s x (high_false x (and_left (high x) (every high u) h))) (ap (x ∷◌) (encode_high s u xs (and_right (high x) (every high u) h)))

pub decode_means : {s : Style} {f : Field} {xs : List ℕ} (t : Text s f xs) → decode s xs ≡ means t
unfolding decode
decode_means none = refl
decode_means {s} {f} (more {xs = xs} (wide {x = x} {y = y} {t = w} e h k) t) =
    decode_high s (x ∷ y ∷ w) xs (wide_high x y w e h k) ∙ ap ((x ∷ y ∷ w) ++◌) (decode_means t)
decode_means {s} {f} (more {xs = xs} (itself {x = x} h a) t) =
    decode_itself s x xs (not-true (opens s x) (and_right (not (stops s f x)) _ h)) ∙ ap (x ∷◌) (decode_means t)
decode_means {s} (more {xs = xs} (escape {x = y} e h) t) = decode_letter s y xs e h ∙ ap (meaning s y ∷◌) (decode_means t)

pub decode_encode : (s : Style) (xs : List ℕ) → decode s (encode s xs) ≡ xs
unfolding decode encode
decode_encode s [] = refl
decode_encode s (x ∷ xs) =
    cond_case (λ u. decode s (u ++ encode s xs) ≡ x ∷ xs) (escaped s x)
    (λ h. decode_letter s (letter_of s x) (encode s xs) (and_left s.escapes _ h) (octet_letter s x h) ∙ ap₂ (◌∷◌) (octet_back s x h) (decode_encode s xs))
    (λ h. decode_itself s x (encode s xs) (contrary (opens s x) (escaped s x) (opens_escaped s x) h) ∙ ap (x ∷◌) (decode_encode s xs))

encode_means : {s : Style} {f : Field} {xs : List ℕ} (t : Text s f xs) → encode s (means t) ≡ xs
unfolding encode
encode_means none = refl
encode_means {s} {f} (more {xs = xs} (wide {x = x} {y = y} {t = w} e h k) t) =
    encode_high s (x ∷ y ∷ w) (means t) (wide_high x y w e h k) ∙ ap ((x ∷ y ∷ w) ++◌) (encode_means t)
encode_means {s} {f} (more {xs = xs} (itself {x = x} h a) t) = rw (unescaped) (ap (x ∷◌) (encode_means t))
  where
    unescaped : escaped s x ≡ false
    unescaped = contrary (escaped s x) (not (plain s f x)) (λ k. rw (octet_not_plain s f x k)) (rw h)
encode_means {s} (more {xs = xs} (escape {x = y} e h) t) = rw (letter_escaped s y e h, letter_back s y h) (ap (λ z. 92 ∷ y ∷ z) (encode_means t))

pub encode_decode : {s : Style} {f : Field} {xs : List ℕ} → Text s f xs → encode s (decode s xs) ≡ xs
encode_decode {s} t = ap (encode s) (decode_means t) ∙ encode_means t

pub decode_short : (s : Style) (xs : List ℕ) → length (decode s xs) ≤ length xs
unfolding decode
decode_short s [] = omega arith
decode_short s (x ∷ []) = omega arith
decode_short s (x ∷ y ∷ ys) =
    cond_case (λ u. length u ≤ length (x ∷ y ∷ ys)) (opens s x && is_letter s y) {a = meaning s y ∷ decode s ys} {b = x ∷ decode s (y ∷ ys)}
    (λ h. omega (arith, decode_short s ys)) (λ h. omega (arith, decode_short s (y ∷ ys)))

-- ---- UTF-8: encoding and decoding keep it exactly

-- no backslash is pending
abbrev Settled : Part → Type 0
Settled fresh = Unit {0}
Settled back = ⊥
Settled (led x) = Unit {0}
Settled (tails n) = Unit {0}

settled_left : (n : ℕ) → Settled (left n)
settled_left n = cond_case Settled (eqb n 0) (λ t. tt) (λ t. tt)

ascii_second : (y x : ℕ) → ascii x ≡ true → second y x ≡ false
ascii_second y x a = refuted (second y x) (λ h. let k = second_high y x h in let z : ◌≡◌ {A = ℕ} 0 1 = cc in omega arith)

ascii_tail : (x : ℕ) → ascii x ≡ true → tail x ≡ false
ascii_tail x a = refuted (tail x) (λ h. let k = tail_high x h in let z : ◌≡◌ {A = ℕ} 0 1 = cc in omega arith)

-- an octet below 128 in UTF-8: it is a character, and stands inside none
inside_out : (p : Part) → Settled p → (p ≡ fresh) ⊎ ((x : ℕ) → ascii x ≡ true → utf8_reads p x ≡ bad of_utf8)
inside_out fresh d = inl refl
inside_out back d = absurd d
inside_out (led y) d = inr (λ x a. rw (ascii_second y x a))
inside_out (tails n) d = inr (λ x a. rw (ascii_tail x a))

pub meaning_ascii : (s : Style) (x : ℕ) → is_letter s x ≡ true → ascii (meaning s x) ≡ true
meaning_ascii s x h =
    each_half (λ k. k.letter) (λ s y. ascii (meaning s y) ≡ true) (λ e. (refl, (refl, (refl, (refl, tt))))) (λ e. (refl, (refl, (refl, tt)))) s x h

escaped_ascii : (s : Style) (x : ℕ) → escaped s x ≡ true → ascii x ≡ true
escaped_ascii s x h =
    each_half (λ k. k.octet) (λ s y. ascii y ≡ true)
    (λ e. (refl, (refl, (refl, (refl, tt))))) (λ e. (refl, (refl, (refl, tt)))) s x (and_right s.escapes _ h)

-- what becomes of the rest, where one test of it is the other and w
module _ (w : Bool) (f g : Part → Bool) (h : (q : Part) → Settled q → f q ≡ w && g q) where
  abbrev Spread : Into → Type 0
  Spread i = then_reads i f ≡ w && then_reads i g

  spread : (p : Part) (x : ℕ) → Settled p → Spread (utf8_reads p x)
  spread fresh x d =
      cond_case Spread (ascii x) (λ a. h fresh tt) (λ a. cond_case Spread (ltb 0 (missing x)) (λ m. h (led x) tt) (λ m. sym (and_no w)))
  spread back x d = absurd d
  spread (led y) x d = cond_case Spread (second y x) (λ t. h (left (missing y - 1)) (settled_left (missing y - 1))) (λ t. sym (and_no w))
  spread (tails n) x d = cond_case Spread (tail x) (λ t. h (left (n - 1)) (settled_left (n - 1))) (λ t. sym (and_no w))

-- an octet below 128
module _ (x : ℕ) (xs : List ℕ) (a : ascii x ≡ true) where
  ascii_on : is_utf8_from fresh (x ∷ xs) ≡ is_utf8_from fresh xs
  unfolding reads_whole
  ascii_on = rw a

  ascii_off : (p : Part) → utf8_reads p x ≡ bad of_utf8 → is_utf8_from p (x ∷ xs) ≡ false
  unfolding reads_whole
  ascii_off p e = rw e

-- of any octets: decoded they are UTF-8 exactly if they are
decode_utf8_from : (s : Style) (xs : List ℕ) (p : Part) → Settled p → is_utf8_from p (decode s xs) ≡ is_utf8_from p xs
unfolding decode reads_whole
decode_utf8_from s [] p d = refl
decode_utf8_from s (x ∷ []) p d = refl
decode_utf8_from s (x ∷ y ∷ ys) p d =
    cond_case (λ u. is_utf8_from p u ≡ is_utf8_from p (x ∷ y ∷ ys)) (opens s x && is_letter s y) {a = meaning s y ∷ decode s ys} {b = x ∷ decode s (y ∷ ys)}
    (λ h.
    let l = and_right (opens s x) (is_letter s y) h in
    let ax : ascii x ≡ true = rw (eqb-true x 92 (and_right s.escapes (eqb x 92) (and_left (opens s x) (is_letter s y) h))) in
    by p d ax (letter_ascii s y l) (meaning_ascii s y l) (decode_utf8_from s ys fresh tt))
    (λ h. spread true (λ q. is_utf8_from q (decode s (y ∷ ys))) (λ q. is_utf8_from q (y ∷ ys)) (λ q e. decode_utf8_from s (y ∷ ys) q e) p x d)
  where
    by : (p : Part) → Settled p → ascii x ≡ true → ascii y ≡ true → ascii (meaning s y) ≡ true → is_utf8_from fresh (decode s ys) ≡ is_utf8_from fresh ys
        → is_utf8_from p (meaning s y ∷ decode s ys) ≡ is_utf8_from p (x ∷ y ∷ ys)
    by p d ax ay am ih =
        ⊎_elim
        (λ e. subst (λ p. is_utf8_from p (meaning s y ∷ decode s ys) ≡ is_utf8_from p (x ∷ y ∷ ys)) (sym e)
        (ascii_on (meaning s y) (decode s ys) am ∙ ih ∙ sym (ascii_on x (y ∷ ys) ax ∙ ascii_on y ys ay)))
        (λ off. ascii_off (meaning s y) (decode s ys) am p (off (meaning s y) am) ∙ sym (ascii_off x (y ∷ ys) ax p (off x ax)))
        (inside_out p d)

pub decode_utf8 : (s : Style) (xs : List ℕ) → is_utf8 (decode s xs) ≡ is_utf8 xs
decode_utf8 s xs = decode_utf8_from s xs fresh tt

-- encoded octets are raw text exactly if each can be written and they are UTF-8
encode_is_from : (s : Style) (f : Field) (xs : List ℕ) (p : Part) → Settled p → is_text_from s f p (encode s xs) ≡ every (writable s f) xs && is_utf8_from p xs
unfolding encode reads_whole
encode_is_from s f [] p d = refl
encode_is_from s f (x ∷ xs) p d =
    cond_case (λ u. is_text_from s f p (u ++ encode s xs) ≡ every (writable s f) (x ∷ xs) && is_utf8_from p (x ∷ xs)) (escaped s x) {a = 92 ∷ letter_of s x ∷ []} {b = x ∷ []}
    (λ h. turned p d h (encode_is_from s f xs fresh tt)) (λ h. itself_on p d h (encode_is_from s f xs))
  where
    on : s.escapes ≡ true → is_letter s (letter_of s x) ≡ true → is_text_from s f fresh (92 ∷ letter_of s x ∷ encode s xs) ≡ is_text_from s f fresh (encode s xs)
    on e l = simp (e, l)

    turned : (p : Part) → Settled p → escaped s x ≡ true → is_text_from s f fresh (encode s xs) ≡ every (writable s f) xs && is_utf8_from fresh xs
        → is_text_from s f p (92 ∷ letter_of s x ∷ encode s xs) ≡ (writable s f x && every (writable s f) xs) && is_utf8_from p (x ∷ xs)
    turned fresh d h ih =
        on (and_left s.escapes _ h) (octet_letter s x h) ∙ ih ∙ rw (h, ascii_on x xs (escaped_ascii s x h))
    turned back d h ih = absurd d
    turned (led y) d h ih = rw (ascii_second y 92 refl, ascii_second y x (escaped_ascii s x h)) (sym (and_no (writable s f x && every (writable s f) xs)))
    turned (tails n) d h ih = rw (ascii_tail x (escaped_ascii s x h)) (sym (and_no (writable s f x && every (writable s f) xs)))

    W : Bool
    W = every (writable s f) xs

    inside : (p : Part) → Settled p → (ascii x ≡ true → utf8_reads p x ≡ bad of_utf8) → escaped s x ≡ false
        → ((q : Part) → Settled q → is_text_from s f q (encode s xs) ≡ W && is_utf8_from q xs) → (a : Bool) → ascii x ≡ a
        → then_reads (utf8_reads p x) (λ q. is_text_from s f q (encode s xs)) ≡ (writable s f x && W) && then_reads (utf8_reads p x) (λ q. is_utf8_from q xs)
    inside p d off h ih true a = rw (off a) (sym (and_no (writable s f x && W)))
    inside p d off h ih false a = rw (h, (high_text s f x a).0) (spread W (λ q. is_text_from s f q (encode s xs)) (λ q. is_utf8_from q xs) ih p x d)

    shut : escaped s x ≡ false → opens s x ≡ false
    shut h = contrary (opens s x) (escaped s x) (opens_escaped s x) h

    begun : (t a : Bool) → stops s f x ≡ t → ascii x ≡ a → escaped s x ≡ false
        → ((q : Part) → Settled q → is_text_from s f q (encode s xs) ≡ W && is_utf8_from q xs)
        → is_text_from s f fresh (x ∷ encode s xs) ≡ (writable s f x && W) && is_utf8_from fresh (x ∷ xs)
    begun true a e k h ih = rw (e, h)
    begun false true e k h ih = rw (e, shut h, k, h) (ih fresh tt)
    begun false false e k h ih = rw (e, shut h, h) (spread W (λ q. is_text_from s f q (encode s xs)) (λ q. is_utf8_from q xs) ih fresh x tt)

    itself_on : (p : Part) → Settled p → escaped s x ≡ false → ((q : Part) → Settled q → is_text_from s f q (encode s xs) ≡ W && is_utf8_from q xs)
        → is_text_from s f p (x ∷ encode s xs) ≡ (writable s f x && W) && is_utf8_from p (x ∷ xs)
    itself_on fresh d h ih = begun (stops s f x) (ascii x) refl refl h ih
    itself_on back d h ih = absurd d
    itself_on (led y) d h ih = inside (led y) d (λ a. rw (ascii_second y x a)) h ih (ascii x) refl
    itself_on (tails n) d h ih = inside (tails n) d (λ a. rw (ascii_tail x a)) h ih (ascii x) refl

pub encode_is : (s : Style) (f : Field) (xs : List ℕ) → is_text s f (encode s xs) ≡ every (writable s f) xs && is_utf8 xs
encode_is s f xs = encode_is_from s f xs fresh tt

pub encode_text : (s : Style) (f : Field) (xs : List ℕ) → every (writable s f) xs && is_utf8 xs ≡ true → Text s f (encode s xs)
encode_text s f xs h = is_text_text s f (encode s xs) (encode_is s f xs ∙ h)

-- what text stands for can be written
pub text_writable : {s : Style} {f : Field} {xs : List ℕ} → Text s f xs → every (writable s f) (decode s xs) && is_utf8 (decode s xs) ≡ true
text_writable {s} {f} {xs} t = sym (encode_is s f (decode s xs)) ∙ ap (is_text s f) (encode_decode t) ∙ text_is s f xs t

-- one octet of encoding
pub encode_step : (s : Style) (xs : List ℕ) (i : ℕ) → i < length xs → encode s (drop i xs) ≡ encode_octet s (get_or xs i 0) ++ encode s (drop (i + 1) xs)
unfolding encode
encode_step s xs i h = rw (add-one, drop-cons xs i 0)

pub encode_end : (s : Style) (xs : List ℕ) (i : ℕ) → length xs ≤ i → encode s (drop i xs) ≡ []
unfolding encode
encode_end s xs i h = rw (drop_of_length-le xs h)

pub decode_end : (s : Style) (xs : List ℕ) (i : ℕ) → length xs ≤ i → decode s (drop i xs) ≡ []
unfolding decode
decode_end s xs i h = rw (drop_of_length-le xs h)

pub encoded_some : (s : Style) (x : ℕ) → (1 ≤ length (encode_octet s x)) × (length (encode_octet s x) ≤ 2)
encoded_some s x =
    cond_case (λ u. (1 ≤ length u) × (length u ≤ 2)) (escaped s x) {a = 92 ∷ letter_of s x ∷ []} {b = x ∷ []} (λ h. omega arith) (λ h. omega arith)

pub encode_twice : (s : Style) (xs : List ℕ) → length (encode s xs) ≤ 2 * length xs
unfolding encode
encode_twice s [] = omega arith
encode_twice s (x ∷ xs) = simp length-append (omega (arith, encoded_some s x, encode_twice s xs))

pub encode_long : (s : Style) (xs : List ℕ) → length xs ≤ length (encode s xs)
unfolding encode
encode_long s [] = omega arith
encode_long s (x ∷ xs) = simp length-append (omega (arith, encoded_some s x, encode_long s xs))

pub encode_append : (s : Style) (xs ys : List ℕ) → encode s (xs ++ ys) ≡ encode s xs ++ encode s ys
unfolding encode
encode_append s [] ys = refl
encode_append s (x ∷ xs) ys = rw (encode_append s xs ys) (sym (append_assoc (encode_octet s x) (encode s xs) (encode s ys)))

-- the part from i to e, and what is after it
pub encode_part : (s : Style) (xs : List ℕ) (i e : ℕ) → i ≤ e → encode s (drop i xs) ≡ encode s (take (e - i) (drop i xs)) ++ encode s (drop e xs)
encode_part s xs i e h =
    let on : i + (e - i) ≡ e = omega arith in
    ap (encode s) (sym (take-append-drop (e - i) (drop i xs))) ∙ encode_append s (take (e - i) (drop i xs)) (drop (e - i) (drop i xs))
    ∙ ap (λ z. encode s (take (e - i) (drop i xs)) ++ encode s z) (drop-drop (e - i) i xs ∙ ap (λ k. drop k xs) on)

-- octets without a backslash stand for themselves, and what follows them is decoded by itself
pub decode_front : (s : Style) (xs ys : List ℕ) → every not_back xs ≡ true → decode s (xs ++ ys) ≡ xs ++ decode s ys
decode_front s [] ys h = refl
decode_front s (x ∷ xs) ys h =
    let shut : opens s x ≡ false = rw (not-true (eqb x 92) (and_left (not_back x) (every not_back xs) h)) (and_no s.escapes) in
    decode_itself s x (xs ++ ys) shut ∙ ap (x ∷◌) (decode_front s xs ys (and_right (not_back x) (every not_back xs) h))

-- the stretch of n octets at place i
pub decode_stretch : (s : Style) (xs : List ℕ) (i n : ℕ) → every not_back (take n (drop i xs)) ≡ true
    → decode s (drop i xs) ≡ take n (drop i xs) ++ decode s (drop (i + n) xs)
decode_stretch s xs i n h =
    ap (decode s) (sym (take-append-drop n (drop i xs))) ∙ decode_front s (take n (drop i xs)) (drop n (drop i xs)) h
    ∙ ap (λ z. take n (drop i xs) ++ decode s z) (drop-drop n i xs)

-- the same of the stretch in the rest of a row, which ends at place i + n
pub decode_on : (s : Style) (xs : List ℕ) (i n : ℕ) → i ≤ length xs → Stretch (take (length xs - i) (drop i xs)) n
    → (i + n ≤ length xs) × (length (take (i + n - i) (drop i xs)) ≡ i + n - i) × (decode s (drop i xs) ≡ take (i + n - i) (drop i xs) ++ decode s (drop (i + n) xs))
decode_on s xs i n h so =
    let all : take (length xs - i) (drop i xs) ≡ drop i xs = take_all (length xs - i) (drop i xs) (simp length-drop (omega arith)) in
    let at : Stretch (drop i xs) n = subst (λ z. Stretch z n) all so in
    let fits : n ≤ length xs - i = omega (arith, at.within, length-drop i xs) in
    let wide : n ≡ i + n - i = omega arith in (
      omega (arith, fits),
      length-take-le (i + n - i) (drop i xs) (omega (arith, fits, length-drop i xs)),
      decode_stretch s xs i n at.clear ∙ ap (λ k. take k (drop i xs) ++ decode s (drop (i + n) xs)) wide,
    )

-- texts whose first k octets are taken as they are
module _ (s : Style) (k : ℕ) (xs : List ℕ) where
  pub kept_clear : every not_back (take k xs) ≡ true → kept k s xs ≡ decode s xs
  kept_clear h = sym (decode_front s (take k xs) (drop k xs) h) ∙ ap (decode s) (take-append-drop k xs)

  pub kept_all : length xs ≤ k → kept k s xs ≡ xs
  unfolding decode
  kept_all h = ap₂ (λ x y. x ++ decode s y) (take_all k xs h) (drop_of_length-le xs {i = k} h) ∙ append-nil xs

  pub kept_long : length (kept k s xs) ≡ length (take k xs) + length (decode s (drop k xs))
  kept_long = length-append (take k xs) (decode s (drop k xs))

  pub kept_short : length (kept k s xs) ≤ length xs
  kept_short = omega (arith, kept_long, decode_short s (drop k xs), ap length (take-append-drop k xs), length-append (take k xs) (drop k xs))

-- where there are no escapes, text is itself
pub decode_off : (s : Style) → s.escapes ≡ false → (xs : List ℕ) → decode s xs ≡ xs
unfolding decode
decode_off s e [] = refl
decode_off s e (x ∷ xs) = decode_itself s x xs (rw e) ∙ ap (x ∷◌) (decode_off s e xs)

pub encode_off : (s : Style) → s.escapes ≡ false → (xs : List ℕ) → encode s xs ≡ xs
unfolding encode
encode_off s e [] = refl
encode_off s e (x ∷ xs) =
    let shut : escaped s x ≡ false = rw e in
    ap (λ t. cond t (92 ∷ letter_of s x ∷ []) (x ∷ []) ++ encode s xs) shut ∙ ap (x ∷◌) (encode_off s e xs)

-- no octet is escaped where the encoded text is as long
pub encode_same : (s : Style) (xs : List ℕ) → length (encode s xs) ≡ length xs → encode s xs ≡ xs
unfolding encode
encode_same s [] h = refl
encode_same s (x ∷ xs) h =
    cond_case (λ u. length (u ++ encode s xs) ≡ length (x ∷ xs) → u ++ encode s xs ≡ x ∷ xs) (escaped s x)
    (λ e k. absurd (omega (arith, k, encode_long s xs)))
    (λ e k. ap (x ∷◌) (encode_same s xs (omega (arith, k)))) h

-- two texts that fit a half fit encoded
module _ (s : Style) (xs ys : List ℕ) (most : ℕ) where
  pub encode_fits : leb (length xs + length ys) (most / 2) ≡ true → leb (length (encode s xs) + length (encode s ys)) most ≡ true
  encode_fits h = le-leb (length (encode s xs) + length (encode s ys)) most (omega (arith, leb-true, encode_twice s xs, encode_twice s ys))

-- the first i octets have n encoded: with those that are left, all that the whole has
abbrev pub Counted : Style → List ℕ → ℕ → ℕ → Type 0
Counted s xs i n = (n ≤ 2 * i) × (n + length (encode s (drop i xs)) ≡ length (encode s xs))

module _ (s : Style) (xs : List ℕ) where
  pub count_none : Counted s xs 0 0
  count_none = (omega arith, omega arith)

  pub count_more : (i n w : ℕ) → i < length xs → w ≡ length (encode_octet s (get_or xs i 0)) → Counted s xs i n → Counted s xs (i + 1) (n + w)
  count_more i n w h e (few, whole) =
      (omega (arith, encoded_some s (get_or xs i 0)), omega (arith, simp length-append at (ap length (encode_step s xs i h))))

  pub count_all : (i n : ℕ) → length xs ≤ i → Counted s xs i n → n ≡ length (encode s xs)
  count_all i n h (few, whole) = omega (arith, ap length (encode_end s xs i h))

-- octets that no escape concerns
abbrev pub bare : Style → ℕ → Bool
bare s x = not (escaped s x)

pub encode_bare : (s : Style) (xs : List ℕ) → every (bare s) xs ≡ true → encode s xs ≡ xs
unfolding encode
encode_bare s [] h = refl
encode_bare s (x ∷ xs) h =
    rw (not-true (escaped s x) (and_left (bare s x) _ h)) (ap (x ∷◌) (encode_bare s xs (and_right (bare s x) _ h)))

-- a text whose octets from b on are such, where n octets are written of those before i
pub encode_tail : (s : Style) (xs : List ℕ) (b i n : ℕ) → b ≤ i → i ≤ length xs → every (bare s) (drop b xs) ≡ true
    → n + length (encode s (drop i xs)) ≡ length (encode s xs)
    → (encode s xs ≡ encode s (take b xs) ++ drop b xs) × (n ≡ length (encode s (take b xs)) + (i - b))
encode_tail s xs b i n bi ix h e =
    let split : encode s xs ≡ encode s (take b xs) ++ drop b xs =
    ap (encode s) (sym (take-append-drop b xs)) ∙ encode_append s (take b xs) (drop b xs) ∙ ap (encode s (take b xs) ++◌) (encode_bare s (drop b xs) h) in
    let on : b + (i - b) ≡ i = omega arith in
    let left : drop (i - b) (drop b xs) ≡ drop i xs = drop-drop (i - b) b xs ∙ ap (λ k. drop k xs) on in
    let rest : encode s (drop i xs) ≡ drop i xs =
    encode_bare s (drop i xs) (subst (λ z. every (bare s) z ≡ true) left (every_drop (bare s) (i - b) (drop b xs) h)) in
    let long : length (encode s xs) ≡ length (encode s (take b xs)) + length (drop b xs) =
    ap length split ∙ length-append (encode s (take b xs)) (drop b xs) in
    (split, omega (arith, e, long, ap length rest, length-drop i xs, length-drop b xs))

pub decode_name : {s : Style} {f : Field} {raw : List ℕ} (name : List ℕ) → every (bare s) name ≡ true → Text s f raw → decode s raw ≡ name → raw ≡ name
decode_name {s} name b t e = sym (encode_decode t) ∙ ap (encode s) e ∙ encode_bare s name b

pub decode_bare : (s : Style) (name : List ℕ) → every (bare s) name ≡ true → decode s name ≡ name
decode_bare s name b = rw (encode_bare s name b) at (decode_encode s name)

pub content_length_bare : (s : Style) → every (bare s) content_length ≡ true
content_length_bare s = by s.escapes s.crlf
  where
    by : (e c : Bool) → every (bare (styled e c)) content_length ≡ true
    by true true = refl
    by true false = refl
    by false true = refl
    by false false = refl
