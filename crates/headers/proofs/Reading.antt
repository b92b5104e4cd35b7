-- Reading raw header text: the laws that parsing goes by. Assumes nothing.
--     raw_start, raw_text, raw_step    what a reader has read is text, up to the character at hand
--     raw_finish                       that character can be finished, by as many octets as it owes
--     text_feeds                       text is read to its end, and what is owed is always still to come
--     raw_feeds                        so is what has been read, up to the character at hand
--     digits_text, reads_on            digits are text; what begins a character is no stop
use mathlib.Core.Path.{◌≡◌, refl, sym, ap}
use mathlib.Core.Bool.{Bool, true, false, cond, ◌&&◌, ◌||◌, not}
use mathlib.Core.List.{List, [], ◌∷◌, ◌++◌, append_assoc, append-nil}
use Prim.Native.Nat.{ℕ, suc, ◌+◌, ◌-◌, ◌≤◌, ◌<◌}
use native.Mathlib.Nat.{zero-add}
use native.Mathlib.Omega.{arith}
use lib.ListN.{length, length-append, replicate, length-replicate}
use lib.Dec.{eqb, leb, ltb}
use borrow.Author.Tests.{eqb-true, eqb-false, ne_eqb, leb-true, ltb-true, ltb-false, lt-leb, lt-ltb, le-ltb, not-true}
use Rattle.headers.specs.Rows.{every, any, All, is_octet}
use Rattle.headers.specs.Text.{stops, Escape, common, of_13, escape_table, is_letter, opens, plain, between, missing, tail, second, ascii, Character, itself, escape, wide, Text, none, more, Part, fresh, back, led, tails, owes, Cut, Raw, of_utf8, of_escape, starts, starts_with, left, fault, owing, Into, into, bad, stop, reads, then_reads, reads_whole, is_text_from, is_text}
use Rattle.headers.specs.Numbers.{is_digit}
use Rattle.headers.specs.declared.text.Style.{Style}
use Rattle.headers.specs.declared.text.Field.{Field}
use Rattle.headers.proofs.Rows.{cond_case, and_left, and_right, and_no, and_yes, any_key, every_append, every_snoc, every_replicate}
use Rattle.headers.proofs.Decimals.{digit_range, digit_apart}

-- a style by its two flags: each style is one
abbrev pub styled : Bool → Bool → Style
styled e c = record { escapes = e; crlf = c }

-- what holds of one half, letter or octet, of each escape of a style holds of every octet that is such a half
pub each_half :
    (key : Escape → ℕ) (P : Style → ℕ → Type 0)
    → ((e : Bool) → All (λ k. P (styled e true) (key k)) (escape_table (styled e true)))
    → ((e : Bool) → All (λ k. P (styled e false) (key k)) (escape_table (styled e false)))
    → (s : Style) (x : ℕ) → any (λ k. eqb x (key k)) (escape_table s) ≡ true → P s x
each_half key P t f s x h = by s.escapes s.crlf h
  where
    by : (e c : Bool) → any (λ k. eqb x (key k)) (escape_table (styled e c)) ≡ true → P (styled e c) x
    by e true k = any_key key (P (styled e true)) x (escape_table (styled e true)) (t e) k
    by e false k = any_key key (P (styled e false)) x (escape_table (styled e false)) (f e) k

-- the same as one test: the escape of 13 counts where it is one
pub table_is : (key : Escape → ℕ) (s : Style) (x : ℕ) → any (λ k. eqb x (key k)) (escape_table s) ≡ (eqb x (key of_13) && s.crlf) || any (λ k. eqb x (key k)) common
table_is key s x = by s.crlf
  where
    by : (c : Bool) → any (λ k. eqb x (key k)) (escape_table (styled s.escapes c)) ≡ (eqb x (key of_13) && c) || any (λ k. eqb x (key k)) common
    by true = rw (and_yes (eqb x (key of_13)))
    by false = rw (and_no (eqb x (key of_13)))

text_snoc : {s : Style} {f : Field} {xs u : List ℕ} → Text s f xs → Character s f u → Text s f (xs ++ u)
text_snoc {u = u} none h = rw (append-nil u) at (more h none)
text_snoc (more k t) h = rw append_assoc (more k (text_snoc t h))

pub raw_fresh : {s : Style} {f : Field} {raw : List ℕ} → Text s f raw → Raw s f raw fresh
raw_fresh {raw = raw} t = record { front = raw; pend = []; text = t; part = refl; whole = sym (append-nil raw) }

pub raw_start : (s : Style) (f : Field) → Raw s f [] fresh
raw_start s f = raw_fresh none

pub raw_text : {s : Style} {f : Field} {raw : List ℕ} → Raw s f raw fresh → Text s f raw
raw_text r = rw (r.whole, r.part, append-nil) r.text

-- an octet that may follow the first
abbrev fill : ℕ → ℕ
fill x = cond (eqb x 224) 160 (cond (eqb x 240) 144 128)

fill_second : (x : ℕ) → second x (fill x) ≡ true
fill_second x = by (eqb x 224) (eqb x 240) refl refl
  where
    by : (a b : Bool) → eqb x 224 ≡ a → eqb x 240 ≡ b → second x (fill x) ≡ true
    by true b e f = rw e
    by false true e f = rw (eqb-true x 240 f)
    by false false e f = simp (e, f) (others (eqb x 237) (eqb x 244))
      where
        others : (c d : Bool) → cond c (between 128 159 128) (cond d (between 128 143 128) (tail 128)) ≡ true
        others true d = refl
        others false true = refl
        others false false = refl

fill_octet : (x : ℕ) → is_octet (fill x) ≡ true
fill_octet x = by (eqb x 224) (eqb x 240)
  where
    by : (a b : Bool) → is_octet (cond a 160 (cond b 144 128)) ≡ true
    by true b = refl
    by false true = refl
    by false false = refl

-- the character is made whole by u
closed : {s : Style} {f : Field} {raw : List ℕ} {p : Part} (r : Raw s f raw p) (u : List ℕ) → Character s f (r.pend ++ u) → Text s f (raw ++ u)
closed r u h = rw (r.whole, append_assoc) (text_snoc r.text h)

backslash_letter : (e c : Bool) → is_letter (styled e c) 92 ≡ true
backslash_letter e true = refl
backslash_letter e false = refl

pub raw_finish : {s : Style} {f : Field} {raw : List ℕ} (p : Part) → Raw s f raw p → (w : List ℕ) × (length w ≡ owes p) × (every is_octet w ≡ true) × Text s f (raw ++ w)
raw_finish fresh r = ([], refl, refl, rw append-nil (raw_text r))
raw_finish {s} back r = (92 ∷ [], refl, refl, closed r (92 ∷ []) (rw r.part.1 (escape {x = 92} r.part.0 (backslash_letter s.escapes s.crlf))))
raw_finish (led x) r =
    let n = missing x - 1 in
    let l : missing x ≡ suc (length (replicate {A = ℕ} n 128)) = omega (arith, r.part.0, length-replicate {A = ℕ} n 128) in (
      fill x ∷ replicate n 128,
      sym l,
      rw (fill_octet x) (every_replicate is_octet n 128 refl),
      closed r (fill x ∷ replicate n 128) (rw r.part.1 (wide {x = x} {y = fill x} {t = replicate n 128} l (fill_second x) (every_replicate tail n 128 refl))),
    )
raw_finish (tails n) r =
    let c = r.part in (
      replicate n 128,
      length-replicate {A = ℕ} n 128,
      every_replicate is_octet n 128 refl,
      closed r (replicate n 128) (rw c.whole (wide {x = c.first} {y = c.next} {t = c.rest ++ replicate n 128} (omega (arith, c.long, length-append c.rest (replicate n 128), length-replicate {A = ℕ} n 128)) c.ranged (every_append tail c.rest (replicate n 128) c.tailed (every_replicate tail n 128 refl)))),
    )

-- what one octet does
abbrev pub Read : Style → Field → List ℕ → ℕ → Into → Type 0
Read s f raw x (into q) = Raw s f (raw ++ (x ∷ [])) q
Read s f raw x (bad k) = Unit {0}
Read s f raw x stop = Raw s f raw fresh

-- one more octet of a character of which n are left
Left : Style → Field → List ℕ → ℕ → ℕ → Type 0
Left s f raw x n = Raw s f (raw ++ (x ∷ [])) (left n)

left_read : {s : Style} {f : Field} {raw : List ℕ} {p : Part} (r : Raw s f raw p) (x n : ℕ)
    → (n ≡ 0 → Character s f (r.pend ++ (x ∷ []))) → (0 < n → Cut n (r.pend ++ (x ∷ []))) → Raw s f (raw ++ (x ∷ [])) (left n)
left_read {s} {f} {raw} r x n whole part =
    cond_case (Raw s f (raw ++ (x ∷ []))) (eqb n 0) (λ t. raw_fresh (closed r (x ∷ []) (whole (eqb-true n 0 t))))
    (λ t. record { front = r.front; pend = r.pend ++ (x ∷ []); text = r.text; part = part (omega (arith, eqb-false n 0 t)); whole = rw r.whole (append_assoc r.front r.pend (x ∷ [])) })

pub raw_step : {s : Style} {f : Field} {raw : List ℕ} (p : Part) (x : ℕ) → Raw s f raw p → Read s f raw x (reads s f p x)
raw_step {s} {f} {raw} fresh x r =
    cond_case (Read s f raw x) (stops s f x) (λ h. r)
    (λ h. cond_case (Read s f raw x) (opens s x)
    (λ k. record { front = raw; pend = x ∷ []; text = raw_text r; part = (and_left s.escapes (eqb x 92) k, ap (◌∷ []) (eqb-true x 92 (and_right s.escapes (eqb x 92) k))); whole = refl })
    (λ k. cond_case (Read s f raw x) (ascii x) (λ a. raw_fresh (text_snoc (raw_text r) (itself (rw (h, k)) a)))
    (λ a. cond_case (Read s f raw x) (ltb 0 (missing x)) (λ m. record { front = raw; pend = x ∷ []; text = raw_text r; part = (ltb-true 0 (missing x) m, refl); whole = refl }) (λ m. tt))))
raw_step {s} {f} {raw} back x r =
    cond_case (Read s f raw x) (is_letter s x) (λ h. raw_fresh (closed r (x ∷ []) (rw r.part.1 (escape r.part.0 h))))
    (λ h. cond_case (Read s f raw x) (starts x) (λ k. tt) (λ k. tt))
raw_step {s} {f} {raw} (led y) x r =
    cond_case (Read s f raw x) (second y x)
    (λ h. left_read r x (missing y - 1) (λ e. rw r.part.1 (wide {x = y} {y = x} {t = []} (omega (arith, r.part.0)) h refl))
    (λ e. record { first = y; next = x; rest = []; whole = rw r.part.1; long = omega (arith, r.part.0); ranged = h; tailed = refl; some_left = e }))
    (λ h. tt)
raw_step {s} {f} {raw} (tails n) x r =
    let c = r.part in
    let longer : length (c.rest ++ (x ∷ [])) ≡ length c.rest + 1 = length-append c.rest (x ∷ []) in
    cond_case (Read s f raw x) (tail x)
    (λ h. left_read r x (n - 1)
    (λ e. rw c.whole (wide {x = c.first} {y = c.next} {t = c.rest ++ (x ∷ [])} (omega (arith, c.long, c.some_left)) c.ranged (every_snoc tail c.rest x c.tailed h)))
    (λ e. record { first = c.first; next = c.next; rest = c.rest ++ (x ∷ []); whole = ap (◌++ (x ∷ [])) c.whole; long = omega (arith, c.long, c.some_left); ranged = c.ranged; tailed = every_snoc tail c.rest x c.tailed h; some_left = e }))
    (λ h. tt)

-- The octets take a reader from p to r, and at each place what is owed is still to come.
abbrev pub Feeds : Style → Field → Part → List ℕ → Part → Type 0
Feeds s f p [] r = p ≡ r
Feeds s f p (x ∷ xs) r = (q : Part) × (reads s f p x ≡ into q) × (owes q ≤ length xs + owes r) × Feeds s f q xs r

feeds_append : (s : Style) (f : Field) (p r : Part) (xs ys : List ℕ) → Feeds s f p xs fresh → Feeds s f fresh ys r → Feeds s f p (xs ++ ys) r
feeds_append s f p r [] ys h k = rw h k
feeds_append s f p r (x ∷ xs) ys (p', e, o, h) k = (p', e, omega (arith, length-append xs ys), feeds_append s f p' r xs ys h k)

pub owes_left : (n : ℕ) → owes (left n) ≡ n
owes_left n = cond_case (λ p. owes p ≡ n) (eqb n 0) (λ t. sym (eqb-true n 0 t)) (λ t. refl)

left_some : (n : ℕ) → 0 < n → left n ≡ tails n
left_some n h = rw (ne_eqb n 0 (omega arith))

-- the octets after the second, with n still to come after them
tails_feeds : (s : Style) (f : Field) (t : List ℕ) (n : ℕ) → every tail t ≡ true → Feeds s f (left (length t + n)) t (left n)
tails_feeds s f [] n h = rw zero-add
tails_feeds s f (x ∷ t) n h =
    let m : suc (length t) + n - 1 ≡ length t + n = omega arith in
    rw (left_some (suc (length t) + n) (omega arith))
    (left (length t + n), rw (and_left (tail x) (every tail t) h, m), omega (arith, owes_left (length t + n), owes_left n), tails_feeds s f t n (and_right (tail x) (every tail t) h))

pub high_text : (s : Style) (f : Field) (x : ℕ) → ascii x ≡ false → (stops s f x ≡ false) × (opens s x ≡ false)
high_text s f x h =
    let l : 128 ≤ x = ltb-false x 128 h in
    (simp (ne_eqb x 10 (omega arith), ne_eqb x 13 (omega arith), ne_eqb x 58 (omega arith)), simp (ne_eqb x 92 (omega arith), and_no))

pub missing_high : (x : ℕ) → 0 < missing x → ascii x ≡ false
missing_high x h = by (ascii x) refl
  where
    by : (t : Bool) → ascii x ≡ t → t ≡ false
    by true e =
        let l : x < 128 = ltb-true x 128 e in
        let z : missing x ≡ 0 = simp (lt-leb 194 x (omega arith), lt-leb 224 x (omega arith), lt-leb 240 x (omega arith)) in
        absurd (omega arith)
    by false e = refl

-- a character of more than one octet, or the octets of one of which n more are to come
wide_feeds : (s : Style) (f : Field) (x y : ℕ) (t : List ℕ) (n : ℕ) → missing x ≡ suc (length t + n) → second x y ≡ true → every tail t ≡ true → Feeds s f fresh (x ∷ y ∷ t) (left n)
wide_feeds s f x y t n e h k =
    let a = missing_high x (omega arith) in
    let (ns, nb) = high_text s f x a in
    let m : missing x - 1 ≡ length t + n = omega arith in (
      led x,
      rw (ns, nb, a, lt-ltb 0 (missing x) (omega arith)),
      omega (arith, owes_left n),
      (left (length t + n), rw (h, m), omega (arith, owes_left (length t + n), owes_left n), tails_feeds s f t n k),
    )

char_feeds : (s : Style) (f : Field) {u : List ℕ} → Character s f u → Feeds s f fresh u fresh
char_feeds s f (itself {x = x} h a) =
    (fresh, rw (not-true (stops s f x) (and_left _ (not (opens s x)) h), not-true (opens s x) (and_right (not (stops s f x)) _ h), a), omega arith, refl)
char_feeds s f (escape h k) = (back, simp (h, and_no), omega arith, (fresh, rw k, omega arith, refl))
char_feeds s f (wide {x = x} {y = y} {t = t} e h k) = wide_feeds s f x y t 0 (omega arith) h k

pub text_feeds : (s : Style) (f : Field) {xs : List ℕ} → Text s f xs → Feeds s f fresh xs fresh
text_feeds s f none = refl
text_feeds s f (more {u = u} {xs = xs} h t) = feeds_append s f fresh fresh u xs (char_feeds s f h) (text_feeds s f t)

-- what has been read takes a reader there
pub raw_feeds : (s : Style) (f : Field) (raw : List ℕ) (p : Part) → Raw s f raw p → Feeds s f fresh raw p
raw_feeds s f raw fresh r = text_feeds s f (raw_text r)
raw_feeds s f raw back r =
    let (on, e) = r.part in
    rw (r.whole, e) (feeds_append s f fresh back r.front (92 ∷ []) (text_feeds s f r.text) (back, rw on, omega arith, refl))
raw_feeds s f raw (led x) r =
    let (some, e) = r.part in
    let a = missing_high x some in
    let (ns, nb) = high_text s f x a in
    rw (r.whole, e) (feeds_append s f fresh (led x) r.front (x ∷ []) (text_feeds s f r.text) (led x, rw (ns, nb, a, lt-ltb 0 (missing x) some), omega arith, refl))
raw_feeds s f raw (tails n) r =
    let c = r.part in
    rw (r.whole, c.whole)
    (feeds_append s f fresh (tails n) r.front (c.first ∷ c.next ∷ c.rest) (text_feeds s f r.text)
    (rw (left_some n c.some_left) at (wide_feeds s f c.first c.next c.rest n c.long c.ranged c.tailed)))

-- digits are text
digit_plain : (s : Style) (f : Field) (x : ℕ) → is_digit x ≡ true → plain s f x ≡ true
digit_plain s f x h =
    let (lo, hi) = digit_range x h in
    let (lf, cr, colon, slash) = digit_apart x lo hi in
    simp (lf, cr, colon, slash, and_no)

digit_ascii : (x : ℕ) → is_digit x ≡ true → ascii x ≡ true
digit_ascii x h = lt-ltb x 128 (omega (arith, leb-true x 57 (and_right (leb 48 x) (leb x 57) h)))

pub digits_text : (s : Style) (f : Field) (v : List ℕ) → every is_digit v ≡ true → Text s f v
digits_text s f [] h = none
digits_text s f (x ∷ v) h =
    more (itself (digit_plain s f x (and_left (is_digit x) (every is_digit v) h)) (digit_ascii x (and_left (is_digit x) (every is_digit v) h))) (digits_text s f v (and_right (is_digit x) (every is_digit v) h))

-- what begins a character is no stop
pub reads_on : (s : Style) (f : Field) (q : Part) (x : ℕ) → reads s f fresh x ≡ into q → stops s f x ≡ false
reads_on s f q x h = by (stops s f x) h
  where
    by : (t : Bool) → cond t stop (cond (opens s x) (into back) (starts_with x)) ≡ into q → t ≡ false
    by true k = let z : ◌≡◌ {A = ℕ} 0 1 = cc in absurd (omega arith)
    by false k = refl

-- what follows a backslash is no stop
letter_on : (s : Style) (f : Field) (x : ℕ) → is_letter s x ≡ true → stops s f x ≡ false
letter_on s f x h =
    each_half (λ k. k.letter) (λ s y. stops s f y ≡ false) (λ e. (refl, (refl, (refl, (refl, tt))))) (λ e. (refl, (refl, (refl, tt)))) s x h

stop_plain : (s : Style) (f : Field) (x : ℕ) → stops s f x ≡ true → eqb x 92 ≡ false
stop_plain s f x t = by (eqb x 92) refl
  where
    by : (u : Bool) → eqb x 92 ≡ u → eqb x 92 ≡ false
    by true e = let k : stops s f 92 ≡ true = rw (eqb-true x 92 e) at t in let z : ◌≡◌ {A = ℕ} 0 1 = cc in absurd (omega arith)
    by false e = e

-- what one octet does, by its faults, what is owed after it, and the stops
abbrev pub Clean : Style → Field → Part → ℕ → Type 0
Clean s f p x = (fault s f p x of_utf8 ≡ false) × (fault s f p x of_escape ≡ false)

abbrev pub Says : Style → Field → Part → ℕ → Into → Type 0
Says s f p x (into q) = Clean s f p x × (owing s f p x ≡ owes q) × (stops s f x ≡ false)
Says s f p x (bad of_utf8) = fault s f p x of_utf8 ≡ true
Says s f p x (bad of_escape) = (fault s f p x of_utf8 ≡ false) × (fault s f p x of_escape ≡ true)
Says s f p x stop = Clean s f p x × (owing s f p x ≡ 0) × (stops s f x ≡ true)

pub stop_ascii : (s : Style) (f : Field) (x : ℕ) → stops s f x ≡ true → ascii x ≡ true
stop_ascii s f x t = by (ascii x) refl
  where
    by : (a : Bool) → ascii x ≡ a → ascii x ≡ true
    by true e = e
    by false e = let k = (high_text s f x e).0 in let z : ◌≡◌ {A = ℕ} 0 1 = cc in absurd (omega arith)

ascii_starts : (x : ℕ) → ascii x ≡ true → not (starts x) ≡ false
ascii_starts x a = rw a

pub ascii_missing : (x : ℕ) → ascii x ≡ true → missing x ≡ 0
ascii_missing x a =
    let l : x < 128 = ltb-true x 128 a in
    simp (lt-leb 194 x (omega arith), lt-leb 224 x (omega arith), lt-leb 240 x (omega arith))

pub tail_high : (x : ℕ) → tail x ≡ true → ascii x ≡ false
tail_high x h = le-ltb x 128 (leb-true 128 x (and_left (leb 128 x) (leb x 191) h))

pub second_high : (y x : ℕ) → second y x ≡ true → ascii x ≡ false
second_high y x = by (eqb y 224) (eqb y 237) (eqb y 240) (eqb y 244)
  where
    low : (a b : ℕ) → 128 ≤ a → between a b x ≡ true → ascii x ≡ false
    low a b l h = le-ltb x 128 (omega (arith, leb-true a x (and_left (leb a x) (leb x b) h)))

    by : (a b c d : Bool) → cond a (between 160 191 x) (cond b (between 128 159 x) (cond c (between 144 191 x) (cond d (between 128 143 x) (tail x)))) ≡ true → ascii x ≡ false
    by true b c d h = low 160 191 (omega arith) h
    by false true c d h = low 128 159 (omega arith) h
    by false false true d h = low 144 191 (omega arith) h
    by false false false true h = low 128 143 (omega arith) h
    by false false false false h = low 128 191 (omega arith) h

-- none of them is above 244
pub tail_top : (x : ℕ) → tail x ≡ true → x ≤ 191
tail_top x h = leb-true x 191 (and_right (leb 128 x) (leb x 191) h)

pub second_top : (y x : ℕ) → second y x ≡ true → x ≤ 191
second_top y x = by (eqb y 224) (eqb y 237) (eqb y 240) (eqb y 244)
  where
    high : (a b : ℕ) → b ≤ 191 → between a b x ≡ true → x ≤ 191
    high a b l h = omega (arith, leb-true x b (and_right (leb a x) (leb x b) h))

    by : (a b c d : Bool) → cond a (between 160 191 x) (cond b (between 128 159 x) (cond c (between 144 191 x) (cond d (between 128 143 x) (tail x)))) ≡ true → x ≤ 191
    by true b c d h = high 160 191 (omega arith) h
    by false true c d h = high 128 159 (omega arith) h
    by false false true d h = high 144 191 (omega arith) h
    by false false false true h = high 128 143 (omega arith) h
    by false false false false h = high 128 191 (omega arith) h

pub missing_top : (x : ℕ) → 0 < missing x → x ≤ 244
missing_top x h =
    by (between 194 223 x) refl (between 224 239 x) refl (between 240 244 x) refl h
  where
    by : (a : Bool) → between 194 223 x ≡ a → (b : Bool) → between 224 239 x ≡ b → (c : Bool) → between 240 244 x ≡ c → 0 < cond a 1 (cond b 2 (cond c 3 0)) → x ≤ 244
    by true e b f c g l = omega (arith, leb-true x 223 (and_right (leb 194 x) (leb x 223) e))
    by false e true f c g l = omega (arith, leb-true x 239 (and_right (leb 224 x) (leb x 239) f))
    by false e false f true g l = leb-true x 244 (and_right (leb 240 x) (leb x 244) g)
    by false e false f false g l = absurd (omega arith)

pub letter_ascii : (s : Style) (x : ℕ) → is_letter s x ≡ true → ascii x ≡ true
letter_ascii s x h =
    each_half (λ k. k.letter) (λ s y. ascii y ≡ true) (λ e. (refl, (refl, (refl, (refl, tt))))) (λ e. (refl, (refl, (refl, tt)))) s x h

opens_ascii : (s : Style) (x : ℕ) → opens s x ≡ true → ascii x ≡ true
opens_ascii s x h = rw (eqb-true x 92 (and_right s.escapes (eqb x 92) h))

pub reads_says : (s : Style) (f : Field) (p : Part) (x : ℕ) → Says s f p x (reads s f p x)
reads_says s f fresh x =
    cond_case (Says s f fresh x) (stops s f x)
    (λ t. ((ascii_starts x (stop_ascii s f x t), refl), simp (stop_plain s f x t, and_no) (ascii_missing x (stop_ascii s f x t)), t))
    (λ t. cond_case (Says s f fresh x) (opens s x) (λ u. ((ascii_starts x (opens_ascii s x u), refl), rw u, t))
    (λ u. cond_case (Says s f fresh x) (ascii x) (λ a. ((rw a, refl), rw u (ascii_missing x a), t))
    (λ a. cond_case (Says s f fresh x) (ltb 0 (missing x)) (λ m. ((rw (a, m), refl), rw u, t)) (λ m. rw (a, m)))))
reads_says s f back x =
    cond_case (Says s f back x) (is_letter s x) (λ t. ((ascii_starts x (letter_ascii s x t), rw t), refl, letter_on s f x t))
    (λ t. cond_case (Says s f back x) (starts x) (λ k. (rw k, rw t)) (λ k. rw k))
reads_says s f (led y) x =
    cond_case (Says s f (led y) x) (second y x) (λ t. ((rw t, refl), sym (owes_left (missing y - 1)), (high_text s f x (second_high y x t)).0)) (λ t. rw t)
reads_says s f (tails n) x =
    cond_case (Says s f (tails n) x) (tail x) (λ t. ((rw t, refl), sym (owes_left (n - 1)), (high_text s f x (tail_high x t)).0)) (λ t. rw t)

pub missing_few : (x : ℕ) → missing x ≤ 3
missing_few x =
    cond_case (λ n. n ≤ 3) (between 194 223 x) (λ t. omega arith)
    (λ t. cond_case (λ n. n ≤ 3) (between 224 239 x) (λ u. omega arith) (λ u. cond_case (λ n. n ≤ 3) (between 240 244 x) (λ v. omega arith) (λ v. omega arith)))

abbrev Few : Into → Type 0
Few (into q) = owes q ≤ 3
Few (bad k) = Unit {0}
Few stop = Unit {0}

first_few : (s : Style) (f : Field) (x : ℕ) → Few (reads s f fresh x)
first_few s f x =
    cond_case Few (stops s f x) (λ t. tt)
    (λ t. cond_case Few (opens s x) (λ u. omega arith)
    (λ u. cond_case Few (ascii x) (λ a. omega arith) (λ a. cond_case Few (ltb 0 (missing x)) (λ m. missing_few x) (λ m. tt))))

-- the first octet of a character owes at most three more
pub owes_few : (s : Style) (f : Field) (q : Part) (x : ℕ) → reads s f fresh x ≡ into q → owes q ≤ 3
owes_few s f q x h = by (reads s f fresh x) h (first_few s f x)
  where
    by : (i : Into) → i ≡ into q → Few i → owes q ≤ 3
    by (into r) e k = let z : r ≡ q = cc in rw (← z) k
    by (bad b) e k = absurd (let z : ◌≡◌ {A = ℕ} 0 1 = cc in omega arith)
    by stop e k = absurd (let z : ◌≡◌ {A = ℕ} 0 1 = cc in omega arith)

-- the test for text says exactly what is text
test_feeds : (s : Style) (f : Field) (p : Part) (xs : List ℕ) → Feeds s f p xs fresh → is_text_from s f p xs ≡ true
unfolding reads_whole
test_feeds s f p [] h = rw h
test_feeds s f p (x ∷ xs) (q, e, o, h) = rw e (test_feeds s f q xs h)

pub text_is : (s : Style) (f : Field) (xs : List ℕ) → Text s f xs → is_text s f xs ≡ true
text_is s f xs t = test_feeds s f fresh xs (text_feeds s f t)

test_text : (s : Style) (f : Field) (raw : List ℕ) (p : Part) (xs : List ℕ) → Raw s f raw p → is_text_from s f p xs ≡ true → Text s f (raw ++ xs)
unfolding reads_whole
test_text s f raw fresh [] r h = rw append-nil (raw_text r)
test_text s f raw back [] r h = absurd (let z : ◌≡◌ {A = ℕ} 0 1 = cc in omega arith)
test_text s f raw (led x) [] r h = absurd (let z : ◌≡◌ {A = ℕ} 0 1 = cc in omega arith)
test_text s f raw (tails n) [] r h = absurd (let z : ◌≡◌ {A = ℕ} 0 1 = cc in omega arith)
test_text s f raw p (x ∷ xs) r h = by (reads s f p x) (raw_step p x r) h (λ q. test_text s f (raw ++ (x ∷ [])) q xs)
  where
    by : (i : Into) → Read s f raw x i → then_reads i (λ q. is_text_from s f q xs) ≡ true
        → ((q : Part) → Raw s f (raw ++ (x ∷ [])) q → is_text_from s f q xs ≡ true → Text s f ((raw ++ (x ∷ [])) ++ xs)) → Text s f (raw ++ (x ∷ xs))
    by (into q) k e go = rw append_assoc at (go q k e)
    by (bad b) k e go = absurd (let z : ◌≡◌ {A = ℕ} 0 1 = cc in omega arith)
    by stop k e go = absurd (let z : ◌≡◌ {A = ℕ} 0 1 = cc in omega arith)

pub is_text_text : (s : Style) (f : Field) (xs : List ℕ) → is_text s f xs ≡ true → Text s f xs
is_text_text s f xs h = test_text s f [] fresh xs (raw_start s f) h
