-- `text::is_escaped` meets its contract: the word and the table agree at each of the 256 octets, which antt computes.
use mathlib.Core.Path.{◌≡◌, refl, ap, ◌∙◌}
use mathlib.Core.Bool.{Bool, true, false, cond, ◌&&◌}
use Prim.Native.Nat.{ℕ, ◌<◌, ◌*◌, ◌/◌, ◌^◌}
use lib.Bits.{bit_and}
use lib.Dec.{eqb}
use borrow.Author.Rules.{rules}
use Rattle.headers.specs.Rows.{any}
use Rattle.headers.specs.Text.{escape_table}
use Rattle.headers.proofs.Rows.{alike}
use Rattle.headers.proofs.Reading.{styled}
use Rattle.headers.proofs.text.is_escaped.Goals as goal

-- what the code computes
abbrev hits : ℕ → ℕ → Bool
hits word x = eqb x (bit_and (word / 2 ^ (2 * bit_and x 20)) 255)

in_word : (e c : Bool) (x : ℕ) → x < 256 → hits (cond c 101404177861898 101404177858570) x ≡ any (λ k. eqb x k.octet) (escape_table (styled e c))
in_word e true x h = alike (hits 101404177861898) (λ x. any (λ k. eqb x k.octet) (escape_table (styled e true))) 256 x refl h
in_word e false x h = alike (hits 101404177858570) (λ x. any (λ k. eqb x k.octet) (escape_table (styled e false))) 256 x refl h

pub returns : goal.returns
returns c =
    let a = c.args in
    let h : a.x < 256 = search rules in
    ap (a.style.escapes &&◌)
    (ap (hits c.escape_word.result) c.from-n.ensures ∙ ap (λ w. hits w a.x) c.escape_word.ensures ∙ in_word a.style.escapes a.style.crlf a.x h)
