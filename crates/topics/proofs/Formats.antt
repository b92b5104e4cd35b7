-- The formats of messages, subscriptions and pairs are local. Assumes nothing.
use mathlib.Core.Path.{◌≡◌, refl, sym, ◌∙◌, ap, ap₂}
use mathlib.Core.List.{List}
use Prim.Native.Nat.{ℕ, ◌+◌, ◌≤◌}
use native.Mathlib.Omega.{arith}
use lib.ListN.{length, take, drop, length-drop, length-take, take-append-drop}
use lib.Seq.{drop-append-le, take-append-le, length-take-le}
use Rattle.headers.specs.Numbers.{evaluate}
use Rattle.topics.specs.Lists.{number_at, Entry, text_length, entry_format, pair_format}
use Rattle.topics.proofs.Lists.{Local}

-- a part of the front of a row
front_part : (n i k : ℕ) (xs : List ℕ) → n ≤ length xs → i + k ≤ n → take k (drop i xs) ≡ take k (drop i (take n xs))
front_part n i k xs h b =
    let long = length-take-le n xs h in
    let less = length-drop i (take n xs) in
    ap (λ z. take k (drop i z)) (sym (take-append-drop n xs))
    ∙ ap (take k) (drop-append-le i (take n xs) (drop n xs) (omega arith))
    ∙ take-append-le k (drop i (take n xs)) (drop n xs) (omega arith)

-- rows that agree in n octets have the same parts there
module _ (n : ℕ) (xs ys : List ℕ) (h : n ≤ length xs) (e : take n xs ≡ take n ys) where
  as_long : n ≤ length ys
  as_long = omega (arith, ap length e, length-take n xs, length-take n ys)

  pub part_same : (i k : ℕ) → i + k ≤ n → take k (drop i ys) ≡ take k (drop i xs)
  part_same i k b = front_part n i k ys as_long b ∙ ap (λ z. take k (drop i z)) (sym e) ∙ sym (front_part n i k xs h b)

  number_same : (w i : ℕ) → i + w ≤ n → number_at w ys i ≡ number_at w xs i
  number_same w i b = ap (evaluate 256 0) (part_same i w b)

abbrev pub entry_of : ℕ → List ℕ → ℕ → Entry
entry_of n t r = record { number = n; text = t; room = r }

pub entry_local : (w : ℕ) → Local (entry_format w)
entry_local w =
    record {
      positive = λ xs. omega arith;
      same_size = λ n xs ys s h e. ap (λ k. 6 + k + w) (number_same n xs ys h e 2 4 (omega arith));
      same_front = λ n xs ys s h e.
          let long = number_same n xs ys h e 2 4 (omega arith) in
          ap₂ (λ m t. entry_of m t (number_at w ys (6 + text_length ys))) (number_same n xs ys h e 4 0 (omega arith))
          (ap (λ k. take k (drop 6 ys)) long ∙ part_same n xs ys h e 6 (text_length xs) (omega arith))
          ∙ ap (λ r. entry_of (number_at 4 xs 0) (take (text_length xs) (drop 6 xs)) r)
          (ap (λ k. number_at w ys (6 + k)) long ∙ number_same n xs ys h e w (6 + text_length xs) (omega arith));
    }

pub pair_local : Local pair_format
pair_local =
    record {
      positive = λ xs. omega arith;
      same_size = λ n xs ys s h e. refl;
      same_front = λ n xs ys s h e. ap₂ (λ m k. record { message = m; subscription = k }) (number_same n xs ys h e 4 0 (omega arith)) (number_same n xs ys h e 4 4 (omega arith));
    }
