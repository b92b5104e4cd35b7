-- A part of a row: its octets are the row's, and whole blocks of a size fit. Assumes nothing.
use mathlib.Core.Path.{◌≡◌, ◌∙◌}
use mathlib.Core.List.{List}
use Prim.Native.Nat.{ℕ, ◌+◌, ◌*◌, ◌/◌, ◌≤◌, ◌<◌}
use native.Mathlib.Nat.{mul_comm, div-add-mod'}
use native.Mathlib.Omega.{arith}
use lib.ListN.{length, take, drop, get_or, length-take, length-drop}
use lib.Seq.{get_or-drop}
use Rattle.std.proofs.lemmas.List.{get_or-take}
use Rattle.std.proofs.lemmas.Nat.{column_fits_turned}

-- an octet of a part that begins at i
pub octet_at : (n : ℕ) (s : List ℕ) (i k : ℕ) → k < length (take n (drop i s)) → (i + k < length s) × (get_or (take n (drop i s)) k 0 ≡ get_or s (i + k) 0)
octet_at n s i k h =
    let inside : k < n = omega (arith, length-take n (drop i s)) in
    (omega (arith, length-take n (drop i s), length-drop i s), get_or-take n (drop i s) k 0 inside ∙ get_or-drop i s k 0)

-- the blocks of a row of n octets: each ends within it
pub block_ends : (n size k : ℕ) → k < n / size → k * size + size ≤ n
block_ends n size k h =
    omega (arith, column_fits_turned size k (n / size) size h (omega arith), mul_comm size k, div-add-mod' n size)

pub blocks_end : (n size : ℕ) → n / size * size ≤ n
blocks_end n size = omega (arith, div-add-mod' n size)
