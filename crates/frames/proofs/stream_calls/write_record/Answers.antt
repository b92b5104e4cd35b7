-- `stream_calls::write_record` meets its contract: sixteen octets, of which three numbers have two each, and a copy of them.
use native.Mathlib.Omega.{arith}
use Prim.Native.Nat.{ℕ, ◌/◌, ◌%◌}
use lib.ListN.{get_or}
use mathlib.Core.List.{List, [], ◌∷◌}
use mathlib.Core.Path.{◌≡◌, refl, ap, ◌∙◌}
use Rattle.std.specs.Int.{bytes_high_first}
use Rattle.headers.specs.Rows.{copied}
use Rattle.frames.specs.declared.state.Scan.{Scan}
use mathlib.Core.Bool.{Bool, true, false, not}
use mir.Val.{bool_byte}
use Rattle.frames.specs.Records.{mark}
use Rattle.frames.proofs.Records.{laid, row}
use Rattle.frames.proofs.stream_calls.write_record.Goals as goal

marked : (b : Bool) → bool_byte b ≡ mark b
marked = elim [ true ↦ refl | false ↦ refl ]

-- a number's two octets, high first
halves : (n : ℕ) (xs : List ℕ) → xs ≡ bytes_high_first 2 (n % 65536) → (get_or xs 0 0 ≡ n / 256 % 256) × (get_or xs 1 0 ≡ n % 256)
halves n xs h = (ap (λ z. get_or z 0 0) h ∙ omega arith, ap (λ z. get_or z 1 0) h ∙ omega arith)

-- a record by its octets, and as the state has them
abbrev wide : Scan → (a b p q s t m v : ℕ) → List ℕ
wide st a b p q s t m v =
    st.phase ∷ st.command % 256 ∷ st.lines % 256 ∷ st.matched % 256 ∷ m ∷ st.code % 256
    ∷ a ∷ b ∷ p ∷ q ∷ s ∷ t ∷ v ∷ 0 ∷ st.rest ∷ 0 ∷ []

spread : (st : Scan) (m v : ℕ) {a b p q s t : ℕ} → (a ≡ st.size / 256 % 256) × (b ≡ st.size % 256) → (p ≡ st.len / 256 % 256) × (q ≡ st.len % 256) → (s ≡ st.at / 256 % 256) × (t ≡ st.at % 256)
    → wide st a b p q s t m v ≡ row st m v
spread st m v f g h = rw (f.0, f.1, g.0, g.1, h.0, h.1) refl

pub returns : goal.returns
returns c =
    let st = c.args.st in
    let f = halves st.size _ c.to_be_bytes-size.ensures in
    let g = halves st.len _ c.to_be_bytes-len.ensures in
    let h = halves st.at _ c.to_be_bytes-at.ensures in
    laid c.args.r.now st c.from-sized.result c.from-version.result _ c.requires (c.from-sized.ensures ∙ marked st.sized) (c.from-version.ensures ∙ marked (not st.crlf)) (c.copy.ensures ∙ ap (copied c.args.r.now 0) (spread st c.from-sized.result c.from-version.result f g h))
