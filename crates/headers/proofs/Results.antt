-- What a `?` hands on is an error, and says what every error says; what `ok_or` and a `?` say of the option. Assumes nothing.
use mathlib.Core.Bool.{Bool, true, false}
use mathlib.Core.Path.{◌≡◌, sym}
use borrow.Author.Rules.{rules}
use Rattle.std.specs.Option.{ok_or}
use Rattle.std.specs.Prelude.{Result, Ok, Err, IsErr, IsErrAnd, Option as Maybe, Some, None, IfSome, is_some}

pub err_says : {T E A : Type 0} (says : Result T E → A) (a : A) → ((e : E) → says (Err e) ≡ a) → (r : Result T E) → IsErr r → says r ≡ a
err_says says a each (Ok x) h = absurd (search rules)
err_says says a each (Err e) h = each e

-- the same of an error of which P holds
pub err_gives : {T E A : Type 0} (says : Result T E → A) (a : A) (P : E → Type 0) → ((e : E) → P e → says (Err e) ≡ a)
    → (r : Result T E) → IsErrAnd r P → says r ≡ a
err_gives says a P each (Ok x) h = absurd (search rules)
err_gives says a P each (Err e) h = each e h

-- an option that was made a result: there is a value, of which P holds, or there is none
pub some_gives : {T E : Type 0} (P : T → Type 0) (b : Bool) (o : Maybe T) (e : E) (m : T) → ok_or o e ≡ Ok m → (is_some o ≡ b) × IfSome o P → (true ≡ b) × P m
some_gives P b None e m h k = cc
some_gives P b (Some x) e m h k = let same : x ≡ m = cc in (k.0, rw same at k.1)

pub none_gives : {T E : Type 0} (P : T → Type 0) (b : Bool) (o : Maybe T) (e d : E) → ok_or o e ≡ Err d → (is_some o ≡ b) × IfSome o P → b ≡ false
none_gives P b None e d h k = sym k.0
none_gives P b (Some x) e d h k = cc
