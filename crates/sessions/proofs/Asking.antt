-- What a search found, by what `ok_or` makes of it. Assumes nothing.
use Rattle.std.proofs.Common.{◌≡◌, sym, refl, ◌∙◌}
use Rattle.std.specs.Prelude.{Option as Maybe, Some, None, Result, Ok, Err, ok_or}

pub some_by : {A E : Type 0} (q : Maybe A) (e : E) {r : Result A E} {x : A} → r ≡ ok_or q e → r ≡ Ok x → q ≡ Some x
some_by {A} {E} (Some y) e {r} {x} is ok = let z : ◌≡◌ {A = Result A E} (Ok y) (Ok x) = sym is ∙ ok in cc
some_by {A} {E} None e {r} {x} is ok = let z : ◌≡◌ {A = Result A E} (Err e) (Ok x) = sym is ∙ ok in cc

pub none_by : {A E : Type 0} (q : Maybe A) (e : E) {r : Result A E} {f : E} → r ≡ ok_or q e → r ≡ Err f → (q ≡ None) × (f ≡ e)
none_by {A} {E} (Some y) e {r} {f} is err = let z : ◌≡◌ {A = Result A E} (Ok y) (Err f) = sym is ∙ err in (cc, cc)
none_by {A} {E} None e {r} {f} is err = let z : ◌≡◌ {A = Result A E} (Err e) (Err f) = sym is ∙ err in (refl, cc)
