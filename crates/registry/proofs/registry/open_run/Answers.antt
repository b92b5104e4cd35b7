-- `registry/open_run` meets its contract. The checks in turn, then a free row.
use Prim.Native.Nat.{ℕ, ◌<◌}
use native.Mathlib.Omega.{arith}
use mathlib.Core.Path.{◌≡◌, sym, ap, ◌∙◌}
use mathlib.Core.Bool.{true, false}
use mathlib.Core.List.{List, []}
use mathlib.Core.Option.{some}
use Rattle.stores.specs.Searches.{first_from, search_says}
use Rattle.registry.specs.Records.{parts, runs_in, is_valid}
use Rattle.registry.specs.Registry.{is_open, bad_size}
use Rattle.registry.specs.Tests.{is_named}
use Rattle.registry.specs.Answers.{done_says}
use Rattle.registry.specs.Calls.{open_run}
use Rattle.registry.proofs.Calling.{admitted_both, not_admitted, told_err, found_ok, found_err, valid_long, is_open_at, open_full, place_inside, open_there, open_bad, open_again, size_of, label_room}
use Rattle.registry.proofs.registry.open_run.Goals as goal
use Rattle.registry.proofs.registry.open_run.Goals.{Else-is_some, In_ok-k}

-- what is known where no run of that label is open
module _ (e : Else-is_some) where
  abbrev reg : List ℕ
  reg = e.args.reg.now

  abbrev run : List ℕ
  run = e.args.run.now

  valid : is_valid reg ≡ true
  valid = (admitted_both _ _ _ e.admit.ensures e.in_ok-admit.was).0

  size : bad_size 32 run ≡ false
  size = sym e.is_bad.ensures ∙ (admitted_both _ _ _ e.admit.ensures e.in_ok-admit.was).1

  not_open : is_open run (runs_in reg) ≡ false
  not_open =
      is_open_at reg valid run (size_of 32 run size).some_octet e.row_of.result e.row_of.ensures
      ∙ sym e.is_some.ensures ∙ e.if-is_some.false

-- the free row that is found
there : (e : In_ok-k) → some e.in_ok-k.k ≡ first_from (is_named []) 0 (parts 881 4 e.args.reg.now)
there e = found_ok _ _ _ _ e.ok_or.ensures.value e.in_ok-k.was ∙ e.row_of-2.ensures

pub returns-in_err-admit : goal.returns-in_err-admit
returns-in_err-admit c =
    let a = c.args in
    told_err done_says c.from_residual.result c.from_residual.ensures.1
    (not_admitted a.reg.now (open_run a.run.now) _ _ _ c.admit.ensures c.in_err-admit.was
    (λ v b. open_bad a.reg.now v a.run.now (sym c.is_bad.ensures ∙ b)))

pub row_of-requires : goal.row_of-requires
row_of-requires c = valid_long c.args.reg.now (admitted_both _ _ _ c.admit.ensures c.in_ok-admit.was).0

pub returns-then-is_some : goal.returns-then-is_some
returns-then-is_some c =
    let a = c.args in
    let (v, b) = admitted_both _ _ _ c.admit.ensures c.in_ok-admit.was in
    let size = sym c.is_bad.ensures ∙ b in
    open_again a.reg.now v a.run.now size
    (is_open_at a.reg.now v a.run.now (size_of 32 a.run.now size).some_octet c.row_of.result c.row_of.ensures ∙ sym c.is_some.ensures ∙ c.if-is_some.true)

pub row_of-requires-2 : goal.row_of-requires-2
row_of-requires-2 c = valid_long c.args.reg.now (admitted_both _ _ _ c.admit.ensures c.in_ok-admit.was).0

pub returns-in_err-k : goal.returns-in_err-k
returns-in_err-k c =
    let e = (goal.at.returns-in_err-k c).Else-is_some in
    told_err done_says c.from_residual-in_err-k.result c.from_residual-in_err-k.ensures.1
    (found_err (reg e) (open_run (run e)) _ _ _ _ c.ok_or.ensures.value c.in_err-k.was
    (λ q. open_full (reg e) (valid e) (run e) (size e) (not_open e) (sym (ap search_says q) ∙ c.row_of-2.ensures)))

inside : (e : Else-is_some) (k : ℕ) → some k ≡ first_from (is_named []) 0 (parts 881 4 (reg e)) → k < 4
inside e k is = place_inside (reg e) (valid e) (run e) (size e) (not_open e) k is

pub overflow_mul-at : goal.overflow_mul-at
overflow_mul-at c = let at = goal.at.overflow_mul-at c in omega (arith, inside at.Else-is_some c.in_ok-k.k (there at.In_ok-k))

pub overflow_add-end : goal.overflow_add-end
overflow_add-end c = let at = goal.at.overflow_add-end c in omega (arith, inside at.Else-is_some c.in_ok-k.k (there at.In_ok-k))

pub slice_bounds-put_text-end : goal.slice_bounds-put_text-end
slice_bounds-put_text-end c =
    let at = goal.at.slice_bounds-put_text-end c in
    let e = at.Else-is_some in
    label_room (reg e) (valid e) (run e) (size e) c.in_ok-k.k (inside e c.in_ok-k.k (there at.In_ok-k))

pub returns : goal.returns
returns c =
    let at = goal.at.returns c in
    let e = at.Else-is_some in
    open_there (reg e) (valid e) (run e) (size e) (not_open e) c.in_ok-k.k (there at.In_ok-k) c.put_text.new.field c.put_text.ensures
