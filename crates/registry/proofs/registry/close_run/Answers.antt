-- `registry/close_run` meets its contract. The checks in turn, then the row.
use Prim.Native.Nat.{ℕ, ◌<◌}
use native.Mathlib.Omega.{arith}
use mathlib.Core.Path.{◌≡◌, sym, ap, ◌∙◌}
use mathlib.Core.Bool.{true, false}
use mathlib.Core.List.{List}
use mathlib.Core.Option.{some}
use lib.ListN.{length}
use Rattle.std.specs.Prelude.{is_some as has_place}
use Rattle.stores.specs.Searches.{first_from}
use Rattle.registry.specs.Records.{parts, is_valid}
use Rattle.registry.specs.Registry.{bad_size}
use Rattle.registry.specs.Tests.{is_named}
use Rattle.registry.specs.Answers.{done_says}
use Rattle.registry.specs.Calls.{close_run}
use Rattle.registry.proofs.Calling.{admitted_both, not_admitted, told_err, found_ok, found_err, valid_long, is_open_at, run_inside, row_room, close_there, close_bad, close_none, size_of}
use Rattle.registry.proofs.registry.close_run.Goals as goal
use Rattle.registry.proofs.registry.close_run.Goals.{In_ok-k}

-- what is known where the run is found
module _ (e : In_ok-k) where
  abbrev reg : List ℕ
  reg = e.args.reg.now

  abbrev run : List ℕ
  run = e.args.run.now

  valid : is_valid reg ≡ true
  valid = (admitted_both _ _ _ e.admit.ensures e.in_ok-admit.was).0

  size : bad_size 32 run ≡ false
  size = sym e.is_bad.ensures ∙ (admitted_both _ _ _ e.admit.ensures e.in_ok-admit.was).1

  some_run : 0 < length run
  some_run = (size_of 32 run size).some_octet

  there : some e.in_ok-k.k ≡ first_from (is_named run) 0 (parts 881 4 reg)
  there = found_ok _ _ _ _ e.ok_or.ensures.value e.in_ok-k.was ∙ e.row_of.ensures

  inside : e.in_ok-k.k < 4
  inside = run_inside reg valid run some_run e.in_ok-k.k there

pub returns-in_err-admit : goal.returns-in_err-admit
returns-in_err-admit c =
    let a = c.args in
    told_err done_says c.from_residual.result c.from_residual.ensures.1
    (not_admitted a.reg.now (close_run a.run.now) _ _ _ c.admit.ensures c.in_err-admit.was
    (λ v b. close_bad a.reg.now v a.run.now (sym c.is_bad.ensures ∙ b)))

pub row_of-requires : goal.row_of-requires
row_of-requires c = valid_long c.args.reg.now (admitted_both _ _ _ c.admit.ensures c.in_ok-admit.was).0

pub returns-in_err-k : goal.returns-in_err-k
returns-in_err-k c =
    let a = c.args in
    let (v, b) = admitted_both _ _ _ c.admit.ensures c.in_ok-admit.was in
    let size = sym c.is_bad.ensures ∙ b in
    told_err done_says c.from_residual-in_err-k.result c.from_residual-in_err-k.ensures.1
    (found_err a.reg.now (close_run a.run.now) _ _ _ _ c.ok_or.ensures.value c.in_err-k.was
    (λ q. close_none a.reg.now v a.run.now size (is_open_at a.reg.now v a.run.now (size_of 32 a.run.now size).some_octet c.row_of.result c.row_of.ensures ∙ ap has_place q)))

pub overflow_mul-at : goal.overflow_mul-at
overflow_mul-at c = omega (arith, inside (goal.at.overflow_mul-at c).In_ok-k)

pub overflow_add-end : goal.overflow_add-end
overflow_add-end c = omega (arith, inside (goal.at.overflow_add-end c).In_ok-k)

pub slice_bounds-fill-end : goal.slice_bounds-fill-end
slice_bounds-fill-end c =
    let e = (goal.at.slice_bounds-fill-end c).In_ok-k in
    row_room (reg e) (valid e) (run e) (some_run e) c.in_ok-k.k (there e)

pub returns : goal.returns
returns c =
    let e = (goal.at.returns c).In_ok-k in
    close_there (reg e) (valid e) (run e) (some_run e) c.in_ok-k.k (there e) (size e) c.fill.new.self (c.fill.ensures.after (λ y z. z))
