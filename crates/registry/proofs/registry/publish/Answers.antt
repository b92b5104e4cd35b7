-- `registry/publish` meets its contract. The checks in turn, then the run and its slots.
use Prim.Native.Nat.{ℕ, ◌<◌}
use native.Mathlib.Omega.{arith}
use mathlib.Core.Path.{◌≡◌, sym, ap, ap₂, ◌∙◌}
use mathlib.Core.Bool.{true, false, ◌||◌}
use mathlib.Core.List.{List}
use mathlib.Core.Option.{some}
use lib.ListN.{length}
use Rattle.std.specs.Prelude.{is_some as has_place}
use Rattle.headers.proofs.Rows.{or_false_left, or_false_right}
use Rattle.stores.specs.Searches.{first_from}
use Rattle.registry.specs.Records.{parts, is_valid}
use Rattle.registry.specs.Registry.{bad_size}
use Rattle.registry.specs.Tests.{is_named}
use Rattle.registry.specs.Answers.{done_says}
use Rattle.registry.specs.Calls.{publish}
use Rattle.registry.proofs.Calling.{admitted_both, not_admitted, told_err, found_ok, found_err, valid_long, is_open_at, run_inside, publish_bad, publish_none, size_of, slots_room, slots_part, publish_part}
use Rattle.registry.proofs.registry.publish.Goals as goal
use Rattle.registry.proofs.registry.publish.Goals.{In_ok-admit, In_ok-k}

-- what is known where no text has a bad size
sizes_of : (e : In_ok-admit) → let a = e.args in bad_size 32 a.run.now || (bad_size 32 a.destination.now || bad_size 64 a.text.now) ≡ false
sizes_of e =
    sym (ap₂ (◌||◌) e.is_bad.ensures (ap₂ (◌||◌) e.is_bad-2.ensures e.is_bad-3.ensures))
    ∙ (admitted_both _ _ _ e.admit.ensures e.in_ok-admit.was).1

-- what is known where the run is found
module _ (e : In_ok-k) where
  abbrev reg : List ℕ
  reg = e.args.reg.now

  abbrev run : List ℕ
  run = e.args.run.now

  valid : is_valid reg ≡ true
  valid = (admitted_both _ _ _ e.admit.ensures e.in_ok-admit.was).0

  sizes : bad_size 32 run || (bad_size 32 e.args.destination.now || bad_size 64 e.args.text.now) ≡ false
  sizes =
      sym (ap₂ (◌||◌) e.is_bad.ensures (ap₂ (◌||◌) e.is_bad-2.ensures e.is_bad-3.ensures))
      ∙ (admitted_both _ _ _ e.admit.ensures e.in_ok-admit.was).1

  texts : bad_size 32 e.args.destination.now || bad_size 64 e.args.text.now ≡ false
  texts = or_false_right (bad_size 32 run) (bad_size 32 e.args.destination.now || bad_size 64 e.args.text.now) sizes

  some_run : 0 < length run
  some_run = (size_of 32 run (or_false_left (bad_size 32 run) (bad_size 32 e.args.destination.now || bad_size 64 e.args.text.now) sizes)).some_octet

  there : some e.in_ok-k.k ≡ first_from (is_named run) 0 (parts 881 4 reg)
  there = found_ok _ _ _ _ e.ok_or.ensures.value e.in_ok-k.was ∙ e.row_of.ensures

  inside : e.in_ok-k.k < 4
  inside = run_inside reg valid run some_run e.in_ok-k.k there

pub returns-in_err-admit : goal.returns-in_err-admit
returns-in_err-admit c =
    let a = c.args in
    told_err done_says c.from_residual.result c.from_residual.ensures.1
    (not_admitted a.reg.now (publish a.run.now a.destination.now a.text.now a.session) _ _ _ c.admit.ensures c.in_err-admit.was
    (λ v b. publish_bad a.reg.now v a.run.now a.destination.now a.text.now a.session
    (sym (ap₂ (◌||◌) c.is_bad.ensures (ap₂ (◌||◌) c.is_bad-2.ensures c.is_bad-3.ensures)) ∙ b)))

pub row_of-requires : goal.row_of-requires
row_of-requires c = valid_long c.args.reg.now (admitted_both _ _ _ c.admit.ensures c.in_ok-admit.was).0

pub returns-in_err-k : goal.returns-in_err-k
returns-in_err-k c =
    let a = c.args in
    let v = (admitted_both _ _ _ c.admit.ensures c.in_ok-admit.was).0 in
    let size = sizes_of (goal.at.returns-in_err-k c).In_ok-admit in
    let some_run = (size_of 32 a.run.now (or_false_left (bad_size 32 a.run.now) (bad_size 32 a.destination.now || bad_size 64 a.text.now) size)).some_octet in
    told_err done_says c.from_residual-in_err-k.result c.from_residual-in_err-k.ensures.1
    (found_err a.reg.now (publish a.run.now a.destination.now a.text.now a.session) _ _ _ _ c.ok_or.ensures.value c.in_err-k.was
    (λ q. publish_none a.reg.now v a.run.now a.destination.now a.text.now a.session size
    (is_open_at a.reg.now v a.run.now some_run c.row_of.result c.row_of.ensures ∙ ap has_place q)))

pub overflow_mul-at : goal.overflow_mul-at
overflow_mul-at c = omega (arith, inside (goal.at.overflow_mul-at c).In_ok-k)

pub overflow_add-at : goal.overflow_add-at
overflow_add-at c = omega (arith, inside (goal.at.overflow_add-at c).In_ok-k)

pub overflow_add-end : goal.overflow_add-end
overflow_add-end c = omega (arith, inside (goal.at.overflow_add-end c).In_ok-k)

pub slice_bounds-publish_in-end : goal.slice_bounds-publish_in-end
slice_bounds-publish_in-end c =
    let e = (goal.at.slice_bounds-publish_in-end c).In_ok-k in
    slots_room (reg e) (valid e) (run e) (some_run e) c.in_ok-k.k (there e)

pub publish_in-requires : goal.publish_in-requires
publish_in-requires c =
    let e = (goal.at.publish_in-requires c).In_ok-k in
    let a = c.args in (
      slots_part (reg e) (valid e) (run e) (some_run e) c.in_ok-k.k (there e),
      size_of 32 a.destination.now (or_false_left (bad_size 32 a.destination.now) (bad_size 64 a.text.now) (texts e)),
      size_of 64 a.text.now (or_false_right (bad_size 32 a.destination.now) (bad_size 64 a.text.now) (texts e)),
    )

pub returns : goal.returns
returns c =
    let e = (goal.at.returns c).In_ok-k in
    publish_part (reg e) (valid e) (run e) (some_run e) c.in_ok-k.k (there e) c.args.destination.now c.args.text.now c.args.session (sizes e)
    c.publish_in.result c.publish_in.new.rows c.publish_in.ensures
