-- `utf8::next_character` meets its contract.
use borrow.Author.Tests.{eqb-true, eqb-false, lt-ltb, le-ltb}
use native.Mathlib.Omega.{arith}
use lib.ListN.{length}
use mathlib.Core.Path.{◌≡◌, ap, sym, ◌∙◌}
use Rattle.headers.specs.Characters.{whole}
use Rattle.headers.proofs.Characters.{front_ascii, front_wide, front_end, wide_end}
use Rattle.headers.proofs.utf8.next_character.Goals as goal
use Rattle.headers.proofs.utf8.next_character.Goals.{else-not-is_empty-via-then-not-is_empty+else-s-lt128, else-not-is_empty-via-else-not-is_empty}

pub returns-then-s-lt128 : goal.returns-then-s-lt128
returns-then-s-lt128 c =
    let s = c.args.s.now in
    ap whole (sym (front_ascii s 0 (omega (arith, eqb-false (length s) 0 (sym c.is_empty.ensures ∙ c.if-not-is_empty.true))) (lt-ltb _ 128 c.if-s-lt128.true)))

pub returns : goal.returns
returns c =
    let s = c.args.s.now in
    c.next_wide.ensures ∙ elim c.else-not-is_empty.branch [
      | else-not-is_empty-via-then-not-is_empty+else-s-lt128 w ↦ ap whole (sym (front_wide s 0 (omega (arith, eqb-false (length s) 0 (sym c.is_empty.ensures ∙ w.if-not-is_empty.true))) (le-ltb _ 128 w.if-s-lt128.false)))
      | else-not-is_empty-via-else-not-is_empty w ↦
          let none : length s ≡ 0 = eqb-true (length s) 0 (sym c.is_empty.ensures ∙ w.if-not-is_empty.false) in
          ap whole (wide_end s 0 (omega arith) ∙ sym (front_end s 0 (omega arith)))
    ]
