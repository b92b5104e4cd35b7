-- `scan::on_start` meets its contract: each test that led there picks the next state.
use Rattle.frames.specs.Scanning.{on_start}
use borrow.Author.Tests.{eq-eqb, ne_eqb}
use lib.Dec.{eqb}
use mathlib.Core.Bool.{true, false, ◌&&◌}
use mathlib.Core.Path.{◌≡◌}
use Rattle.frames.proofs.scan.on_start.Goals as goal

pub returns-then-x-eq10 : goal.returns-then-x-eq10
unfolding on_start
returns-then-x-eq10 c = simp (c.to_phase.ensures, eq-eqb _ _ c.if-x-eq10.true)

pub returns : goal.returns
unfolding on_start
returns c =
    let x = c.args.x in
    let p : eqb x 10 ≡ false = ne_eqb x 10 c.if-x-eq10.false in
    let q : eqb x 13 && c.args.st.scan.crlf ≡ true = rw p at c.requires in
    simp (c.to_phase-2.ensures, p, q)
