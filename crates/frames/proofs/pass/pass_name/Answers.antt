-- `pass::pass_name` meets its contract: the name glides over plain octets as far as its line has room.
use native.Mathlib.Omega.{arith}
use Rattle.frames.specs.Scanning.{Ahead}
use Rattle.frames.proofs.Gliding.{line_short, ahead_by, glides_name}
use Rattle.frames.proofs.Passing.{passed_ahead}
use Rattle.frames.proofs.pass.pass_name.Goals as goal
use Rattle.frames.proofs.pass.pass_name.Goals.{After-text_span}

-- the octets of the name
named : (c : After-text_span) → let a = c.args in Ahead a.s.now a.i a.st.scan c.text_span.result
named c =
    let v = c.args.st.valid in
    let h = line_short v c.requires.1 in
    ahead_by _ 511 c.args.st.scan (glides_name c.args.st.scan v c.style.ensures c.text_stops-stops.ensures c.requires.1 c.requires.2) _ _ c.upto-e.result _ (omega arith) (omega arith) (omega arith) c.text_span.ensures

pub skip-requires : goal.skip-requires
skip-requires c = (named c).kept

pub returns : goal.returns
returns c = passed_ahead (named (goal.at.returns c).After-text_span) c.skip.ensures
