use Rattle.headers.proofs.Stretches.{FirstStop}
use Rattle.headers.proofs.plain.first_stop.Given as goal

abbrev pub invariant-loop-i : goal.invariant-loop-i
invariant-loop-i g l = FirstStop (g.T.OctetTest.test l.test) l.s l.k l.i
