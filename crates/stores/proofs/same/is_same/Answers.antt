-- `same::is_same` meets its contract: what was found so far, and what is left of both rows.
use mathlib.Core.Path.{sym}
use Rattle.headers.proofs.Rows.{same_other}
use Rattle.stores.proofs.same.is_same.Goals as goal

pub returns-then-a-b : goal.returns-then-a-b
returns-then-a-b c = sym (same_other c.args.a.now c.args.b.now c.if-a-b.true)
