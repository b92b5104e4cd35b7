-- `encode::declared_length` meets its contract.
use native.Mathlib.Omega.{arith}
use Rattle.headers.proofs.Rows.{octets_known}
use Rattle.frames.proofs.Writing.{told_of}
use Rattle.frames.proofs.encode.declared_length.Goals as goal

pub returns : goal.returns
returns c = told_of c.args.block.now (octets_known c.args.block.now (λ i. omega (arith, c.type_inv.block i))) c.find.result c.find.ensures
