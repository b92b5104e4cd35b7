-- `locate::acceptance` meets its contract: the receipt, and how many later entries follow of three headers.
use Rattle.std.proofs.Common.{◌≡◌, Bool, true, false, not, refl}
use Rattle.headers.specs.Block.{entries, listed}
use Rattle.sessions.specs.Headers.{has}
use Rattle.sessions.specs.declared.command.Header.{Header}
use Rattle.sessions.proofs.Noting.{later_in}
use Rattle.sessions.proofs.locate.acceptance.Goals as goal

twice : (t : Bool) → not (not t) ≡ t
twice true = refl
twice false = refl

pub returns : goal.returns
returns c =
    λ block all. rw (
      c.opens.ensures,
      c.lacks.ensures block all,
      twice (has Header.Receipt (listed (entries block))),
      c.later.ensures,
      c.later-2.ensures,
      c.later-3.ensures,
      later_in all Header.Destination,
      later_in all Header.Id,
      later_in all Header.Transaction,
    ) refl
