-- `parts::SubscriptionStore::is_valid` meets its contract.
use Rattle.std.proofs.Common.{sym, ◌∙◌}
use Rattle.sessions.proofs.parts.SubscriptionStore.is_valid.Goals as goal

pub returns-then-not-is_valid : goal.returns-then-not-is_valid
returns-then-not-is_valid c = rw (sym c.is_valid.ensures ∙ c.if-not-is_valid.true)

pub returns : goal.returns
returns c = rw (sym c.is_valid.ensures ∙ c.if-not-is_valid.false) c.are_valid_modes.ensures
