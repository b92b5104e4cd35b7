-- `pattern::put_any` meets its contract.
use mathlib.Core.Path.{sym, ◌∙◌}
use Rattle.topics.specs.Topics.{words}
use Rattle.topics.proofs.Filling.{as_hash}
use Rattle.topics.proofs.pattern.put_any.Goals as goal

pub returns-then-is_hash : goal.returns-then-is_hash
returns-then-is_hash c =
    let a = c.args in
    as_hash a.word.now (sym c.is_hash.ensures ∙ c.if-is_hash.true) (c.put_hash.ensures (words a.name.now.text.now) a.name.now.located.number)
