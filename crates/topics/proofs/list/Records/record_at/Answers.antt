-- `list::Records::record_at` meets its contract.
use mathlib.Core.Path.{◌≡◌}
use native.Mathlib.Omega.{arith}
use lib.ListN.{drop}
use Rattle.topics.specs.Lists.{text_length}
use Rattle.topics.proofs.Places.{text_at, stood}
use Rattle.topics.proofs.list.Records.record_at.Goals as goal
use Rattle.topics.proofs.list.Records.record_at.Goals.{After-value-text}

-- the length of the text
text_is : (c : After-value-text) → text_length (drop c.args.at c.args.self.now.octets.now) ≡ c.value-text.result
text_is c = let a = c.args in text_at a.self.now.width a.self.now.octets.now a.at c.value-text.result c.value-text.ensures.0

pub returns-then-left-text : goal.returns-then-left-text
returns-then-left-text c =
    (omega arith, omega (arith, text_is (goal.at.returns-then-left-text c).After-value-text))

pub returns : goal.returns
returns c =
    let a = c.args in
    stood a.self.now.width a.self.now.octets.now a.at c.value-text.result (text_is (goal.at.returns c).After-value-text) c.value.result c.value-2.result c.value.ensures.0
    c.value.ensures.1 c.value-2.ensures.0 c.value-2.ensures.1 (omega arith)
