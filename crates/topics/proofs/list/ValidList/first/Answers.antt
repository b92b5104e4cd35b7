-- `list::ValidList::first` meets its contract: no record passed passes the test.
use mathlib.Core.Path.{sym, ◌∙◌}
use Rattle.topics.proofs.Places.{first_found, passed_on, first_end}
use Rattle.topics.proofs.list.ValidList.first.Goals as goal

pub returns-then-test : goal.returns-then-test
returns-then-test g c = λ f t.
    let list = c.args.self.now.list in
    let r = c.in-Some.r in
    let stood = c.in-Some.ensures in
    (stood.inside, first_found list.width list.octets.now (λ e. f e.number) c.loop-r.at (c.loop-r.invariant f t) r stood (sym (t r.number c.test.result stood.inside.number_small c.test.ensures) ∙ c.if-test.true))

pub loop-r-preserved : goal.loop-r-preserved
loop-r-preserved g c = λ f t.
    let list = c.args.self.now.list in
    let r = c.in-Some.r in
    let stood = c.in-Some.ensures in
    passed_on list.width list.octets.now (λ e. f e.number) c.loop-r.at (c.loop-r.invariant f t) r stood (sym (t r.number c.test.result stood.inside.number_small c.test.ensures) ∙ c.if-test.false)

pub returns : goal.returns
returns g c = λ f t.
    let list = c.args.self.now.list in
    first_end list.width list.octets.now (λ e. f e.number) c.loop-r.at (c.loop-r.invariant f t) c.in_default.ensures
