-- `store::Ids::settle` meets its contract: the tests of the id's length, and where the searches ended.
use Rattle.std.proofs.Common.{sym, ◌∙◌}
use Rattle.sessions.specs.Stores.{ids}
use Rattle.sessions.proofs.Settling.{first_free, settles_empty, settles_long, settles_nothing, settles_need, settles_free, settles_enter}
use Rattle.std.proofs.Common.{length}
use Rattle.sessions.specs.Sessions.{id_max}
use Rattle.sessions.proofs.Walking.{ids_fit}
use Rattle.sessions.proofs.store.Ids.settle.Goals as goal

pub returns-then-id-eq0 : goal.returns-then-id-eq0
returns-then-id-eq0 c =
    let a = c.args in
    settles_empty id_max a.usage a.id.now (ids id_max a.self.octets.now a.self.lens.now) c.if-id-eq0.true

pub returns-then-id-gt-ID : goal.returns-then-id-gt-ID
returns-then-id-gt-ID c =
    let a = c.args in
    settles_long id_max a.usage a.id.now (ids id_max a.self.octets.now a.self.lens.now) c.if-id-eq0.false c.if-id-gt-ID.true

pub returns-in-Nothing : goal.returns-in-Nothing
returns-in-Nothing c =
    let a = c.args in
    settles_nothing id_max a.usage a.id.now _ c.if-id-eq0.false c.if-id-gt-ID.false c.in-Nothing.is

pub returns-in-Need : goal.returns-in-Need
returns-in-Need c =
    let a = c.args in
    settles_need id_max a.usage a.id.now _ c.if-id-eq0.false c.if-id-gt-ID.false
    c.find.result c.find.ensures c.needed.result c.in-Need.is c.needed.ensures

pub returns-in-Enter : goal.returns-in-Enter
returns-in-Enter c =
    let a = c.args in
    settles_enter id_max a.usage a.id.now _ c.if-id-eq0.false c.if-id-gt-ID.false
    c.find-in-Enter.result c.find-in-Enter.ensures c.entered.result c.in-Enter.is
    c.find_free.result (c.find_free.ensures ∙ sym (first_free id_max (length a.self.lens.now) 0 a.self.octets.now a.self.lens.now (ids_fit id_max a.self.octets.now a.self.lens.now a.self.octets_long a.self.lens_short)))
    c.entered.ensures

pub returns-in-Free : goal.returns-in-Free
returns-in-Free c =
    let a = c.args in
    settles_free id_max a.usage a.id.now _ c.if-id-eq0.false c.if-id-gt-ID.false
    c.find-in-Free.result c.find-in-Free.ensures c.freed.result c.in-Free.is c.freed.ensures
