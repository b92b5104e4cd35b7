-- `store::Ids::is_repeated` meets its contract: the tests in turn.
use Rattle.std.proofs.Common.{sym, ◌∙◌}
use Rattle.sessions.specs.Sessions.{id_max}
use Rattle.sessions.specs.Stores.{ids}
use Rattle.sessions.proofs.Telling.{again_found, again_missed}
use Rattle.sessions.proofs.store.Ids.is_repeated.Goals as goal

pub returns-then-has_key : goal.returns-then-has_key
returns-then-has_key c =
    let s = c.args.self in
    again_found c.args.id.now (ids id_max s.octets.now s.lens.now) c.if-id-eq0.false c.find.result c.is_some.result c.find.ensures c.is_some.ensures

pub returns : goal.returns
returns c = again_missed c.requires c.if-id-eq0.false (sym c.if-has_key.false ∙ c.has_key.ensures)
