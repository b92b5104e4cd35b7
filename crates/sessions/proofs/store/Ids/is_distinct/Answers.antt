-- `store::Ids::is_distinct` meets its contract: by whether the keys are told apart.
use Rattle.std.proofs.Common.{length, sym, ap, ◌∙◌}
use Rattle.stores.specs.Keys.{apart}
use Rattle.sessions.specs.Sessions.{id_max}
use Rattle.sessions.proofs.Telling.{front_keys, apart_distinct}
use Rattle.sessions.proofs.store.Ids.is_distinct.Goals as goal

pub returns-then-are_apart : goal.returns-then-are_apart
returns-then-are_apart c =
    let s = c.args.self in
    let told = ap (λ z. apart z s.lens.now) (sym (front_keys c.requires c.put_keys.new.d c.put_keys.ensures)) in
    sym (apart_distinct id_max (length s.lens.now) s.octets.now s.lens.now c.requires (told ∙ sym c.are_apart.ensures ∙ c.if-are_apart.true))
