use Rattle.std.proofs.Common.{◌≡◌, ◌*◌, drop}
use Rattle.headers.specs.Rows.{same}
use Rattle.stores.specs.Searches.{first_from}
use Rattle.sessions.specs.Sessions.{id_max}
use Rattle.sessions.specs.Stores.{ids}
use Rattle.sessions.proofs.store.Ids.find.Given as goal

abbrev pub invariant-loop-k : goal.invariant-loop-k
invariant-loop-k l =
    first_from (λ x. same x l.id) 0 (ids id_max l.self.octets.now l.self.lens.now)
    ≡ first_from (λ x. same x l.id) l.k (ids id_max (drop (l.k * id_max) l.self.octets.now) (drop l.k l.self.lens.now))
