use Rattle.std.proofs.Common.{◌≡◌, ◌*◌, drop}
use Rattle.sessions.specs.Sessions.{id_max}
use Rattle.sessions.specs.Stores.{clean}
use Rattle.sessions.proofs.store.Ids.is_clean.Given as goal

abbrev pub invariant-loop-k : goal.invariant-loop-k
invariant-loop-k l =
    clean id_max l.self.octets.now l.self.lens.now ≡ clean id_max (drop (l.k * id_max) l.self.octets.now) (drop l.k l.self.lens.now)
