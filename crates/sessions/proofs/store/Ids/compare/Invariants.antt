use Rattle.std.proofs.Common.{◌≡◌, ◌*◌, true, drop}
use Rattle.sessions.specs.Sessions.{id_max}
use Rattle.sessions.specs.Stores.{ids, clean, distinct}
use Rattle.sessions.proofs.store.Ids.compare.Given as goal

abbrev pub invariant-loop-k : goal.invariant-loop-k
invariant-loop-k l = (clean id_max (drop (l.k * id_max) l.self.octets.now) (drop l.k l.self.lens.now) ≡ true) ×
    (distinct (ids id_max l.self.octets.now l.self.lens.now)
    ≡ distinct (ids id_max (drop (l.k * id_max) l.self.octets.now) (drop l.k l.self.lens.now)))
