-- `store::is_valid` meets its contract: the tests in turn.
use Rattle.std.proofs.Common.{◌≡◌, true, sym, ◌∙◌}
use Rattle.sessions.specs.Stores.{short, clean, valid_store}
use Rattle.std.proofs.Common.{refl}
use Rattle.sessions.specs.Sessions.{id_max}
use Rattle.sessions.proofs.Walking.{ids_fit}
use Rattle.sessions.proofs.store.is_valid.Goals as goal
use Rattle.sessions.proofs.store.is_valid.Goals.{Else-not-is_clean, Else-not-is_short}

pub returns-then-not-is_short : goal.returns-then-not-is_short
unfolding valid_store
returns-then-not-is_short c = rw (sym c.is_short.ensures ∙ c.if-not-is_short.true)

-- where the lengths are not above that of a place
is_short : (c : Else-not-is_short) → short id_max c.args.lens.now ≡ true
is_short c = sym c.is_short.ensures ∙ c.if-not-is_short.false

pub returns-then-not-is_clean : goal.returns-then-not-is_clean
unfolding valid_store
returns-then-not-is_clean c = rw (is_short (goal.at.returns-then-not-is_clean c).Else-not-is_short, sym c.is_clean.ensures ∙ c.if-not-is_clean.true)

-- and the octets behind the ids are 0
is_clean : (c : Else-not-is_clean) → clean id_max c.args.octets.now c.args.lens.now ≡ true
is_clean c = sym c.is_clean.ensures ∙ c.if-not-is_clean.false

pub is_distinct-requires : goal.is_distinct-requires
is_distinct-requires c =
    record {
      fits = ids_fit id_max c.args.octets.now c.args.lens.now c.requires.0 (is_short (goal.at.is_distinct-requires c).Else-not-is_short);
      clean_yes = is_clean (goal.at.is_distinct-requires c).Else-not-is_clean;
      wide = refl;
      few = c.requires.1;
    }

pub returns : goal.returns
unfolding valid_store
returns c = rw (is_short (goal.at.returns c).Else-not-is_short, is_clean (goal.at.returns c).Else-not-is_clean) c.is_distinct.ensures
