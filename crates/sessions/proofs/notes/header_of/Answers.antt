-- `notes::header_of` meets its contract: a name is compared with the one known name of its length and first octet.
use Rattle.std.proofs.Common.{not, ◌&&◌, eqb, length, get_or, sym, refl, ◌∙◌, eq-eqb, ne_eqb}
use Rattle.sessions.proofs.Noting.{number_by, number_long}
use Rattle.sessions.proofs.notes.header_of.Goals as goal

pub returns-in-2 : goal.returns-in-2
returns-in-2 c = c.header_if.ensures ∙ sym (number_long c.args.name.now 2 c.in-2.is)

pub returns-in-3 : goal.returns-in-3
returns-in-3 c = c.header_if-in-3.ensures ∙ sym (number_long c.args.name.now 3 c.in-3.is)

pub returns-in-4 : goal.returns-in-4
returns-in-4 c = c.header_if-in-4.ensures ∙ sym (number_long c.args.name.now 4 c.in-4.is)

pub returns-in-7 : goal.returns-in-7
returns-in-7 c = c.header_if-in-7.ensures ∙ sym (number_long c.args.name.now 7 c.in-7.is)

-- of the two names of 10 octets, and of 11, by the first octet
pub returns-then-name-eq104 : goal.returns-then-name-eq104
returns-then-name-eq104 c =
    let x = c.args.name.now in
    c.header_if-then-name-eq104.ensures
    ∙ sym (number_by (λ y. eqb (length y) 10 && eqb (get_or y 0 0) 104) x
    (rw (eq-eqb (length x) 10 c.in-10.is, eq-eqb (get_or x 0 0) 104 c.if-name-eq104.true)))

pub returns-else-name-eq104 : goal.returns-else-name-eq104
returns-else-name-eq104 c =
    let x = c.args.name.now in
    c.header_if-else-name-eq104.ensures
    ∙ sym (number_by (λ y. eqb (length y) 10 && not (eqb (get_or y 0 0) 104)) x
    (rw (eq-eqb (length x) 10 c.in-10.is, ne_eqb (get_or x 0 0) 104 c.if-name-eq104.false)))

pub returns-then-name-eq100 : goal.returns-then-name-eq100
returns-then-name-eq100 c =
    let x = c.args.name.now in
    c.header_if-then-name-eq100.ensures
    ∙ sym (number_by (λ y. eqb (length y) 11 && eqb (get_or y 0 0) 100) x
    (rw (eq-eqb (length x) 11 c.in-11.is, eq-eqb (get_or x 0 0) 100 c.if-name-eq100.true)))

pub returns-else-name-eq100 : goal.returns-else-name-eq100
returns-else-name-eq100 c =
    let x = c.args.name.now in
    c.header_if-else-name-eq100.ensures
    ∙ sym (number_by (λ y. eqb (length y) 11 && not (eqb (get_or y 0 0) 100)) x
    (rw (eq-eqb (length x) 11 c.in-11.is, ne_eqb (get_or x 0 0) 100 c.if-name-eq100.false)))

pub returns-in-12 : goal.returns-in-12
returns-in-12 c = c.header_if-in-12.ensures ∙ sym (number_long c.args.name.now 12 c.in-12.is)

pub returns-in-14 : goal.returns-in-14
returns-in-14 c = c.header_if-in-14.ensures ∙ sym (number_long c.args.name.now 14 c.in-14.is)

pub returns-in_default : goal.returns-in_default
returns-in_default c =
    let x = c.args.name.now in
    sym (number_by (λ y. eqb (length x) (length y)) x (eq-eqb (length x) (length x) refl) ∙ simp (
      ne_eqb _ _ c.in_default.in_default-own.rest.0.0.0.0.0.0.0.1,
      ne_eqb _ _ c.in_default.in_default-own.rest.0.0.0.0.0.0.1,
      ne_eqb _ _ c.in_default.in_default-own.rest.0.0.0.0.0.1,
      ne_eqb _ _ c.in_default.in_default-own.rest.0.0.0.0.1,
      ne_eqb _ _ c.in_default.in_default-own.rest.0.0.0.1,
      ne_eqb _ _ c.in_default.in_default-own.rest.0.0.1,
      ne_eqb _ _ c.in_default.in_default-own.rest.0.1,
      ne_eqb _ _ c.in_default.in_default-own.rest.1,
    ))
