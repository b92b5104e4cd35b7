-- `pattern::match_rest` meets its contract: each branch is a way in which the words that remain match, or do not.
use mathlib.Core.Path.{sym, ◌∙◌}
use Rattle.topics.proofs.Words.{rest_none, rest_hash_yes, rest_hash_end, rest_hash_more, rest_word_end, rest_word_no, rest_word_yes}
use Rattle.topics.proofs.pattern.+match_rest.Goals as goal

pub returns-then-pattern-p : goal.returns-then-pattern-p
returns-then-pattern-p t c = let a = c.args in rest_none a.pattern.now a.p a.name.now a.n c.if-pattern-p.true

pub returns-then-match_rest : goal.returns-then-match_rest
returns-then-match_rest t c =
    let w = c.next_word-after in
    let a = c.args in
    sym (rest_hash_yes a.pattern.now a.p w.result w.ensures a.name.now a.n (cc) (sym c.match_rest.ensures ∙ c.if-match_rest.true))

pub returns-then-name-n : goal.returns-then-name-n
returns-then-name-n t c =
    let w = c.next_word-after in
    let a = c.args in
    sym (rest_hash_end a.pattern.now a.p w.result w.ensures a.name.now a.n (cc) (sym c.match_rest.ensures ∙ c.if-match_rest.false) c.if-name-n.true)

pub returns-then-is_hash : goal.returns-then-is_hash
returns-then-is_hash t c =
    let w = c.next_word-after in
    let next = c.next_word in
    let a = c.args in
    c.match_rest-then-is_hash.ensures
    ∙ sym (rest_hash_more a.pattern.now a.p w.result w.ensures a.name.now a.n (cc) next.result next.ensures (sym c.match_rest.ensures ∙ c.if-match_rest.false))

pub returns-then-name-n-2 : goal.returns-then-name-n-2
returns-then-name-n-2 t c =
    let w = c.next_word-after in
    let a = c.args in
    sym (rest_word_end a.pattern.now a.p w.result w.ensures a.name.now a.n (cc) c.if-name-n-2.true)

pub returns-then-not-stands_for : goal.returns-then-not-stands_for
returns-then-not-stands_for t c =
    let w = c.next_word-after in
    let n = c.next_word-next in
    let a = c.args in
    sym (rest_word_no a.pattern.now a.p w.result w.ensures a.name.now a.n (cc) n.result n.ensures (cc))

pub returns : goal.returns
returns t c =
    let w = c.next_word-after in
    let n = c.next_word-next in
    let a = c.args in
    c.match_rest-2.ensures
    ∙ sym (rest_word_yes a.pattern.now a.p w.result w.ensures a.name.now a.n (cc) n.result n.ensures (cc))
