use Rattle.std.proofs.Common.{◌≡◌, [], ◌∷◌, map, length, get_or, ap, ◌∙◌, subst, arith}
use Rattle.std.proofs.lemmas.Result.{on_ok_weaker}
use Rattle.smt_terms.specs.declared.ids.NodeId.{NodeId}
use Rattle.smt_terms.specs.Connectives.{either, any_of, nth}
use Rattle.normal_forms.specs.declared.connective.Connective.TheVariants.{And, Or, Implies, Ite}
use Rattle.normal_forms.specs.Shape.{Takes}
use Rattle.term_table.specs.Formulas.{tree, trees_at}
use Rattle.term_walk.proofs.Visits.{table-grows}
use Rattle.cnf_polarity.specs.Cnf.{complement}
use Rattle.cnf_polarity.proofs.PutFormulas.{puts-two, formula-tree, formula-itself, formula-later, complement-of, puts-pair}
use Rattle.cnf_polarity.proofs.DefiningTerms.{literal-at, negative-from, negative-put, any-complements, each-complements, choose_pair, same-of-four}
use Rattle.cnf_polarity.proofs.defining.negative_clauses.Goals as goal

pub returns-in_ok-others-in-And-clause-puts : goal.returns-in_ok-others-in-And-clause-puts
returns-in_ok-others-in-And-clause-puts c =
    let t = c.args.table.now in
    let u = c.complements.new.table in
    let n = tree t c.args.name in
    let ls = c.args.ls.now in
    let made = c.in_ok-others-in-And.ensures in
    let ks = c.deref.result.now in
    let x = tree u c.args.name in
    on_ok_weaker c.any.result
    (negative-put t c.args.asserts.now n (trees_at t ls) c.args.connective And c.in-And.is u made.grows c.requires.asserts c.any.new.table c.any.new.asserts (any_of (x ∷ trees_at u ks) ∷ [])
    (any-complements t u ls ks x n (formula-tree t u made.grows c.args.name c.requires.name) (ap (trees_at u) c.deref.ensures.value ∙ made.terms)))
    c.any.ensures.puts

pub returns-in_ok-others-in-Or-clause-puts : goal.returns-in_ok-others-in-Or-clause-puts
returns-in_ok-others-in-Or-clause-puts c =
    let t = c.args.table.now in
    let u = c.complements-in-Or.new.table in
    let n = tree t c.args.name in
    let ls = c.args.ls.now in
    let made = c.in_ok-others-in-Or.ensures in
    let ks = c.deref-in-Or.result.now in
    let x = tree u c.args.name in
    on_ok_weaker c.each.result
    (negative-put t c.args.asserts.now n (trees_at t ls) c.args.connective Or c.in-Or.is u made.grows c.requires.asserts c.each.new.table c.each.new.asserts (map (either x) (trees_at u ks))
    (each-complements t u ls ks x n (formula-tree t u made.grows c.args.name c.requires.name) (ap (trees_at u) c.deref-in-Or.ensures.value ∙ made.terms)))
    c.each.ensures.puts

pub returns-in_ok-second-in-Implies-clause-puts : goal.returns-in_ok-second-in-Implies-clause-puts
returns-in_ok-second-in-Implies-clause-puts c =
    let none_yet : NodeId = record { 0 = 0 } in
    let t = c.args.table.now in
    let u = c.pair.new.table in
    let v = c.complement.new.table in
    let n = tree t c.args.name in
    let ls = c.args.ls.now in
    let us = trees_at t ls in
    let number : length ls ≡ 2 = subst (λ k. Takes k (length ls)) c.in-Implies.is c.requires.number in
    let one = c.in_ok-pair-in-Implies.ensures in
    let made = c.in_ok-second-in-Implies.ensures in
    let to_v = table-grows t u v one.grows made.grows in
    let second = c.in_ok-second-in-Implies.second in
    let name = formula-itself t c.args.name c.requires.name in
    let at0 = literal-at t ls 0 none_yet c.requires.ls (omega (arith, number)) in
    let at1 = formula-later t u (get_or ls 1 none_yet) (nth us 1) one.grows (literal-at t ls 1 none_yet c.requires.ls (omega (arith, number))) in
    let not1 = complement-of u v (get_or ls 1 none_yet) second (nth us 1) at1 made.formula made.term in
    let before = c.args.asserts.now in
    let between = c.pair.new.asserts in
    let after = c.pair-in-Implies.new.asserts in
    let first = puts-pair t u before between c.args.name (get_or ls 0 none_yet) n (nth us 0) name at0 one.puts in
    on_ok_weaker c.pair-in-Implies.result
    (λ put. negative-from t before n us c.args.connective Implies c.in-Implies.is c.pair-in-Implies.new.table after
    (puts-two t u v c.pair-in-Implies.new.table before between after (either n (nth us 0)) (either n (complement (nth us 1))) made.grows first
    (puts-pair v c.pair-in-Implies.new.table between after c.args.name second n (complement (nth us 1)) (formula-later t v c.args.name n to_v name) not1 put)))
    c.pair-in-Implies.ensures.puts

pub returns-in_ok-second-in-Ite-clause-puts : goal.returns-in_ok-second-in-Ite-clause-puts
returns-in_ok-second-in-Ite-clause-puts c =
    let none_yet : NodeId = record { 0 = 0 } in
    let t = c.args.table.now in
    let u = c.complement-in-Ite.new.table in
    let v = c.complement-in-Ite-2.new.table in
    let n = tree t c.args.name in
    let ls = c.args.ls.now in
    let us = trees_at t ls in
    let number : length ls ≡ 3 = subst (λ k. Takes k (length ls)) c.in-Ite.is c.requires.number in
    let made = c.in_ok-first-in-Ite.ensures in
    let more = c.in_ok-second-in-Ite.ensures in
    let to_v = table-grows t u v made.grows more.grows in
    let k = get_or ls 0 none_yet in
    let first = c.in_ok-first-in-Ite.first in
    let second = c.in_ok-second-in-Ite.second in
    let name = formula-later t v c.args.name n to_v (formula-itself t c.args.name c.requires.name) in
    let at0 = formula-later t v k (nth us 0) to_v (literal-at t ls 0 none_yet c.requires.ls (omega (arith, number))) in
    let at1 = literal-at t ls 1 none_yet c.requires.ls (omega (arith, number)) in
    let at2 = formula-later t u (get_or ls 2 none_yet) (nth us 2) made.grows (literal-at t ls 2 none_yet c.requires.ls (omega (arith, number))) in
    let not1 = formula-later u v first (complement (nth us 1)) more.grows (complement-of t u (get_or ls 1 none_yet) first (nth us 1) at1 made.formula made.term) in
    let not2 = complement-of u v (get_or ls 2 none_yet) second (nth us 2) at2 more.formula more.term in
    on_ok_weaker c.choose_unless.result
    (negative-put t c.args.asserts.now n us c.args.connective Ite c.in-Ite.is v to_v c.requires.asserts c.choose_unless.new.table c.choose_unless.new.asserts (choose_pair (tree v c.args.name) (tree v k) (tree v first) (tree v second))
    (same-of-four choose_pair (tree v c.args.name) (tree v k) (tree v first) (tree v second) n (nth us 0) (complement (nth us 1)) (complement (nth us 2)) name.term at0.term not1.term not2.term))
    c.choose_unless.ensures.puts
