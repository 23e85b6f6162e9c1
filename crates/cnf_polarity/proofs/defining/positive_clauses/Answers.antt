use Rattle.std.proofs.Common.{◌≡◌, ◌≤◌, List, [], ◌∷◌, map, length, get_or, refl, sym, ◌∙◌, subst, arith}
use Rattle.std.proofs.lemmas.Result.{on_ok_weaker}
use Rattle.smt_terms.specs.Term.{Term}
use Rattle.smt_terms.specs.Connectives.{either, any_of, nth}
use Rattle.smt_terms.specs.declared.ids.NodeId.{NodeId}
use Rattle.normal_forms.specs.declared.connective.Connective.TheVariants.{Not, And, Or, Xor, Implies, Equal, Distinct, Ite}
use Rattle.normal_forms.specs.Shape.{Takes}
use Rattle.term_table.specs.Formulas.{tree, trees_at}
use Rattle.term_walk.proofs.Visits.{table-grows}
use Rattle.cnf_polarity.specs.Cnf.{complement, triple}
use Rattle.cnf_polarity.specs.Putting.{Puts}
use Rattle.cnf_polarity.proofs.PutFormulas.{puts-none, puts-one, formula-itself, formula-later, complement-of, puts-triple}
use Rattle.cnf_polarity.proofs.DefiningTerms.{literal-at, of-more, of-two, positive-from, positive-put, each-seen, any-seen, differ_pair, agree_pair, choose_pair, same-of-three, same-of-four}
use Rattle.cnf_polarity.proofs.defining.positive_clauses.Goals as goal

pub returns-in-Not-clause-puts : goal.returns-in-Not-clause-puts
returns-in-Not-clause-puts c =
    let t = c.args.table.now in
    let u = c.complement.new.table in
    positive-from t c.args.asserts.now (tree t c.args.name) (trees_at t c.args.ls.now) c.args.connective Not c.in-Not.is u c.args.asserts.now
    (puts-none t u c.in_ok-unnamed.ensures.grows c.args.asserts.now c.requires.asserts)

pub returns-in-And-clause-puts : goal.returns-in-And-clause-puts
returns-in-And-clause-puts c =
    let t = c.args.table.now in
    let u = c.complement.new.table in
    let n = tree t c.args.name in
    let made = c.in_ok-unnamed.ensures in
    let x = tree u c.in_ok-unnamed.unnamed in
    on_ok_weaker c.each.result
    (positive-put t c.args.asserts.now n (trees_at t c.args.ls.now) c.args.connective And c.in-And.is u made.grows c.requires.asserts c.each.new.table c.each.new.asserts (map (either x) (trees_at u c.args.ls.now))
    (each-seen t u c.args.ls.now x (complement n) made.grows c.requires.ls made.term))
    c.each.ensures.puts

pub returns-in-Or-clause-puts : goal.returns-in-Or-clause-puts
returns-in-Or-clause-puts c =
    let t = c.args.table.now in
    let u = c.complement.new.table in
    let n = tree t c.args.name in
    let made = c.in_ok-unnamed.ensures in
    let x = tree u c.in_ok-unnamed.unnamed in
    on_ok_weaker c.any.result
    (positive-put t c.args.asserts.now n (trees_at t c.args.ls.now) c.args.connective Or c.in-Or.is u made.grows c.requires.asserts c.any.new.table c.any.new.asserts (any_of (x ∷ trees_at u c.args.ls.now) ∷ [])
    (any-seen t u c.args.ls.now x (complement n) made.grows c.requires.ls made.term))
    c.any.ensures.puts

pub returns-in_ok-first-in-Implies-clause-puts : goal.returns-in_ok-first-in-Implies-clause-puts
returns-in_ok-first-in-Implies-clause-puts c =
    let none_yet : NodeId = record { 0 = 0 } in
    let t = c.args.table.now in
    let u = c.complement.new.table in
    let v = c.complement-in-Implies.new.table in
    let n = tree t c.args.name in
    let ls = c.args.ls.now in
    let us = trees_at t ls in
    let number : length ls ≡ 2 = subst (λ k. Takes k (length ls)) c.in-Implies.is c.requires.number in
    let made = c.in_ok-unnamed.ensures in
    let other = c.in_ok-first-in-Implies.ensures in
    let to_v = table-grows t u v made.grows other.grows in
    let x = formula-later u v c.in_ok-unnamed.unnamed (complement n) other.grows (complement-of t u c.args.name c.in_ok-unnamed.unnamed n (formula-itself t c.args.name c.requires.name) made.formula made.term) in
    let a = complement-of u v (get_or ls 0 none_yet) c.in_ok-first-in-Implies.first (nth us 0) (formula-later t u (get_or ls 0 none_yet) (nth us 0) made.grows (literal-at t ls 0 none_yet c.requires.ls (omega (arith, number)))) other.formula other.term in
    let b = formula-later t v (get_or ls 1 none_yet) (nth us 1) to_v (literal-at t ls 1 none_yet c.requires.ls (omega (arith, number))) in
    on_ok_weaker c.triple.result
    (λ put. positive-put t c.args.asserts.now n us c.args.connective Implies c.in-Implies.is v to_v c.requires.asserts c.triple.new.table c.triple.new.asserts (triple (complement n) (complement (nth us 0)) (nth us 1) ∷ []) refl
    (puts-triple v c.triple.new.table c.args.asserts.now c.triple.new.asserts c.in_ok-unnamed.unnamed c.in_ok-first-in-Implies.first (get_or ls 1 none_yet) (complement n) (complement (nth us 0)) (nth us 1) x a b put))
    c.triple.ensures.puts

pub returns-in-Xor-clause-puts : goal.returns-in-Xor-clause-puts
returns-in-Xor-clause-puts c =
    let none_yet : NodeId = record { 0 = 0 } in
    let t = c.args.table.now in
    let u = c.complement.new.table in
    let n = tree t c.args.name in
    let ls = c.args.ls.now in
    let us = trees_at t ls in
    let number : length ls ≡ 2 = subst (λ k. Takes k (length ls)) c.in-Xor.is c.requires.number in
    let made = c.in_ok-unnamed.ensures in
    let x = tree u c.in_ok-unnamed.unnamed in
    let a = formula-later t u (get_or ls 0 none_yet) (nth us 0) made.grows (literal-at t ls 0 none_yet c.requires.ls (omega (arith, number))) in
    let b = formula-later t u (get_or ls 1 none_yet) (nth us 1) made.grows (literal-at t ls 1 none_yet c.requires.ls (omega (arith, number))) in
    on_ok_weaker c.differ_unless.result
    (positive-put t c.args.asserts.now n us c.args.connective Xor c.in-Xor.is u made.grows c.requires.asserts c.differ_unless.new.table c.differ_unless.new.asserts (differ_pair x (tree u (get_or ls 0 none_yet)) (tree u (get_or ls 1 none_yet)))
    (same-of-three differ_pair x (tree u (get_or ls 0 none_yet)) (tree u (get_or ls 1 none_yet)) (complement n) (nth us 0) (nth us 1) made.term a.term b.term))
    c.differ_unless.ensures.puts

pub returns-in-Equal-clause-puts : goal.returns-in-Equal-clause-puts
returns-in-Equal-clause-puts c =
    let none_yet : NodeId = record { 0 = 0 } in
    let t = c.args.table.now in
    let u = c.complement.new.table in
    let n = tree t c.args.name in
    let ls = c.args.ls.now in
    let us = trees_at t ls in
    let number : length ls ≡ 2 = subst (λ k. Takes k (length ls)) c.in-Equal.is c.requires.number in
    let made = c.in_ok-unnamed.ensures in
    let x = tree u c.in_ok-unnamed.unnamed in
    let a = formula-later t u (get_or ls 0 none_yet) (nth us 0) made.grows (literal-at t ls 0 none_yet c.requires.ls (omega (arith, number))) in
    let b = formula-later t u (get_or ls 1 none_yet) (nth us 1) made.grows (literal-at t ls 1 none_yet c.requires.ls (omega (arith, number))) in
    on_ok_weaker c.agree_unless.result
    (positive-put t c.args.asserts.now n us c.args.connective Equal c.in-Equal.is u made.grows c.requires.asserts c.agree_unless.new.table c.agree_unless.new.asserts (agree_pair x (tree u (get_or ls 0 none_yet)) (tree u (get_or ls 1 none_yet)))
    (same-of-three agree_pair x (tree u (get_or ls 0 none_yet)) (tree u (get_or ls 1 none_yet)) (complement n) (nth us 0) (nth us 1) made.term a.term b.term))
    c.agree_unless.ensures.puts

pub returns-in-Ite-clause-puts : goal.returns-in-Ite-clause-puts
returns-in-Ite-clause-puts c =
    let none_yet : NodeId = record { 0 = 0 } in
    let t = c.args.table.now in
    let u = c.complement.new.table in
    let n = tree t c.args.name in
    let ls = c.args.ls.now in
    let us = trees_at t ls in
    let number : length ls ≡ 3 = subst (λ k. Takes k (length ls)) c.in-Ite.is c.requires.number in
    let made = c.in_ok-unnamed.ensures in
    let x = tree u c.in_ok-unnamed.unnamed in
    let at0 = formula-later t u (get_or ls 0 none_yet) (nth us 0) made.grows (literal-at t ls 0 none_yet c.requires.ls (omega (arith, number))) in
    let at1 = formula-later t u (get_or ls 1 none_yet) (nth us 1) made.grows (literal-at t ls 1 none_yet c.requires.ls (omega (arith, number))) in
    let at2 = formula-later t u (get_or ls 2 none_yet) (nth us 2) made.grows (literal-at t ls 2 none_yet c.requires.ls (omega (arith, number))) in
    on_ok_weaker c.choose_unless.result
    (positive-put t c.args.asserts.now n us c.args.connective Ite c.in-Ite.is u made.grows c.requires.asserts c.choose_unless.new.table c.choose_unless.new.asserts (choose_pair x (tree u (get_or ls 0 none_yet)) (tree u (get_or ls 1 none_yet)) (tree u (get_or ls 2 none_yet)))
    (same-of-four choose_pair x (tree u (get_or ls 0 none_yet)) (tree u (get_or ls 1 none_yet)) (tree u (get_or ls 2 none_yet)) (complement n) (nth us 0) (nth us 1) (nth us 2) made.term at0.term at1.term at2.term))
    c.choose_unless.ensures.puts

pub returns-in-Distinct-clause-puts : goal.returns-in-Distinct-clause-puts
returns-in-Distinct-clause-puts c =
    let t = c.args.table.now in
    let u = c.complement.new.table in
    let n = tree t c.args.name in
    let ls = c.args.ls.now in
    let made = c.in_ok-unnamed.ensures in
    on_ok_weaker c.push.result
    (λ are. positive-from t c.args.asserts.now n (trees_at t ls) c.args.connective Distinct c.in-Distinct.is u c.push.new.self
    (subst (λ (us : List Term). Puts t u c.args.asserts.now c.push.new.self us) (sym (of-more t ls n c.if-ls-gt2.true))
    (puts-one t u made.grows c.args.asserts.now c.push.new.self c.in_ok-unnamed.unnamed (complement n) c.requires.asserts made.formula made.term are)))
    c.push.ensures.ok

pub returns-in-Distinct-2-clause-puts : goal.returns-in-Distinct-2-clause-puts
returns-in-Distinct-2-clause-puts c =
    let none_yet : NodeId = record { 0 = 0 } in
    let t = c.args.table.now in
    let u = c.complement.new.table in
    let n = tree t c.args.name in
    let ls = c.args.ls.now in
    let us = trees_at t ls in
    let number : 2 ≤ length ls = subst (λ k. Takes k (length ls)) c.in-Distinct-2.is c.requires.number in
    let made = c.in_ok-unnamed.ensures in
    let x = tree u c.in_ok-unnamed.unnamed in
    let a = formula-later t u (get_or ls 0 none_yet) (nth us 0) made.grows (literal-at t ls 0 none_yet c.requires.ls (omega (arith, number))) in
    let b = formula-later t u (get_or ls 1 none_yet) (nth us 1) made.grows (literal-at t ls 1 none_yet c.requires.ls (omega (arith, number))) in
    on_ok_weaker c.differ_unless-in-Distinct-2.result
    (positive-put t c.args.asserts.now n us c.args.connective Distinct c.in-Distinct-2.is u made.grows c.requires.asserts c.differ_unless-in-Distinct-2.new.table c.differ_unless-in-Distinct-2.new.asserts (differ_pair x (tree u (get_or ls 0 none_yet)) (tree u (get_or ls 1 none_yet)))
    (same-of-three differ_pair x (tree u (get_or ls 0 none_yet)) (tree u (get_or ls 1 none_yet)) (complement n) (nth us 0) (nth us 1) made.term a.term b.term ∙ sym (of-two t ls n c.if-ls-gt2.false)))
    c.differ_unless-in-Distinct-2.ensures.puts
