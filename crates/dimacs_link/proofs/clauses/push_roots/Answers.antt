use Rattle.std.proofs.Common.{◌≡◌, ◌∙◌, ap, List, [], ◌∷◌, ◌++◌, true, flat_map, get_or, arith}
use Rattle.std.proofs.lemmas.List.{take_all}
use Rattle.smt_terms.specs.declared.ids.NodeId.{NodeId}
use Rattle.term_table.specs.Formulas.{tree, trees_at}
use Rattle.dimacs_link.specs.Clauses.{is_clause, clauses, clause_text}
use Rattle.dimacs_link.proofs.ClauseLists.{lines_more, tree_at}
use Rattle.dimacs_link.proofs.clauses.push_roots.Goals as goal

pub loop-root-preserved : goal.loop-root-preserved
loop-root-preserved c cs are all =
    let t = c.args.table.now in
    let ks = c.args.roots.now in
    let i = c.loop-root.root-index in
    let d : NodeId = record { 0 = 0 } in
    c.in_ok-push_root.ensures cs are (tree_at t ks i d c.loop-root-test.true (λ u. is_clause cs u ≡ true) all)
    ∙ ap (λ (bs : List _). bs ++ flat_map clause_text (clauses cs (tree t (get_or ks i d) ∷ []))) (c.loop-root.invariant cs are all)
    ∙ lines_more t cs ks i d c.loop-root-test.true c.args.text.now.items

pub returns : goal.returns
returns c cs are all =
    let t = c.args.table.now in
    let ks = c.args.roots.now in
    c.loop-root.invariant cs are all
    ∙ ap (λ (js : List NodeId). c.args.text.now.items ++ flat_map clause_text (clauses cs (trees_at t js))) (take_all c.loop-root.root-index ks (let past = c.loop-root-test.false in omega arith))
