use Rattle.std.proofs.Common.{◌≡◌, ◌∙◌, sym, ap, subst, ◌<◌, true, get_or, arith}
use Rattle.std.proofs.lemmas.List.Elements.{All-from_get_or}
use Rattle.smt_terms.specs.declared.ids.NodeId.{NodeId}
use Rattle.smt_terms.specs.Term.{Term}
use Rattle.term_table.specs.Formulas.{tree, trees_at, no_tree}
use Rattle.dimacs_link.specs.Clauses.{is_clause, has_true, disjuncts}
use Rattle.dimacs_link.proofs.ClauseLists.{kind_some, kind_none, one_counted, get_or-trees, told_bit, small_bit}
use Rattle.dimacs_link.proofs.NodeParts.{length-trees}
use Rattle.dimacs_link.proofs.clauses.count_clauses.Goals as goal

pub returns-in_default-clause-fault : goal.returns-in_default-clause-fault
returns-in_default-clause-fault c cs are =
    let t = c.args.table.now in
    let ks = c.args.roots.now in
    let i = c.loop-place.place in
    let d : NodeId = record { 0 = 0 } in
    let u = tree t (get_or ks i d) in
    record {
      within = subst (λ n. i < n) (sym (length-trees t ks)) c.loop-place-test.true;
      here = ap (is_clause cs) (get_or-trees t ks i d c.loop-place-test.true) ∙ kind_none (is_clause cs u) (has_true cs (disjuncts u)) (c.in_default.ensures cs are);
      before = (c.loop-place.invariant.counted cs are).each;
    }

pub loop-place-preserved : goal.loop-place-preserved
loop-place-preserved c =
    let t = c.args.table.now in
    let ks = c.args.roots.now in
    let i = c.loop-place.place in
    let d : NodeId = record { 0 = 0 } in
    let u = tree t (get_or ks i d) in
    let h = c.in-Some.is_true in
    let at = get_or-trees t ks i d c.loop-place-test.true in
    let was = c.loop-place.invariant in
    record {
      few = omega (arith, was.few, c.from-count.ensures, small_bit h);
      counted = λ cs are.
          let kind = kind_some (is_clause cs u) (has_true cs (disjuncts u)) h (c.in-Some.ensures cs are) in
          one_counted cs (trees_at t ks) i c.loop-place.count c.from-count.result h (subst (λ n. i < n) (sym (length-trees t ks)) c.loop-place-test.true)
          (ap (is_clause cs) at ∙ kind.0) (ap (λ (v : Term). has_true cs (disjuncts v)) at ∙ sym kind.1) (c.from-count.ensures ∙ told_bit h) (was.counted cs are);
    }

pub returns-clause-clauses : goal.returns-clause-clauses
returns-clause-clauses c cs are =
    let t = c.args.table.now in
    let ks = c.args.roots.now in
    let past = c.loop-place-test.false in
    All-from_get_or (λ (u : Term). is_clause cs u ≡ true) (trees_at t ks) no_tree
    (λ i below. (c.loop-place.invariant.counted cs are).each i (let size = length-trees t ks in omega arith))
