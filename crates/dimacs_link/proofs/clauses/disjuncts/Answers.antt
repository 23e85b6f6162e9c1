use Rattle.std.proofs.Common.{◌∙◌, sym, ap, subst, List, [], ◌∷◌}
use Rattle.std.proofs.lemmas.List.Elements.{All-nil, All-cons}
use Rattle.smt_terms.specs.declared.ids.NodeId.{NodeId}
use Rattle.smt_terms.specs.Term.{Term}
use Rattle.term_table.specs.Formulas.{tree, trees_at, operands, IsNode, AreNodes}
use Rattle.dimacs_link.specs.Clauses.{disjuncts}
use Rattle.dimacs_link.proofs.NodeParts.{disjuncts_of_or, disjuncts_of_other}
use Rattle.dimacs_link.proofs.clauses.disjuncts.Goals as goal

pub returns-in-Or-clause-terms : goal.returns-in-Or-clause-terms
returns-in-Or-clause-terms c =
    let t = c.args.table.now in
    c.kids.ensures.terms ∙ sym (ap disjuncts c.in-Or.ensures.term ∙ disjuncts_of_or t [] (operands (tree t c.args.root.now)))

pub returns-in_default : goal.returns-in_default
returns-in_default c =
    let t = c.args.table.now in
    let k = c.args.root.now in
    record {
      terms =
          ap (λ (ks : List NodeId). trees_at t ks) c.from_ref.ensures.value
          ∙ ap (λ (u : Term). u ∷ []) c.op.ensures.term
          ∙ sym (ap disjuncts c.op.ensures.term ∙ disjuncts_of_other t [] c.op.result (operands (tree t k)) c.in_default.not-Or);
      nodes = subst (λ (ks : List NodeId). AreNodes t ks) (sym c.from_ref.ensures.value) (All-cons (IsNode t) k [] c.requires (All-nil (IsNode t)));
    }
