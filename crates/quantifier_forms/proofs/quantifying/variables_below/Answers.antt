use Rattle.std.proofs.Common.{List, sym, subst}
use Rattle.smt_terms.specs.declared.ids.NodeId.{NodeId}
use Rattle.term_table.specs.Formulas.{tree}
use Rattle.normal_forms.specs.Shape.{variables_of}
use Rattle.quantifier_forms.specs.Variables.{AreVariables}
use Rattle.quantifier_forms.proofs.Bodies.{bound-variables, kid-nodes}
use Rattle.quantifier_forms.proofs.quantifying.variables_below.Goals as goal

pub returns : goal.returns
returns c =
    subst (λ (ks : List NodeId). AreVariables c.args.table.now ks (variables_of (tree c.args.table.now c.args.id))) (sym c.in_ok-variables.ensures.items)
    (record {
      nodes = kid-nodes c.args.table.now c.args.id c.kids-kids.result.now c.requires.node c.kids-kids.ensures.below;
      terms = bound-variables c.args.table.now (tree c.args.table.now c.args.id) c.requires.quantified c.kids-kids.result.now c.kids-kids.ensures.terms;
    })
