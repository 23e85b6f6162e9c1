use Rattle.std.proofs.Common.{[], ap, Some, sym, ◌∙◌, subst}
use Rattle.smt_terms.specs.declared.op.Op.{Op}
use Rattle.smt_terms.specs.Rank.{sort_of}
use Rattle.term_table.specs.Formulas.{Makes, term_over}
use Rattle.normal_forms.proofs.LiteralNodes.{literal-makes, literal-sort, literal-constant}
use Rattle.normal_forms.proofs.literals.node_of.Goals as goal

pub intern-requires : goal.intern-requires
intern-requires c = subst (λ (p : Op). Makes c.args.table.now p []) (sym c.literal.ensures) (literal-makes c.args.table.now c.args.scalar c.requires)

pub returns-clause-sort : goal.returns-clause-sort
returns-clause-sort c =
    ap sort_of (c.in_ok-id.ensures.term ∙ ap (λ p. term_over c.args.table.now p []) c.literal.ensures) ∙ literal-sort c.args.table.now c.args.scalar c.requires

pub returns-clause-term : goal.returns-clause-term
returns-clause-term c =
    literal-constant c.args.table.now c.args.scalar c.requires ∙ ap (λ p. Some (term_over c.args.table.now p [])) (sym c.literal.ensures) ∙ ap Some (sym c.in_ok-id.ensures.term)
