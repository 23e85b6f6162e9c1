use Rattle.std.proofs.Common.{[], Some, IsOk, ap, sym, ◌∙◌, subst}
use Rattle.smt_terms.specs.declared.op.Op.{Op}
use Rattle.term_table.specs.Formulas.{term_over, rank_over, IsOpOf}
use Rattle.rule_book.specs.Filling.{remade}
use Rattle.normal_forms.specs.Literals.{literal_of}
use Rattle.rule_book.proofs.Fillings.{literal-operator, theory-numbers, theory-ranked, theory-remade}
use Rattle.rule_book.proofs.filling.constant.Goals as goal

pub make-requires-clause-numbers : goal.make-requires-clause-numbers
make-requires-clause-numbers c =
    let t = c.args.table.now in
    let k = c.args.scalar in
    subst (λ (p : Op). IsOpOf t p) (sym c.literal.ensures) (theory-numbers t (literal_of k) (literal-operator k))

pub make-requires-clause-ranked : goal.make-requires-clause-ranked
make-requires-clause-ranked c =
    let t = c.args.table.now in
    let k = c.args.scalar in
    subst (λ (p : Op). IsOk (rank_over t p [])) (sym c.literal.ensures) (theory-ranked t (literal_of k) (literal-operator k) [] c.requires)

pub returns-clause-term : goal.returns-clause-term
returns-clause-term c =
    let t = c.args.table.now in
    let k = c.args.scalar in
    ap (λ u. Some u) (theory-remade t (literal_of k) (literal-operator k) [] ∙ ap (λ p. remade (term_over t p [])) (sym c.literal.ensures) ∙ sym c.in_ok-id.ensures.term)
