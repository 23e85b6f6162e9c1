use Rattle.std.proofs.Common.{◌≡◌, ◌++◌, ◌∷◌, [], not, List, map, Ok, sym, ap, ◌∙◌, subst}
use Rattle.smt_lex.specs.Forest.{token_at}
use Rattle.smt_terms.specs.declared.op.Op.{Op}
use Rattle.smt_terms.specs.Term.{quantified}
use Rattle.term_table.specs.Formulas.{tree, trees_at, term_over, Makes}
use Rattle.script_terms.specs.declared.causes.Cause.TheVariants.{WrongSort}
use Rattle.script_terms.specs.declared.locals.Constant.{Constant}
use Rattle.script_terms.specs.Bound.{variables_of}
use Rattle.script_terms.specs.Quantifiers.{quantifier_of}
use Rattle.script_terms.specs.Refusals.{unless}
use Rattle.script_terms.proofs.MadeQuantifiers.{quantifier_makes, quantifier_term, quantifier_spared, body_truth}
use Rattle.script_terms.proofs.Refusing.{refused_at}
use Rattle.script_terms.proofs.Refusing.{refuses_as}
use Rattle.script_terms.proofs.terms.quantifiers.quantified.Goals as goal

pub intern-requires : goal.intern-requires
intern-requires c =
    let t = c.args.table.now in
    let operands = c.deref-2.ensures.value ∙ c.in_ok-operands.ensures ∙ ap (λ (cs : List Constant). map (λ d. d.node) cs ++ c.args.body ∷ []) c.deref.ensures.value in
    subst (λ (o : Op). Makes t o c.deref-2.result.now) (sym c.operator.ensures)
    (quantifier_makes t c.requires.constants.0 c.args.frame.now.quantifier c.args.frame.now.constants.items c.requires.constants.1 c.args.body c.requires.constants.2 c.deref-2.result.now operands
    c.requires.bindable (body_truth (tree t c.args.body) (sym c.has_sort.ensures.answer ∙ c.if-not-has_sort.false)))

pub returns-clause-term : goal.returns-clause-term
returns-clause-term c supply constants spared =
    let t = c.args.table.now in
    let cs = c.args.frame.now.constants.items in
    let q = c.args.frame.now.quantifier in
    let operands = c.deref-2.ensures.value ∙ c.in_ok-operands.ensures ∙ ap (λ (ds : List Constant). map (λ d. d.node) ds ++ c.args.body ∷ []) c.deref.ensures.value in
    let term : tree c.intern.new.self c.in_ok-node.node ≡ quantified (quantifier_of q) (variables_of t cs) (tree t c.args.body) =
    c.in_ok-node.ensures.term ∙ ap (λ (o : Op). term_over t o (trees_at t c.deref-2.result.now)) c.operator.ensures
    ∙ quantifier_term t supply q cs constants c.args.body spared c.deref-2.result.now operands in (
      quantifier_spared t supply q cs constants c.args.body spared c.deref-2.result.now operands c.intern.new.self c.in_ok-node.node c.in_ok-node.ensures.node term,
      ap (λ b. unless (not b) WrongSort (token_at c.args.forest.now.tokens c.args.frame.now.list).start (Ok (quantified (quantifier_of q) (variables_of t cs) (tree t c.args.body)))) (sym c.has_sort.ensures.answer ∙ c.if-not-has_sort.false)
          ∙ ap Ok (sym term),
    )

pub returns-then-not-has_sort-clause-term : goal.returns-then-not-has_sort-clause-term
returns-then-not-has_sort-clause-term c supply constants spared =
    let t = c.args.table.now in
    refuses_as _ c.into.result c.fault.result c.into.ensures
    (ap (λ b. unless (not b) WrongSort (token_at c.args.forest.now.tokens c.args.frame.now.list).start (Ok (quantified (quantifier_of c.args.frame.now.quantifier) (variables_of t c.args.frame.now.constants.items) (tree t c.args.body)))) (sym c.has_sort.ensures.answer ∙ c.if-not-has_sort.true)
    ∙ refused_at c.fault.result WrongSort _ c.fault.ensures.cause c.fault.ensures.start)
