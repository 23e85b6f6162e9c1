use Rattle.std.proofs.Common.{ap, sym, ◌∙◌, subst}
use Rattle.smt_terms.specs.declared.ids.NodeId.{NodeId}
use Rattle.smt_terms.specs.SubstLaws.{GivesNone, names_within}
use Rattle.term_table.specs.Formulas.{tree}
use Rattle.term_subst.proofs.Gaining.{none-gained}
use Rattle.normal_forms.specs.Nodes.{IsFormula}
use Rattle.quantifier_forms.specs.Memos.{known_in}
use Rattle.boolean_quantifiers.specs.Solving.{solved_over}
use Rattle.boolean_quantifiers.proofs.Cases.{work-stays}
use Rattle.boolean_quantifiers.proofs.SelfNodes.{body-known, body-formula, quantified-solved, quantified-stands, applied-solved}
use Rattle.boolean_quantifiers.proofs.self_substitution.solve.Goals as goal

pub solve_quantified-requires-clause-body : goal.solve_quantified-requires-clause-body
solve_quantified-requires-clause-body c =
    let t = c.args.table.now in
    let is = sym c.is_binder.ensures ∙ c.if-is_binder.true in
    let known = body-known t c.args.results.now c.args.id c.body_below.result is c.requires.ready c.body_below.ensures.below c.body_below.ensures.term in
    subst (IsFormula t) (sym c.known-body.ensures)
    (body-formula t c.args.fresh.now c.args.id c.body_below.result (known_in c.args.results.now 0 c.body_below.result) c.know_table.ensures c.requires.node is c.body_below.ensures.term (c.requires.stand _ _ known))

pub solve_quantified-requires-clause-spared : goal.solve_quantified-requires-clause-spared
solve_quantified-requires-clause-spared c =
    let t = c.args.table.now in
    let is = sym c.is_binder.ensures ∙ c.if-is_binder.true in
    let known = body-known t c.args.results.now c.args.id c.body_below.result is c.requires.ready c.body_below.ensures.below c.body_below.ensures.term in
    subst (λ (k : NodeId). GivesNone c.args.fresh.now (names_within (tree t k))) (sym c.known-body.ensures) (c.requires.stand _ _ known).spared

pub returns-then-is_binder-clause-stands : goal.returns-then-is_binder-clause-stands
returns-then-is_binder-clause-stands c =
    quantified-stands c.args.table.now c.solve_quantified.new.table c.solve_quantified.new.fresh c.args.id c.in_ok-result.result c.know_table.ensures c.in_ok-result.ensures.grows c.requires.node (sym c.is_binder.ensures ∙ c.if-is_binder.true) c.in_ok-result.ensures.formula c.in_ok-result.ensures.names

pub returns-then-is_binder-clause-solved : goal.returns-then-is_binder-clause-solved
returns-then-is_binder-clause-solved c s names are =
    let t = c.args.table.now in
    let is = sym c.is_binder.ensures ∙ c.if-is_binder.true in
    let known = body-known t c.args.results.now c.args.id c.body_below.result is c.requires.ready c.body_below.ensures.below c.body_below.ensures.term in
    quantified-solved t c.solve_quantified.new.table s c.args.fresh.now c.solve_quantified.new.fresh c.args.id c.body_below.result (known_in c.args.results.now 0 c.body_below.result) c.in_ok-result.result is c.body_below.ensures.term names (are _ _ known)
    (c.in_ok-result.ensures.term ∙ ap (λ (k : NodeId). solved_over (tree t c.args.id) (tree t k) c.args.fresh.now) c.known-body.ensures)

pub returns-clause-solved : goal.returns-clause-solved
returns-clause-solved c s names are = applied-solved c.args.table.now c.solve_applied.new.table s c.args.fresh.now c.args.id c.in_ok-result-2.result (sym c.is_binder.ensures ∙ c.if-is_binder.false) names (c.in_ok-result-2.ensures.told s.solved are)

pub returns-clause-work : goal.returns-clause-work
returns-clause-work c = work-stays c.args.table.now c.solve_applied.new.table c.args.work.now c.in_ok-result-2.ensures.grows c.requires.work

pub returns-in_err-result-2-clause-drawn : goal.returns-in_err-result-2-clause-drawn
returns-in_err-result-2-clause-drawn c = none-gained c.args.fresh.now c.args.table.now.symbols c.solve_applied.new.table.symbols c.solve_applied.ensures.symbols

pub returns-clause-drawn : goal.returns-clause-drawn
returns-clause-drawn c = none-gained c.args.fresh.now c.args.table.now.symbols c.solve_applied.new.table.symbols c.solve_applied.ensures.symbols
