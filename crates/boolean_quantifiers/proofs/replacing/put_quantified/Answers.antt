use Rattle.std.proofs.Common.{ap, sym, ◌∙◌, subst}
use Rattle.smt_terms.specs.Term.{quantified}
use Rattle.term_table.specs.Formulas.{tree}
use Rattle.normal_forms.specs.Nodes.{IsFormula}
use Rattle.normal_forms.specs.Shape.{variables_of, quantifier_seen}
use Rattle.boolean_quantifiers.proofs.Puts.{body-formula, quantified-put}
use Rattle.boolean_quantifiers.proofs.replacing.put_quantified.Goals as goal

pub bind-requires-clause-body : goal.bind-requires-clause-body
bind-requires-clause-body g c =
    subst (IsFormula c.args.table.now) (sym c.known-body.ensures)
    (body-formula c.args.table.now (g.I.Images.images c.args.images.now) c.args.memo.now c.args.version c.args.id c.body_below.result c.know_table.ensures c.requires.node c.requires.quantified c.requires.ready c.body_below.ensures.below c.body_below.ensures.term)

pub returns-clause-put : goal.returns-clause-put
returns-clause-put g c =
    quantified-put c.args.table.now (g.I.Images.images c.args.images.now) c.args.memo.now c.args.version c.args.id c.body_below.result c.know_table.ensures c.requires.node c.requires.quantified c.requires.ready c.body_below.ensures.below c.body_below.ensures.term
    c.bind.new.table c.in_ok-result.result c.is_universal-universal.result c.in_ok-result.ensures.grows c.requires.images (sym c.binds.ensures ∙ c.if-binds.false) c.is_universal-universal.ensures c.in_ok-result.ensures.formula
    (c.in_ok-result.ensures.term ∙ ap (λ k. quantified (quantifier_seen c.is_universal-universal.result) (variables_of (tree c.args.table.now c.args.id)) (tree c.args.table.now k)) c.known-body.ensures)
