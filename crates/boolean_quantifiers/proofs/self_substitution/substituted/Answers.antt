use Rattle.std.proofs.Common.{◌∙◌, refl, ap, sym}
use Rattle.smt_terms.specs.Fresh.{Supply}
use Rattle.smt_terms.specs.Term.{Term, variable}
use Rattle.term_table.specs.Formulas.{variable_of}
use Rattle.term_subst.proofs.Gaining.{none-gained}
use Rattle.boolean_quantifiers.proofs.AtTruth.{variable-images}
use Rattle.boolean_quantifiers.proofs.Cases.{work-stays}
use Rattle.boolean_quantifiers.proofs.SelfNodes.{plain-put}
use Rattle.boolean_quantifiers.proofs.self_substitution.substituted.Goals as goal

pub symbol_of-requires-clause-variable : goal.symbol_of-requires-clause-variable
symbol_of-requires-clause-variable c = let is = c.requires.variable.is in is ∙ sym (ap (λ u. variable (variable_of u)) is)

pub put-requires-clause-images : goal.put-requires-clause-images
put-requires-clause-images c = variable-images c.args.table.now (record { variable = c.args.variable; image = c.args.image }) c.requires.variable c.requires.image

pub returns-then-branch-clause-term : goal.returns-then-branch-clause-term
returns-then-branch-clause-term c =
    sym (ap (λ (p : Term × Supply). p.0) (plain-put c.args.table.now c.put.new.table (record { variable = c.args.variable; image = c.args.image }) c.args.body c.in_ok-result.result c.args.fresh.now c.is_plain.ensures.table
    c.in_ok-result.ensures.grows c.requires.variable c.requires.image c.requires.body (c.in_ok-is_plain.ensures.plain c.if-branch.true) c.in_ok-result.ensures.result))

pub returns-then-branch-clause-left : goal.returns-then-branch-clause-left
returns-then-branch-clause-left c =
    sym (ap (λ (p : Term × Supply). p.1) (plain-put c.args.table.now c.put.new.table (record { variable = c.args.variable; image = c.args.image }) c.args.body c.in_ok-result.result c.args.fresh.now c.is_plain.ensures.table
    c.in_ok-result.ensures.grows c.requires.variable c.requires.image c.requires.body (c.in_ok-is_plain.ensures.plain c.if-branch.true) c.in_ok-result.ensures.result))

pub returns-clause-work : goal.returns-clause-work
returns-clause-work c = work-stays c.args.table.now c.substitute.new.table c.is_plain.new.self c.in_ok-result-2.ensures.grows c.in_ok-is_plain.ensures.work

pub returns-in_err-is_plain-clause-drawn : goal.returns-in_err-is_plain-clause-drawn
returns-in_err-is_plain-clause-drawn c = none-gained c.args.fresh.now c.args.table.now.symbols c.args.table.now.symbols refl

pub returns-in_err-set-clause-drawn : goal.returns-in_err-set-clause-drawn
returns-in_err-set-clause-drawn c = none-gained c.args.fresh.now c.args.table.now.symbols c.args.table.now.symbols refl

pub returns-in_err-result-clause-drawn : goal.returns-in_err-result-clause-drawn
returns-in_err-result-clause-drawn c = none-gained c.args.fresh.now c.args.table.now.symbols c.put.new.table.symbols c.put.ensures.symbols

pub returns-then-branch-clause-drawn : goal.returns-then-branch-clause-drawn
returns-then-branch-clause-drawn c = none-gained c.args.fresh.now c.args.table.now.symbols c.put.new.table.symbols c.put.ensures.symbols
