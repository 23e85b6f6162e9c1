use Rattle.std.proofs.Common.{List, subst, arith}
use Rattle.std.proofs.lemmas.List.{take_all}
use Rattle.smt_terms.specs.Sorts.{Variable}
use Rattle.term_table.specs.Formulas.{tree}
use Rattle.quantifier_forms.specs.Variables.{AreVariables}
use Rattle.quantifier_forms.proofs.Variables.{variables-number}
use Rattle.simplify.specs.Occurring.{occurring}
use Rattle.simplify.proofs.Quantified.{variable-named, occurring-more}
use Rattle.simplify.proofs.quantifying.occurring.Goals as goal

pub keep_occurring-requires-clause-constant : goal.keep_occurring-requires-clause-constant
keep_occurring-requires-clause-constant c =
    variable-named c.args.table.now c.args.variables.now c.requires.variables.0 c.requires.variables.1 c.loop-variable.variable-index (record { 0 = 0 }) c.loop-variable-test.true

pub loop-variable-preserved : goal.loop-variable-preserved
loop-variable-preserved c xs are =
    occurring-more c.args.table.now c.args.variables.now c.loop-variable.kept.items c.keep_occurring.new.kept.items xs are (tree c.args.table.now c.args.body) c.loop-variable.variable-index (record { 0 = 0 }) c.loop-variable-test.true
    (c.loop-variable.invariant xs are) c.in_ok-keep_occurring.ensures

pub returns : goal.returns
returns c xs are =
    let n = variables-number c.args.table.now c.args.variables.now xs are in
    let past = c.loop-variable-test.false in
    subst (λ (ys : List Variable). AreVariables c.args.table.now c.loop-variable.kept.items (occurring (tree c.args.table.now c.args.body) ys)) (take_all c.loop-variable.variable-index xs (omega (arith, n, past)))
    (c.loop-variable.invariant xs are)
