use Rattle.std.proofs.Common.{◌≡◌, ◌-◌, ◌<◌, suc, [], length, get_or, drop, ap, sym, ◌∙◌, arith}
use Rattle.smt_terms.specs.Sorts.{bool, Variable}
use Rattle.term_table.specs.Formulas.{tree, variable_of}
use Rattle.term_walk.proofs.Visits.{table-grows}
use Rattle.normal_forms.specs.Quantifiers.{expand_bool, expand_each}
use Rattle.normal_forms.specs.Shape.{quantifier_seen}
use Rattle.quantifier_forms.proofs.Variables.{variables-number, variable-at, variables-stay}
use Rattle.boolean_quantifiers.proofs.Expansions.{is-variable, each-more}
use Rattle.boolean_quantifiers.proofs.shannon_expansion.expand_each.Goals as goal

abbrev some_variable : Variable
some_variable = record { name = []; sort = bool }

pub expand_bool-requires-clause-variable : goal.expand_bool-requires-clause-variable
expand_bool-requires-clause-variable c =
    let xs = c.requires.variables in
    let within = c.loop-place.invariant.within in
    is-variable c.loop-place.table c.args.variables.now xs.0 (variables-stay c.args.table.now c.loop-place.table c.args.variables.now xs.0 c.loop-place.invariant.grows xs.1) (c.loop-place.place - 1) (record { 0 = 0 }) some_variable (omega arith)

pub loop-place-preserved : goal.loop-place-preserved
loop-place-preserved c = record {
  within = let within = c.loop-place.invariant.within in omega arith;
  formula = c.in_ok-form.ensures.formula;
  term = λ xs are.
      let q = quantifier_seen c.args.universal in
      let i = c.loop-place.place - 1 in
      let within = c.loop-place.invariant.within in
      let test = c.loop-place-test.true in
      let inside : i < length c.args.variables.now = omega arith in
      let now = variables-stay c.args.table.now c.loop-place.table c.args.variables.now xs c.loop-place.invariant.grows are in
      let n = variables-number c.args.table.now c.args.variables.now xs are in
      let x = get_or xs i some_variable in
      let up : c.loop-place.place ≡ suc i = omega arith in
      c.in_ok-form.ensures.term x (ap variable_of (variable-at c.loop-place.table c.args.variables.now xs now i (record { 0 = 0 }) some_variable inside))
      ∙ ap (expand_bool x.sort q x) (c.loop-place.invariant.term xs are ∙ ap (λ k. expand_each q (drop k xs) (tree c.args.table.now c.args.body)) up)
      ∙ sym (each-more q xs i some_variable (tree c.args.table.now c.args.body) (omega (arith, n)));
  work = c.in_ok-form.ensures.work;
  grows = table-grows c.args.table.now c.loop-place.table c.expand_bool.new.table c.loop-place.invariant.grows c.in_ok-form.ensures.grows;
  symbols = c.in_ok-form.ensures.symbols ∙ c.loop-place.invariant.symbols;
}
