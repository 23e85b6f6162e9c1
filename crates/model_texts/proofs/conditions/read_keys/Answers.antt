use Rattle.std.proofs.Common.{Vec, Global, Ok, subst, refl, sym}
use Rattle.std.proofs.lemmas.Result.{err_from_is_err_and}
use Rattle.std.proofs.lemmas.List.Elements.{All-get_or}
use Rattle.smt_values.specs.declared.value.Value.{Value}
use Rattle.model_texts.specs.Conditions.{IsEquationAt}
use Rattle.model_texts.specs.Met.{names_kept}
use Rattle.model_texts.specs.Replies.{AreElementsOf, Replies}
use Rattle.model_texts.proofs.KeysRead.{no_equation, keying_begins, side_refused, keying_goes_on, keying_ends, keys_met, AreThese}
use Rattle.model_texts.proofs.MetNames.{gains_through}
use Rattle.model_texts.proofs.conditions.read_keys.Goals as goal

pub loop-equation-init : goal.loop-equation-init
loop-equation-init c =
    keying_begins c.args.table.now c.args.forest.now.tokens c.args.sorts.now c.args.equations.now c.args.elements.now c.in_ok-keys.keys.items c.in_ok-keys.ensures

pub returns-in_err-keys-2-clause-values : goal.returns-in_err-keys-2-clause-values
returns-in_err-keys-2-clause-values c xs are es known =
    let t = c.args.table.now in
    let ts = c.args.forest.now.tokens in
    let args = c.args.sorts.now in
    let eqs = c.args.equations.now in
    let k = c.loop-equation.equation-index in
    let vs = c.loop-equation.keys.items in
    let within = (All-get_or (IsEquationAt ts args) eqs k no_equation c.loop-equation-test.true c.requires.equations).within in
    let p = err_from_is_err_and c.from_residual-in_err-keys-2.result c.from_residual-in_err-keys-2.ensures.1 in
    rw (p.1, p.2)
    (side_refused t ts args eqs c.args.elements.now c.loop-equation.elements k vs c.loop-equation.invariant c.loop-equation-test.true within c.read_side.new.elements c.in_err-keys-2.field-0.0 c.in_err-keys-2.ensures.value
    (Vec Value Global) AreThese xs are es known)

pub returns-in_err-keys-2-clause-gains : goal.returns-in_err-keys-2-clause-gains
returns-in_err-keys-2-clause-gains c = gains_through c.args.elements.now c.loop-equation.elements c.read_side.new.elements c.loop-equation.invariant.gains c.in_err-keys-2.ensures.gains

pub loop-equation-preserved : goal.loop-equation-preserved
loop-equation-preserved c =
    let t = c.args.table.now in
    let ts = c.args.forest.now.tokens in
    let args = c.args.sorts.now in
    let eqs = c.args.equations.now in
    let k = c.loop-equation.equation-index in
    let vs = c.loop-equation.keys.items in
    let within = (All-get_or (IsEquationAt ts args) eqs k no_equation c.loop-equation-test.true c.requires.equations).within in
    keying_goes_on t ts args eqs c.args.elements.now c.loop-equation.elements k vs c.loop-equation.invariant c.loop-equation-test.true within c.read_side.new.elements c.in_ok-keys-2.field-0 _
    c.in_ok-keys-2.ensures.value c.in_ok-keys-2.ensures.valid c.in_ok-keys-2.ensures.gains refl c.requires.once

pub returns-clause-values : goal.returns-clause-values
returns-clause-values c xs are es known =
    let t = c.args.table.now in
    let ts = c.args.forest.now.tokens in
    let args = c.args.sorts.now in
    let eqs = c.args.equations.now in
    let k = c.loop-equation.equation-index in
    let vs = c.loop-equation.keys.items in
    let d = keying_ends t ts args eqs c.args.elements.now c.loop-equation.elements k vs c.loop-equation.invariant c.loop-equation-test.false xs are es known vs refl in
    subst (λ r. Replies AreThese (AreElementsOf t (names_kept c.loop-equation.elements)) r (Ok c.loop-equation.keys)) (sym d.2) ((c.loop-equation.invariant.held, refl), d.1)

pub returns-clause-valid : goal.returns-clause-valid
returns-clause-valid c =
    let t = c.args.table.now in
    let ts = c.args.forest.now.tokens in
    let args = c.args.sorts.now in
    let eqs = c.args.equations.now in
    let k = c.loop-equation.equation-index in
    let vs = c.loop-equation.keys.items in
    keys_met t ts args eqs c.args.elements.now c.loop-equation.elements k vs c.loop-equation.invariant c.loop-equation-test.false c.requires.once
