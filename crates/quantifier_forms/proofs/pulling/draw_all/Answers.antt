use Rattle.std.proofs.Common.{[], get_or, arith}
use Rattle.smt_terms.specs.declared.ids.NodeId.{NodeId}
use Rattle.smt_terms.specs.Sorts.{bool, Variable}
use Rattle.term_subst.proofs.Gaining.{gains-none, gains-both}
use Rattle.quantifier_forms.proofs.Variables.{variables-stay, variables-number, variable-at}
use Rattle.quantifier_forms.proofs.Pulled.{fresh-none, fresh-more, fresh-all, variable-read}
use Rattle.quantifier_forms.proofs.pulling.draw_all.Goals as goal

abbrev some_variable : Variable
some_variable = record { name = []; sort = bool }

pub returns-in_err-renamed-clause-gains : goal.returns-in_err-renamed-clause-gains
returns-in_err-renamed-clause-gains c = gains-none c.args.table.now c.args.fresh.now

pub loop-variable-init : goal.loop-variable-init
loop-variable-init c = record {
  gains = gains-none c.args.table.now c.args.fresh.now;
  fresh = λ xs are. fresh-none c.args.table.now xs c.in_ok-renamed.renamed.items c.args.map.now c.args.fresh.now c.in_ok-renamed.ensures.items c.requires.map;
}

pub draw-requires-clause-variable : goal.draw-requires-clause-variable
draw-requires-clause-variable c =
    let xs = c.requires.variables in
    let d : NodeId = record { 0 = 0 } in
    let t = c.loop-variable.table in
    let now = variables-stay c.args.table.now t c.args.variables.now xs.0 c.loop-variable.invariant.gains.grows xs.1 in
    variable-read t (get_or c.args.variables.now c.loop-variable.variable-index d) (get_or xs.0 c.loop-variable.variable-index some_variable)
    (variable-at t c.args.variables.now xs.0 now c.loop-variable.variable-index d some_variable c.loop-variable-test.true)

pub loop-variable-preserved : goal.loop-variable-preserved
loop-variable-preserved c =
    let t = c.loop-variable.table in
    record {
      gains = gains-both c.args.table.now t c.draw.new.table c.args.fresh.now c.loop-variable.fresh c.draw.new.fresh c.loop-variable.invariant.gains c.in_ok-drawn.ensures.gains;
      fresh = λ xs are.
          fresh-more t c.draw.new.table xs c.args.variables.now c.loop-variable.renamed.items c.push.new.self.items c.loop-variable.variable-index (record { 0 = 0 }) c.in_ok-drawn.drawn c.loop-variable.map c.draw.new.map
          c.args.fresh.now c.loop-variable.fresh c.draw.new.fresh c.in_ok-drawn.ensures.gains.grows (variables-stay c.args.table.now t c.args.variables.now xs c.loop-variable.invariant.gains.grows are)
          c.loop-variable-test.true (c.loop-variable.invariant.fresh xs are) c.in_ok-drawn.ensures.bound c.in_ok-push.ensures.items;
    }

pub returns-in_err-drawn-clause-gains : goal.returns-in_err-drawn-clause-gains
returns-in_err-drawn-clause-gains c =
    gains-both c.args.table.now c.loop-variable.table c.draw.new.table c.args.fresh.now c.loop-variable.fresh c.draw.new.fresh c.loop-variable.invariant.gains c.in_err-drawn.ensures.gains

pub returns-in_err-push-clause-gains : goal.returns-in_err-push-clause-gains
returns-in_err-push-clause-gains c =
    gains-both c.args.table.now c.loop-variable.table c.draw.new.table c.args.fresh.now c.loop-variable.fresh c.draw.new.fresh c.loop-variable.invariant.gains c.in_ok-drawn.ensures.gains

pub returns-clause-fresh : goal.returns-clause-fresh
returns-clause-fresh c xs are =
    let n = variables-number c.args.table.now c.args.variables.now xs are in
    let past = c.loop-variable-test.false in
    fresh-all c.loop-variable.table xs c.loop-variable.variable-index c.loop-variable.renamed.items c.loop-variable.map c.args.fresh.now c.loop-variable.fresh (omega (arith, n, past)) (c.loop-variable.invariant.fresh xs are)
