use Rattle.smt_terms.specs.declared.ids.NodeId.{NodeId}
use Rattle.term_subst.proofs.Gaining.{gains-none, gains-both}
use Rattle.term_subst.proofs.Growing.{are_variables-grow}
use Rattle.term_subst.proofs.Renamed.{renames-none, renames-all, renames-more, variable-at}
use Rattle.term_subst.proofs.renaming.rename.Goals as goal

pub loop-variable-init : goal.loop-variable-init
loop-variable-init c = record {
  gains = gains-none c.args.table.now c.args.fresh.now;
  findings = c.requires.findings;
  renames = renames-none c.args.table.now c.args.cut.now c.args.variables.now c.new-renamed.result.items c.args.map.now c.args.fresh.now c.new-renamed.ensures.items c.requires.map c.requires.images;
}

pub rename_one-requires-clause-variable : goal.rename_one-requires-clause-variable
rename_one-requires-clause-variable c =
    variable-at c.loop-variable.table c.args.variables.now c.loop-variable.variable-index (record { 0 = 0 }) c.loop-variable-test.true
    (are_variables-grow c.args.table.now c.loop-variable.table c.loop-variable.invariant.gains.grows c.args.variables.now c.requires.variables)

pub loop-variable-preserved : goal.loop-variable-preserved
loop-variable-preserved c =
    let d : NodeId = record { 0 = 0 } in record {
      gains = gains-both c.args.table.now c.loop-variable.table c.rename_one.new.table c.args.fresh.now c.loop-variable.fresh c.rename_one.new.fresh c.loop-variable.invariant.gains c.in_ok-bound.ensures.gains;
      findings = c.in_ok-bound.ensures.findings;
      renames =
          renames-more c.args.table.now c.loop-variable.table c.rename_one.new.table c.args.cut.now c.args.variables.now c.loop-variable.renamed.items c.push.new.self.items c.loop-variable.variable-index d c.in_ok-bound.bound c.loop-variable.map c.rename_one.new.map
          c.args.fresh.now c.loop-variable.fresh c.rename_one.new.fresh c.loop-variable.invariant.gains.grows c.in_ok-bound.ensures.gains.grows c.requires.cut c.requires.variables.nodes c.loop-variable-test.true c.loop-variable.invariant.renames c.in_ok-bound.ensures.bound
          c.in_ok-push.ensures.items;
    }

pub returns-clause-renamed : goal.returns-clause-renamed
returns-clause-renamed c =
    renames-all c.args.table.now c.loop-variable.table c.args.cut.now c.args.variables.now c.loop-variable.renamed.items c.loop-variable.variable-index c.loop-variable.map c.args.fresh.now c.loop-variable.fresh c.loop-variable-test.false c.loop-variable.invariant.renames
