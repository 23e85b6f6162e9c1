use Rattle.std.proofs.Common.{◌<◌, ◌∷◌, List, length, ap, sym, subst, ◌∙◌}
use Rattle.smt_terms.specs.Rank.{sort_of}
use Rattle.term_table.specs.Formulas.{tree, IsNode}
use Rattle.term_subst.specs.declared.todo.Frame.{Frame}
use Rattle.term_subst.specs.declared.todo.Frame.TheVariants.{Visit}
use Rattle.term_subst.specs.Running.{Runs, end_of}
use Rattle.term_subst.proofs.Gaining.{gains-none, gains-both}
use Rattle.term_subst.proofs.Turning.{starting, end-some, end-term, end-sort}
use Rattle.term_subst.proofs.machine.run.Goals as goal

pub loop-frame-init : goal.loop-frame-init
loop-frame-init c =
    let t = c.args.table.now in
    let x = c.new-machine.result in
    record {
      gains = gains-none t c.args.fresh.now;
      runs =
          starting t c.args.fresh.now c.args.root c.args.map x.level x.findings x.chosen c.push.new.self x.values.items c.requires.root c.requires.map c.requires.names c.new-machine.ensures.level c.new-machine.ensures.kept c.new-machine.ensures.chosen
          (c.in_ok-push.ensures.ok ∙ ap (λ fs. Visit c.args.root ∷ fs) c.new-machine.ensures.todo) c.new-machine.ensures.values (c.new-machine.ensures.findings t);
    }

pub loop-frame-preserved : goal.loop-frame-preserved
loop-frame-preserved c =
    let x = c.loop-frame.machine in
    let end = end_of c.args.table.now c.args.map c.args.root c.args.fresh.now in record {
      gains = gains-both c.args.table.now c.loop-frame.table c.turn.new.table c.args.fresh.now c.loop-frame.fresh c.turn.new.fresh c.loop-frame.invariant.gains c.in_ok-turn.ensures.gains;
      runs = c.in_ok-turn.ensures.going c.args.fresh.now end (subst (λ (fs : List Frame). Runs c.loop-frame.table c.loop-frame.fresh c.args.fresh.now x fs end) c.in-Some.ensures c.loop-frame.invariant.runs);
    }

pub returns-in_err-turn-clause-gains : goal.returns-in_err-turn-clause-gains
returns-in_err-turn-clause-gains c = gains-both c.args.table.now c.loop-frame.table c.turn.new.table c.args.fresh.now c.loop-frame.fresh c.turn.new.fresh c.loop-frame.invariant.gains c.in_err-turn.ensures.gains

pub returns-clause-node : goal.returns-clause-node
returns-clause-node c =
    let x = c.loop-frame.machine in
    let runs = c.loop-frame.invariant.runs in
    let some : 0 < length x.values.items = end-some c.args.table.now c.loop-frame.table c.args.fresh.now c.loop-frame.fresh c.args.root c.args.map c.requires.map x.level x.findings x.chosen x.todo x.values.items c.in_default.ensures.0 runs in
    subst (IsNode c.loop-frame.table) (sym c.index.ensures) (runs.values 0 c.index.result.now some)

pub returns-clause-term : goal.returns-clause-term
returns-clause-term c =
    let x = c.loop-frame.machine in
    ap (tree c.loop-frame.table) c.index.ensures
    ∙ end-term c.args.table.now c.loop-frame.table c.args.fresh.now c.loop-frame.fresh c.args.root c.args.map c.requires.map x.level x.findings x.chosen x.todo x.values.items c.in_default.ensures.0 c.loop-frame.invariant.runs c.index.result.now

pub returns-clause-sort : goal.returns-clause-sort
returns-clause-sort c =
    let x = c.loop-frame.machine in
    ap (λ k. sort_of (tree c.loop-frame.table k)) c.index.ensures
    ∙ end-sort c.args.table.now c.loop-frame.table c.args.fresh.now c.loop-frame.fresh c.args.root c.args.map c.requires.map x.level x.findings x.chosen x.todo x.values.items c.in_default.ensures.0 c.loop-frame.invariant.runs c.index.result.now
