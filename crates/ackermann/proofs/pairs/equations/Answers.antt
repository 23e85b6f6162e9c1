use Rattle.std.proofs.Common.{◌<◌, length, ◌∙◌, arith}
use Rattle.term_walk.proofs.Visits.{table-grows}
use Rattle.ackermann.proofs.PairedUses.{same-sort, equations-more, equations-all, formulas-more}
use Rattle.ackermann.proofs.pairs.equations.Goals as goal

pub equation-requires-clause-sort : goal.equation-requires-clause-sort
equation-requires-clause-sort c =
    let lt : c.loop-i.i < length c.args.first.now = omega arith in
    same-sort c.args.table.now c.args.first.now c.args.second.now c.requires.sorts c.loop-i.table c.loop-i.invariant.grows c.requires.first c.requires.second c.loop-i.i (record { 0 = 0 }) lt

pub loop-i-preserved : goal.loop-i-preserved
loop-i-preserved c =
    let lt : c.loop-i.i < length c.args.first.now = omega arith in
    record {
      grows = table-grows c.args.table.now c.loop-i.table c.equation.new.table c.loop-i.invariant.grows c.in_ok-equal.ensures.grows;
      symbols = c.in_ok-equal.ensures.symbols ∙ c.loop-i.invariant.symbols;
      formulas = formulas-more c.loop-i.table c.equation.new.table c.loop-i.equations.items c.push.new.self.items c.in_ok-equal.equal c.in_ok-equal.ensures.grows c.loop-i.invariant.formulas c.in_ok-push.ensures.items c.in_ok-equal.ensures.formula;
      terms =
          equations-more c.args.table.now c.args.first.now c.args.second.now c.requires.sorts c.loop-i.table c.loop-i.invariant.grows c.requires.first c.requires.second c.loop-i.i (record { 0 = 0 }) lt
          c.equation.new.table c.loop-i.equations.items c.push.new.self.items c.in_ok-equal.equal c.in_ok-equal.ensures.grows c.loop-i.invariant.formulas c.loop-i.invariant.terms c.in_ok-push.ensures.items c.in_ok-equal.ensures.term;
    }

pub returns-clause-terms : goal.returns-clause-terms
returns-clause-terms c =
    let past = c.loop-i-test.false in
    c.loop-i.invariant.terms ∙ equations-all c.args.table.now c.args.first.now c.args.second.now c.requires.sorts c.loop-i.i (omega arith)
