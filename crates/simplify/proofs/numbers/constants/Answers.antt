use Rattle.std.proofs.Common.{◌∷◌, ◌++◌, map, ap, ◌∙◌, arith}
use Rattle.std.proofs.lemmas.Int.{to_z-of_z}
use Rattle.smt_terms.specs.Values.{whole}
use Rattle.smt_values.specs.Meaning.{scalar_value}
use Rattle.term_table.specs.Formulas.{trees_at}
use Rattle.simplify.specs.Gathering.{values_in}
use Rattle.simplify.proofs.GatheredNodes.{constants-more, constants-all}
use Rattle.simplify.proofs.numbers.constants.Goals as goal
use mir.Syntax.{w128}

pub loop-id-preserved : goal.loop-id-preserved
loop-id-preserved c =
    let t = c.args.table.now in
    let ids = c.args.ids.now in
    record {
      values = constants-more t ids c.loop-id.id-index _ (record { 0 = 0 }) (map scalar_value c.loop-id.constants.items) (map scalar_value c.add_constant.new.constants.items) c.loop-id-test.true c.in_ok-add_constant.ensures.values c.loop-id.invariant.values;
      constants = c.in_ok-add_constant.ensures.constants;
    }

pub returns-clause-values : goal.returns-clause-values
returns-clause-values c =
    let t = c.args.table.now in
    let ids = c.args.ids.now in
    let past = c.loop-id-test.false in
    let same = to_z-of_z w128 c.args.neutral c.ranges.neutral in
    constants-all t ids c.loop-id.id-index _ (map scalar_value c.loop-id.constants.items) (omega arith) c.loop-id.invariant.values
    ∙ ap (λ ss. map scalar_value ss ++ values_in (trees_at t ids)) c.in_ok-constants.ensures.items
    ∙ (λ i. whole (same i) ∷ whole (same i) ∷ values_in (trees_at t ids))
