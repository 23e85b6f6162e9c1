use Rattle.std.proofs.Common.{◌≡◌, ◌∙◌, ◌+◌, ◌&&◌, ap, sym, not, false, drop, get_or, map}
use Rattle.std.specs.List.{list_any}
use Rattle.smt_terms.specs.Values.{same}
use Rattle.smt_terms.specs.Operators.{all_distinct}
use Rattle.smt_values.specs.Meaning.{scalar_value}
use Rattle.smt_values.specs.declared.scalar.Scalar.TheVariants.{Truth}
use Rattle.smt_values.proofs.Alike.{scalar_eq, distinct_at, later_whole}
use Rattle.smt_values.proofs.IntegerLaws.{drop_more}
use Rattle.smt_values.proofs.apply.logic.are_distinct.Goals as goal

pub returns-then-contains : goal.returns-then-contains
returns-then-contains c s sizes all =
    let told : c.contains.result ≡ list_any (λ y. scalar_eq y (get_or c.args.args.now c.loop-i.i (Truth false))) (drop (c.loop-i.i + 1) c.args.args.now) = c.contains.ensures.value ∙ ap (list_any (λ y. scalar_eq y (get_or c.args.args.now c.loop-i.i (Truth false)))) (later_whole c.args.args.now (c.loop-i.i + 1)) in
    sym (sym (c.loop-i.invariant s sizes all) ∙ distinct_at s sizes c.args.args.now c.loop-i.i (get_or c.args.args.now c.loop-i.i (Truth false)) (drop (c.loop-i.i + 1) c.args.args.now) (drop_more c.args.args.now c.loop-i.i c.loop-i-test.true) c.requires all c.contains.result told
    ∙ ap (λ b. not b && all_distinct (same s sizes) (map scalar_value (drop (c.loop-i.i + 1) c.args.args.now))) c.if-contains.true)

pub loop-i-preserved : goal.loop-i-preserved
loop-i-preserved c s sizes all =
    let told : c.contains.result ≡ list_any (λ y. scalar_eq y (get_or c.args.args.now c.loop-i.i (Truth false))) (drop (c.loop-i.i + 1) c.args.args.now) = c.contains.ensures.value ∙ ap (list_any (λ y. scalar_eq y (get_or c.args.args.now c.loop-i.i (Truth false)))) (later_whole c.args.args.now (c.loop-i.i + 1)) in
    sym (sym (c.loop-i.invariant s sizes all) ∙ distinct_at s sizes c.args.args.now c.loop-i.i (get_or c.args.args.now c.loop-i.i (Truth false)) (drop (c.loop-i.i + 1) c.args.args.now) (drop_more c.args.args.now c.loop-i.i c.loop-i-test.true) c.requires all c.contains.result told
    ∙ ap (λ b. not b && all_distinct (same s sizes) (map scalar_value (drop (c.loop-i.i + 1) c.args.args.now))) c.if-contains.false)
