use Rattle.std.proofs.Common.{◌≡◌, true, sym, ◌∙◌, false}
use Rattle.std.proofs.lemmas.List.{get_or_default}
use Rattle.term_walk.specs.Marks.{is_marked}
use Rattle.term_walk.proofs.Marks.{marked-node}
use Rattle.term_walk.proofs.count.mark_operands.Goals as goal

pub returns-then-index-clause-marks : goal.returns-then-index-clause-marks
returns-then-index-clause-marks c roots from =
    let marked : is_marked c.args.marks.now.items c.args.id.0 ≡ true = get_or_default c.args.marks.now.items c.args.id.0 false c.index.result.now c.requires.mark ∙ sym c.index.ensures ∙ c.if-index.true in
    marked-node c.args.table.now roots c.args.marks.now.items c.args.id from c.mark.new.marks.items c.kids.result.now c.requires.node marked c.kids.ensures.terms c.kids.ensures.below c.mark.ensures.marks
