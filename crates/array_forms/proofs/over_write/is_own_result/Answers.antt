use Rattle.std.proofs.Common.{◌≡◌, ap, sym, ◌∙◌}
use Rattle.std.proofs.lemmas.Slice.Eq.{slice_eq-Decides}
use Rattle.term_table.specs.Formulas.{tree, trees_at}
use Rattle.term_table.specs.SameNodes.{id_eq-Decides}
use Rattle.array_forms.proofs.OverResults.{own-result}
use Rattle.array_forms.proofs.over_write.is_own_result.Goals as goal

pub returns-in_default : goal.returns-in_default
returns-in_default c h =
    let t = c.args.table.now in
    let u = tree t c.args.id in
    let same : c.kids.result.now ≡ c.args.kids.now = (slice_eq-Decides id_eq-Decides c.kids.result.now c.args.kids.now c.eq.result c.eq.ensures).0 h in
    record {
      node = c.requires.node;
      term = own-result t c.op.result u (c.op.ensures.table.sorted c.args.id.0 c.requires.node) c.requires.applied c.op.ensures.term c.in_default.not-Select
          (sym c.requires.kids ∙ ap (trees_at t) (sym same) ∙ c.kids.ensures.terms);
    }
