use Rattle.std.proofs.Common.{◌∙◌, ◌++◌, ◌≡◌, ◌∷◌, [], ap, subst, IfSome}
use Rattle.std.specs.Prelude.{option_to_list}
use Rattle.std.proofs.lemmas.List.Elements.{All-pop}
use Rattle.models.specs.ModelView.{model_at}
use Rattle.passes.specs.LiveRows.{IsRowFor}
use Rattle.passes.proofs.TabledTerms.{rows_fit, rows-more}
use Rattle.passes.proofs.tables.add_rows.Goals as goal

pub add_row-requires-clause-row : goal.add_row-requires-clause-row
add_row-requires-clause-row c =
    let P = IsRowFor c.args.table.now c.loop-row.model in
    subst (λ o. IfSome o P) c.in-Some.is (All-pop P c.loop-row.left.items c.pop.new.self.items c.pop.result c.pop.ensures.items c.loop-row.invariant.each).1

pub loop-row-preserved : goal.loop-row-preserved
loop-row-preserved c =
    let t = c.args.table.now in
    let old = c.loop-row.model in
    let left = c.pop.new.self.items in
    let items : c.loop-row.left.items ≡ left ++ c.in-Some.row ∷ [] = c.pop.ensures.items ∙ ap (λ o. left ++ option_to_list o) c.in-Some.is in
    let done = c.in_ok-add_row.ensures in
    record {
      model = rows-more t c.loop-row.left.items left c.in-Some.row items (model_at t old) (model_at t c.add_row.new.model) done.model ∙ c.loop-row.invariant.model;
      each = rows_fit t old c.add_row.new.model left done.sizes (All-pop (IsRowFor t old) c.loop-row.left.items left c.pop.result c.pop.ensures.items c.loop-row.invariant.each).0;
      valid = done.valid;
      numbers = λ n. done.numbers (c.loop-row.invariant.numbers n);
    }
