use Rattle.std.proofs.Common.{◌∙◌, ap, subst, map}
use Rattle.smt_terms.specs.Models.{Graph}
use Rattle.smt_values.specs.SizeTable.{sizes_by}
use Rattle.smt_values.specs.SortIds.{sort_at}
use Rattle.models.specs.GraphRows.{meanings}
use Rattle.models.specs.RowKeys.{keys_of, ArePlacesOf}
use Rattle.models.proofs.RowKeys.{keys_place}
use Rattle.models.proofs.graph.Graph.find.Goals as goal

pub returns-in-Ok-Some-clause-place : goal.returns-in-Ok-Some-clause-place
returns-in-Ok-Some-clause-place c =
    let rows = ap (λ (g : Graph). keys_of g.rows) c.self.view_is in
    let are = rw c.in-Some.is at (subst (λ vss. ArePlacesOf vss c.self.inside.places) rows c.self.invariant.2) in
    let keys = rw c.in-Ok-Some.field-0-is at c.in-Ok-Some.ensures in
    c.get_index_of.ensures.index
    ∙ keys_place (map (sort_at c.args.sorts.now) c.args.args.now) (sizes_by c.args.sorts.now c.args.sizes.now) c.in-Ok-Some.flat (meanings c.args.keys.now) c.in-Some.places.keys c.args.self.now.rows keys c.requires.keys.valid are c.requires.rows
