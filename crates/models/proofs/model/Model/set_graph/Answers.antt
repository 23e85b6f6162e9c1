use Rattle.std.proofs.Common.{◌≡◌, ap, subst, Some, List}
use Rattle.smt_terms.specs.declared.ids.SymId.{SymId}
use Rattle.smt_terms.specs.Models.{Graph}
use Rattle.models.specs.ModelView.{ModelLists}
use Rattle.models.proofs.NumberedGraphs.{Changes, changes_from, model_changed, numbers_kept}
use Rattle.models.proofs.model.Model.set_graph.Goals as goal

pub returns-clause-model : goal.returns-clause-model
returns-clause-model c =
    let changes = changes_from c.args.s (Some c.args.graph) c.self.inside.graphs.entries c.insert.new.self.entries c.in_ok-insert.ensures.updates.0 in
    let graphs : c.self.inside.graphs.entries ≡ c.args.self.now.graphs = ap (λ (m : ModelLists). m.graphs) c.self.view_is in
    λ t table within.
    model_changed t table c.args.s within (Some c.args.graph) c.args.self.now _ (subst (λ (es : List (SymId × Graph)). Changes c.args.s (Some c.args.graph) es c.insert.new.self.entries) graphs changes)
    (ap (λ (m : ModelLists). m.sizes) c.self.view_is) (ap (λ (m : ModelLists). m.div_by_zero) c.self.view_is) (ap (λ (m : ModelLists). m.mod_by_zero) c.self.view_is)

pub returns-clause-numbers : goal.returns-clause-numbers
returns-clause-numbers c =
    let changes = changes_from c.args.s (Some c.args.graph) c.self.inside.graphs.entries c.insert.new.self.entries c.in_ok-insert.ensures.updates.0 in
    let graphs : c.self.inside.graphs.entries ≡ c.args.self.now.graphs = ap (λ (m : ModelLists). m.graphs) c.self.view_is in
    λ t within numbers.
    numbers_kept t c.args.s (Some c.args.graph) c.args.self.now _ within (subst (λ (es : List (SymId × Graph)). Changes c.args.s (Some c.args.graph) es c.insert.new.self.entries) graphs changes)
    (ap (λ (m : ModelLists). m.sizes) c.self.view_is) numbers
