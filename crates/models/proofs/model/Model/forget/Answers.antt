use Rattle.std.proofs.Common.{◌≡◌, sym, ap, subst, None, List}
use Rattle.smt_terms.specs.declared.ids.SymId.{SymId}
use Rattle.smt_terms.specs.Models.{Graph, IsModel}
use Rattle.term_table.specs.Formulas.{symbol_at}
use Rattle.models.specs.ModelView.{ModelLists, model_at}
use Rattle.models.proofs.NumberedGraphs.{Changes, changes_from, model_changed, numbers_left, still_valid}
use Rattle.models.proofs.model.Model.forget.Goals as goal

pub returns-clause-model : goal.returns-clause-model
returns-clause-model c =
    let changes = changes_from c.args.s None c.self.inside.graphs.entries c.swap_remove.new.self.entries c.swap_remove.ensures.updates.0 in
    let graphs : c.self.inside.graphs.entries ≡ c.args.self.now.graphs = ap (λ (m : ModelLists). m.graphs) c.self.view_is in
    λ t table within.
    model_changed t table c.args.s within None c.args.self.now _ (subst (λ (es : List (SymId × Graph)). Changes c.args.s None es c.swap_remove.new.self.entries) graphs changes)
    (ap (λ (m : ModelLists). m.sizes) c.self.view_is) (ap (λ (m : ModelLists). m.div_by_zero) c.self.view_is) (ap (λ (m : ModelLists). m.mod_by_zero) c.self.view_is)

pub returns-clause-valid : goal.returns-clause-valid
returns-clause-valid c =
    let equation = returns-clause-model c in
    λ t table within is. subst IsModel (sym (equation t table within)) (still_valid (symbol_at t c.args.s) None (model_at t c.args.self.now) is tt)

pub returns-clause-numbers : goal.returns-clause-numbers
returns-clause-numbers c =
    let changes = changes_from c.args.s None c.self.inside.graphs.entries c.swap_remove.new.self.entries c.swap_remove.ensures.updates.0 in
    let graphs : c.self.inside.graphs.entries ≡ c.args.self.now.graphs = ap (λ (m : ModelLists). m.graphs) c.self.view_is in
    λ t numbers.
    numbers_left t c.args.s c.args.self.now _ (subst (λ (es : List (SymId × Graph)). Changes c.args.s None es c.swap_remove.new.self.entries) graphs changes)
    (ap (λ (m : ModelLists). m.sizes) c.self.view_is) numbers
