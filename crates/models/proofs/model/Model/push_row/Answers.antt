use Rattle.std.proofs.Common.{◌≡◌, ◌∙◌, sym, ap, subst, refl, true≢false, Some, None, List}
use Rattle.std.specs.Prelude.{IsSome, option_map}
use Rattle.std.specs.Map.{set_value}
use Rattle.std.proofs.lemmas.Map.Steps.{set_value_same}
use Rattle.smt_terms.specs.declared.ids.SymId.{SymId}
use Rattle.smt_terms.specs.contracts.ids.SymIdPartialEq.TheImpl.{ghosts}
use Rattle.smt_terms.specs.Models.{Graph}
use Rattle.smt_values.specs.Meaning.{meaning}
use Rattle.term_table.specs.Formulas.{symbol_at}
use Rattle.models.specs.GraphRows.{meanings, with_row}
use Rattle.models.specs.ModelView.{ModelLists, graph_in, model_at, with_graph}
use Rattle.models.proofs.NumberedGraphs.{Changes, changes_from, graph_in-lookup, model_changed, numbers_kept}
use Rattle.models.proofs.RowsOfGraphs.{on_ok, on_err}
use Rattle.models.proofs.model.Model.push_row.Goals as goal

pub returns-clause-err : goal.returns-clause-err
returns-clause-err c =
    on_err c.push.result c.push.ensures.err
    (λ same.
    let entries = (c.get_mut.follows.holds c.push.new.self).0 ∙ ap (λ (g : Graph). set_value (ghosts.eq c.args.s) c.self.inside.graphs.entries g) same
    ∙ set_value_same (ghosts.eq c.args.s) c.self.inside.graphs.entries c.in-Some.graph.now (sym c.in-Some.ensures.value) in
    ap {B = ModelLists} (λ (es : List (SymId × Graph)). record { sizes = c.self.inside.sizes; graphs = es; div_by_zero = c.self.inside.div_by_zero; mod_by_zero = c.self.inside.mod_by_zero }) entries
    ∙ c.self.view_is)

pub returns-clause-model : goal.returns-clause-model
returns-clause-model c =
    let changes = changes_from c.args.s (Some c.push.new.self) c.self.inside.graphs.entries (c.get_mut.follows.lender c.push.new.self).entries
    ((c.get_mut.follows.holds c.push.new.self).3 (subst IsSome c.in-Some.ensures.value refl)).0 in
    let graphs : c.self.inside.graphs.entries ≡ c.args.self.now.graphs = ap (λ (m : ModelLists). m.graphs) c.self.view_is in
    let there : Some c.in-Some.graph.now ≡ graph_in c.args.self.now.graphs c.args.s =
    c.in-Some.ensures.value ∙ sym (graph_in-lookup c.self.inside.graphs.entries c.args.s) ∙ ap (λ es. graph_in es c.args.s) graphs in
    on_ok c.push.result c.push.ensures.ok
    (λ row t table within.
    model_changed t table c.args.s within (Some c.push.new.self) c.args.self.now _
    (subst (λ (es : List (SymId × Graph)). Changes c.args.s (Some c.push.new.self) es (c.get_mut.follows.lender c.push.new.self).entries) graphs changes)
    (ap (λ (m : ModelLists). m.sizes) c.self.view_is) (ap (λ (m : ModelLists). m.div_by_zero) c.self.view_is) (ap (λ (m : ModelLists). m.mod_by_zero) c.self.view_is)
    ∙ ap (λ o. with_graph (symbol_at t c.args.s) o (model_at t c.args.self.now)) (ap Some row ∙ ap (option_map (with_row (meanings c.args.keys.items) (meaning c.args.value))) there))

pub returns-clause-numbers : goal.returns-clause-numbers
returns-clause-numbers c =
    let changes = changes_from c.args.s (Some c.push.new.self) c.self.inside.graphs.entries (c.get_mut.follows.lender c.push.new.self).entries
    ((c.get_mut.follows.holds c.push.new.self).3 (subst IsSome c.in-Some.ensures.value refl)).0 in
    let graphs : c.self.inside.graphs.entries ≡ c.args.self.now.graphs = ap (λ (m : ModelLists). m.graphs) c.self.view_is in
    on_ok c.push.result c.push.ensures.ok
    (λ row t within numbers.
    numbers_kept t c.args.s (Some c.push.new.self) c.args.self.now _ within
    (subst (λ (es : List (SymId × Graph)). Changes c.args.s (Some c.push.new.self) es (c.get_mut.follows.lender c.push.new.self).entries) graphs changes)
    (ap (λ (m : ModelLists). m.sizes) c.self.view_is) numbers)

pub unreachable-requires : goal.unreachable-requires
unreachable-requires c =
    let none : None ≡ graph_in c.args.self.now.graphs c.args.s =
    c.in_default.ensures.value ∙ sym (graph_in-lookup c.self.inside.graphs.entries c.args.s) ∙ ap (λ (m : ModelLists). graph_in m.graphs c.args.s) c.self.view_is in
    true≢false (sym (subst IsSome (sym none) c.requires.there))
