use Rattle.std.proofs.Common.{◌≡◌, ◌∙◌, ◌<◌, sym, ap, subst, refl, rules, filter, length}
use Rattle.std.proofs.lemmas.Fn.{chained_keeps}
use Rattle.std.proofs.lemmas.Map.Made.{filter_same_pairs}
use Rattle.smt_terms.specs.Models.{IsModel}
use Rattle.smt_terms.specs.Rank.{is_empty}
use Rattle.term_table.specs.Formulas.{symbol_at}
use Rattle.models.specs.ModelView.{ModelLists, model_at}
use Rattle.models.proofs.FunctionsForgotten.{empty_alike, is_of_table, model_left, numbers_stay, valid_left}
use Rattle.models.proofs.model.Model.forget_functions.Goals as goal

pub retain-requires : goal.retain-requires
retain-requires c =
    record {
      at = λ before after f k g parts ran p q same_key same_graph.
          let same : f ≡ record { 0 = c.args.table } = chained_keeps _ (λ _ s. s ≡ record { 0 = c.args.table }) (λ xs s x u is call. search rules) before _ f refl ran in
          let graphs = ap (λ (m : ModelLists). m.graphs) (sym c.self.view_is) in
          let within : k.0 < length c.args.table.now.symbols = is_of_table c.args.table.now c.args.self.now c.requires.numbers before after k g (graphs ∙ parts) in
          let here : p.now.0 < length f.0.now.symbols = rw (same, same_key) within in
          search rules;
    }

-- the entries of the constants
kept : (c : goal.After-retain) → c.retain.new.self.entries ≡ filter (λ e. is_empty (symbol_at c.args.table.now e.0).args) c.args.self.now.graphs
kept c =
    filter_same_pairs _ (λ e. is_empty (symbol_at c.args.table.now e.0).args) _ (λ k g b h f call. (search (rules, empty_alike), search rules, search rules)) _ _ c.retain.ensures.filtered
    ∙ ap (λ (m : ModelLists). filter (λ e. is_empty (symbol_at c.args.table.now e.0).args) m.graphs) c.self.view_is

pub returns-clause-model : goal.returns-clause-model
returns-clause-model c =
    model_left c.args.table.now c.args.self.now _ c.requires.numbers (kept c) (ap (λ (m : ModelLists). m.sizes) c.self.view_is) (ap (λ (m : ModelLists). m.div_by_zero) c.self.view_is) (ap (λ (m : ModelLists). m.mod_by_zero) c.self.view_is)

pub returns-clause-valid : goal.returns-clause-valid
returns-clause-valid c is = subst IsModel (sym (returns-clause-model c)) (valid_left (model_at c.args.table.now c.args.self.now) is)

pub returns-clause-numbers : goal.returns-clause-numbers
returns-clause-numbers c = numbers_stay c.args.table.now c.args.self.now _ c.requires.numbers (kept c) (ap (λ (m : ModelLists). m.sizes) c.self.view_is)
