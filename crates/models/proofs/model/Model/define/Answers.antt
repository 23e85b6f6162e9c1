use Rattle.std.proofs.Common.{◌≡◌, ◌∙◌, sym, ap, subst, refl, true, Some}
use Rattle.std.proofs.lemmas.Result.{IfOk-weaker}
use Rattle.smt_terms.specs.Models.{IsModel, is_graph}
use Rattle.smt_terms.specs.Values.{is_value}
use Rattle.smt_terms.proofs.Tests.{and_true}
use Rattle.smt_values.specs.Meaning.{meaning}
use Rattle.smt_values.specs.SizeTable.{sizes_by}
use Rattle.term_table.specs.Formulas.{symbol_at}
use Rattle.models.specs.GraphRows.{constant_graph}
use Rattle.models.specs.ModelView.{model_at}
use Rattle.models.proofs.NumberedGraphs.{still_valid}
use Rattle.models.proofs.model.Model.define.Goals as goal

pub returns-clause-valid : goal.returns-clause-valid
returns-clause-valid c =
    let f = symbol_at c.args.table.now c.args.s in
    let sizes = sizes_by c.args.table.now.sorts c.args.self.now.sizes in
    let value : is_graph f sizes (constant_graph (meaning c.args.otherwise)) ≡ true = and_true (is_value f.result sizes (meaning c.args.otherwise)) true c.requires.value.valid refl in
    let fits : is_graph f sizes c.new-graph.result ≡ true = ap (is_graph f sizes) c.new-graph.ensures ∙ value in
    IfOk-weaker c.set_graph.result _ _
    (λ _ model is. subst IsModel (sym (model c.args.table.now c.len.ensures.table c.requires.symbol)) (still_valid f (Some c.new-graph.result) (model_at c.args.table.now c.args.self.now) is fits))
    c.set_graph.ensures.model
