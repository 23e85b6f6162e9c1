use Rattle.std.proofs.Common.{◌∙◌, sym, ap}
use Rattle.models.specs.ModelView.{ModelLists, graph_in}
use Rattle.models.proofs.NumberedGraphs.{graph_in-lookup, graph_of_symbol}
use Rattle.models.proofs.model.Model.graph.Goals as goal

pub returns-clause-listed : goal.returns-clause-listed
returns-clause-listed c = c.get.ensures.value ∙ sym (graph_in-lookup c.self.inside.graphs.entries c.args.s) ∙ ap (λ (m : ModelLists). graph_in m.graphs c.args.s) c.self.view_is

pub returns-clause-graph : goal.returns-clause-graph
returns-clause-graph c = λ t table within. returns-clause-listed c ∙ sym (graph_of_symbol t table c.args.s within c.args.self.now.graphs)
