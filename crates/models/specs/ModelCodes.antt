-- How the logic stores a model.
use Rattle.std.specs.Prelude.{List, ℤ, refl}
use Rattle.std.specs.Coded.{Coded, code_by, coded×, coded_ℤ, coded_list}
use Rattle.smt_terms.specs.Models.{Row, Graph, NumberRow, NumberGraph}
use Rattle.smt_terms.specs.Values.{Value}
use Rattle.smt_values.specs.Codes.{coded_value}

abbrev pub coded_row : Coded Row
coded_row = code_by (List Value × Value) (coded× (coded_list coded_value) coded_value) (λ r. (r.keys, r.result)) (λ p. record { keys = p.0; result = p.1 }) (λ _. refl)

abbrev pub coded_graph : Coded Graph
coded_graph = code_by (List Row × Value) (coded× (coded_list coded_row) coded_value) (λ g. (g.rows, g.otherwise)) (λ p. record { rows = p.0; otherwise = p.1 }) (λ _. refl)

abbrev pub coded_number_row : Coded NumberRow
coded_number_row = code_by (ℤ × ℤ) (coded× coded_ℤ coded_ℤ) (λ r. (r.key, r.result)) (λ p. record { key = p.0; result = p.1 }) (λ _. refl)

abbrev pub coded_number_graph : Coded NumberGraph
coded_number_graph =
    code_by (List NumberRow × ℤ) (coded× (coded_list coded_number_row) coded_ℤ) (λ g. (g.rows, g.otherwise)) (λ p. record { rows = p.0; otherwise = p.1 }) (λ _. refl)
