-- Models of blasted formulas as models of bit vectors, and the other way round: SMT-LIB 2.6, section 5.3.
use Rattle.std.specs.Prelude.{Bool, false, cond, List, [], ◌∷◌, map, pos, Option, Some, None}
use Rattle.std.specs.List.{list_any}
use Rattle.smt_terms.specs.Sorts.{Sort, bool, bit_vector, Symbol}
use Rattle.smt_terms.specs.Equal.{symbol_eq}
use Rattle.smt_terms.specs.Groups.{Named, constant_for}
use Rattle.smt_terms.specs.Models.{Graph, NumberGraph, Model, symbol_value}
use Rattle.smt_terms.specs.Val.{no_variables, val}
use Rattle.smt_terms.specs.Values.{Value, bits, is_true, default_value}
use Rattle.bit_blast.specs.Blasted.{bits_from}

abbrev pub everywhere : Value → Graph
everywhere v = record { rows = []; otherwise = v }

abbrev pub zero_everywhere : NumberGraph
zero_everywhere = record { rows = []; otherwise = pos 0 }

-- what the new constant for this bit is in m; a bit that has none is false
abbrev pub bit_value : Model → Option Symbol → Bool
bit_value m (Some f) = is_true (symbol_value m f [])
bit_value m None = false

-- a truth value as it is, a bit vector of its bits, and all else as its sort's default
abbrev pub lifted_value : Named → Model → Symbol → List Sort → Sort → Value
lifted_value ns m f [] bool = symbol_value m f []
lifted_value ns m f [] (bit_vector width) = bits (map (λ u. bit_value m (constant_for ns u)) (bits_from f 0 width))
lifted_value ns m f _ s = default_value s

-- over these symbols, with one element in each free sort
abbrev pub lifted : List Symbol → Named → Model → Model
lifted symbols ns m = record {
  sizes = λ s. 1;
  graphs = λ f. cond (list_any (symbol_eq f) symbols) (Some (everywhere (lifted_value ns m f f.args f.result))) None;
  div_by_zero = zero_everywhere;
  mod_by_zero = zero_everywhere;
}

-- the truth values among these symbols
abbrev pub kept_flag : List Symbol → Model → Symbol → List Sort → Sort → Option Graph
kept_flag symbols n f [] bool = cond (list_any (symbol_eq f) symbols) (Some (everywhere (symbol_value n f []))) None
kept_flag symbols n f _ _ = None

-- each new constant what its term is in n, and else a truth value as it is
abbrev pub lowered_graph : List Symbol → Named → Model → Symbol → Option Graph
lowered_graph symbols [] n f = kept_flag symbols n f f.args f.result
lowered_graph symbols (p ∷ ns) n f = cond (symbol_eq p.0 f) (Some (everywhere (val n p.1 no_variables))) (lowered_graph symbols ns n f)

abbrev pub lowered : List Symbol → Named → Model → Model
lowered symbols ns n = record {
  sizes = λ s. 1;
  graphs = lowered_graph symbols ns n;
  div_by_zero = zero_everywhere;
  mod_by_zero = zero_everywhere;
}
