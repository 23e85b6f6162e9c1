use Rattle.std.proofs.Common.{◌≡◌, take}
use Rattle.std.specs.Prelude.{IfSome, option_map}
use Rattle.smt_values.specs.Meaning.{scalar_value, IsScalar}
use Rattle.term_table.specs.Formulas.{symbol_at}
use Rattle.evaluation.specs.Bindings.{env_of}
use Rattle.evaluation.proofs.bindings.bound_value.Given as goal

abbrev pub invariant-loop-binding : goal.invariant-loop-binding
invariant-loop-binding l = record {
  value : option_map scalar_value l.found ≡ env_of l.fn.table (take l.binding-index l.bindings) (symbol_at l.fn.table l.symbol);
  scalar : IfSome l.found IsScalar;
}
